-- The sentence that the words of a line say, worked out from the words.
use Rattle.std.specs.Prelude.{ℕ, Bool, true, false, ◌==◌, ◌&&◌, nat_le, nat_lt, ◌^◌, if◌then◌else◌, Option, Some, None, List, [], ◌∷◌, length, codes}
use Rattle.std.specs.List.{list_all}
use Rattle.std.specs.Fmt.{decimal}
use Rattle.std.specs.Str.Parse.{digits_value}
use Rattle.sg_desc.specs.declared.shapes.Descriptor.TheVariants.{PtrFree, Run, Bitmap, VectorRefs, VectorPlain, Ephemeron}
use Rattle.sg_desc.specs.declared.shapes.Shape.{Shape}
use Rattle.sg_program.specs.declared.program.Statement.TheVariants.{Put, Get, PutD, GetD, Num, Move, Hide, Unhide, Drop, Push, Pop, GPut, GGet, WSet, WGet, Final, NextFin, Same, Collect, Sections}
use Rattle.sg_text.specs.declared.line.Line.{Line}
use Rattle.sg_text.specs.declared.line.Form.{Form}
use Rattle.sg_text.specs.declared.line.Setting.{Setting}
use Rattle.sg_text.specs.declared.line.Setting.TheVariants.{Nursery, Blocks, Pages, Buffer, Workers, Cement}
use Rattle.sg_text.specs.Words.{is_name, is_mask_byte, mask_bits}
use Rattle.sg_text.specs.Lines.{AsNew, AsVector, AsMature, Sentence, Heads, Sets, Declares, Begins, Repeats, Ends, Makes, Says}
use Rattle.sg_text.specs.Reading.{sentence_of, shape_in}

-- whether two words are the same
unfoldable pub same : List ℕ → List ℕ → Bool
same [] [] = true
same [] (d ∷ ds) = false
same (c ∷ cs) [] = false
same (c ∷ cs) (d ∷ ds) = c == d && same cs ds

-- the number of this value, if it is spelled so
unfoldable pub number_of : List ℕ → ℕ → Option ℕ
number_of word n = if same word (decimal n) && nat_lt n (2 ^ 64) then Some n else None

unfoldable pub number_in : List ℕ → Option ℕ
number_in word = number_of word (digits_value 10 word)

abbrev pub up_to_fifteen : Option ℕ → Option ℕ
up_to_fifteen None = None
up_to_fifteen (Some n) = if nat_le n 15 then Some n else None

unfoldable pub register_in : List ℕ → Option ℕ
register_in [] = None
register_in (c ∷ cs) = if c == 114 then up_to_fifteen (number_in cs) else None

-- what is made of parts, where each is there
abbrev pub of_one : {A C : Type 0} → Option A → (A → C) → Option C
of_one None f = None
of_one (Some x) f = Some (f x)

abbrev pub of_two : {A B C : Type 0} → Option A → Option B → (A → B → C) → Option C
of_two None p f = None
of_two (Some x) p f = of_one p (f x)

abbrev pub of_three : {A B C D : Type 0} → Option A → Option B → Option C → (A → B → C → D) → Option D
of_three None p q f = None
of_three (Some x) p q f = of_two p q (f x)

-- the sentence that a line of the code says, if there is a line
abbrev pub said : Option Line → Option Sentence
said line = of_one line sentence_of

abbrev pub formed : Option Form → Option Shape
formed form = of_one form shape_in

-- `refs`, `words` or `pair`
unfoldable pub shape_alone : List ℕ → Option Shape
shape_alone k =
    if same k (codes "refs") then Some (record { fields = 0; kind = VectorRefs }) else
    if same k (codes "words") then Some (record { fields = 0; kind = VectorPlain }) else
    if same k (codes "pair") then Some (record { fields = 2; kind = Ephemeron }) else None

unfoldable pub mask_shape : List ℕ → Option Shape
mask_shape mask = if list_all is_mask_byte mask then Some (record { fields = length mask; kind = Bitmap (mask_bits mask) }) else None

-- `plain N` or `map MASK`
unfoldable pub shape_of_two : List ℕ → List ℕ → Option Shape
shape_of_two k a =
    if same k (codes "plain") then of_one (number_in a) (λ n. record { fields = n; kind = PtrFree }) else
    if same k (codes "map") then mask_shape a else None

-- `run N FIRST COUNT`
unfoldable pub shape_of_four : List ℕ → List ℕ → List ℕ → List ℕ → Option Shape
shape_of_four k a b c =
    if same k (codes "run") then of_three (number_in a) (number_in b) (number_in c) (λ n first count. record { fields = n; kind = Run first count }) else None

abbrev pub if_named : List ℕ → Option Sentence → Option Sentence
if_named name sentence = if is_name name then sentence else None

unfoldable pub class_line : List ℕ → Option Shape → Option Sentence
class_line name shape = if_named name (of_one shape (Declares name))

-- one word
unfoldable pub one_word : List ℕ → Option Sentence
one_word v =
    if same v (codes "mutator") then Some Begins else
    if same v (codes "end") then Some Ends else
    if same v (codes "sections") then Some (Says Sections) else None

-- `minor` or `major`
unfoldable pub pause : List ℕ → Option Sentence
pause a =
    if same a (codes "minor") then Some (Says (Collect false)) else
    if same a (codes "major") then Some (Says (Collect true)) else None

unfoldable pub head : List ℕ → Option Sentence
head a = if same a (codes "1") then Some Heads else None

-- the setting of this name
unfoldable pub setting_in : List ℕ → Option Setting
setting_in v =
    if same v (codes "nursery") then Some Nursery else
    if same v (codes "blocks") then Some Blocks else
    if same v (codes "pages") then Some Pages else
    if same v (codes "buffer") then Some Buffer else
    if same v (codes "workers") then Some Workers else
    if same v (codes "cement") then Some Cement else None

-- a statement about one register
unfoldable pub on_register : List ℕ → List ℕ → Option Sentence
on_register v a =
    if same v (codes "drop") then of_one (register_in a) (λ r. Says (Drop r)) else
    if same v (codes "push") then of_one (register_in a) (λ r. Says (Push r)) else
    if same v (codes "pop") then of_one (register_in a) (λ r. Says (Pop r)) else
    if same v (codes "final") then of_one (register_in a) (λ r. Says (Final r)) else
    if same v (codes "nextfin") then of_one (register_in a) (λ r. Says (NextFin r)) else
    of_two (setting_in v) (number_in a) Sets

-- two words
unfoldable pub two_words : List ℕ → List ℕ → Option Sentence
two_words v a =
    if same v (codes "sgen") then head a else
    if same v (codes "repeat") then of_one (number_in a) Repeats else
    if same v (codes "collect") then pause a else
    on_register v a

-- a statement about a global or a weak link
unfoldable pub on_cell : List ℕ → List ℕ → List ℕ → Option Sentence
on_cell v a b =
    if same v (codes "gput") then of_two (number_in a) (register_in b) (λ g r. Says (GPut g r)) else
    if same v (codes "gget") then of_two (register_in a) (number_in b) (λ r g. Says (GGet r g)) else
    if same v (codes "wget") then of_two (register_in a) (number_in b) (λ r w. Says (WGet r w)) else None

-- a statement about two registers, or one and a number
unfoldable pub on_two : List ℕ → List ℕ → List ℕ → Option Sentence
on_two v a b =
    if same v (codes "num") then of_two (register_in a) (number_in b) (λ d n. Says (Num d n)) else
    if same v (codes "move") then of_two (register_in a) (register_in b) (λ d s. Says (Move d s)) else
    if same v (codes "unhide") then of_two (register_in a) (register_in b) (λ d s. Says (Unhide d s)) else
    if same v (codes "same") then of_two (register_in a) (register_in b) (λ r s. Says (Same r s)) else
    on_cell v a b

-- three words
unfoldable pub three_words : List ℕ → List ℕ → List ℕ → Option Sentence
three_words v a b =
    if same v (codes "class") then class_line a (shape_alone b) else
    if same v (codes "new") then if_named b (of_one (register_in a) (λ r. Makes AsNew r b)) else
    if same v (codes "mature") then if_named b (of_one (register_in a) (λ r. Makes AsMature r b)) else
    on_two v a b

-- `wset`, by its last word
unfoldable pub link : List ℕ → List ℕ → List ℕ → Option Sentence
link a b c =
    if same c (codes "long") then of_two (number_in a) (register_in b) (λ w r. Says (WSet w r true)) else
    if same c (codes "short") then of_two (number_in a) (register_in b) (λ w r. Says (WSet w r false)) else None

-- a statement about a field
unfoldable pub on_field : List ℕ → List ℕ → List ℕ → List ℕ → Option Sentence
on_field v a b c =
    if same v (codes "put") then of_three (register_in a) (number_in b) (register_in c) (λ r i s. Says (Put r i s)) else
    if same v (codes "get") then of_three (register_in a) (register_in b) (number_in c) (λ d r i. Says (Get d r i)) else
    if same v (codes "putd") then of_three (register_in a) (number_in b) (register_in c) (λ r i s. Says (PutD r i s)) else
    if same v (codes "getd") then of_three (register_in a) (register_in b) (number_in c) (λ d r i. Says (GetD d r i)) else
    if same v (codes "hide") then of_three (register_in a) (register_in b) (number_in c) (λ d s o. Says (Hide d s o)) else None

-- four words
unfoldable pub four_words : List ℕ → List ℕ → List ℕ → List ℕ → Option Sentence
four_words v a b c =
    if same v (codes "class") then class_line a (shape_of_two b c) else
    if same v (codes "newv") then if_named b (of_two (register_in a) (number_in c) (λ r count. Makes (AsVector count) r b)) else
    if same v (codes "wset") then link a b c else
    on_field v a b c

-- six words
unfoldable pub six_words : List ℕ → List ℕ → List ℕ → List ℕ → List ℕ → List ℕ → Option Sentence
six_words v a b c d e = if same v (codes "class") then class_line a (shape_of_four b c d e) else None

-- the sentence of a line with these words, if it is one
unfoldable pub sentence_in : List (List ℕ) → Option Sentence
sentence_in [] = None
sentence_in (v ∷ []) = one_word v
sentence_in (v ∷ a ∷ []) = two_words v a
sentence_in (v ∷ a ∷ b ∷ []) = three_words v a b
sentence_in (v ∷ a ∷ b ∷ c ∷ []) = four_words v a b c
sentence_in (v ∷ a ∷ b ∷ c ∷ d ∷ []) = None
sentence_in (v ∷ a ∷ b ∷ c ∷ d ∷ e ∷ []) = six_words v a b c d e
sentence_in (v ∷ a ∷ b ∷ c ∷ d ∷ e ∷ f ∷ fs) = None
