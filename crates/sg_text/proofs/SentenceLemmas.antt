-- What the sentence worked out from words has to do with the lines of the grammar.
use Rattle.std.proofs.Common.{◌≡◌, ℕ, suc, ◌-◌, ◌<◌, ◌≤◌, true, false, eqb, leb, ltb, ◌&&◌, Option, Some, None, List, [], ◌∷◌, length, get_or, refl, sym, ap, ◌∙◌, inl, inr, arith}
use Rattle.std.specs.Prelude.{codes, IsTrue, ◌^◌, IfSome}
use Rattle.std.specs.Fmt.{decimal}
use Rattle.std.specs.Str.Parse.{digits_value}
use Rattle.std.proofs.lemmas.Bool.{cases_Bool, eq-eqb, eqb-true, ltb-true, leb-true, lt-ltb, le-leb, and_parts}
use Rattle.std.proofs.lemmas.Option.{none-some, same_Some}
use Rattle.std.proofs.lemmas.Fmt.{digits_value-decimal}
use Rattle.sg_desc.specs.declared.shapes.Descriptor.{Descriptor}
use Rattle.sg_desc.specs.declared.shapes.Descriptor.TheVariants.{PtrFree, Run, Bitmap, VectorRefs, VectorPlain, Ephemeron}
use Rattle.sg_desc.specs.declared.shapes.Shape.{Shape}
use Rattle.sg_program.specs.declared.program.Statement.{Statement}
use Rattle.sg_program.specs.declared.program.Statement.TheVariants.{New, NewV, Mature, Put, Get, PutD, GetD, Num, Move, Hide, Unhide, Drop, Push, Pop, GPut, GGet, WSet, WGet, Final, NextFin, Same, Collect, Sections}
use Rattle.sg_text.specs.declared.line.Setting.{Setting}
use Rattle.sg_text.specs.declared.line.Setting.TheVariants.{Nursery, Blocks, Pages, Buffer, Workers, Cement}
use Rattle.sg_text.specs.Words.{IsNumber, IsRegister, is_name, mask_bits}
use Rattle.sg_text.specs.Lines.{Maker, AsNew, AsVector, AsMature, Sentence, Heads, Sets, Declares, Begins, Repeats, Ends, Makes, Says, setting_name, IsShape, IsMakerLine, IsStatementLine, IsLine}
use Rattle.sg_text.specs.Steps.{Only}
use Rattle.sg_text.specs.Sentences.{same, number_of, number_in, up_to_fifteen, register_in, shape_alone, mask_shape, shape_of_two, shape_of_four, class_line, one_word, pause, head, setting_in, on_register, two_words, on_cell, on_two, three_words, link, on_field, four_words, six_words, sentence_in}
use Rattle.sg_text.proofs.WordLemmas.{own, digit_found}

pub same_self : (u : List ℕ) → same u u ≡ true
unfolding same
same_self [] = refl
same_self (c ∷ cs) = rw (eq-eqb c c refl, same_self cs) refl

pub same_true : (u v : List ℕ) → same u v ≡ true → u ≡ v
unfolding same
same_true [] [] e = refl
same_true [] (d ∷ ds) e = absurd cc
same_true (c ∷ cs) [] e = absurd cc
same_true (c ∷ cs) (d ∷ ds) e =
    let both = and_parts (eqb c d) (same cs ds) e in
    let one : c ≡ d = eqb-true c d both.0 in
    let more : cs ≡ ds = same_true cs ds both.1 in
    rw (one, more) refl

number_of_reads : (word : List ℕ) (n : ℕ) → IsNumber word n → number_of word n ≡ Some n
unfolding number_of
number_of_reads word n is = rw (is.0, same_self (decimal n), lt-ltb n (2 ^ 64) is.1) refl

number_of_found : (word : List ℕ) (m n : ℕ) → number_of word m ≡ Some n → IsNumber word n
unfolding number_of
number_of_found word m n e =
    elim (cases_Bool (same word (decimal m) && ltb m (2 ^ 64))) [
      | inl so ↦
          let both = and_parts (same word (decimal m)) (ltb m (2 ^ 64)) so in
          let it : m ≡ n = same_Some m n (rw so at e) in
          rw (← it) (same_true word (decimal m) both.0, ltb-true m (2 ^ 64) both.1)
      | inr not_so ↦ absurd (none-some n (rw not_so at e))
    ]

pub number_reads : (word : List ℕ) (n : ℕ) → IsNumber word n → number_in word ≡ Some n
unfolding number_in
number_reads word n is =
    let value : digits_value 10 word ≡ n = rw is.0 (digits_value-decimal own n is.1) in
    rw value (number_of_reads word n is)

pub number_found : (word : List ℕ) (n : ℕ) → number_in word ≡ Some n → IsNumber word n
unfolding number_in
number_found word n e = number_of_found word (digits_value 10 word) n e

none_is : (p : Option ℕ) → ((n : ℕ) → p ≡ Some n → None ≡ Some n) → None ≡ p
none_is None none = refl
none_is (Some n) none = none n refl

pub number_is : (word : List ℕ) (o : Option ℕ) → IfSome o (IsNumber word) → Only (IsNumber word) o → o ≡ number_in word
number_is word (Some n) found only = sym (number_reads word n found)
number_is word None found only = none_is _ (λ n e. only n (number_found word n e))

below_number : (r : ℕ) → r ≤ 15 → r < 2 ^ 64
below_number r small = omega arith

pub register_reads : (word : List ℕ) (r : ℕ) → IsRegister word r → register_in word ≡ Some r
unfolding register_in
register_reads word r is =
    let digits : number_in (decimal r) ≡ Some r = number_reads (decimal r) r (refl, below_number r is.1) in
    rw (is.0, digits, le-leb r 15 is.1) refl

fifteen_found : (o : Option ℕ) (r : ℕ) → up_to_fifteen o ≡ Some r → (o ≡ Some r) × (r ≤ 15)
fifteen_found None r e = absurd (none-some r e)
fifteen_found (Some n) r e =
    elim (cases_Bool (leb n 15)) [
      | inl so ↦ let it : n ≡ r = same_Some n r (rw so at e) in rw (← it) (refl, leb-true n 15 so)
      | inr not_so ↦ absurd (none-some r (rw not_so at e))
    ]

pub register_found : (word : List ℕ) (r : ℕ) → register_in word ≡ Some r → IsRegister word r
unfolding register_in
register_found [] r e = absurd (none-some r e)
register_found (c ∷ cs) r e =
    elim (cases_Bool (eqb c 114)) [
      | inl so ↦
          let both = fifteen_found (number_in cs) r (rw so at e) in
          let number = number_found cs r both.0 in
          (rw (eqb-true c 114 so, ← number.0) refl, both.1)
      | inr not_so ↦ absurd (none-some r (rw not_so at e))
    ]

pub register_is : (word : List ℕ) (o : Option ℕ) → IfSome o (IsRegister word) → Only (IsRegister word) o → o ≡ register_in word
register_is word (Some r) found only = sym (register_reads word r found)
register_is word None found only = none_is _ (λ n e. only n (register_found word n e))

-- ---- a line of the grammar is what its words are worked out as

abbrev shape_with : ℕ → Descriptor → Shape
shape_with fields kind = record { fields = fields; kind = kind }

shape_is : (shape : Shape) (n : ℕ) (kind : Descriptor) → shape.fields ≡ n → shape.kind ≡ kind → Some (shape_with n kind) ≡ Some shape
shape_is shape n kind e f = sym (ap (λ (d : Descriptor). Some (shape_with shape.fields d)) f ∙ ap (λ (m : ℕ). Some (shape_with m kind)) e)

class_reads : (name : List ℕ) (o : Option Shape) (shape : Shape) → IsTrue (is_name name) → o ≡ Some shape → class_line name o ≡ Some (Declares name shape)
unfolding class_line
class_reads name o shape named e = rw (e, named) refl

declares_reads : (words : List (List ℕ)) (name : List ℕ) (rest : List (List ℕ)) (shape : Shape) → words ≡ codes "class" ∷ name ∷ rest → IsTrue (is_name name) → IsShape rest shape → sentence_in words ≡ Some (Declares name shape)
unfolding sentence_in three_words four_words six_words same shape_alone shape_of_two mask_shape shape_of_four
declares_reads words name rest shape e named (inl h) =
    rw (e, h.1) (class_reads name _ shape named (rw (number_reads h.0 shape.fields h.2) (shape_is shape shape.fields PtrFree refl h.3)))
declares_reads words name rest shape e named (inr (inl h)) =
    rw (e, h.5) (class_reads name _ shape named (rw (number_reads h.0 shape.fields h.6, number_reads h.1 h.3 h.7, number_reads h.2 h.4 h.8) (shape_is shape shape.fields (Run h.3 h.4) refl h.9)))
declares_reads words name rest shape e named (inr (inr (inl h))) =
    rw (e, h.1) (class_reads name _ shape named (rw h.2 (shape_is shape (length h.0) (Bitmap (mask_bits h.0)) h.3 h.4)))
declares_reads words name rest shape e named (inr (inr (inr (inl h)))) =
    rw (e, h.0) (class_reads name _ shape named (shape_is shape 0 VectorRefs h.1 h.2))
declares_reads words name rest shape e named (inr (inr (inr (inr (inl h))))) =
    rw (e, h.0) (class_reads name _ shape named (shape_is shape 0 VectorPlain h.1 h.2))
declares_reads words name rest shape e named (inr (inr (inr (inr (inr h))))) =
    rw (e, h.0) (class_reads name _ shape named (shape_is shape 2 Ephemeron h.1 h.2))

sets_reads : (word : List ℕ) (setting : Setting) (n : ℕ) → IsNumber word n → two_words (setting_name setting) word ≡ Some (Sets setting n)
unfolding two_words on_register setting_in same
sets_reads word Nursery n number = rw (number_reads word n number) refl
sets_reads word Blocks n number = rw (number_reads word n number) refl
sets_reads word Pages n number = rw (number_reads word n number) refl
sets_reads word Buffer n number = rw (number_reads word n number) refl
sets_reads word Workers n number = rw (number_reads word n number) refl
sets_reads word Cement n number = rw (number_reads word n number) refl

makes_reads : (words : List (List ℕ)) (maker : Maker) (r : ℕ) (name : List ℕ) → IsMakerLine words maker r name → IsTrue (is_name name) → sentence_in words ≡ Some (Makes maker r name)
unfolding sentence_in three_words four_words same
makes_reads words AsNew r name h named = rw (h.1, named, register_reads h.0 r h.2) refl
makes_reads words (AsVector count) r name h named = rw (h.2, named, register_reads h.0 r h.3, number_reads h.1 count h.4) refl
makes_reads words AsMature r name h named = rw (h.1, named, register_reads h.0 r h.2) refl

says_reads : (words : List (List ℕ)) (s : Statement) → IsStatementLine words s → sentence_in words ≡ Some (Says s)
unfolding sentence_in one_word two_words three_words four_words on_register on_two on_cell on_field link pause same
says_reads words (New r class) h = absurd h
says_reads words (NewV r class count) h = absurd h
says_reads words (Mature r class) h = absurd h
says_reads words (Put r i s) h = rw (h.3, register_reads h.0 r h.4, number_reads h.1 i h.5, register_reads h.2 s h.6) refl
says_reads words (Get d r i) h = rw (h.3, register_reads h.0 d h.4, register_reads h.1 r h.5, number_reads h.2 i h.6) refl
says_reads words (PutD r i s) h = rw (h.3, register_reads h.0 r h.4, number_reads h.1 i h.5, register_reads h.2 s h.6) refl
says_reads words (GetD d r i) h = rw (h.3, register_reads h.0 d h.4, register_reads h.1 r h.5, number_reads h.2 i h.6) refl
says_reads words (Num d n) h = rw (h.2, register_reads h.0 d h.3, number_reads h.1 n h.4) refl
says_reads words (Move d s) h = rw (h.2, register_reads h.0 d h.3, register_reads h.1 s h.4) refl
says_reads words (Hide d s o) h = rw (h.3, register_reads h.0 d h.4, register_reads h.1 s h.5, number_reads h.2 o h.6) refl
says_reads words (Unhide d s) h = rw (h.2, register_reads h.0 d h.3, register_reads h.1 s h.4) refl
says_reads words (Drop r) h = rw (h.1, register_reads h.0 r h.2) refl
says_reads words (Push r) h = rw (h.1, register_reads h.0 r h.2) refl
says_reads words (Pop r) h = rw (h.1, register_reads h.0 r h.2) refl
says_reads words (GPut g r) h = rw (h.2, number_reads h.0 g h.3, register_reads h.1 r h.4) refl
says_reads words (GGet r g) h = rw (h.2, register_reads h.0 r h.3, number_reads h.1 g h.4) refl
says_reads words (WSet w r true) h = rw (h.2, number_reads h.0 w h.3, register_reads h.1 r h.4) refl
says_reads words (WSet w r false) h = rw (h.2, number_reads h.0 w h.3, register_reads h.1 r h.4) refl
says_reads words (WGet r w) h = rw (h.2, register_reads h.0 r h.3, number_reads h.1 w h.4) refl
says_reads words (Final r) h = rw (h.1, register_reads h.0 r h.2) refl
says_reads words (NextFin r) h = rw (h.1, register_reads h.0 r h.2) refl
says_reads words (Same r s) h = rw (h.2, register_reads h.0 r h.3, register_reads h.1 s h.4) refl
says_reads words (Collect true) h = rw h refl
says_reads words (Collect false) h = rw h refl
says_reads words Sections h = rw h refl

-- whatever the words say is what is worked out
pub line_reads : (words : List (List ℕ)) (s : Sentence) → IsLine words s → sentence_in words ≡ Some s
unfolding sentence_in one_word two_words head same
line_reads words Heads h = rw h refl
line_reads words (Sets setting n) h = rw h.1 (sets_reads h.0 setting n h.2)
line_reads words (Declares name shape) h = declares_reads words name h.0 shape h.1 h.2 h.3
line_reads words Begins h = rw h refl
line_reads words (Repeats times) h = rw (h.1, number_reads h.0 times h.2) refl
line_reads words Ends h = rw h refl
line_reads words (Makes maker r name) h = makes_reads words maker r name h.0 h.1
line_reads words (Says s) h = says_reads words s h

-- words of two lengths, words with two bytes at one place, and words with one at each
pub same_lengths : (u v : List ℕ) → (length u ≡ length v → ⊥) → false ≡ same u v
same_lengths u v differ = elim (cases_Bool (same u v)) [
  | inl e ↦ absurd (differ (ap (λ (l : List ℕ). length l) (same_true u v e)))
  | inr e ↦ sym e
]

pub same_not_at : (u v : List ℕ) (k : ℕ) → (get_or u k 0 ≡ get_or v k 0 → ⊥) → false ≡ same u v
same_not_at u v k differ = elim (cases_Bool (same u v)) [
  | inl e ↦ absurd (differ (ap (λ (l : List ℕ). get_or l k 0) (same_true u v e)))
  | inr e ↦ sym e
]

pub same_throughout : (u v : List ℕ) → length u ≡ length v → ((k : ℕ) → k < length v → get_or u k 0 ≡ get_or v k 0) → true ≡ same u v
unfolding same
same_throughout [] [] long each = refl
same_throughout [] (d ∷ ds) long each = absurd (omega (arith, long))
same_throughout (c ∷ cs) [] long each = absurd (omega (arith, long))
same_throughout (c ∷ cs) (d ∷ ds) long each =
    let first : c ≡ d = each 0 (omega arith) in
    let rest : true ≡ same cs ds = same_throughout cs ds (omega (arith, long)) (λ k h. each (suc k) (omega (arith, h))) in
    rw (eq-eqb c d first, ← rest) refl

-- words with a single digit
pub digit_reads : (word : List ℕ) (d : ℕ) → length word ≡ 1 → 48 ≤ get_or word 0 0 → get_or word 0 0 ≤ 57 → d ≡ get_or word 0 0 - 48 → Some d ≡ number_in word
digit_reads [] d one low high e = absurd (omega (arith, one))
digit_reads (c ∷ []) d one low high e = rw e (sym (number_reads (c ∷ []) (c - 48) (digit_found c low high)))
digit_reads (c ∷ b ∷ cs) d one low high e = absurd (omega (arith, one))

pub register_digit_reads : (word : List ℕ) (d : ℕ) → length word ≡ 2 → get_or word 0 0 ≡ 114 → 48 ≤ get_or word 1 0 → get_or word 1 0 ≤ 57 → d ≡ get_or word 1 0 - 48 → Some d ≡ register_in word
register_digit_reads [] d two r low high e = absurd (omega (arith, two))
register_digit_reads (c ∷ []) d two r low high e = absurd (omega (arith, two))
register_digit_reads (c ∷ b ∷ []) d two r low high e =
    let spelled : b ∷ [] ≡ decimal (b - 48) = (digit_found b low high).0 in
    rw e (sym (register_reads (c ∷ b ∷ []) (b - 48) (rw (r, ← spelled) refl, omega arith)))
register_digit_reads (c ∷ b ∷ a ∷ cs) d two r low high e = absurd (omega (arith, two))
