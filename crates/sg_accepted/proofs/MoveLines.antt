-- The lines of moves, of a mutator and of the settings.
use Rattle.std.proofs.Common.{◌≡◌, ℕ, ◌+◌, ◌/◌, ◌%◌, ◌^◌, ◌<◌, ◌≤◌, true, false, List, [], ◌∷◌, ◌++◌, filter, not, refl, sym, ap, ◌∙◌, subst, arith, append_assoc, codes, inl, inr, Bool, true≢false}
use Rattle.std.proofs.lemmas.Fmt.{decimal_digit, decimal_step}
use Rattle.std.specs.Prelude.{◌&&◌}
use Rattle.std.specs.List.{AllByRecursion, flat_map, list_all}
use Rattle.std.specs.Fmt.{decimal}
use Rattle.sg_desc.specs.declared.shapes.Descriptor.TheVariants.{Bitmap}
use Rattle.sg_program.specs.declared.program.Statement.TheVariants.{Put, Get, PutD, GetD, Num, Drop, GPut, GGet}
use Rattle.sg_text.specs.declared.line.Setting.TheVariants.{Nursery, Blocks, Pages, Buffer, Workers, Cement}
use Rattle.sg_text.specs.Words.{IsRegister, IsNumber, words_of, is_blank, is_empty, parted_by}
use Rattle.sg_text.specs.Lines.{Sentence, Heads, Sets, Declares, Begins, Ends, Makes, Says, AsNew, IsLine}
use Rattle.sg_gen.specs.declared.generated.Move.{Move}
use Rattle.sg_gen.specs.declared.generated.Move.TheVariants.{Grows, Reads, Shrinks}
use Rattle.sg_gen.specs.Generated.{around, move_text, mutator_text, settings_text, line_feed}
use Rattle.sg_accepted.proofs.Digits.{All, is_plain, plain_number, solid_number, whole_part, first_part, all_append}
use Rattle.sg_accepted.proofs.Spoken.{Spoken, Silent, Line, join, words_by, number_stays}

-- what the lines of a move say
abbrev pub says_move : Move → List Sentence
says_move (Grows global number) = Makes AsNew 0 (codes "Node") ∷ Says (Num 1 number) ∷ Says (PutD 0 2 1) ∷ Says (GGet 2 global) ∷ Says (Put 0 0 2) ∷ Says (GPut global 0) ∷ []
says_move (Reads global) = Says (GGet 2 global) ∷ Says (GetD 3 2 2) ∷ Says (Get 2 2 0) ∷ Says (GetD 3 2 2) ∷ Says (Get 2 2 0) ∷ Says (GetD 3 2 2) ∷ []
says_move (Shrinks global) = Says (GGet 2 global) ∷ Says (Get 2 2 0) ∷ Says (GPut global 2) ∷ Says (Drop 2) ∷ Says (Drop 0) ∷ Says (Num 3 0) ∷ []

abbrev pub says_moves : List Move → List Sentence
says_moves moves = flat_map says_move moves

-- and those of mutators with these moves
abbrev pub says_all : List (List Move) → List Sentence
says_all [] = []
says_all (moves ∷ more) = Begins ∷ says_moves moves ++ Ends ∷ says_all more

-- the settings and the class
abbrev pub says_settings : List Sentence
says_settings = Sets Nursery 4096 ∷ Sets Blocks 512 ∷ Sets Pages 64 ∷ Sets Buffer 64 ∷ Sets Workers 4 ∷ Sets Cement 4 ∷ []

abbrev pub says_class : List Sentence
says_class = Declares (codes "Node") (record { fields = 3; kind = Bitmap 3 }) ∷ []

-- numbers of a move are small
abbrev pub IsSmallMove : Move → Type 0
IsSmallMove (Grows global number) = (global < 64) × (number < 1000)
IsSmallMove (Reads global) = global < 64
IsSmallMove (Shrinks global) = global < 64

both_first : (a b : Bool) → (a && b) ≡ true → a ≡ true
both_first true b e = refl
both_first false b e = absurd (true≢false (sym e))

both_second : (a b : Bool) → (a && b) ≡ true → b ≡ true
both_second true b e = e
both_second false b e = absurd (true≢false (sym e))

-- a register and a number of one digit
is_register : (d : ℕ) → d < 10 → IsRegister (114 ∷ (48 + d) ∷ []) d
is_register d l = (ap (λ (ds : List ℕ). 114 ∷ ds) (sym (decimal_digit d l)), omega (arith, l))

is_digit : (d : ℕ) → d < 10 → IsNumber ((48 + d) ∷ []) d
is_digit d l = (sym (decimal_digit d l), omega (arith, l))

-- a line whose bytes are plain, by looking
by_test : (line : List ℕ) → list_all is_plain line ≡ true → All is_plain true line
by_test [] e = tt
by_test (c ∷ line) e = (first c line e, by_test line (others c line e))
  where
    first : (c : ℕ) (line : List ℕ) → list_all is_plain (c ∷ line) ≡ true → is_plain c ≡ true
    first c line e = both_first (is_plain c) (list_all is_plain line) e

    others : (c : ℕ) (line : List ℕ) → list_all is_plain (c ∷ line) ≡ true → list_all is_plain line ≡ true
    others c line e = both_second (is_plain c) (list_all is_plain line) e

-- a line that ends with a number
at_end : (front : List ℕ) (n : ℕ) (ps : List (List ℕ)) → n < 2 ^ 64 → All is_plain true front → parted_by is_blank (front ++ decimal n) ≡ ps ++ parted_by is_blank (decimal n) →
    (filter (λ word. not (is_empty word)) (ps ++ decimal n ∷ []) ≡ ps ++ filter (λ word. not (is_empty word)) (decimal n ∷ [])) →
    words_of (front ++ decimal n) ≡ ps ++ decimal n ∷ []
at_end front n ps fits plain parts kept =
    words_by (front ++ decimal n) (ps ++ decimal n ∷ []) (all_append is_plain true front (decimal n) plain (plain_number n fits))
    (parts ∙ ap (λ (xs : List (List ℕ)). ps ++ xs) (whole_part is_blank (decimal n) (solid_number n fits)))
    ∙ kept ∙ ap (λ (xs : List (List ℕ)). ps ++ xs) (number_stays n [] fits)

num_line : (number : ℕ) → number < 2 ^ 64 → IsLine (words_of (codes "num r1 " ++ decimal number)) (Says (Num 1 number))
num_line number fits = (
  codes "r1",
  decimal number,
  at_end (codes "num r1 ") number (codes "num" ∷ codes "r1" ∷ []) fits (refl, (refl, (refl, (refl, (refl, (refl, (refl, tt))))))) refl refl,
  is_register 1 (omega arith),
  (refl, fits),
)

gget_line : (global : ℕ) → global < 2 ^ 64 → IsLine (words_of (codes "gget r2 " ++ decimal global)) (Says (GGet 2 global))
gget_line global fits = (
  codes "r2",
  decimal global,
  at_end (codes "gget r2 ") global (codes "gget" ∷ codes "r2" ∷ []) fits (refl, (refl, (refl, (refl, (refl, (refl, (refl, (refl, tt)))))))) refl refl,
  is_register 2 (omega arith),
  (refl, fits),
)

-- a line with a number and then a register
gput_words : (global c : ℕ) → global < 2 ^ 64 → All is_plain true (decimal global ++ 32 ∷ 114 ∷ c ∷ []) → (is_blank c ≡ false) →
    words_of (codes "gput " ++ (decimal global ++ 32 ∷ 114 ∷ c ∷ [])) ≡ codes "gput" ∷ decimal global ∷ (114 ∷ c ∷ []) ∷ []
gput_words global c fits plain solid =
    words_by (codes "gput " ++ (decimal global ++ 32 ∷ 114 ∷ c ∷ [])) (codes "gput" ∷ decimal global ∷ (114 ∷ c ∷ []) ∷ []) (refl, (refl, (refl, (refl, (refl, plain)))))
    (ap (λ (xs : List (List ℕ)). codes "gput" ∷ xs) (first_part is_blank (decimal global) 32 (114 ∷ c ∷ []) (solid_number global fits) refl
    ∙ ap (λ (xs : List (List ℕ)). decimal global ∷ xs) (whole_part is_blank (114 ∷ c ∷ []) (refl, (solid, tt)))))
    ∙ ap (λ (xs : List (List ℕ)). codes "gput" ∷ xs) (number_stays global ((114 ∷ c ∷ []) ∷ []) fits)

gput_plain : (global c : ℕ) → global < 2 ^ 64 → is_plain c ≡ true → All is_plain true (decimal global ++ 32 ∷ 114 ∷ c ∷ [])
gput_plain global c fits plain = all_append is_plain true (decimal global) (32 ∷ 114 ∷ c ∷ []) (plain_number global fits) (refl, (refl, (plain, tt)))

-- the pieces of a move's text
pub gget : (global : ℕ) (more : List ℕ) (rest : List Sentence) → global < 64 → Spoken more rest → Spoken (codes "gget r2 " ++ (decimal global ++ 10 ∷ more)) (Says (GGet 2 global) ∷ rest)
gget global more rest l spoken =
    let fits : global < 2 ^ 64 = omega (arith, l) in
    Line (codes "gget r2 " ++ decimal global) (Says (GGet 2 global)) more rest (refl, (refl, (refl, (refl, (refl, (refl, (refl, (refl, plain_number global fits))))))))
    (gget_line global fits) spoken

num : (number : ℕ) (more : List ℕ) (rest : List Sentence) → number < 1000 → Spoken more rest → Spoken (codes "num r1 " ++ (decimal number ++ 10 ∷ more)) (Says (Num 1 number) ∷ rest)
num number more rest l spoken =
    let fits : number < 2 ^ 64 = omega (arith, l) in
    Line (codes "num r1 " ++ decimal number) (Says (Num 1 number)) more rest (refl, (refl, (refl, (refl, (refl, (refl, (refl, plain_number number fits)))))))
    (num_line number fits) spoken

gput : (global c r : ℕ) (more : List ℕ) (rest : List Sentence) → global < 64 → is_plain c ≡ true → is_blank c ≡ false → decimal r ≡ c ∷ [] → r ≤ 15 → Spoken more rest →
    Spoken (codes "gput " ++ (decimal global ++ 32 ∷ 114 ∷ c ∷ 10 ∷ more)) (Says (GPut global r) ∷ rest)
gput global c r more rest l plain solid spelled few spoken =
    let fits : global < 2 ^ 64 = omega (arith, l) in
    let all = gput_plain global c fits plain in
    subst (λ (t : List ℕ). Spoken (codes "gput " ++ t) (Says (GPut global r) ∷ rest)) (append_assoc (decimal global) (32 ∷ 114 ∷ c ∷ []) (10 ∷ more))
    (Line (codes "gput " ++ (decimal global ++ 32 ∷ 114 ∷ c ∷ [])) (Says (GPut global r)) more rest (refl, (refl, (refl, (refl, (refl, all)))))
    (decimal global, 114 ∷ c ∷ [], gput_words global c fits all solid, (refl, fits), (ap (λ (ds : List ℕ). 114 ∷ ds) (sym spelled), few)) spoken)

-- the lines without a number of their own
new : (more : List ℕ) (rest : List Sentence) → Spoken more rest → Spoken (codes "new r0 Node" ++ 10 ∷ more) (Makes AsNew 0 (codes "Node") ∷ rest)
new more rest = Line (codes "new r0 Node") (Makes AsNew 0 (codes "Node")) more rest (by_test (codes "new r0 Node") refl) ((codes "r0", refl, is_register 0 (omega arith)), refl)

putd : (more : List ℕ) (rest : List Sentence) → Spoken more rest → Spoken (codes "putd r0 2 r1" ++ 10 ∷ more) (Says (PutD 0 2 1) ∷ rest)
putd more rest = Line (codes "putd r0 2 r1") (Says (PutD 0 2 1)) more rest (by_test (codes "putd r0 2 r1") refl)
    (codes "r0", codes "2", codes "r1", refl, is_register 0 (omega arith), is_digit 2 (omega arith), is_register 1 (omega arith))

put : (more : List ℕ) (rest : List Sentence) → Spoken more rest → Spoken (codes "put r0 0 r2" ++ 10 ∷ more) (Says (Put 0 0 2) ∷ rest)
put more rest = Line (codes "put r0 0 r2") (Says (Put 0 0 2)) more rest (by_test (codes "put r0 0 r2") refl)
    (codes "r0", codes "0", codes "r2", refl, is_register 0 (omega arith), is_digit 0 (omega arith), is_register 2 (omega arith))

getd : (more : List ℕ) (rest : List Sentence) → Spoken more rest → Spoken (codes "getd r3 r2 2" ++ 10 ∷ more) (Says (GetD 3 2 2) ∷ rest)
getd more rest = Line (codes "getd r3 r2 2") (Says (GetD 3 2 2)) more rest (by_test (codes "getd r3 r2 2") refl)
    (codes "r3", codes "r2", codes "2", refl, is_register 3 (omega arith), is_register 2 (omega arith), is_digit 2 (omega arith))

get : (more : List ℕ) (rest : List Sentence) → Spoken more rest → Spoken (codes "get r2 r2 0" ++ 10 ∷ more) (Says (Get 2 2 0) ∷ rest)
get more rest = Line (codes "get r2 r2 0") (Says (Get 2 2 0)) more rest (by_test (codes "get r2 r2 0") refl)
    (codes "r2", codes "r2", codes "0", refl, is_register 2 (omega arith), is_register 2 (omega arith), is_digit 0 (omega arith))

drop2 : (more : List ℕ) (rest : List Sentence) → Spoken more rest → Spoken (codes "drop r2" ++ 10 ∷ more) (Says (Drop 2) ∷ rest)
drop2 more rest = Line (codes "drop r2") (Says (Drop 2)) more rest (by_test (codes "drop r2") refl) (codes "r2", refl, is_register 2 (omega arith))

drop0 : (more : List ℕ) (rest : List Sentence) → Spoken more rest → Spoken (codes "drop r0" ++ 10 ∷ more) (Says (Drop 0) ∷ rest)
drop0 more rest = Line (codes "drop r0") (Says (Drop 0)) more rest (by_test (codes "drop r0") refl) (codes "r0", refl, is_register 0 (omega arith))

num3 : (more : List ℕ) (rest : List Sentence) → Spoken more rest → Spoken (codes "num r3 0" ++ 10 ∷ more) (Says (Num 3 0) ∷ rest)
num3 more rest = Line (codes "num r3 0") (Says (Num 3 0)) more rest (by_test (codes "num r3 0") refl) (codes "r3", codes "0", refl, is_register 3 (omega arith), is_digit 0 (omega arith))

-- the text of a move
move_spoken : (move : Move) → IsSmallMove move → Spoken (move_text move) (says_move move)
move_spoken (Grows global number) (g, n) =
    join (around (codes "new r0 Node" ++ line_feed ++ codes "num r1 ") number (line_feed ++ codes "putd r0 2 r1" ++ line_feed))
    (Makes AsNew 0 (codes "Node") ∷ Says (Num 1 number) ∷ Says (PutD 0 2 1) ∷ [])
    (around (codes "gget r2 ") global (line_feed ++ codes "put r0 0 r2" ++ line_feed) ++ around (codes "gput ") global (codes " r0" ++ line_feed))
    (Says (GGet 2 global) ∷ Says (Put 0 0 2) ∷ Says (GPut global 0) ∷ [])
    (new _ _ (num number _ _ n (putd [] [] Silent)))
    (join (around (codes "gget r2 ") global (line_feed ++ codes "put r0 0 r2" ++ line_feed)) (Says (GGet 2 global) ∷ Says (Put 0 0 2) ∷ [])
    (around (codes "gput ") global (codes " r0" ++ line_feed)) (Says (GPut global 0) ∷ [])
    (gget global _ _ g (put [] [] Silent)) (gput global 48 0 [] [] g refl refl (decimal_digit 0 (omega arith)) (omega arith) Silent))
move_spoken (Reads global) g = gget global _ _ g (getd _ _ (get _ _ (getd _ _ (get _ _ (getd [] [] Silent)))))
move_spoken (Shrinks global) g =
    join (around (codes "gget r2 ") global (line_feed ++ codes "get r2 r2 0" ++ line_feed)) (Says (GGet 2 global) ∷ Says (Get 2 2 0) ∷ [])
    (around (codes "gput ") global (codes " r2" ++ line_feed ++ codes "drop r2" ++ line_feed ++ codes "drop r0" ++ line_feed ++ codes "num r3 0" ++ line_feed))
    (Says (GPut global 2) ∷ Says (Drop 2) ∷ Says (Drop 0) ∷ Says (Num 3 0) ∷ [])
    (gget global _ _ g (get [] [] Silent)) (gput global 50 2 _ _ g refl refl (decimal_digit 2 (omega arith)) (omega arith) (drop2 _ _ (drop0 _ _ (num3 [] [] Silent))))

moves_spoken : (moves : List Move) → AllByRecursion IsSmallMove moves → Spoken (flat_map move_text moves) (says_moves moves)
moves_spoken [] small = Silent
moves_spoken (move ∷ moves) (one, small) = join (move_text move) (says_move move) (flat_map move_text moves) (says_moves moves) (move_spoken move one) (moves_spoken moves small)

-- the text of a mutator
pub mutator_spoken : (moves : List Move) → AllByRecursion IsSmallMove moves → Spoken (mutator_text moves) (says_all (moves ∷ []))
mutator_spoken moves small =
    subst (λ (t : List ℕ). Spoken (codes "mutator" ++ 10 ∷ t) (says_all (moves ∷ []))) (sym (append_assoc (flat_map move_text moves) (codes "end") line_feed))
    (Line (codes "mutator") Begins _ _ (by_test (codes "mutator") refl) refl
    (join (flat_map move_text moves) (says_moves moves) (codes "end" ++ line_feed) (Ends ∷ []) (moves_spoken moves small)
    (Line (codes "end") Ends [] [] (by_test (codes "end") refl) refl Silent)))

-- mutators one behind another
pub says_more : (mss : List (List Move)) (ms : List Move) → says_all (mss ++ ms ∷ []) ≡ says_all mss ++ says_all (ms ∷ [])
says_more [] ms = refl
says_more (moves ∷ mss) ms =
    ap (λ (ss : List Sentence). Begins ∷ says_moves moves ++ Ends ∷ ss) (says_more mss ms)
    ∙ ap (λ (ss : List Sentence). Begins ∷ ss) (sym (append_assoc (says_moves moves) (Ends ∷ says_all mss) (says_all (ms ∷ []))))

pub one_more_spoken : (t : List ℕ) (mss : List (List Move)) (ms : List Move) → Spoken t (says_all mss) → AllByRecursion IsSmallMove ms →
    Spoken (t ++ mutator_text ms) (says_all (mss ++ ms ∷ []))
one_more_spoken t mss ms spoken small =
    subst (Spoken (t ++ mutator_text ms)) (sym (says_more mss ms)) (join t (says_all mss) (mutator_text ms) (says_all (ms ∷ [])) spoken (mutator_spoken ms small))

-- numbers of more digits
spelled : (n : ℕ) (front : List ℕ) → 10 ≤ n → n < 2 ^ 64 → decimal (n / 10) ≡ front → decimal n ≡ front ++ (48 + n % 10) ∷ []
spelled n front low fits is = decimal_step n low fits ∙ ap (λ (ds : List ℕ). ds ++ (48 + n % 10) ∷ []) is

tens : (n : ℕ) → 10 ≤ n → n < 100 → decimal n ≡ (48 + n / 10) ∷ (48 + n % 10) ∷ []
tens n low high = spelled n ((48 + n / 10) ∷ []) low (omega (arith, high)) (decimal_digit (n / 10) (omega (arith, high)))

sixty_four : IsNumber (codes "64") 64
sixty_four = (sym (tens 64 (omega arith) (omega arith)), omega arith)

blocks_spelled : IsNumber (codes "512") 512
blocks_spelled = (sym (spelled 512 (codes "51") (omega arith) (omega arith) (tens 51 (omega arith) (omega arith))), omega arith)

nursery_spelled : IsNumber (codes "4096") 4096
nursery_spelled =
    (sym (spelled 4096 (codes "409") (omega arith) (omega arith) (spelled 409 (codes "40") (omega arith) (omega arith) (tens 40 (omega arith) (omega arith)))), omega arith)

-- the settings
pub settings_spoken : Spoken settings_text (Heads ∷ says_settings ++ says_class)
settings_spoken =
    Line (codes "sgen 1") Heads _ _ (by_test (codes "sgen 1") refl) refl
    (Line (codes "nursery 4096") (Sets Nursery 4096) _ _ (by_test (codes "nursery 4096") refl) (codes "4096", refl, nursery_spelled)
    (Line (codes "blocks 512") (Sets Blocks 512) _ _ (by_test (codes "blocks 512") refl) (codes "512", refl, blocks_spelled)
    (Line (codes "pages 64") (Sets Pages 64) _ _ (by_test (codes "pages 64") refl) (codes "64", refl, sixty_four)
    (Line (codes "buffer 64") (Sets Buffer 64) _ _ (by_test (codes "buffer 64") refl) (codes "64", refl, sixty_four)
    (Line (codes "workers 4") (Sets Workers 4) _ _ (by_test (codes "workers 4") refl) (codes "4", refl, is_digit 4 (omega arith))
    (Line (codes "cement 4") (Sets Cement 4) _ _ (by_test (codes "cement 4") refl) (codes "4", refl, is_digit 4 (omega arith))
    (Line (codes "class Node map rr.") (Declares (codes "Node") (record { fields = 3; kind = Bitmap 3 })) [] [] (by_test (codes "class Node map rr.") refl)
    (codes "map" ∷ codes "rr." ∷ [], refl, refl, inr (inr (inl (codes "rr.", refl, refl, refl, refl)))) Silent)))))))
