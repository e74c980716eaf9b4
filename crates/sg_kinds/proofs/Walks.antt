-- How the relations of kinds go on from item to item, and that a script is without misuse or has one, not both.
use Rattle.std.proofs.Common.{◌≡◌, ℕ, zero, suc, ◌+◌, ◌-◌, ◌<◌, ◌≤◌, List, [], ◌∷◌, ◌++◌, length, get_or, take, drop, sym, refl, ap, ◌∙◌, subst, arith}
use Rattle.std.specs.List.{AllByRecursion}
use Rattle.std.proofs.lemmas.List.{length-append, append-nil, take_more, take_all, take-append-drop}
use Rattle.std.proofs.lemmas.Grind.{flat_map-append}
use Rattle.std.proofs.lemmas.List.Folds.{flat_map-map}
use Rattle.sg_program.specs.declared.program.Statement.{Statement}
use Rattle.sg_program.specs.declared.program.Item.{Item, out-Item, map-Item, fold_out-Item}
use Rattle.sg_program.specs.declared.program.Item as V
use Rattle.sg_program.specs.declared.program.Item.TheVariants.{outs-One, outs-Repeat}
use Rattle.sg_program.specs.declared.program.Item.TheOpen.{One, Repeat}
use Rattle.sg_program.specs.Scripts.{texts_of, item_text, written}
use Rattle.sg_program.specs.Kinds.{Kinds, Needs, kinds_after, AreSame, Leads, Done, Does, Repeats, Misuses, Here, Behind, Inside, AtItsEnd, BehindIt}
use Rattle.sg_words.proofs.Everywhere.{all_append, all_front, all_back}

-- What an item has in the text.
text_one : (item : Item) (s : Statement) → out-Item item ≡ One s → item_text item ≡ s ∷ []
text_one item s e = fold_out-Item (List Statement) texts_of item ∙ ap (λ x. texts_of (map-Item Item (List Statement) item_text x)) e

text_repeat : (item : Item) (times : ℕ) (body : List Item) → out-Item item ≡ Repeat times body → item_text item ≡ written body
text_repeat item times body e =
    fold_out-Item (List Statement) texts_of item ∙ ap (λ x. texts_of (map-Item Item (List Statement) item_text x)) e ∙ flat_map-map (λ ys. ys) item_text body

-- One after another.
pub leads_on : (k : Kinds) (xs : List Item) (i : Kinds) (ys : List Item) (j : Kinds) → Leads k xs i → Leads i ys j → Leads k (xs ++ ys) j
leads_on _ _ _ ys j (Done k) l = l
leads_on _ _ i ys j (Does k item s rest _ e needs leads) l = Does k item s (rest ++ ys) j e needs (leads_on _ rest i ys j leads l)
leads_on _ _ i ys j (Repeats k item times body m rest _ e inside same leads) l =
    Repeats k item times body m (rest ++ ys) j e inside same (leads_on m rest i ys j leads l)

pub misused : (k : Kinds) (xs ys : List Item) (n : ℕ) → Misuses k xs n → Misuses k (xs ++ ys) n
misused _ _ ys _ (Here k item s rest e lacks) = Here k item s (rest ++ ys) e lacks
misused _ _ ys _ (Behind k item s rest n e needs m) = Behind k item s (rest ++ ys) n e needs (misused _ rest ys n m)
misused _ _ ys _ (Inside k item times body rest n e m) = Inside k item times body (rest ++ ys) n e m
misused _ _ ys _ (AtItsEnd k item times body i rest n e leads other last) = AtItsEnd k item times body i (rest ++ ys) n e leads other last
misused _ _ ys _ (BehindIt k item times body i rest n e leads same m) = BehindIt k item times body i (rest ++ ys) n e leads same (misused _ rest ys n m)

length_one : (item : Item) (s : Statement) (rest : List Item) → out-Item item ≡ One s → length (written (item ∷ rest)) ≡ suc (length (written rest))
length_one item s rest e = ap (λ (xs : List Statement). length (xs ++ written rest)) (text_one item s e)

length_repeat : (item : Item) (times : ℕ) (body rest : List Item) → out-Item item ≡ Repeat times body →
    length (written (item ∷ rest)) ≡ length (written body) + length (written rest)
length_repeat item times body rest e =
    ap (λ (xs : List Statement). length (xs ++ written rest)) (text_repeat item times body e) ∙ length-append (written body) (written rest)

pub misused_behind : (k : Kinds) (xs : List Item) (i : Kinds) (ys : List Item) (n : ℕ) → Leads k xs i → Misuses i ys n →
    Misuses k (xs ++ ys) (length (written xs) + n)
misused_behind _ _ _ ys n (Done k) m = subst (Misuses k ys) (let e : n ≡ 0 + n = omega arith in e) m
misused_behind _ _ i ys n (Does k item s rest _ e needs leads) m =
    subst (Misuses k (item ∷ rest ++ ys)) (let q = length_one item s rest e in let a : suc (length (written rest) + n) ≡ length (written (item ∷ rest)) + n = omega arith in a)
    (Behind k item s (rest ++ ys) _ e needs (misused_behind _ rest i ys n leads m))
misused_behind _ _ i ys n (Repeats k item times body j rest _ e inside same leads) m =
    subst (Misuses k (item ∷ rest ++ ys))
    (let q = length_repeat item times body rest e in
    let a : length (written body) + (length (written rest) + n) ≡ length (written (item ∷ rest)) + n = omega arith in a)
    (BehindIt k item times body j (rest ++ ys) _ e inside same (misused_behind j rest i ys n leads m))

-- Items with no statement keep the kinds.
joined : (k i j : Kinds) → AreSame k i → AreSame i j → AreSame k j
joined k i j a b = record { registers = λ r l. a.registers r l ∙ b.registers r l; stack = a.stack ∙ b.stack }

pub keeps_kinds : (k : Kinds) (items : List Item) (j : Kinds) → Leads k items j → length (written items) ≡ 0 → AreSame k j
keeps_kinds _ _ _ (Done k) none = record { registers = λ r l. refl; stack = refl }
keeps_kinds _ _ j (Does k item s rest _ e needs leads) none = let q = length_one item s rest e in absurd (omega arith)
keeps_kinds _ _ j (Repeats k item times body i rest _ e inside same leads) none =
    let q = length_repeat item times body rest e in joined k i j same (keeps_kinds i rest j leads (omega arith))

-- There is one way.
pub not_both : (item : Item) (s : Statement) (times : ℕ) (body : List Item) → out-Item item ≡ One s → out-Item item ≡ Repeat times body → ⊥
not_both item s times body e q = cc

pub one_statement : (item : Item) (s t : Statement) → out-Item item ≡ One s → out-Item item ≡ One t → s ≡ t
one_statement item s t e q = cc

pub one_body : (item : Item) (n m : ℕ) (xs ys : List Item) → out-Item item ≡ Repeat n xs → out-Item item ≡ Repeat m ys → xs ≡ ys
one_body item n m xs ys e q = cc

pub one_end : (k : Kinds) (items : List Item) (i j : Kinds) → Leads k items i → Leads k items j → i ≡ j
one_end _ _ _ j (Done k) (Done _) = refl
one_end _ _ i j (Does k item s rest _ e needs leads) (Does _ _ t _ _ q needs2 leads2) =
    one_end (kinds_after k s) rest i j leads (subst (λ x. Leads (kinds_after k x) rest j) (one_statement item t s q e) leads2)
one_end _ _ i j (Does k item s rest _ e needs leads) (Repeats _ _ times body _ _ _ q inside same behind) = absurd (not_both item s times body e q)
one_end _ _ i j (Repeats k item times body m rest _ e inside same leads) (Does _ _ s _ _ q needs2 leads2) = absurd (not_both item s times body q e)
one_end _ _ i j (Repeats k item times body m rest _ e inside same leads) (Repeats _ _ times2 body2 m2 _ _ q inside2 same2 leads2) =
    let b = one_end k body m m2 inside (subst (λ xs. Leads k xs m2) (one_body item times2 times body2 body q e) inside2) in
    one_end m rest i j leads (subst (λ x. Leads x rest j) (sym b) leads2)

-- A misuse leads nowhere.
pub no_way : (k : Kinds) (items : List Item) (j : Kinds) (n : ℕ) → Leads k items j → Misuses k items n → ⊥
no_way _ _ _ n (Done k) m = elim m [ ]
no_way _ _ _ n (Does k item s rest j e needs leads) (Here _ _ t _ q lacks) = lacks (subst (Needs k) (one_statement item s t e q) needs)
no_way _ _ _ n (Does k item s rest j e needs leads) (Behind _ _ t _ m q needs2 misuse) =
    no_way (kinds_after k s) rest j m leads (subst (λ x. Misuses (kinds_after k x) rest m) (one_statement item t s q e) misuse)
no_way _ _ _ n (Does k item s rest j e needs leads) (Inside _ _ times body _ _ q misuse) = not_both item s times body e q
no_way _ _ _ n (Does k item s rest j e needs leads) (AtItsEnd _ _ times body i _ _ q leads2 other last) = not_both item s times body e q
no_way _ _ _ n (Does k item s rest j e needs leads) (BehindIt _ _ times body i _ m q leads2 same misuse) = not_both item s times body e q
no_way _ _ _ n (Repeats k item times body i rest j e inside same leads) (Here _ _ t _ q lacks) = not_both item t times body q e
no_way _ _ _ n (Repeats k item times body i rest j e inside same leads) (Behind _ _ t _ m q needs2 misuse) = not_both item t times body q e
no_way _ _ _ n (Repeats k item times body i rest j e inside same leads) (Inside _ _ times2 body2 _ m q misuse) =
    no_way k body i m inside (subst (λ xs. Misuses k xs m) (one_body item times2 times body2 body q e) misuse)
no_way _ _ _ n (Repeats k item times body i rest j e inside same leads) (AtItsEnd _ _ times2 body2 i2 _ _ q leads2 other last) =
    let b = one_end k body i i2 inside (subst (λ xs. Leads k xs i2) (one_body item times2 times body2 body q e) leads2) in
    other (subst (AreSame k) b same)
no_way _ _ _ n (Repeats k item times body i rest j e inside same leads) (BehindIt _ _ times2 body2 i2 _ m q leads2 same2 misuse) =
    let b = one_end k body i2 i (subst (λ xs. Leads k xs i2) (one_body item times2 times body2 body q e) leads2) inside in
    no_way i rest j m leads (subst (λ x. Misuses x rest m) b misuse)

-- The item at a place of a list.
pub item_all : (P : Statement → Type 0) (items : List Item) (i : ℕ) (d : Item) → i < length items → AllByRecursion P (written items) →
    AllByRecursion P (written (get_or items i d ∷ []))
item_all P [] i d l h = absurd (omega arith)
item_all P (item ∷ items) zero d l h = all_append P (item_text item) [] (all_front P (item_text item) (written items) h) tt
item_all P (item ∷ items) (suc i) d l h = item_all P items i d (omega arith) (all_back P (item_text item) (written items) h)

pub item_length : (items : List Item) (i : ℕ) (d : Item) → i < length items →
    length (written (take i items)) + length (written (get_or items i d ∷ [])) ≤ length (written items)
item_length [] i d l = absurd (omega arith)
item_length (item ∷ items) zero d l = omega (arith, length-append (item_text item) [], length-append (item_text item) (written items))
item_length (item ∷ items) (suc i) d l =
    let h = item_length items i d (omega arith) in
    omega (arith, length-append (item_text item) (written (take i items)), length-append (item_text item) (written items))

-- A misuse is at a statement that is written.
pub within : (k : Kinds) (items : List Item) (n : ℕ) → Misuses k items n → n < length (written items)
within _ _ _ (Here k item s rest e lacks) = let q = length_one item s rest e in omega arith
within _ _ _ (Behind k item s rest n e needs m) = let q = length_one item s rest e in let h = within _ rest n m in omega arith
within _ _ _ (Inside k item times body rest n e m) = let q = length_repeat item times body rest e in let h = within k body n m in omega arith
within _ _ _ (AtItsEnd k item times body i rest n e leads other last) = let q = length_repeat item times body rest e in omega arith
within _ _ _ (BehindIt k item times body i rest n e leads same m) = let q = length_repeat item times body rest e in let h = within i rest n m in omega arith

-- One item.
pub opened_one : (item : Item) (s : Statement) → item ≡ V.One s → out-Item item ≡ One s
opened_one item s e = ap out-Item e ∙ outs-One s

pub opened_repeat : (item : Item) (times : ℕ) (body xs : List Item) → xs ≡ body → item ≡ V.Repeat times body → out-Item item ≡ Repeat times xs
opened_repeat item times body xs u e = ap out-Item e ∙ outs-Repeat times body ∙ ap (λ (ys : List Item). Repeat times ys) (sym u)

pub body_length : (item : Item) (times : ℕ) (xs : List Item) → out-Item item ≡ Repeat times xs → length (written (item ∷ [])) ≡ length (written xs)
body_length item times xs e = length_repeat item times xs [] e ∙ (omega arith)

pub body_all : (P : Statement → Type 0) (item : Item) (times : ℕ) (xs : List Item) → out-Item item ≡ Repeat times xs →
    AllByRecursion P (written (item ∷ [])) → AllByRecursion P (written xs)
body_all P item times xs e h = subst (AllByRecursion P) (append-nil (item_text item) ∙ text_repeat item times xs e) h

pub statement_all : (P : Statement → Type 0) (item : Item) (s : Statement) → out-Item item ≡ One s → AllByRecursion P (written (item ∷ [])) → P s
statement_all P item s e h = (subst (AllByRecursion P) (append-nil (item_text item) ∙ text_one item s e) h).0

pub one_length : (item : Item) (s : Statement) → out-Item item ≡ One s → 1 ≡ length (written (item ∷ []))
one_length item s e = sym (length_one item s [] e)

pub does : (k : Kinds) (item : Item) (s : Statement) (j : Kinds) → out-Item item ≡ One s → Needs k s → j ≡ kinds_after k s → Leads k (item ∷ []) j
does k item s j e needs after = subst (Leads k (item ∷ [])) (sym after) (Does k item s [] (kinds_after k s) e needs (Done (kinds_after k s)))

pub repeats : (k : Kinds) (item : Item) (times : ℕ) (xs : List Item) (i : Kinds) → out-Item item ≡ Repeat times xs → Leads k xs i → AreSame k i →
    Leads k (item ∷ []) i
repeats k item times xs i e leads same = Repeats k item times xs i [] i e leads same (Done i)

pub has_some : (k : Kinds) (xs : List Item) (j : Kinds) (n : ℕ) → Leads k xs j → ¬ AreSame k j → n ≡ length (written xs) → 1 ≤ n
has_some k xs j zero leads other e = absurd (other (keeps_kinds k xs j leads (sym e)))
has_some k xs j (suc n) leads other e = omega arith

pub ends : (k : Kinds) (item : Item) (times : ℕ) (xs : List Item) (i : Kinds) (n : ℕ) → out-Item item ≡ Repeat times xs → Leads k xs i → ¬ AreSame k i →
    n ≡ length (written xs) → Misuses k (item ∷ []) (n - 1)
ends k item times xs i n e leads other q =
    let l = has_some k xs i n leads other q in AtItsEnd k item times xs i [] (n - 1) e leads other (omega arith)

-- The items up to a place, and the next.
pub further : (k i j : Kinds) (items : List Item) (at : ℕ) (item : Item) → at < length items → item ≡ get_or items at item → Leads k (take at items) i →
    Leads i (item ∷ []) j → Leads k (take (at + 1) items) j
further k i j items at item l e leads next =
    let q = take_more items at item l ∙ ap (λ x. take at items ++ x ∷ []) (sym e) in
    subst (λ xs. Leads k xs j) (sym q) (leads_on k (take at items) i (item ∷ []) j leads next)

pub further_length : (items : List Item) (at : ℕ) (item : Item) → at < length items → item ≡ get_or items at item →
    length (written (take (at + 1) items)) ≡ length (written (take at items)) + length (written (item ∷ []))
further_length items at item l e =
    let q = take_more items at item l ∙ ap (λ x. take at items ++ x ∷ []) (sym e) in
    ap (λ (xs : List Item). length (written xs)) q ∙ ap length (flat_map-append item_text (take at items) (item ∷ []))
    ∙ length-append (written (take at items)) (written (item ∷ []))

pub found : (k i : Kinds) (items : List Item) (at : ℕ) (item : Item) (n : ℕ) → at < length items → item ≡ get_or items at item → Leads k (take at items) i →
    Misuses i (item ∷ []) n → Misuses k items (length (written (take at items)) + n)
found k i items at item n l e leads m =
    let q = take_more items at item l ∙ ap (λ x. take at items ++ x ∷ []) (sym e) in
    let count = length (written (take at items)) + n in
    let here = misused_behind k (take at items) i (item ∷ []) n leads m in
    let there = misused k (take (at + 1) items) (drop (at + 1) items) count (subst (λ xs. Misuses k xs count) (sym q) here) in
    subst (λ xs. Misuses k xs count) (take-append-drop (at + 1) items) there

pub at_end : (k j : Kinds) (items : List Item) (at : ℕ) → length items ≤ at → Leads k (take at items) j → Leads k items j
at_end k j items at l leads = subst (λ xs. Leads k xs j) (take_all at items l) leads

pub at_end_length : (items : List Item) (at : ℕ) → length items ≤ at → length (written (take at items)) ≡ length (written items)
at_end_length items at l = ap (λ (xs : List Item). length (written xs)) (take_all at items l)

-- What holds of the statements of a body holds of its repeat.
pub repeat_all : (P : Statement → Type 0) (item : Item) (times : ℕ) (xs : List Item) → out-Item item ≡ Repeat times xs →
    AllByRecursion P (written xs) → AllByRecursion P (written (item ∷ []))
repeat_all P item times xs e h = subst (AllByRecursion P) (sym (append-nil (item_text item) ∙ text_repeat item times xs e)) h
