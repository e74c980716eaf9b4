-- What holds of each statement that is written holds of each that is done, and a script without misuse finds, with its repeats
-- written out, the kinds that it needs.
use Rattle.std.proofs.Common.{◌≡◌, ℕ, zero, suc, ◌<◌, ◌≤◌, List, [], ◌∷◌, ◌++◌, map, length, sym, refl, ap, ◌∙◌, subst, arith, if◌then◌else◌, ◌==◌}
use Rattle.std.specs.List.{AllByRecursion, Contains}
use Rattle.std.proofs.lemmas.List.{append_assoc, append-nil}
use Rattle.std.proofs.lemmas.List.Concat.{flat_map-cons}
use Rattle.std.proofs.lemmas.List.Folds.{flat_map-map}
use Rattle.sg_words.specs.Words.{put}
use Rattle.sg_words.proofs.Everywhere.{all_append, all_front, all_back, all_contained, contained}
use Rattle.sg_program.specs.declared.program.Statement.{Statement}
use Rattle.sg_program.specs.declared.program.Statement.TheVariants.{New, NewV, Mature, Put, Get, PutD, GetD, Num, Move, Hide, Unhide, Drop, Push, Pop, GPut, GGet, WSet, WGet, Final, NextFin, Same, Collect, Sections}
use Rattle.sg_program.specs.declared.program.Item.{Item, roll-Item, map-Item, ind-Item, fold-roll-Item}
use Rattle.sg_program.specs.declared.program.Item.TheOpen.{Item-F, One, Repeat}
use Rattle.sg_program.specs.Scripts.{repeated, statements_of, texts_of, item_out, written_out, item_text, written}
use Rattle.sg_program.specs.Invariants.{HasOperands, FindKinds}
use Rattle.sg_program.specs.Laws.{ItemsDoWhatIsWritten}
use Rattle.sg_program.specs.Kinds.{Kind, Kinds, first_kinds, Needs, sets, pops, kinds_after, AreSame, Leads, Done, Does, Repeats}
use Rattle.sg_program.proofs.Items.{out_one, out_repeat, text_one, text_repeat}

all_repeated : {A : Type 0} (P : A → Type 0) (n : ℕ) (xs : List A) → AllByRecursion P xs → AllByRecursion P (repeated n xs)
all_repeated P zero xs h = tt
all_repeated P (suc n) xs h = all_append P xs (repeated n xs) h (all_repeated P n xs h)

-- What holds of each statement that is written holds of each that is done.
module _ (P : Statement → Type 0) where
  abbrev Keeps : Item → Type 0
  Keeps item = AllByRecursion P (item_text item) → AllByRecursion P (item_out item)

  abbrev item_of : ((item : Item) × Keeps item) → Item
  item_of e = e.0

  all_body : (body : List ((item : Item) × Keeps item)) → AllByRecursion P (written (map item_of body)) → AllByRecursion P (written_out (map item_of body))
  all_body [] h = tt
  all_body (e ∷ body) h =
      let g = subst (AllByRecursion P) (flat_map-cons item_text e.0 (map item_of body)) h in
      subst (AllByRecursion P) (sym (flat_map-cons item_out e.0 (map item_of body)))
      (all_append P (item_out e.0) (written_out (map item_of body)) (e.1 (all_front P (item_text e.0) _ g)) (all_body body (all_back P (item_text e.0) _ g)))

  all_layer : (y : Item-F ((item : Item) × Keeps item)) → Keeps (roll-Item (map-Item _ _ item_of y))
  all_layer (One s) h =
      subst (AllByRecursion P) (sym (fold-roll-Item (List Statement) statements_of (One s))) (subst (AllByRecursion P) (fold-roll-Item (List Statement) texts_of (One s)) h)
  all_layer (Repeat times body) h =
      let x : Item-F Item = Repeat times (map item_of body) in
      let g = subst (AllByRecursion P) (fold-roll-Item (List Statement) texts_of x ∙ flat_map-map (λ ys. ys) item_text (map item_of body)) h in
      subst (AllByRecursion P) (sym (fold-roll-Item (List Statement) statements_of x ∙ ap (repeated times) (flat_map-map (λ ys. ys) item_out (map item_of body))))
      (all_repeated P times _ (all_body body g))

  all_item : (item : Item) → Keeps item
  all_item = ind-Item Keeps (λ x y is. subst (λ z. Keeps (roll-Item z)) is (all_layer y))

  all_out : (items : List Item) → AllByRecursion P (written items) → AllByRecursion P (written_out items)
  all_out [] h = tt
  all_out (item ∷ items) h =
      let g = subst (AllByRecursion P) (flat_map-cons item_text item items) h in
      subst (AllByRecursion P) (sym (flat_map-cons item_out item items))
      (all_append P (item_out item) (written_out items) (all_item item (all_front P (item_text item) _ g)) (all_out items (all_back P (item_text item) _ g)))

-- Kinds that are the same need and lead to the same.
put_same : (f g : ℕ → Kind) (k : ℕ) (v w : Kind) → v ≡ w → ((r : ℕ) → r < 16 → f r ≡ g r) → (r : ℕ) → r < 16 → put f k v r ≡ put g k w r
unfolding put
put_same f g k v w e h r l = λ i. if r == k then e i else h r l i

sets_same : (k j : Kinds) (r : ℕ) (v w : Kind) → v ≡ w → AreSame k j → AreSame (sets k r v) (sets j r w)
sets_same k j r v w e same = record { registers = put_same k.register j.register r v w e same.registers; stack = same.stack }

pops_same : (k j : Kinds) (r : ℕ) (xs ys : List Kind) → xs ≡ ys → AreSame k j → AreSame (pops k r xs) (pops j r ys)
pops_same k j r xs ys e same = subst (λ zs. AreSame (pops k r xs) (pops j r zs)) e (by_cases xs)
  where
    by_cases : (zs : List Kind) → AreSame (pops k r zs) (pops j r zs)
    by_cases [] = same
    by_cases (kind ∷ stack) = record { registers = put_same k.register j.register r kind kind refl same.registers; stack = refl }

after_same : (k j : Kinds) (s : Statement) → HasOperands s → AreSame k j → AreSame (kinds_after k s) (kinds_after j s)
after_same k j (New r class) o same = sets_same k j r _ _ refl same
after_same k j (NewV r class count) o same = sets_same k j r _ _ refl same
after_same k j (Mature r class) o same = sets_same k j r _ _ refl same
after_same k j (Put r field s) o same = same
after_same k j (Get d r field) o same = sets_same k j d _ _ refl same
after_same k j (PutD r field s) o same = same
after_same k j (GetD d r field) o same = sets_same k j d _ _ refl same
after_same k j (Num d n) o same = sets_same k j d _ _ refl same
after_same k j (Move d s) o same = sets_same k j d _ _ (let l : s ≤ 15 = o.1 in same.registers s (omega arith)) same
after_same k j (Hide d s offset) o same = sets_same k j d _ _ refl same
after_same k j (Unhide d s) o same = sets_same k j d _ _ refl same
after_same k j (Drop r) o same = sets_same k j r _ _ refl same
after_same k j (Push r) o same =
    let e : k.register r ≡ j.register r = same.registers r (omega (arith, o)) in
    record { registers = same.registers; stack = λ i. e i ∷ same.stack i }
after_same k j (Pop r) o same = pops_same k j r k.stack j.stack same.stack same
after_same k j (GPut g r) o same = same
after_same k j (GGet r g) o same = sets_same k j r _ _ refl same
after_same k j (WSet w r long) o same = same
after_same k j (WGet r w) o same = sets_same k j r _ _ refl same
after_same k j (Final r) o same = same
after_same k j (NextFin r) o same = sets_same k j r _ _ refl same
after_same k j (Same r s) o same = same
after_same k j (Collect major) o same = same
after_same k j Sections o same = same

holds_same : (k j : Kinds) (r : ℕ) (kind : Kind) → r ≤ 15 → AreSame k j → k.register r ≡ kind → j.register r ≡ kind
holds_same k j r kind l same h = sym (same.registers r (omega (arith, l))) ∙ h

needs_same : (k j : Kinds) (s : Statement) → HasOperands s → AreSame k j → Needs k s → Needs j s
needs_same k j (Put r field s) o same h = (holds_same k j r _ o.0 same h.0, holds_same k j s _ o.1 same h.1)
needs_same k j (Get d r field) o same h = holds_same k j r _ o.1 same h
needs_same k j (PutD r field s) o same h = (holds_same k j r _ o.0 same h.0, holds_same k j s _ o.1 same h.1)
needs_same k j (GetD d r field) o same h = holds_same k j r _ o.1 same h
needs_same k j (Hide d s offset) o same h = holds_same k j s _ o.1 same h
needs_same k j (Unhide d s) o same h = holds_same k j s _ o.1 same h
needs_same k j (Push r) o same h = subst (λ (xs : List Kind). length xs < 64) same.stack h
needs_same k j (Pop r) o same h = subst (λ (xs : List Kind). 0 < length xs) same.stack h
needs_same k j (GPut g r) o same h = holds_same k j r _ o.1 same h
needs_same k j (WSet w r long) o same h = holds_same k j r _ o.1 same h
needs_same k j (Final r) o same h = holds_same k j r _ o same h
needs_same k j (Same r s) o same h = (holds_same k j r _ o.0 same h.0, holds_same k j s _ o.1 same h.1)
needs_same k j s o same h = tt

find_same : (xs : List Statement) (k j : Kinds) → AllByRecursion HasOperands xs → AreSame k j → FindKinds k xs → FindKinds j xs
find_same [] k j o same h = tt
find_same (s ∷ xs) k j o same h =
    (needs_same k j s o.0 same h.0, find_same xs (kinds_after k s) (kinds_after j s) o.1 (after_same k j s o.0 same) h.1)

swap : (k j : Kinds) → AreSame k j → AreSame j k
swap k j same = record { registers = λ r l. sym (same.registers r l); stack = sym same.stack }

-- a body that ends with the kinds with which it began finds its kinds each time
find_repeated : (k j : Kinds) (body : List Statement) → AreSame k j → AllByRecursion HasOperands body →
    ((rest : List Statement) → AllByRecursion HasOperands rest → FindKinds j rest → FindKinds k (body ++ rest)) →
    (n : ℕ) (rest : List Statement) → AllByRecursion HasOperands rest → FindKinds j rest → FindKinds k (repeated n body ++ rest)
find_repeated k j body same o once zero rest l h = find_same rest j k l (swap k j same) h
find_repeated k j body same o once (suc n) rest l h =
    let next = find_repeated k j body same o once n rest l h in
    let all = all_append HasOperands (repeated n body) rest (all_repeated HasOperands n body o) l in
    subst (FindKinds k) (sym (append_assoc body (repeated n body) rest)) (once (repeated n body ++ rest) all (find_same (repeated n body ++ rest) k j all same next))

find_on : (k : Kinds) (items : List Item) (j : Kinds) → Leads k items j → AllByRecursion HasOperands (written items) →
    (rest : List Statement) → AllByRecursion HasOperands rest → FindKinds j rest → FindKinds k (written_out items ++ rest)
find_on _ _ _ (Done k) o rest l h = h
find_on _ _ _ (Does k item s items j e needs leads) o rest l h =
    let g = subst (AllByRecursion HasOperands) (flat_map-cons item_text item items ∙ ap (λ (xs : List Statement). xs ++ written items) (text_one item s e)) o in
    subst (FindKinds k) (sym (ap (λ (xs : List Statement). xs ++ rest) (flat_map-cons item_out item items ∙ ap (λ (xs : List Statement). xs ++ written_out items) (out_one item s e))))
    (needs, find_on _ items j leads g.1 rest l h)
find_on _ _ _ (Repeats k item times body i items j e leads same behind) o rest l h =
    let g = subst (AllByRecursion HasOperands) (flat_map-cons item_text item items ∙ ap (λ (xs : List Statement). xs ++ written items) (text_repeat item times body e)) o in
    let inside = all_front HasOperands (written body) (written items) g in
    let after = all_back HasOperands (written body) (written items) g in
    let more = written_out items ++ rest in
    let all = all_append HasOperands (written_out items) rest (all_out HasOperands items after) l in
    subst (FindKinds k) (sym (ap (λ (xs : List Statement). xs ++ rest) (flat_map-cons item_out item items ∙ ap (λ (xs : List Statement). xs ++ written_out items) (out_repeat item times body e)) ∙ append_assoc (repeated times (written_out body)) (written_out items) rest))
    (find_repeated k i (written_out body) same (all_out HasOperands body inside)
    (λ tail m f. find_on k body i leads inside tail m f) times more all (find_on i items j behind after rest l h))

finds_kinds : (items : List Item) (j : Kinds) → Leads first_kinds items j → AllByRecursion HasOperands (written items) → FindKinds first_kinds (written_out items)
finds_kinds items j leads o = subst (FindKinds first_kinds) (append-nil (written_out items)) (find_on first_kinds items j leads o [] tt tt)

-- each statement that items do is written
done_is_written : (items : List Item) (s : Statement) → Contains (written_out items) s → Contains (written items) s
done_is_written items s c =
    let P : Statement → Type 0 = Contains (written items) in
    contained P (written_out items) s (all_out P items (all_contained P (written items) (λ x h. h))) c

pub items_do_what_is_written : ItemsDoWhatIsWritten
items_do_what_is_written = record { each = done_is_written; kinds = λ items o none. finds_kinds items none.0 none.1 o }
