-- What a round and the sweep leave of the words of objects that stand still.
use Rattle.std.proofs.Common.{◌≡◌, ◌≢◌, ℕ, ◌+◌, ◌≤◌, ◌<◌, ◌⊎◌, cond, true, false, List, sym, refl, ap, ◌∙◌, subst, inl, inr, arith, le_refl}
use Rattle.std.proofs.lemmas.Bool.{cond-true, cond-false, cases_Bool}
use Rattle.sg_program.specs.declared.program.Program.{Program}
use Rattle.sg_graph.specs.Graph.{Graph}
use Rattle.sg_graph.specs.Book.{Book, Old, nursery_end, old_end}
use Rattle.sg_graph.specs.Heap.{Owner, IsHeap}
use Rattle.sg_round.specs.Area.{IsYoung, is_strong, Traces}
use Rattle.sg_words.specs.Lists.{In, has}
use Rattle.sg_words.specs.Objects.{size_of, sent}
use Rattle.sg_round.specs.Image.{IsImage}
use Rattle.sg_words.proofs.Members.{out, not-in}
use Rattle.sg_words.proofs.Objects.{sent-fixed}
use Rattle.sg_minor.specs.Joined.{ArePins, IsUncopied}
use Rattle.sg_nursery.specs.Parts.{HasTagged}
use Rattle.sg_minor.proofs.Areas.{area_for}
use Rattle.sg_minor.proofs.Named.{field_refers, common, inner-field, size-at}
use Rattle.sg_minor.proofs.Starts.{IsStart, AtGlobal, AtField, AreStarts}
use Rattle.sg_minor.proofs.Opens.{start-word, named, traced-young}

module _ (p : Program) (w : ℕ → ℕ) (g : Graph) (b : Book) (owner : ℕ → Owner) (t : IsHeap p w g b owner) (ambiguous pins : List ℕ)
    (ps : ArePins g b ambiguous pins)
    (w1 : ℕ → ℕ) (tg : HasTagged w pins w1) (items : List ℕ) (sd : AreStarts p w g b pins items)
    (moves fails : List ℕ) (m round : ℕ → ℕ) (cp : IsImage (area_for p) w1 items (λ _. true) moves fails m round (λ _. false)) where
  -- the word x is none of those of objects that moved or failed that the round writes
  pub record IsQuiet (x : ℕ) : Type 0 where
    pub moved : has x moves ≡ false
    pub failed : has x fails ≡ false
    pub field : (a i : ℕ) → In a fails → i < w1 (a + 1) → is_strong (area_for p) w1 a i ≡ true → x ≢ a + 2 + i

  -- a traced object that has a word of the object n is n
  one : (n j a i : ℕ) → b.stands n ≡ true → j < g.size n + 2 → Traces (area_for p) w1 items a → i < size_of w1 a → b.address n + j ≡ a + i → a ≡ b.address n
  one n j a i s l ta k q =
      let u = named p w g b owner t ambiguous pins ps w1 tg items sd a ta in
      let e = u.3 in let z = size-at p w g b owner t ambiguous pins ps w1 tg a u.0 u.2 u.1 e in
      sym e ∙ ap b.address (common p w g b owner t u.0 n (b.address n + j) u.2 s (omega arith) (omega arith) (omega arith) (omega arith))

  -- a word of an object that neither moved nor failed, and the length of any
  pub quiet : (n j : ℕ) → b.stands n ≡ true → j < g.size n + 2 → (j ≡ 1) ⊎ ((has (b.address n) moves ≡ false) × (has (b.address n) fails ≡ false)) → IsQuiet
      (b.address n + j)
  quiet n j s l o = record {
    moved = out (b.address n + j) moves (λ h. (let e = one n j (b.address n + j) 0 s l (cp.moved (b.address n + j) h).0 (omega arith) (omega arith) in elim o [
      | inl k ↦ (omega arith)
      | inr k ↦ not-in (b.address n) moves k.0 (subst (λ (z : ℕ). In z moves) e h)
    ]));
    failed = out (b.address n + j) fails (λ h. (let e = one n j (b.address n + j) 0 s l (cp.failed (b.address n + j) h).0 (omega arith) (omega arith) in elim o [
      | inl k ↦ (omega arith)
      | inr k ↦ not-in (b.address n) fails k.1 (subst (λ (z : ℕ). In z fails) e h)
    ]));
    field = λ a i h k _ q. (let e = one n j a (2 + i) s l (cp.failed a h).0 (omega arith) (omega arith) in elim o [
      | inl u ↦ (omega arith)
      | inr u ↦ not-in (b.address n) fails u.1 (subst (λ (z : ℕ). In z fails) e h)
    ]);
  }

  young-of : (a : ℕ) → Traces (area_for p) w1 items a → IsYoung (area_for p) a
  young-of = traced-young p w g b owner t ambiguous pins ps w1 tg items sd

  -- a word behind the major heap
  pub quiet-behind : (x : ℕ) → nursery_end p ≤ x → IsQuiet x
  quiet-behind x l = record {
    moved = out x moves (λ h. (let y = (young-of x (cp.moved x h).0).1 in absurd (omega arith)));
    failed = out x fails (λ h. (let y = (young-of x (cp.failed x h).0).1 in absurd (omega arith)));
    field = λ a i h k _ q. (let ta = (cp.failed a h).0 in let u = named p w g b owner t ambiguous pins ps w1 tg items sd a ta in
        let e = u.3 in let z = size-at p w g b owner t ambiguous pins ps w1 tg a u.0 u.2 u.1 e in let y = (young-of a ta).1 in
        elim (t.laid.objects.inside u.0 (let d = u.1 in omega arith) u.2) [
          | inl i1 ↦ (let i2 = i1.2 in omega arith)
          | inr i1 ↦ (let i2 = i1.1 in omega arith)
        ]);
  }

  -- a slot of the beginning is sent
  pub start-sent : (s : ℕ) → IsStart p g b pins s → IsUncopied w1 moves m s → IsQuiet s → round s ≡ sent m (w s)
  start-sent s k run q = elim (cases_Bool (has s items)) [
    | inl i ↦ cp.held s i ∙ ap (sent m) (start-word p w g b owner t ambiguous pins ps w1 tg items sd s k)
    | inr i ↦ cp.same s i refl run q.moved q.failed q.field ∙ start-word p w g b owner t ambiguous pins ps w1 tg items sd s k
        ∙ sym (sent-fixed m (w s) (λ x e. cp.others x (out x moves (λ h. not-in s items i (sd.all s x k e (young-of x (cp.moved x h).0))))))
  ]

  -- any other word stays
  pub same-word : (x : ℕ) → (IsStart p g b pins x → ⊥) → IsUncopied w1 moves m x → IsQuiet x → round x ≡ w1 x
  same-word x n run q = cp.same x (out x items (λ h. n (sd.each x h))) refl run q.moved q.failed q.field

  inside-heap : (n x : ℕ) → b.stands n ≡ true → n ≢ 0 → x < b.address n + (g.size n + 2) → x < old_end p
  inside-heap n x s d l = elim (t.laid.objects.inside n (omega arith) s) [
    | inl h ↦ (let h2 = h.2 in omega arith)
    | inr h ↦ (let h2 = h.2 in omega arith)
  ]

  -- no slot of the beginning is one of an object's first two words, or a field that holds a number
  pub no-start-head : (n j : ℕ) → b.stands n ≡ true → n ≢ 0 → j < 2 → IsStart p g b pins (b.address n + j) → ⊥
  no-start-head n j s d l (AtGlobal x u e) = let h = inside-heap n (b.address n + j) s d (omega arith) in let q = e in omega arith
  no-start-head n j s d l (AtField k i dk sk o u x e) =
      let same : n ≡ k = common p w g b owner t n k (b.address n + j) s sk (omega arith) (omega arith) (let z = e in omega arith) (let z = e in omega arith) in
      let a : b.address n ≡ b.address k = ap b.address same in let q = e in absurd (omega arith)

  pub no-start-plain : (n i : ℕ) → b.stands n ≡ true → n ≢ 0 → i < g.size n → field_refers p g n i ≡ false → IsStart p g b pins (b.address n + 2 + i) → ⊥
  no-start-plain n i s d l k (AtGlobal x u e) = let h = inside-heap n (b.address n + 2 + i) s d (omega arith) in let q = e in omega arith
  no-start-plain n i s d l k (AtField j c dj sj o u x e) =
      let same : n ≡ j = common p w g b owner t n j (b.address n + 2 + i) s sj (omega arith) (omega arith) (let z = e in omega arith)
      (let z = e in omega arith) in
      let a : b.address n ≡ b.address j = ap b.address same in
      let ic : i ≡ c = let z = e in omega arith in
      let f : true ≡ false = sym x ∙ ap (λ (z : ℕ). field_refers p g z c) (sym same) ∙ ap (λ (z : ℕ). field_refers p g n z) (sym ic) ∙ k in cc

  -- the length of a standing object isn't touched
  pub length-word : (n : ℕ) → b.stands n ≡ true → n ≢ 0 → IsUncopied w1 moves m (b.address n + 1) → round (b.address n + 1) ≡ w1 (b.address n + 1)
  length-word n s d run = same-word (b.address n + 1) (no-start-head n 1 s d (le_refl _)) run (quiet n 1 s (omega arith) (inl refl))

  -- the tag and a field of an object that neither moved nor failed
  pub first-word : (n : ℕ) → b.stands n ≡ true → n ≢ 0 → has (b.address n) moves ≡ false → has (b.address n) fails ≡ false → IsUncopied w1 moves m
      (b.address n) → round (b.address n) ≡ w1 (b.address n)
  first-word n s d nm nf run =
      let z : b.address n + 0 ≡ b.address n = omega arith in
      same-word (b.address n) (λ h. no-start-head n 0 s d (omega arith) (subst (IsStart p g b pins) (sym z) h)) run
      (subst IsQuiet z (quiet n 0 s (omega arith) (inr (nm, nf))))

  pub field-word : (n i : ℕ) → b.stands n ≡ true → n ≢ 0 → i < g.size n → has (b.address n) moves ≡ false → has (b.address n) fails ≡ false →
      (b.section n ≡ Old) ⊎ In (b.address n) pins →
      IsUncopied w1 moves m (b.address n + 2 + i) → round (b.address n + 2 + i) ≡ cond (field_refers p g n i) (sent m (w (b.address n + 2 + i)))
      (w (b.address n + 2 + i))
  field-word n i s d l nm nf o run =
      let e : b.address n + (2 + i) ≡ b.address n + 2 + i = omega arith in
      let q = subst IsQuiet e (quiet n (2 + i) s (omega arith) (inr (nm, nf))) in
      elim (cases_Bool (field_refers p g n i)) [
        | inl k ↦ start-sent (b.address n + 2 + i) (AtField n i d s o l k refl) run q ∙ sym (cond-true _ _ _ k)
        | inr k ↦ same-word (b.address n + 2 + i) (no-start-plain n i s d l k) run q ∙ inner-field p w g b owner t ambiguous pins ps w1 tg n i s l ∙ sym
            (cond-false _ _ _ k)
      ]
