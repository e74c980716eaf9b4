-- What is traced in the words, and what the graph's roots reach.
use Rattle.std.proofs.Common.{◌≡◌, ◌≢◌, ℕ, ◌+◌, ◌≤◌, ◌<◌, ◌⊎◌, ◌↔◌, ltb, leb, cond, Bool, true, false, List, sym, refl, ap, ◌∙◌, subst, inl, inr, arith, le_refl}
use Rattle.std.proofs.lemmas.Bool.{cond-true, cond-false, cases_lt, cases_Bool, le-leb, lt-ltb, lt-leb, le-ltb}
use Rattle.std.specs.List.{Contains}
use Rattle.sg_words.specs.Address.{byte_at}
use Rattle.sg_words.specs.Tags.{plain_word}
use Rattle.sg_program.specs.declared.program.Program.{Program}
use Rattle.sg_desc.specs.Shapes.{is_strong as is_strong_by, strong_holds}
use Rattle.sg_program.specs.Scripts.{kind_of, words_for}
use Rattle.sg_graph.specs.Graph.{Graph, Entry, Ref, Int, Inner}
use Rattle.sg_graph.specs.Book.{Book, Young, Old, Large, nursery_end, old_end, word_of}
use Rattle.sg_words.specs.Sections.{nursery_base, globals_base}
use Rattle.sg_graph.specs.Pause.{IsTarget, IsReached, IsRoot}
use Rattle.sg_graph.specs.Invariants.{IsPlain}
use Rattle.sg_words.specs.Reach.{Reached, Root, Next}
use Rattle.sg_words.proofs.Closure.{within_closed}
use Rattle.sg_graph.specs.Laws.{QuietPause}
use Rattle.sg_graph.specs.Heap.{Owner, Of, IsOfSort, IsKnownEntry, IsHeap, layout_of}
use Rattle.sg_round.specs.Area.{Area, IsYoung, class_of, is_strong, Points}
use Rattle.sg_words.specs.Lists.{has}
use Rattle.sg_minor.specs.Joined.{IsItem, IsKept, IsTraced}

pub of-same : (m n : ℕ) → Of m ≡ Of n → m ≡ n
of-same m n e = cc

pub class-of-plain : (c : ℕ) → class_of (plain_word c) ≡ c
class-of-plain c = omega arith

pub some-name : (n : ℕ) → n ≢ 0 → 1 ≤ n
some-name n d = omega arith

pub name-some : (n : ℕ) → 1 ≤ n → n ≢ 0
name-some n l e = omega arith

-- a field of the sort of references is one
pub ref-of : (e : Entry) → IsOfSort true e → (k : ℕ) × (e ≡ Ref k)
ref-of (Ref k) h = (k, refl)
ref-of (Int v) h = absurd h
ref-of (Inner v o) h = absurd h

-- an area has the nursery of the program's settings, and its classes
pub record IsAreaOf (p : Program) (area : Area) : Type 0 where
  pub low : area.low ≡ nursery_base
  pub high : area.high ≡ nursery_end p
  pub strong : (c i n : ℕ) → area.strong c i ≡ is_strong_by (kind_of p c) i n

module _ (p : Program) (area : Area) (tie : IsAreaOf p area) (w : ℕ → ℕ) (g : Graph) (b : Book) (ambiguous : List ℕ) (owner : ℕ → Owner)
    (t : IsHeap p w g b owner) where
  pub young-is : (x : ℕ) → IsYoung area x → (nursery_base ≤ x) × (x < nursery_end p)
  young-is x y = let low = tie.low in let high = tie.high in let l = y.0 in let u = y.1 in (omega arith, omega arith)

  pub is-young-at : (x : ℕ) → nursery_base ≤ x → x < nursery_end p → IsYoung area x
  is-young-at x l u = let low = tie.low in let high = tie.high in (omega arith, omega arith)

  -- two standing names at one address are one
  pub same-name : (m n : ℕ) → b.stands m ≡ true → b.stands n ≡ true → b.address m ≡ b.address n → m ≡ n
  same-name m n p q e = of-same m n (sym (t.laid.objects.owns m (b.address m) p (le_refl _) (omega arith)) ∙ ap owner e ∙ t.laid.objects.owns n (b.address n) q
      (le_refl _) (omega arith))

  -- a standing object is in the nursery or in the major heap
  pub record IsIn (n : ℕ) : Type 0 where
    pub section : b.section n ≡ Young
    pub young : IsYoung area (b.address n)
    pub above : nursery_base ≤ b.address n
    pub below : b.address n + words_for (g.size n) ≤ nursery_end p

  pub record IsOut (n : ℕ) : Type 0 where
    pub section : b.section n ≡ Old
    pub old : IsYoung area (b.address n) → ⊥
    pub above : nursery_end p ≤ b.address n
    pub below : b.address n + words_for (g.size n) ≤ old_end p

  pub section : (n : ℕ) → b.stands n ≡ true → n ≢ 0 → IsIn n ⊎ IsOut n
  section n s d = elim (t.laid.objects.inside n (some-name n d) s) [
    | inl i ↦ inl (let u = i.2 in record { section = i.0; young = is-young-at (b.address n) i.1 (omega arith); above = i.1; below = i.2 })
    | inr i ↦ inr (record { section = i.0; old = λ y. (let l = (young-is (b.address n) y).1 in let u = i.1 in omega arith); above = i.1; below = i.2 })
  ]

  pub young-named : (n : ℕ) → IsYoung area (b.address n) → n ≢ 0
  young-named n y e = let u = ap b.address e in let z = t.laid.nothing.at_nil in let l = (young-is (b.address n) y).0 in omega arith

  pub young-section : (n : ℕ) → b.stands n ≡ true → IsYoung area (b.address n) → b.section n ≡ Young
  young-section n s y = elim (section n s (young-named n y)) [
    | inl i ↦ i.section
    | inr o ↦ absurd (o.old y)
  ]

  pub size-is : (n : ℕ) → n ≢ 0 → b.stands n ≡ true → w (b.address n + 1) ≡ g.size n
  size-is n d s = (t.headed n (some-name n d) s).1

  pub strong-of : (n i : ℕ) → b.stands n ≡ true → n ≢ 0 → is_strong area w (b.address n) i ≡ is_strong_by (kind_of p (g.class n)) i (g.size n)
  strong-of n i s d =
      ap (λ (c : ℕ). area.strong (class_of c) i) (t.headed n (some-name n d) s).0
      ∙ ap (λ (c : ℕ). area.strong c i) (class-of-plain (g.class n))
      ∙ tie.strong (g.class n) i (g.size n)

  -- a strong field
  pub field-ref : (n i : ℕ) → b.stands n ≡ true → i < g.size n → is_strong_by (kind_of p (g.class n)) i (g.size n) ≡ true → (k : ℕ) × (g.field n i ≡ Ref k)
  field-ref n i s l e = ref-of (g.field n i) (subst (λ z. IsOfSort z (g.field n i)) (strong_holds (kind_of p (g.class n)) i (g.size n) e)
      (t.laid.fields.sorted n i s l))

  pub ref-word : (n i k : ℕ) → b.stands n ≡ true → i < g.size n → g.field n i ≡ Ref k → w (b.address n + 2 + i) ≡ byte_at (b.address k)
  ref-word n i k s l e = t.laid.fields.holds n i s l ∙ ap (word_of b.address) e

  pub ref-stands : (n i k : ℕ) → b.stands n ≡ true → i < g.size n → g.field n i ≡ Ref k → b.stands k ≡ true
  ref-stands n i k s l e = (subst (IsKnownEntry w g b) e (t.laid.fields.known n i s l)).0

  -- a field of the words is one of the graph, and the other way round
  pub field-name : (n c : ℕ) → n ≢ 0 → b.stands n ≡ true → Points area w (b.address n) c →
      (k : ℕ) × (k ≢ 0) × (b.stands k ≡ true) × (b.address k ≡ c) × IsTarget p g n k
  field-name n c d s h =
      let i = h.1.0 in
      let l : i < g.size n = let u = h.1.1 in let z = size-is n d s in omega arith in
      let e : is_strong_by (kind_of p (g.class n)) i (g.size n) ≡ true = sym (strong-of n i s d) ∙ h.1.2 in
      let r = field-ref n i s l e in
      let same : b.address r.0 ≡ c = let u = ref-word n i r.0 s l r.1 in let q = h.1.3 in omega arith in
      let k : r.0 ≢ 0 = young-named r.0 (subst (IsYoung area) (sym same) h.0) in
      (r.0, k, ref-stands n i r.0 s l r.1, same, (k, (i, l, e, r.1)))

  pub name-field : (n k : ℕ) → n ≢ 0 → b.stands n ≡ true → IsTarget p g n k → IsYoung area (b.address k) → Points area w (b.address n) (b.address k)
  name-field n k d s h y =
      let i = h.1.0 in
      (y, (i, let u = h.1.1 in let z = size-is n d s in omega arith, strong-of n i s d ∙ h.1.2, ref-word n i k s h.1.1 h.1.3))

  -- a global
  pub global-name : (x a : ℕ) → x < 64 → w (globals_base (layout_of p) + x) ≡ byte_at a → b.address (g.global x) ≡ a
  global-name x a l e = let u = t.laid.globals.holds x l in omega arith

  -- what is reached in the words has a name that the roots reach
  pub record IsNamed (a : ℕ) : Type 0 where
    pub name : ℕ
    pub some : name ≢ 0
    pub stands : b.stands name ≡ true
    pub at : b.address name ≡ a
    pub reached : Reached (IsTarget p g) (IsRoot p g b ambiguous) name

  pub name-of : (a : ℕ) → Reached (Points area w) (IsItem p area w g b ambiguous) a → IsNamed a
  name-of _ (Root a (y, h)) = elim h [
    | inl h ↦ record { name = h.0; some = h.1.0.0; stands = h.1.0.1; at = h.2; reached = Root h.0 (h.1.0.0, h.1.0.1, inr (inr (inl h.1.1))) }
    | inr h ↦ elim h [
      | inl h ↦ (let e : b.address (g.global h.0) ≡ a = global-name h.0 a h.1 h.2 in
          let d = young-named (g.global h.0) (subst (IsYoung area) (sym e) y) in
          let s = (t.laid.globals.known h.0 h.1).0 in
          record { name = g.global h.0; some = d; stands = s; at = e; reached = Root (g.global h.0) (d, s, inr (inr (inr (inl (h.0, h.1, refl))))) })
      | inr h ↦ (let f = field-name h.0 a h.1 h.2 h.4 in record {
        name = f.0;
        some = f.1;
        stands = f.2;
        at = f.3;
        reached = Next h.0 f.0
            (Root h.0 (h.1, h.2, inl h.3)) f.4;
      })
    ]
  ]
  name-of _ (Next a c r q) =
      let n = name-of a r in
      let f = field-name n.name c n.some n.stands (subst (λ x. Points area w x c) (sym n.at) q) in
      record { name = f.0; some = f.1; stands = f.2; at = f.3; reached = Next n.name f.0 n.reached f.4 }

  pub reached-young : (a : ℕ) → Reached (Points area w) (IsItem p area w g b ambiguous) a → IsYoung area a
  reached-young _ (Root a h) = h.0
  reached-young _ (Next a c r q) = q.0

  -- whether a is in the nursery
  pub young : ℕ → Bool
  young a = cond (leb area.low a) (ltb a area.high) false

  pub young-yes : (a : ℕ) → IsYoung area a → young a ≡ true
  unfolding young
  young-yes a y = cond-true _ _ _ (le-leb _ _ y.0) ∙ lt-ltb _ _ y.1

  pub young-no : (a : ℕ) → (IsYoung area a → ⊥) → young a ≡ false
  unfolding young
  young-no a n = elim (cases_lt a area.low) [
    | inl l ↦ cond-false _ _ _ (lt-leb _ _ l)
    | inr l ↦ cond-true _ _ _ (le-leb _ _ l) ∙ elim (cases_lt a area.high) [
      | inl q ↦ absurd (n (l, q))
      | inr q ↦ le-ltb _ _ q
    ]
  ]

  pub is-young : (a : ℕ) → IsYoung area a ⊎ (IsYoung area a → ⊥)
  is-young a = elim (cases_lt a area.low) [
    | inl l ↦ inr (λ y. (let u = y.0 in omega arith))
    | inr l ↦ elim (cases_lt a area.high) [
      | inl q ↦ inl (l, q)
      | inr q ↦ inr (λ y. (let u = y.1 in omega arith))
    ]
  ]

  module _ (stays moves : List ℕ) (tr : IsTraced p area w g b ambiguous stays moves) where
    -- whether the name stands after the pause
    pub kept : ℕ → Bool
    kept n = cond (b.stands n) (cond (young (b.address n)) (cond (has (b.address n) stays) true (has (b.address n) moves)) true) false

    pub keeps-young : (n : ℕ) → b.stands n ≡ true → IsKept stays moves (b.address n) → kept n ≡ true
    unfolding kept
    keeps-young n s h = cond-true _ _ _ s ∙ elim (cases_Bool (young (b.address n))) [
      | inl y ↦ cond-true _ _ _ y ∙ elim h [
        | inl e ↦ cond-true _ _ _ e
        | inr e ↦ elim (cases_Bool (has (b.address n) stays)) [
          | inl q ↦ cond-true _ _ _ q
          | inr q ↦ cond-false _ _ _ q ∙ e
        ]
      ]
      | inr y ↦ cond-false _ _ _ y
    ]

    pub keeps-old : (n : ℕ) → b.stands n ≡ true → (IsYoung area (b.address n) → ⊥) → kept n ≡ true
    unfolding kept
    keeps-old n s o = cond-true _ _ _ s ∙ cond-false _ _ _ (young-no (b.address n) o)

    pub kept-stands : (n : ℕ) → kept n ≡ true → b.stands n ≡ true
    unfolding kept
    kept-stands n k = elim (cases_Bool (b.stands n)) [
      | inl s ↦ s
      | inr s ↦ absurd (let e = sym (cond-false _ (cond (young (b.address n)) (cond (has (b.address n) stays) true (has (b.address n) moves)) true) false s) ∙
          k in cc)
    ]

    pub kept-has : (n : ℕ) → kept n ≡ true → IsYoung area (b.address n) → IsKept stays moves (b.address n)
    unfolding kept
    kept-has n k y =
        let e : cond (has (b.address n) stays) true (has (b.address n) moves) ≡ true = sym
        (cond-true _ _ _ (kept-stands n k) ∙ cond-true _ _ _ (young-yes (b.address n) y)) ∙ k in
        elim (cases_Bool (has (b.address n) stays)) [
          | inl q ↦ inl q
          | inr q ↦ inr (sym (cond-false _ true (has (b.address n) moves) q) ∙ e)
        ]

    pub kept-nothing : kept 0 ≡ true
    kept-nothing = keeps-old 0 t.laid.nothing.stands_nil (λ y. young-named 0 y refl)

    -- by section
    pub keeps : (n : ℕ) → b.stands n ≡ true → (IsYoung area (b.address n) → IsKept stays moves (b.address n)) → kept n ≡ true
    keeps n s h = elim (is-young (b.address n)) [
      | inl y ↦ keeps-young n s (h y)
      | inr o ↦ keeps-old n s o
    ]

    pub global-kept : (x : ℕ) → x < 64 → kept (g.global x) ≡ true
    global-kept x l = keeps (g.global x) (t.laid.globals.known x l).0 (λ y. tr.items (b.address (g.global x)) (y, inr (inl (x, l, t.laid.globals.holds x l))))

    not-old : (n : ℕ) → b.stands n ≡ true → IsYoung area (b.address n) → b.section n ≡ Old → ⊥
    not-old n s y o = let e = sym (young-section n s y) ∙ o in cc

    not-large : (n : ℕ) → b.stands n ≡ true → IsYoung area (b.address n) → b.section n ≡ Large → ⊥
    not-large n s y o = let e = sym (young-section n s y) ∙ o in cc

    pub root-kept : IsPlain p g → (n : ℕ) → IsRoot p g b ambiguous n → kept n ≡ true
    root-kept plain n r = keeps n r.1 (λ y. elim r.2 [
      | inl o ↦ absurd (not-old n r.1 y o)
      | inr h ↦ elim h [
        | inl o ↦ absurd (not-large n r.1 y o)
        | inr h ↦ elim h [
          | inl q ↦ tr.items (b.address n) (y, inl (n, ((r.0, r.1, young-section n r.1 y), q), refl))
          | inr h ↦ elim h [
            | inl x ↦ tr.items (b.address n) (y, inr (inl (x.0, x.1, t.laid.globals.holds x.0 x.1 ∙ ap (λ z. byte_at (b.address z)) x.2)))
            | inr x ↦ absurd (let here = subst (λ (l : List ℕ). Contains l n) plain.ready x in let l = here.1 in omega arith)
          ]
        ]
      ]
    ])

    pub target-kept : (n k : ℕ) → n ≢ 0 → kept n ≡ true → IsTarget p g n k → kept k ≡ true
    target-kept n k d h x =
        let s = kept-stands n h in
        let u : b.stands k ≡ true = ref-stands n x.1.0 k s x.1.1 x.1.3 in
        keeps k u (λ y. elim (section n s d) [
          | inl v ↦ tr.closed (b.address n) (b.address k) (kept-has n h v.young) (name-field n k d s x y)
          | inr v ↦ tr.items (b.address k) (y, inr (inr (n, d, s, v.section, name-field n k d s x y)))
        ])

    reached-kept : IsPlain p g → (n : ℕ) → Reached (IsTarget p g) (IsRoot p g b ambiguous) n → (n ≢ 0) × (kept n ≡ true)
    reached-kept plain = within_closed (IsTarget p g) (IsRoot p g b ambiguous) (λ n. (n ≢ 0) × (kept n ≡ true)) (λ n r. (r.0, root-kept plain n r))
        (λ n k h x. (x.0, target-kept n k h.0 h.1 x))

    kept-reached : (n : ℕ) → n ≢ 0 → kept n ≡ true → Reached (IsTarget p g) (IsRoot p g b ambiguous) n
    kept-reached n d k =
        let s = kept-stands n k in
        elim (section n s d) [
          | inl v ↦ (let r = name-of (b.address n) (tr.reached (b.address n) (kept-has n k v.young)) in
              subst (Reached (IsTarget p g) (IsRoot p g b ambiguous)) (same-name r.name n r.stands s r.at) r.reached)
          | inr v ↦ Root n (d, s, inl v.section)
        ]

    -- exactly what the roots reach is kept
    pub exactly : QuietPause → IsPlain p g → (n : ℕ) → n ≢ 0 → kept n ≡ true ↔ IsReached p g (IsRoot p g b ambiguous) n
    exactly law plain n d = (
      λ k. (law.reaches p g b ambiguous plain bound n).1 (kept-reached n d k),
      λ r. (reached-kept plain n ((law.reaches p g b ambiguous plain bound n).0 r)).1,
    )
      where
        bound : (m : ℕ) → Reached (IsTarget p g) (IsRoot p g b ambiguous) m → (1 ≤ m) × (m ≤ g.count)
        bound m r = let h = reached-kept plain m r in (some-name m h.0, t.laid.objects.given m (kept-stands m h.1))
