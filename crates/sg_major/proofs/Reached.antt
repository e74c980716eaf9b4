-- Exactly the objects that the roots reach are marked.
use Rattle.std.proofs.Common.{◌≡◌, ◌≢◌, ℕ, ◌+◌, ◌≤◌, ◌<◌, ◌⊎◌, ◌↔◌, ◌==◌, cond, Bool, true, false, Some, List, sym, refl, ap, ◌∙◌, subst, inl, inr, arith}
use Rattle.std.proofs.lemmas.Bool.{cond-true, cond-false, cases_eq, cases_Bool, ne_eqb, false≢true}
use Rattle.std.specs.List.{Contains}
use Rattle.sg_words.specs.Address.{byte_at, word_at}
use Rattle.sg_words.specs.Reach.{Reached, Root, Next}
use Rattle.sg_words.specs.Sections.{globals_base, IsLayout}
use Rattle.sg_words.specs.declared.layout.Layout.{Layout}
use Rattle.sg_words.proofs.Closure.{within_closed}
use Rattle.sg_program.specs.declared.program.Program.{Program}
use Rattle.sg_graph.specs.Graph.{Graph}
use Rattle.sg_graph.specs.Book.{Book}
use Rattle.sg_graph.specs.Heap.{Owner, IsHeap, layout_of}
use Rattle.sg_graph.specs.Pause.{IsTarget, IsPause}
use Rattle.sg_graph.specs.Major.{IsMajorRoot}
use Rattle.sg_graph.specs.Invariants.{IsPlain}
use Rattle.sg_graph.specs.Laws.{QuietPause}
use Rattle.sg_space.specs.Space.{Contents}
use Rattle.sg_space.specs.Standing.{word}
use Rattle.sg_heap.specs.Fronts.{fronts, HoldsStrong, IsFronted}
use Rattle.sg_mark.specs.Marking.{IsReachedFrom}
use Rattle.sg_major.specs.Parts.{IsRootOf, AreRoots}

module _ (p : Program) (t : Contents) (g : Graph) (b : Book) (owner : ℕ → Owner) (layout : t.layout ≡ layout_of p) (sections : IsLayout t.layout) (heap : IsHeap p (word t) g b owner)
    (f : IsFronted p t g b owner) (ambiguous roots : List ℕ) (are : AreRoots t (fronts b.address owner) ambiguous roots) where
  some-name : (n : ℕ) → n ≢ 0 → 1 ≤ n
  some-name n d = omega arith

  -- an object stands above the words that are never given away
  pub above : (n : ℕ) → n ≢ 0 → b.stands n ≡ true → 512 ≤ b.address n
  above n d s = elim (heap.laid.objects.inside n (some-name n d) s) [
    | inl i ↦ i.1
    | inr i ↦ (let low = i.1 in omega arith)
  ]

  globals_at : (x : ℕ) → x < 64 → word t (globals_base t.layout + x) ≡ byte_at (b.address (g.global x))
  globals_at x l = ap (λ (z : Layout). word t (globals_base z + x)) layout ∙ heap.laid.globals.holds x l

  -- what is reached over words has a name that the roots reach
  record IsNamed (h : ℕ) : Type 0 where
    pub name : ℕ
    pub some : name ≢ 0
    pub stands : b.stands name ≡ true
    pub at : b.address name ≡ h
    pub reached : Reached (IsTarget p g) (IsMajorRoot p g b ambiguous) name

  root_named : (h : ℕ) → IsRootOf t (fronts b.address owner) ambiguous (byte_at h) → IsNamed h
  root_named h (inl (v, i, q)) =
      let here : word_at (byte_at h) ≡ h = omega arith in
      let n = f.named_front (word_at v) h (q.0 ∙ ap Some here) in
      let o = f.owned n.0 (word_at v) n.2 in
      let from = o.1 in
      let to = o.2 in
      record {
        name = n.0;
        some = n.1;
        stands = o.0;
        at = n.3;
        reached = Root n.0 (n.1, o.0, inl (v, i, (omega arith, omega arith)));
      }
  root_named h (inr (x, l, (e, a))) =
      let at : b.address (g.global x) ≡ h = (let u = globals_at x l in omega arith) in
      let s = (heap.laid.globals.known x l).0 in
      let d : g.global x ≢ 0 = λ z. (let nil = ap b.address z ∙ heap.laid.nothing.at_nil in let low = a.0 in omega arith) in
      record { name = g.global x; some = d; stands = s; at = at; reached = Root (g.global x) (d, s, inr (inl (x, l, refl))) }

  named : (h : ℕ) → IsReachedFrom t (fronts b.address owner) roots h → IsNamed h
  named _ (Root h r) = root_named h (are.each (byte_at h) r)
  named _ (Next h k r q) =
      let n = named h r in
      let to = f.named_front k k q.target in
      let o = f.owned to.0 k to.2 in
      let low = above to.0 to.1 o.0 in
      let at = to.3 in
      let strong : HoldsStrong t h k = record { class = q.class; shape = q.shape; field = q.field; shape_is = q.shape_is; tag = q.tag; within = q.within; strong = q.strong; holds = q.holds } in
      let m = f.held_target n.name k n.some n.stands (λ z. absurd (omega arith)) (subst (λ x. HoldsStrong t x k) (sym n.at) strong) in
      record { name = m.0; some = m.1.some; stands = m.1.stands; at = m.1.at; reached = Next n.name m.0 n.reached m.2 }

  -- and what the roots reach is reached over words
  abbrev IsFound : ℕ → Type 0
  IsFound n = (n ≢ 0) × (b.stands n ≡ true) × IsReachedFrom t (fronts b.address owner) roots (b.address n)

  front_is : (n : ℕ) → n ≢ 0 → b.stands n ≡ true → fronts b.address owner (b.address n) ≡ Some (b.address n)
  front_is n d s = f.is_owned n (b.address n) d (f.owns_first n s)

  root_found : IsPlain p g → (n : ℕ) → IsMajorRoot p g b ambiguous n → IsFound n
  root_found plain n r = (
    r.0,
    r.1,
    Root (b.address n) (elim r.2 [
      | inl (v, i, q) ↦
          (let from = q.0 in
          let to = q.1 in
          let e = f.is_owned n (word_at v) r.0 (f.owns n (word_at v) r.1 (omega arith) (omega arith)) in
          let here : word_at (byte_at (b.address n)) ≡ b.address n = omega arith in
          are.all (byte_at (b.address n)) (inl (v, i, (e ∙ ap Some (sym here), omega arith))))
      | inr h ↦ elim h [
        | inl x ↦
            (let low = above n r.0 r.1 in
            are.all (byte_at (b.address n)) (inr (x.0, x.1, (globals_at x.0 x.1 ∙ ap (λ z. byte_at (b.address z)) x.2, (omega arith, small n r.0 r.1, omega arith)))))
        | inr x ↦ absurd (let here = subst (λ (l : List ℕ). Contains l n) plain.ready x in let l = here.1 in omega arith)
      ]
    ]),
  )
    where
      small : (n : ℕ) → n ≢ 0 → b.stands n ≡ true → byte_at (b.address n) < 1099511627776
      small n d s =
          let nursery = f.nursery_is in
          let blocks = f.blocks_is in
          let most = sections.nursery_most in
          let blocks_most = sections.blocks_most in
          elim (heap.laid.objects.inside n (some-name n d) s) [
            | inl i ↦ (let end = i.2 in omega arith)
            | inr i ↦ (let end = i.2 in omega arith)
          ]

  target_found : (m n : ℕ) → IsFound m → IsTarget p g m n → IsFound n
  target_found m n h q =
      let o = f.target_held m n h.0 h.1 q in
      let s = o.1 in (
        q.0,
        o.0,
        Next (b.address m) (b.address n) h.2 (record {
          class = s.class;
          shape = s.shape;
          field = s.field;
          stands = front_is m h.0 h.1;
          target = front_is n q.0 o.0;
          shape_is = s.shape_is;
          tag = s.tag;
          within = s.within;
          strong = s.strong;
          holds = s.holds;
        }),
      )

  found : IsPlain p g → (n : ℕ) → Reached (IsTarget p g) (IsMajorRoot p g b ambiguous) n → IsFound n
  found plain = within_closed (IsTarget p g) (IsMajorRoot p g b ambiguous) IsFound (root_found plain) target_found

  -- which names are live: nothing, and each that stands and whose object is marked
  module _ (now : ℕ → Bool) (exact : (h : ℕ) → fronts b.address owner h ≡ Some h → (now h ≡ true) ↔ ((false ≡ true) ⊎ IsReachedFrom t (fronts b.address owner) roots h)) where
    pub live : ℕ → Bool
    live n = cond (n == 0) true (cond (b.stands n) (now (b.address n)) false)

    pub kept : ℕ → Bool
    kept n = cond (n == 0) false (live n)

    pub live_nil : live 0 ≡ true
    unfolding live
    live_nil = refl

    pub kept_nil : kept 0 ≡ false
    unfolding kept
    kept_nil = refl

    pub live_kept : (n : ℕ) → n ≢ 0 → live n ≡ kept n
    unfolding kept
    live_kept n d = sym (cond-false _ false (live n) (ne_eqb n 0 d))

    pub now_live : (n : ℕ) → n ≢ 0 → b.stands n ≡ true → now (b.address n) ≡ true → live n ≡ true
    unfolding live
    now_live n d s e = cond-false _ true _ (ne_eqb n 0 d) ∙ cond-true _ (now (b.address n)) false s ∙ e

    inner : (n : ℕ) → n ≢ 0 → live n ≡ true → cond (b.stands n) (now (b.address n)) false ≡ true
    unfolding live
    inner n d l = sym (cond-false _ true (cond (b.stands n) (now (b.address n)) false) (ne_eqb n 0 d)) ∙ l

    pub live_stood : (n : ℕ) → live n ≡ true → b.stands n ≡ true
    live_stood n l = elim (cases_eq n 0) [
      | inl z ↦ ap b.stands z ∙ heap.laid.nothing.stands_nil
      | inr d ↦ elim (cases_Bool (b.stands n)) [
        | inl s ↦ s
        | inr s ↦ absurd (false≢true (sym (cond-false _ (now (b.address n)) false s) ∙ inner n d l))
      ]
    ]

    pub live_now : (n : ℕ) → n ≢ 0 → live n ≡ true → now (b.address n) ≡ true
    live_now n d l = sym (cond-true _ (now (b.address n)) false (live_stood n l)) ∙ inner n d l

    live_reached : (n : ℕ) → n ≢ 0 → live n ≡ true → Reached (IsTarget p g) (IsMajorRoot p g b ambiguous) n
    live_reached n d l =
        let s = live_stood n l in
        elim ((exact (b.address n) (front_is n d s)).0 (live_now n d l)) [
          | inl z ↦ absurd (false≢true z)
          | inr r ↦
              let k = named (b.address n) r in
              let same = f.one_owner k.name n (b.address n) (ap owner (sym k.at) ∙ f.owns_first k.name k.stands) (f.owns_first n s) in
              subst (Reached (IsTarget p g) (IsMajorRoot p g b ambiguous)) same k.reached
        ]

    reached_live : IsPlain p g → (n : ℕ) → Reached (IsTarget p g) (IsMajorRoot p g b ambiguous) n → live n ≡ true
    reached_live plain n r = let h = found plain n r in now_live n h.0 h.1 ((exact (b.address n) (front_is n h.0 h.1)).1 (inr h.2))

    bound : IsPlain p g → (m : ℕ) → Reached (IsTarget p g) (IsMajorRoot p g b ambiguous) m → (1 ≤ m) × (m ≤ g.count)
    bound plain m r = let h = found plain m r in (some-name m h.0, heap.laid.objects.given m h.1)

    -- the pause keeps exactly what the roots reach
    pub pauses : QuietPause → IsPlain p g → IsPause p g (IsMajorRoot p g b ambiguous) g kept
    pauses law plain = law.pause_major p g b ambiguous plain kept
        (λ n k. elim (cases_eq n 0) [
          | inl z ↦ absurd (false≢true (sym kept_nil ∙ ap kept (sym z) ∙ k))
          | inr d ↦ (some-name n d, heap.laid.objects.given n (live_stood n (live_kept n d ∙ k)))
        ])
        (λ n d. (
          λ k. (law.reaches_major p g b ambiguous plain (bound plain) n).1 (live_reached n d (live_kept n d ∙ k)),
          λ r. sym (live_kept n d) ∙ reached_live plain n ((law.reaches_major p g b ambiguous plain (bound plain) n).0 r),
        ))

    -- what live names refer to is live
    pub live_closed : IsPlain p g → (n k : ℕ) → n ≢ 0 → live n ≡ true → IsTarget p g n k → live k ≡ true
    live_closed plain n k d l q = reached_live plain k (Next n k (live_reached n d l) q)

    pub live_global : IsPlain p g → (x : ℕ) → x < 64 → live (g.global x) ≡ true
    live_global plain x l = elim (cases_eq (g.global x) 0) [
      | inl z ↦ ap live z ∙ live_nil
      | inr d ↦ reached_live plain (g.global x) (Root (g.global x) (d, (heap.laid.globals.known x l).0, inr (inl (x, l, refl))))
    ]
