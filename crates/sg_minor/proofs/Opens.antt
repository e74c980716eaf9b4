-- The heap with the tags of pinned objects is an opening of a round.
use Rattle.std.proofs.Common.{◌≡◌, ◌≢◌, ℕ, ◌+◌, ◌≤◌, ◌<◌, ◌⊎◌, Bool, true, false, List, sym, ap, ◌∙◌, subst, inl, inr, arith, length}
use Rattle.sg_words.specs.Address.{byte_at}
use Rattle.sg_words.specs.Tags.{plain_word}
use Rattle.sg_words.specs.Reach.Reached.{Root, Next}
use Rattle.sg_program.specs.declared.program.Program.{Program}
use Rattle.sg_graph.specs.Graph.{Graph}
use Rattle.sg_graph.specs.Book.{Book, old_end}
use Rattle.sg_words.specs.Sections.{nursery_base, words_end}
use Rattle.sg_graph.specs.Heap.{Owner, Of, layout_of, IsHeap}
use Rattle.sg_round.specs.Area.{IsYoung, IsFixed, is_strong, Points, Traces}
use Rattle.std.proofs.lemmas.Bool.{cases_Bool}
use Rattle.sg_words.specs.Lists.{In}
use Rattle.sg_words.proofs.Members.{not-in}
use Rattle.sg_round.specs.Round.{IsMet, IsOpening}
use Rattle.sg_minor.specs.Joined.{ArePins}
use Rattle.sg_nursery.specs.Parts.{HasTagged}
use Rattle.sg_minor.proofs.Areas.{area_for}
use Rattle.sg_minor.proofs.Named.{field_refers, byte-same, common, first, young-named, in-nursery, in-old, nursery, field-name, outer, inner-field, tag-of, strong, field-of, size-at}
use Rattle.sg_minor.proofs.Zoned.{IsZone}
use Rattle.sg_minor.proofs.Starts.{IsStart, AtGlobal, AtField, AreStarts}

module _ (p : Program) (w : ℕ → ℕ) (g : Graph) (b : Book) (owner : ℕ → Owner) (t : IsHeap p w g b owner) (ambiguous pins : List ℕ)
    (ps : ArePins g b ambiguous pins)
    (w1 : ℕ → ℕ) (tg : HasTagged w pins w1) (items : List ℕ) (sd : AreStarts p w g b pins items) where
  -- what a slot of the beginning holds
  pub start-word : (s : ℕ) → IsStart p g b pins s → w1 s ≡ w s
  start-word s (AtGlobal x l e) = outer p w g b owner t ambiguous pins ps w1 tg s (λ y. (let u = e in let v = y.1 in absurd (omega arith)))
  start-word s (AtField n i d st o l e q) = ap w1 q ∙ inner-field p w g b owner t ambiguous pins ps w1 tg n i st l ∙ ap w (sym q)

  start-named : (s a : ℕ) → IsStart p g b pins s → w s ≡ byte_at a → IsYoung (area_for p) a → (n : ℕ) × (n ≢ 0) × (b.stands n ≡ true) × (b.address n ≡ a)
  start-named s a (AtGlobal x l e) q y =
      let f : b.address (g.global x) ≡ a = byte-same (b.address (g.global x)) a (sym (t.laid.globals.holds x l) ∙ ap w (sym e) ∙ q) in
      (g.global x, young-named p w g b owner t (g.global x) (subst (IsYoung (area_for p)) (sym f) y), (t.laid.globals.known x l).0, f)
  start-named s a (AtField n i d st o l e u) q y =
      let k = field-name p w g b owner t n i st l e in
      let f : b.address k.0 ≡ a = byte-same (b.address k.0) a (sym k.2 ∙ ap w (sym u) ∙ q) in
      (k.0, young-named p w g b owner t k.0 (subst (IsYoung (area_for p)) (sym f) y), k.1, f)

  -- what is traced has a name
  pub named : (a : ℕ) → Traces (area_for p) w1 items a → (n : ℕ) × (n ≢ 0) × (b.stands n ≡ true) × (b.address n ≡ a)
  named _ (Root a (y, (s, i, e))) = start-named s a (sd.each s i) (sym (start-word s (sd.each s i)) ∙ e) y
  named _ (Next a c r q) =
      let n = named a r in
      let f = field-of p w g b owner t ambiguous pins ps w1 tg n.0 c n.1 n.2 (subst (λ x. Points (area_for p) w1 x c) (sym n.3) q) in
      (f.0, f.2, f.3, f.4)

  pub traced-young : (a : ℕ) → Traces (area_for p) w1 items a → IsYoung (area_for p) a
  traced-young _ (Root a h) = h.0
  traced-young _ (Next a c r q) = q.0

  -- a slot of the beginning isn't a word of a plain young object, nor the first word of one
  start-apart : (s n : ℕ) → IsStart p g b pins s → b.stands n ≡ true → n ≢ 0 → IsYoung (area_for p) (b.address n) → b.address n ≤ s → s < b.address n +
      (g.size n + 2) →
      In (b.address n) pins × ((i : ℕ) × (s ≡ b.address n + 2 + i) × (i < g.size n) × (field_refers p g n i ≡ true))
  start-apart s n (AtGlobal x l e) st d y a c = absurd (let u = e in let v = nursery p w g b owner t n st y in let v1 = v.1 in omega arith)
  start-apart s n (AtField k i dk sk (inl o) l e u) st d y a c = absurd
      (let z = (nursery p w g b owner t n st y).1 in let v = in-old p w g b owner t k sk dk o in let v0 = v.0 in let q = u in omega arith)
  start-apart s n (AtField k i dk sk (inr o) l e u) st d y a c =
      let q : k ≡ n = common p w g b owner t k n s sk st (let z = u in omega arith) (let z = u in omega arith) a c in (
        subst (λ (z : ℕ). In (b.address z) pins) q o,
        (
          i,
          u ∙ ap (λ (z : ℕ). b.address z + 2 + i) q,
          subst (λ (z : ℕ). i < g.size z) q l,
          subst
              (λ (z : ℕ). field_refers p g z i ≡ true) q e,
        ),
      )

  size-is : (a n : ℕ) → b.stands n ≡ true → n ≢ 0 → b.address n ≡ a → w1 (a + 1) ≡ g.size n
  size-is = size-at p w g b owner t ambiguous pins ps w1 tg

  tag-is : (a n : ℕ) → b.stands n ≡ true → n ≢ 0 → b.address n ≡ a → (In (b.address n) pins × (w1 a ≡ plain_word (g.class n) + 2)) ⊎
      (w1 a ≡ plain_word (g.class n))
  tag-is a n s d e = elim (tag-of p w g b owner t ambiguous pins ps w1 tg n s d) [
    | inl h ↦ inl (h.0, ap w1 (sym e) ∙ h.1)
    | inr h ↦ inr (ap w1 (sym e) ∙ h.1)
  ]

  pinned-tag : (a c n : ℕ) → b.stands n ≡ true → n ≢ 0 → b.address n ≡ a → w1 a ≡ plain_word c + 2 → In (b.address n) pins × (c ≡ g.class n)
  pinned-tag a c n s d e q = elim (tag-is a n s d e) [
    | inl h ↦ (h.0, let z = h.1 in omega arith)
    | inr h ↦ absurd (let z = h in omega arith)
  ]

  plain-tag : (a c n : ℕ) → b.stands n ≡ true → n ≢ 0 → b.address n ≡ a → w1 a ≡ plain_word c → c ≡ g.class n
  plain-tag a c n s d e q = elim (tag-is a n s d e) [
    | inl h ↦ absurd (let z = h.1 in omega arith)
    | inr h ↦ (let z = h in omega arith)
  ]

  -- the slots are words of the space
  pub start-inside : (s : ℕ) → IsStart p g b pins s → (nursery_base ≤ s) × (s < words_end (layout_of p))
  start-inside s (AtGlobal x l e) = let z = e in (omega arith, omega arith)
  start-inside s (AtField n i d st o l e q) = elim (t.laid.objects.inside n (omega arith) st) [
    | inl h ↦ (let z = q in let h1 = h.1 in let h2 = h.2 in (omega arith, omega arith))
    | inr h ↦ (let z = q in let h1 = h.1 in let h2 = h.2 in (omega arith, omega arith))
  ]

  -- what a round can come to has a name, and is young
  pub met-named : (a : ℕ) → IsMet (area_for p) w1 items pins a → (n : ℕ) × (n ≢ 0) × (b.stands n ≡ true) × (b.address n ≡ a)
  met-named a (inl traced) = named a traced
  met-named a (inr pin) = let k = ps.each a pin in (k.0, k.1.0.0, k.1.0.1, k.2)

  met-young : (a : ℕ) → IsMet (area_for p) w1 items pins a → IsYoung (area_for p) a
  met-young a (inl traced) = traced-young a traced
  met-young a (inr pin) =
      let k = ps.each a pin in
      let i = in-nursery p w g b owner t k.0 k.1.0.1 k.1.0.0 k.1.0.2 in
      let low = i.0 in
      let high = i.1 in
      let at = k.2 in
      (omega arith, omega arith)

  fixed-tag : (a c n : ℕ) → b.stands n ≡ true → n ≢ 0 → b.address n ≡ a → IsFixed c (w1 a) → In (b.address n) pins × (c ≡ g.class n)
  fixed-tag a c n s d e (inl q) = pinned-tag a c n s d e q
  fixed-tag a c n s d e (inr q) = elim (tag-is a n s d e) [
    | inl h ↦ absurd (let z = h.1 in omega arith)
    | inr h ↦ absurd (let z = h in omega arith)
  ]

  -- a slot of the beginning is a field of an object, or lies behind the blocks
  pub start-owned : (s : ℕ) → IsStart p g b pins s → ((n : ℕ) × (owner s ≡ Of n)) ⊎ (old_end p ≤ s)
  start-owned s (AtGlobal x l e) = inr (let z = e in omega arith)
  start-owned s (AtField n i d st o l e q) = inl (n, t.laid.objects.owns n s st (let z = q in omega arith) (let z = q in omega arith))

  module _ (few : length p.classes ≤ 256) (zone : ℕ → Bool) (zones : IsZone p w owner zone) where
    zone-out : (s : ℕ) → IsStart p g b pins s → zone s ≡ false
    zone-out s k = elim (cases_Bool (zone s)) [
      | inr e ↦ e
      | inl set ↦ elim (start-owned s k) [
        | inl n ↦ absurd (zones.free s n.0 set n.1)
        | inr behind ↦ absurd (let below = zones.below s set in omega arith)
      ]
    ]

    pub opening : IsOpening (area_for p) w1 items pins zone
    opening = record {
      above = zones.above;
      zero = λ y e. outer p w g b owner t ambiguous pins ps w1 tg y (λ young. (let low = young.1 in let high = zones.above y e in absurd (omega arith))) ∙
          zones.zero y e;
      inside = λ a met. (let y = met-young a met in let n = met-named a met in let e = n.3 in
          let i = nursery p w g b owner t n.0 n.2 (subst (IsYoung (area_for p)) (sym e) y) in let i1 = i.1 in let z = size-is a n.0 n.2 n.1 e in
          let most = (t.laid.objects.shaped n.0 (let d = n.1 in omega arith) n.2).1.0 in
          (y, omega arith, omega arith));
      apart = λ a c ta tc l u. (let n = met-named a ta in let k = met-named c tc in let en = n.3 in let ek = k.3 in let z = size-is a n.0 n.2 n.1 en in
          sym en ∙ ap b.address (common p w g b owner t n.0 k.0 c n.2 k.2 (omega arith) (omega arith) (omega arith) (omega arith)) ∙ ek);
      first = λ a ta. (let n = met-named a ta in (
        g.class n.0,
        (let known = (t.laid.objects.shaped n.0 (let d = n.1 in omega arith) n.2).0 in omega arith),
        elim (tag-is a n.0 n.2 n.1 n.3) [
          | inl h ↦ inr (inl h.1)
          | inr h ↦ inl h
        ],
      ));
      stays = λ a i. (let n = met-named a (inr i) in let e = n.3 in (
        g.class n.0,
        elim (tag-of p w g b owner t ambiguous pins ps w1 tg n.0 n.2 n.1) [
          | inl h ↦ inl (ap w1 (sym e) ∙ h.1)
          | inr h ↦ absurd (not-in (b.address n.0) pins h.0 (subst (λ (z : ℕ). In z pins) (sym e) i))
        ],
      ));
      item_word = λ s i. start-inside s (sd.each s i);
      item_apart = λ s a i ta. (let n = met-named a ta in let en = n.3 in
          let y = subst (IsYoung (area_for p)) (sym en) (met-young a ta) in (
            λ e. (let q = start-apart s n.0 (sd.each s i) n.2 n.1 y (omega arith) (omega arith) in let z = q.1.1 in absurd (omega arith)),
            λ e. (let q = start-apart s n.0 (sd.each s i) n.2 n.1 y (omega arith) (omega arith) in let z = q.1.1 in absurd (omega arith)),
          ));
      item_out = λ s a c i ta e u v. (let n = named a ta in let en = n.3 in let z = size-is a n.0 n.2 n.1 en in
          let q = start-apart s n.0 (sd.each s i) n.2 n.1 (subst (IsYoung (area_for p)) (sym en) (traced-young a ta)) (omega arith) (omega arith) in
          let tp = tg.tagged (b.address n.0) q.0 in let f = first p w g b owner t n.0 n.2 n.1 in let e2 : w1 a ≡ w1 (b.address n.0) = ap w1 (sym en) in absurd
          (omega arith));
      item_zone = λ s i. zone-out s (sd.each s i);
      whole = λ a c i x ta q l e f y. (let n = named a ta in let en = n.3 in let z = size-is a n.0 n.2 n.1 en in
          let l' : i < g.size n.0 = omega arith in
          let e' : a + 2 + i ≡ b.address n.0 + 2 + i = ap (λ (z : ℕ). z + 2 + i) (sym en) in
          let wd : w1 (a + 2 + i) ≡ w (a + 2 + i) = ap w1 e' ∙ inner-field p w g b owner t ambiguous pins ps w1 tg n.0 i n.2 l' ∙ ap w (sym e') in
          sd.all (a + 2 + i) x
          (AtField n.0 i n.1 n.2 (inr (fixed-tag a c n.0 n.2 n.1 en q).0) l'
          (sym (strong p w g b owner t ambiguous pins ps w1 tg n.0 i n.2 n.1) ∙ ap (λ (z : ℕ). is_strong (area_for p) w1 z i) en ∙ e) e')
          (sym wd ∙ f) y);
    }
