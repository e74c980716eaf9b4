-- What stays and what moves is what the pause begins from, closed under strong fields, and nothing else.
use Rattle.std.proofs.Common.{◌≡◌, ◌≢◌, ℕ, ◌+◌, ◌<◌, true, false, List, ◌++◌, sym, refl, ap, ◌∙◌, subst, inl, inr, arith}
use Rattle.sg_words.specs.Address.{byte_at}
use Rattle.sg_words.specs.Tags.{plain_word}
use Rattle.sg_words.specs.Reach.{Reached}
use Rattle.sg_words.specs.Reach.Reached.{Root, Next}
use Rattle.sg_program.specs.declared.program.Program.{Program}
use Rattle.sg_graph.specs.Graph.{Graph}
use Rattle.sg_graph.specs.Book.{Book}
use Rattle.sg_words.specs.Sections.{globals_base}
use Rattle.sg_graph.specs.Heap.{Owner, layout_of, IsHeap}
use Rattle.sg_round.specs.Area.{IsYoung, Points, Traces}
use Rattle.sg_words.specs.Lists.{In, has}
use Rattle.sg_round.specs.Image.{IsImage}
use Rattle.sg_words.proofs.Members.{in-left, in-right, in-cases, out}
use Rattle.sg_minor.specs.Joined.{ArePins, IsItem, IsKept, IsTraced}
use Rattle.sg_nursery.specs.Parts.{HasTagged}
use Rattle.sg_minor.proofs.Areas.{area_for}
use Rattle.sg_minor.proofs.Named.{field_refers, first, length, strong-of, pin-named, in-nursery, inner-field, len, tag-of, strong, field-of}
use Rattle.sg_minor.proofs.Starts.{IsStart, AtGlobal, AtField, AreStarts}
use Rattle.sg_minor.proofs.Opens.{start-word, named, traced-young}

module _ (p : Program) (w : ℕ → ℕ) (g : Graph) (b : Book) (owner : ℕ → Owner) (t : IsHeap p w g b owner) (ambiguous pins : List ℕ)
    (ps : ArePins g b ambiguous pins)
    (w1 : ℕ → ℕ) (tg : HasTagged w pins w1) (items : List ℕ) (sd : AreStarts p w g b pins items)
    (moves fails : List ℕ) (m round : ℕ → ℕ) (cp : IsImage (area_for p) w1 items (λ _. true) moves fails m round (λ _. false)) where
  name-of : (a : ℕ) → Traces (area_for p) w1 items a → (n : ℕ) × (n ≢ 0) × (b.stands n ≡ true) × (b.address n ≡ a)
  name-of = named p w g b owner t ambiguous pins ps w1 tg items sd

  young-of : (a : ℕ) → Traces (area_for p) w1 items a → IsYoung (area_for p) a
  young-of = traced-young p w g b owner t ambiguous pins ps w1 tg items sd

  start-as : (s : ℕ) → IsStart p g b pins s → w1 s ≡ w s
  start-as = start-word p w g b owner t ambiguous pins ps w1 tg items sd

  -- what is traced stays or moves
  sorted : (a : ℕ) → Traces (area_for p) w1 items a → IsKept (pins ++ fails) moves a
  sorted a ta =
      let n = name-of a ta in
      elim (tag-of p w g b owner t ambiguous pins ps w1 tg n.0 n.2 n.1) [
        | inl h ↦ inl (in-left a pins fails (subst (λ (z : ℕ). In z pins) n.3 h.0))
        | inr h ↦ elim (cp.all a (g.class n.0) ta (ap w1 (sym n.3) ∙ h.1)) [
          | inl i ↦ inr i
          | inr i ↦ inl (in-right a pins fails i)
        ]
      ]

  start-sorted : (s a : ℕ) → IsStart p g b pins s → w s ≡ byte_at a → IsYoung (area_for p) a → IsKept (pins ++ fails) moves a
  start-sorted s a k e y = sorted a (Root a (y, (s, sd.all s a k e y, start-as s k ∙ e)))

  -- the references of the words before are those of the tagged words
  points-tagged : (n c : ℕ) → n ≢ 0 → b.stands n ≡ true → Points (area_for p) w (b.address n) c →
      (i : ℕ) × (i < g.size n) × (field_refers p g n i ≡ true) × (w (b.address n + 2 + i) ≡ byte_at c) × Points (area_for p) w1 (b.address n) c
  points-tagged n c d s q =
      let i = q.1.0 in
      let l : i < g.size n = let u = q.1.1 in let z = length p w g b owner t n s d in omega arith in
      let e : field_refers p g n i ≡ true = sym (strong-of p w g b owner t n i s d) ∙ q.1.2 in (
        i,
        l,
        e,
        q.1.3,
        (
          q.0,
          (
            i,
            let z = len p w g b owner t ambiguous pins ps w1 tg n s d in omega arith,
            strong p w g b owner t ambiguous pins ps w1 tg n i s
                d ∙ e,
            inner-field p w g b owner t ambiguous pins ps w1 tg n i s l ∙ q.1.3,
          ),
        ),
      )

  points-back : (n c i : ℕ) → n ≢ 0 → b.stands n ≡ true → IsYoung (area_for p) c → i < g.size n → field_refers p g n i ≡ true → w (b.address n + 2 + i) ≡
      byte_at c → Points (area_for p) w (b.address n) c
  points-back n c i d s y l e q = (y, (i, let z = length p w g b owner t n s d in omega arith, strong-of p w g b owner t n i s d ∙ e, q))

  pin-young : (a : ℕ) → In a pins → IsYoung (area_for p) a
  pin-young a h = let k = pin-named p w g b owner t ambiguous pins ps a h in let i = in-nursery p w g b owner t k.0 k.2 k.1 k.3 in let i0 = i.0 in let i1 =
      i.1 in let e = k.4 in (omega arith, omega arith)

  abbrev IsReached : ℕ → Type 0
  IsReached = Reached (Points (area_for p) w) (IsItem p (area_for p) w g b ambiguous)

  pinned-item : (a : ℕ) → In a pins → IsReached a
  pinned-item a h = Root a (pin-young a h, inl (ps.each a h))

  back : (a : ℕ) → Traces (area_for p) w1 items a → IsReached a
  back _ (Root a (y, (s, i, e))) = by-start (sd.each s i) (sym (start-as s (sd.each s i)) ∙ e)
    where
      by-start : IsStart p g b pins s → w s ≡ byte_at a → IsReached a
      by-start (AtGlobal x l q) e = Root a (y, inr (inl (x, l, ap w (sym q) ∙ e)))
      by-start (AtField n i d st (inl o) l k q) e = Root a (y, inr (inr (n, d, st, o, points-back n a i d st y l k (ap w (sym q) ∙ e))))
      by-start (AtField n i d st (inr o) l k q) e = Next (b.address n) a (pinned-item (b.address n) o) (points-back n a i d st y l k (ap w (sym q) ∙ e))
  back _ (Next a c r q) =
      let n = name-of a r in
      let f = field-of p w g b owner t ambiguous pins ps w1 tg n.0 c n.1 n.2 (subst (λ x. Points (area_for p) w1 x c) (sym n.3) q) in
      Next a c (back a r) (subst (λ x. Points (area_for p) w x c) n.3 (points-back n.0 c f.1 n.1 n.2 q.0 f.5 f.6 f.7))

  -- what stays or moves has a name
  kept-named : (a : ℕ) → IsKept (pins ++ fails) moves a → (n : ℕ) × (n ≢ 0) × (b.stands n ≡ true) × (b.address n ≡ a)
  kept-named a (inl h) = elim (in-cases a pins fails h) [
    | inl i ↦ (let k = pin-named p w g b owner t ambiguous pins ps a i in (k.0, k.1, k.2, k.4))
    | inr i ↦ name-of a (cp.failed a i).0
  ]
  kept-named a (inr h) = name-of a (cp.moved a h).0

  -- a pinned object didn't move, nor did it fail
  pub pin-tag : (a c : ℕ) → In a pins → w1 a ≡ plain_word c → ⊥
  pin-tag a c i e =
      let n = pin-named p w g b owner t ambiguous pins ps a i in
      let z = tg.tagged a i in let u = first p w g b owner t n.0 n.2 n.1 in let q : w (b.address n.0) ≡ w a = ap w n.4 in omega arith

  pub pin-stays : (a : ℕ) → In a pins → has a moves ≡ false
  pin-stays a i = out a moves (λ k. (let f = (cp.moved a k).1 in pin-tag a f.0 i f.1))

  pub fail-loose : (a : ℕ) → In a fails → has a pins ≡ false
  fail-loose a k = out a pins (λ i. (let f = (cp.failed a k).1 in pin-tag a f.0 i f.1))

  pub traced : IsTraced p (area_for p) w g b ambiguous (pins ++ fails) moves
  traced = record {
    items = λ a h. elim h.1 [
      | inl q ↦ inl (in-left a pins fails (subst (λ (z : ℕ). In z pins) q.2 (ps.all q.0 q.1)))
      | inr q ↦ elim q [
        | inl q ↦ start-sorted (globals_base (layout_of p) + q.0) a (AtGlobal q.0 q.1 refl) q.2 h.0
        | inr q ↦ (let k = points-tagged q.0 a q.1 q.2 q.4 in start-sorted (b.address q.0 + 2 + k.0) a (AtField q.0 k.0 q.1 q.2 (inl q.3) k.1 k.2 refl) k.3 h.0)
      ]
    ];
    closed = λ a c h q. (let n = kept-named a h in
        let k = points-tagged n.0 c n.1 n.2 (subst (λ x. Points (area_for p) w x c) (sym n.3) q) in
        follow a c h n.0 k.0 n.1 n.2 n.3 k.1 k.2 k.3 (subst (λ x. Points (area_for p) w1 x c) n.3 k.4));
    reached = λ a h. reach-kept a h;
    apart = λ a h. elim (in-cases a pins fails h) [
      | inl i ↦ pin-stays a i
      | inr i ↦ (cp.failed a i).2
    ];
  }
    where
      follow : (a c : ℕ) → IsKept (pins ++ fails) moves a → (n i : ℕ) → n ≢ 0 → b.stands n ≡ true → b.address n ≡ a → i < g.size n → field_refers p g n i ≡
          true → w (b.address n + 2 + i) ≡ byte_at c → Points (area_for p) w1 a c → IsKept (pins ++ fails) moves c
      follow a c (inr h) n i d s e l k q x = sorted c (Next a c (cp.moved a h).0 x)
      follow a c (inl h) n i d s e l k q x = elim (in-cases a pins fails h) [
        | inl j ↦ start-sorted (b.address n + 2 + i) c (AtField n i d s (inr (subst (λ (z : ℕ). In z pins) (sym e) j)) l k refl) q x.0
        | inr j ↦ sorted c (Next a c (cp.failed a j).0 x)
      ]

      reach-kept : (a : ℕ) → IsKept (pins ++ fails) moves a → IsReached a
      reach-kept a (inr h) = back a (cp.moved a h).0
      reach-kept a (inl h) = elim (in-cases a pins fails h) [
        | inl i ↦ pinned-item a i
        | inr i ↦ back a (cp.failed a i).0
      ]
