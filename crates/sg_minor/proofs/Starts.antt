-- The slots of a round are globals and the reference fields of old and of pinned objects.
use Rattle.std.proofs.Common.{◌≡◌, ◌≢◌, ℕ, ◌+◌, ◌<◌, ◌⊎◌, true, List, [], ◌∷◌, ◌++◌, sym, refl, ap, ◌∙◌, subst, inl, inr, arith}
use Rattle.sg_words.specs.Address.{byte_at}
use Rattle.sg_program.specs.declared.program.Program.{Program}
use Rattle.sg_graph.specs.Graph.{Graph}
use Rattle.sg_graph.specs.Book.{Book, Old}
use Rattle.sg_words.specs.Sections.{globals_base}
use Rattle.sg_space.specs.Space.{Contents}
use Rattle.sg_space.specs.Standing.{word}
use Rattle.sg_graph.specs.Heap.{Owner, layout_of, IsHeap}
use Rattle.sg_round.specs.Area.{Area, IsYoung, class_of}
use Rattle.sg_words.specs.Lists.{In}
use Rattle.sg_round.specs.Items.{slots_by}
use Rattle.sg_round.specs.Order.{strong_of}
use Rattle.sg_copy.specs.Copying.{area_of, items_of}
use Rattle.sg_words.proofs.Members.{has-cases, in-here, in-there, in-left, in-right, in-cases}
use Rattle.sg_words.proofs.Objects.{slots-in, slots-are}
use Rattle.sg_minor.specs.Joined.{ArePins}
use Rattle.sg_nursery.specs.Parts.{HasTagged}
use Rattle.sg_minor.proofs.Added.{AreSlots, IsSeed, Global, Field, seeds-each, seeds-all}
use Rattle.sg_minor.proofs.Areas.{refers, area_for}
use Rattle.sg_minor.proofs.Named.{field_refers, pin-named, class-as, refers-as, size-at}

-- a global, or a reference field of an old or of a pinned object
pub data IsStart (p : Program) (g : Graph) (b : Book) (pins : List ℕ) (s : ℕ) : Type 0 where
  AtGlobal : (x : ℕ) → x < 64 → s ≡ globals_base (layout_of p) + x → IsStart p g b pins s
  AtField : (n i : ℕ) → n ≢ 0 → b.stands n ≡ true → (b.section n ≡ Old) ⊎ In (b.address n) pins → i < g.size n → field_refers p g n i ≡ true →
      s ≡ b.address n + 2 + i → IsStart p g b pins s

-- these are such slots, and all of them that refer to a young object
pub record AreStarts (p : Program) (w : ℕ → ℕ) (g : Graph) (b : Book) (pins items : List ℕ) : Type 0 where
  pub each : (s : ℕ) → In s items → IsStart p g b pins s
  pub all : (s x : ℕ) → IsStart p g b pins s → w s ≡ byte_at x → IsYoung (area_for p) x → In s items

-- the strong slots of objects
pub in-strong : (area : Area) (w : ℕ → ℕ) (s : ℕ) (hs : List ℕ) → In s (strong_of area w hs) → (h : ℕ) × In h hs × In s
    (slots_by area (class_of (w h)) h (w (h + 1)))
in-strong area w s [] i = absurd (let z = i in cc)
in-strong area w s (h ∷ hs) i = elim (in-cases s (slots_by area (class_of (w h)) h (w (h + 1))) (strong_of area w hs) i) [
  | inl j ↦ (h, in-here h h hs refl, j)
  | inr j ↦ let q = in-strong area w s hs j in (q.0, in-there q.0 h hs q.1, q.2)
]

pub strong-in : (area : Area) (w : ℕ → ℕ) (s h : ℕ) (hs : List ℕ) → In h hs → In s (slots_by area (class_of (w h)) h (w (h + 1))) → In s (strong_of area w hs)
strong-in area w s h [] k i = absurd (let z = k in cc)
strong-in area w s h (x ∷ hs) k i = elim (has-cases h x hs k) [
  | inl e ↦ in-left s (slots_by area (class_of (w x)) x (w (x + 1))) (strong_of area w hs)
      (subst (λ (z : ℕ). In s (slots_by area (class_of (w z)) z (w (z + 1)))) e i)
  | inr j ↦ in-right s (slots_by area (class_of (w x)) x (w (x + 1))) (strong_of area w hs) (strong-in area w s h hs j i)
]

module _ (p : Program) (w : ℕ → ℕ) (g : Graph) (b : Book) (owner : ℕ → Owner) (t : IsHeap p w g b owner) (ambiguous pins slots : List ℕ)
    (ps : ArePins g b ambiguous pins)
    (tagged : Contents) (area : area_of tagged ≡ area_for p) (tg : HasTagged w pins (word tagged)) (sd : AreSlots p w (area_for p) g b slots) where
  strong-as : (n i : ℕ) → n ≢ 0 → b.stands n ≡ true → (area_of tagged).strong (class_of (word tagged (b.address n))) i ≡ field_refers p g n i
  strong-as n i d s =
      ap (λ (z : Area). z.strong (class_of (word tagged (b.address n))) i) area
      ∙ ap (λ (z : ℕ). refers p z i) (class-as p w g b owner t ambiguous pins ps (word tagged) tg n s d) ∙ refers-as p w g b owner t n i s d

  abbrev fields : List ℕ
  fields = strong_of (area_of tagged) (word tagged) pins

  abbrev of : ℕ → List ℕ
  of h = slots_by (area_of tagged) (class_of (word tagged h)) h (word tagged (h + 1))

  pub starts : AreStarts p w g b pins (items_of tagged slots pins)
  starts = record {
    each = λ s h. elim (in-cases s slots fields h) [
      | inl i ↦ of-seed s (seeds-each p w (area_for p) g b slots sd s i)
      | inr i ↦ (let q = in-strong (area_of tagged) (word tagged) s pins i in
          let n = pin-named p w g b owner t ambiguous pins ps q.0 q.1 in
          of-field s n.0 n.1 n.2 (subst (λ (z : ℕ). In z pins) (sym n.4) q.1) (subst (λ (z : ℕ). In s (of z)) (sym n.4) q.2))
    ];
    all = λ s x k e y. held s x k e y;
  }
    where
      of-seed : (s : ℕ) → IsSeed p g b s → IsStart p g b pins s
      of-seed s (Global x l e) = AtGlobal x l e
      of-seed s (Field n i d st o l e q) = AtField n i d st (inl o) l e q

      of-field : (s n : ℕ) → n ≢ 0 → b.stands n ≡ true → In (b.address n) pins → In s (of (b.address n)) → IsStart p g b pins s
      of-field s n d st i h =
          let q = slots-are ((area_of tagged).strong (class_of (word tagged (b.address n)))) (b.address n) 0 (word tagged (b.address n + 1)) s h in
          AtField n q.0 d st (inr i) (let l = q.1 in let z = size-at p w g b owner t ambiguous pins ps (word tagged) tg (b.address n) n st d refl in omega
          arith) (sym (strong-as n q.0 d st) ∙ q.2) q.3

      held : (s x : ℕ) → IsStart p g b pins s → w s ≡ byte_at x → IsYoung (area_for p) x → In s (slots ++ fields)
      held s x (AtGlobal j l e) q y = in-left s slots fields (seeds-all p w (area_for p) g b slots sd s x (Global j l e) q y)
      held s x (AtField n i d st (inl o) l e u) q y = in-left s slots fields (seeds-all p w (area_for p) g b slots sd s x (Field n i d st o l e u) q y)
      held s x (AtField n i d st (inr o) l e u) q y = in-right s slots fields (strong-in (area_of tagged) (word tagged) s (b.address n) pins o
          (subst (λ (z : ℕ). In z (of (b.address n))) (sym u)
          (slots-in ((area_of tagged).strong (class_of (word tagged (b.address n)))) (b.address n) 0 (word tagged (b.address n + 1)) i (omega arith)
          (let z = size-at p w g b owner t ambiguous pins ps (word tagged) tg (b.address n) n st d refl in omega arith) (strong-as n i d st ∙ e))))
