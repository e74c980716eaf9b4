-- The objects of a heap by their names, before a pause and with the tags of pinned objects.
use Rattle.std.proofs.Common.{◌≡◌, ◌≢◌, ℕ, ◌+◌, ◌≤◌, ◌<◌, ◌⊎◌, Bool, true, false, List, sym, ap, ◌∙◌, subst, inl, inr, arith, le_refl}
use Rattle.std.proofs.lemmas.Bool.{cases_Bool}
use Rattle.sg_words.specs.Address.{byte_at}
use Rattle.sg_words.specs.Tags.{plain_word}
use Rattle.sg_program.specs.declared.program.Program.{Program}
use Rattle.sg_desc.specs.Shapes.{is_strong as is_strong_by, strong_any, strong_holds}
use Rattle.sg_program.specs.Scripts.{kind_of, fields_of}
use Rattle.sg_graph.specs.Graph.{Entry, Graph}
use Rattle.sg_graph.specs.Book.{Book, Young, Old, nursery_end, old_end, word_of}
use Rattle.sg_words.specs.Sections.{nursery_base}
use Rattle.sg_graph.specs.Heap.{Owner, IsKnownEntry, IsOfSort, IsHeap}
use Rattle.sg_round.specs.Area.{IsYoung, class_of, is_strong, Points}
use Rattle.sg_words.specs.Lists.{has, In}
use Rattle.sg_words.proofs.Members.{out}
use Rattle.sg_minor.specs.Joined.{ArePins}
use Rattle.sg_nursery.specs.Parts.{HasTagged}
use Rattle.sg_minor.proofs.Areas.{refers, area_for}
use Rattle.sg_minor.proofs.Names.{of-same, class-of-plain, ref-of}

-- whether field i of the object n is strong
abbrev pub field_refers : Program → Graph → ℕ → ℕ → Bool
field_refers p g n i = is_strong_by (kind_of p (g.class n)) i (g.size n)

-- the object's words lie in the nursery, or in the major heap
abbrev pub IsInNursery : Program → ℕ → ℕ → Type 0
IsInNursery p a n = (nursery_base ≤ a) × (a + (n + 2) ≤ nursery_end p)

abbrev pub IsInHeap : Program → ℕ → ℕ → Type 0
IsInHeap p a n = (nursery_end p ≤ a) × (a + (n + 2) ≤ old_end p)

pub class-of-pinned : (c : ℕ) → class_of (plain_word c + 2) ≡ c
class-of-pinned c = omega arith

pub byte-same : (a c : ℕ) → byte_at a ≡ byte_at c → a ≡ c
byte-same a c e = omega arith

module _ (p : Program) (w : ℕ → ℕ) (g : Graph) (b : Book) (owner : ℕ → Owner) (t : IsHeap p w g b owner) where
  -- two standing objects with a common word are one
  pub common : (n k x : ℕ) → b.stands n ≡ true → b.stands k ≡ true → b.address n ≤ x → x < b.address n + (g.size n + 2) → b.address k ≤ x → x < b.address k +
      (g.size k + 2) → n ≡ k
  common n k x sn sk l u l' u' = of-same n k (sym (t.laid.objects.owns n x sn l u) ∙ t.laid.objects.owns k x sk l' u')

  pub first : (n : ℕ) → b.stands n ≡ true → n ≢ 0 → w (b.address n) ≡ plain_word (g.class n)
  first n s d = (t.headed n (omega arith) s).0

  pub length : (n : ℕ) → b.stands n ≡ true → n ≢ 0 → w (b.address n + 1) ≡ g.size n
  length n s d = (t.headed n (omega arith) s).1

  pub young-named : (n : ℕ) → IsYoung (area_for p) (b.address n) → n ≢ 0
  young-named n y e = let u = ap b.address e in let z = t.laid.nothing.at_nil in let l = y.0 in absurd (omega arith)

  pub in-nursery : (n : ℕ) → b.stands n ≡ true → n ≢ 0 → b.section n ≡ Young → IsInNursery p (b.address n) (g.size n)
  in-nursery n s d y = elim (t.laid.objects.inside n (omega arith) s) [
    | inl h ↦ (h.1, h.2)
    | inr h ↦ absurd (let e = sym y ∙ h.0 in cc)
  ]

  pub in-old : (n : ℕ) → b.stands n ≡ true → n ≢ 0 → b.section n ≡ Old → IsInHeap p (b.address n) (g.size n)
  in-old n s d o = elim (t.laid.objects.inside n (omega arith) s) [
    | inl h ↦ absurd (let e = sym h.0 ∙ o in cc)
    | inr h ↦ (h.1, h.2)
  ]

  pub young-section : (n : ℕ) → b.stands n ≡ true → IsYoung (area_for p) (b.address n) → b.section n ≡ Young
  young-section n s y = let d = young-named n y in elim (t.laid.objects.inside n (omega arith) s) [
    | inl h ↦ h.0
    | inr h ↦ absurd (let u = y.1 in let v = h.1 in omega arith)
  ]

  pub nursery : (n : ℕ) → b.stands n ≡ true → IsYoung (area_for p) (b.address n) → IsInNursery p (b.address n) (g.size n)
  nursery n s y = in-nursery n s (young-named n y) (young-section n s y)

  pub refers-as : (n i : ℕ) → b.stands n ≡ true → n ≢ 0 → refers p (g.class n) i ≡ field_refers p g n i
  refers-as n i s d = strong_any (kind_of p (g.class n)) i (fields_of p (g.class n)) (g.size n)

  pub strong-of : (n i : ℕ) → b.stands n ≡ true → n ≢ 0 → is_strong (area_for p) w (b.address n) i ≡ field_refers p g n i
  strong-of n i s d = ap (λ (c : ℕ). refers p (class_of c) i) (first n s d) ∙ ap (λ (c : ℕ). refers p c i) (class-of-plain (g.class n)) ∙ refers-as n i s d

  -- a strong field of the graph is one of the words
  pub field-name : (n i : ℕ) → b.stands n ≡ true → i < g.size n → field_refers p g n i ≡ true → (k : ℕ) × (b.stands k ≡ true) ×
      (w (b.address n + 2 + i) ≡ byte_at (b.address k))
  field-name n i s l e =
      let k = ref-of (g.field n i) (subst (λ (z : Bool). IsOfSort z (g.field n i)) (strong_holds (kind_of p (g.class n)) i (g.size n) e)
      (t.laid.fields.sorted n i s l)) in (
        k.0,
        (subst (λ (z : Entry). IsKnownEntry w g b z) k.1 (t.laid.fields.known n i s l)).0,
        t.laid.fields.holds n i s l ∙ ap
            (λ (z : Entry). word_of b.address z) k.1,
      )

  module _ (ambiguous pins : List ℕ) (ps : ArePins g b ambiguous pins) where
    pub pin-named : (a : ℕ) → In a pins → (n : ℕ) × (n ≢ 0) × (b.stands n ≡ true) × (b.section n ≡ Young) × (b.address n ≡ a)
    pin-named a h = let q = ps.each a h in (q.0, q.1.0.0, q.1.0.1, q.1.0.2, q.2)

    -- within an object, and outside of the nursery, there are no tags
    inner-no-pin : (n j : ℕ) → b.stands n ≡ true → 1 ≤ j → j < g.size n + 2 → has (b.address n + j) pins ≡ false
    inner-no-pin n j s l u = out (b.address n + j) pins (λ h. (let k = pin-named (b.address n + j) h in
        let k4 = k.4 in
        let e = common n k.0 (b.address n + j) s k.2 (omega arith) (omega arith) (omega arith) (omega arith) in
        let z = ap b.address e in absurd (omega arith)))

    module _ (w1 : ℕ → ℕ) (tg : HasTagged w pins w1) where
      pub inner : (n j : ℕ) → b.stands n ≡ true → 1 ≤ j → j < g.size n + 2 → w1 (b.address n + j) ≡ w (b.address n + j)
      inner n j s l u = tg.same (b.address n + j) (inner-no-pin n j s l u)

      pub outer : (y : ℕ) → (IsYoung (area_for p) y → ⊥) → w1 y ≡ w y
      outer y n = tg.same y (out y pins (λ h. (let k = pin-named y h in let i = in-nursery k.0 k.2 k.1 k.3 in let i1 = i.1 in let e = k.4 in n
          (let i0 = i.0 in omega arith, omega arith))))

      pub inner-field : (n i : ℕ) → b.stands n ≡ true → i < g.size n → w1 (b.address n + 2 + i) ≡ w (b.address n + 2 + i)
      inner-field n i s l = ap w1 (let z : b.address n + 2 + i ≡ b.address n + (2 + i) = omega arith in z) ∙ inner n (2 + i) s (omega arith) (omega arith) ∙ ap
          w (let z : b.address n + (2 + i) ≡ b.address n + 2 + i = omega arith in z)

      pub len : (n : ℕ) → b.stands n ≡ true → n ≢ 0 → w1 (b.address n + 1) ≡ g.size n
      len n s d = inner n 1 s (le_refl _) (omega arith) ∙ length n s d

      -- a first word
      pub tag-of : (n : ℕ) → b.stands n ≡ true → n ≢ 0 → (In (b.address n) pins × (w1 (b.address n) ≡ plain_word (g.class n) + 2)) ⊎
          ((has (b.address n) pins ≡ false) × (w1 (b.address n) ≡ plain_word (g.class n)))
      tag-of n s d = elim (cases_Bool (has (b.address n) pins)) [
        | inl h ↦ inl (h, tg.tagged (b.address n) h ∙ ap (λ (z : ℕ). z + 2) (first n s d))
        | inr h ↦ inr (h, tg.same (b.address n) h ∙ first n s d)
      ]

      pub class-as : (n : ℕ) → b.stands n ≡ true → n ≢ 0 → class_of (w1 (b.address n)) ≡ g.class n
      class-as n s d = elim (tag-of n s d) [
        | inl h ↦ ap class_of h.1 ∙ class-of-pinned (g.class n)
        | inr h ↦ ap class_of h.1 ∙ class-of-plain (g.class n)
      ]

      pub strong : (n i : ℕ) → b.stands n ≡ true → n ≢ 0 → is_strong (area_for p) w1 (b.address n) i ≡ field_refers p g n i
      strong n i s d = ap (λ (c : ℕ). refers p c i) (class-as n s d) ∙ refers-as n i s d

      -- a reference of the tagged words is a field of the graph
      pub field-of : (n c : ℕ) → n ≢ 0 → b.stands n ≡ true → Points (area_for p) w1 (b.address n) c →
          (k i : ℕ) × (k ≢ 0) × (b.stands k ≡ true) × (b.address k ≡ c) × (i < g.size n) × (field_refers p g n i ≡ true) × (w (b.address n + 2 + i) ≡ byte_at c)
      field-of n c d s q =
          let i = q.1.0 in
          let l : i < g.size n = let u = q.1.1 in let z = len n s d in omega arith in
          let e : field_refers p g n i ≡ true = sym (strong n i s d) ∙ q.1.2 in
          let f : w (b.address n + 2 + i) ≡ byte_at c = sym (inner-field n i s l) ∙ q.1.3 in
          let k = field-name n i s l e in
          let a : b.address k.0 ≡ c = byte-same (b.address k.0) c (sym k.2 ∙ f) in
          (k.0, i, young-named k.0 (subst (IsYoung (area_for p)) (sym a) q.0), k.1, a, l, e, f)

      -- the words of a named object at a
      pub size-at : (a n : ℕ) → b.stands n ≡ true → n ≢ 0 → b.address n ≡ a → w1 (a + 1) ≡ g.size n
      size-at a n s d e = ap (λ (z : ℕ). w1 (z + 1)) (sym e) ∙ len n s d
