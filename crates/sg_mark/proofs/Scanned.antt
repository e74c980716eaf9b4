-- A scan of an object, field by field.
use Rattle.std.proofs.Common.{◌≡◌, ℕ, ◌+◌, ◌<◌, ◌≤◌, inl, inr, Bool, true, false, Option, Some, List, slice_get, sym, ap, ◌∙◌, subst, arith}
use Rattle.std.proofs.lemmas.Bool.{cases_eq, cases_lt, false≢true}
use Rattle.sg_words.specs.Address.{byte_at}
use Rattle.sg_words.specs.Lists.{In}
use Rattle.sg_desc.specs.Shapes.{is_strong, strong_holds}
use Rattle.sg_desc.specs.declared.shapes.Descriptor.{Descriptor}
use Rattle.sg_desc.specs.declared.shapes.Shape.{Shape}
use Rattle.sg_space.specs.Space.{Contents}
use Rattle.sg_space.specs.Standing.{word, IsSoundBy, RefersSoundly}
use Rattle.sg_mark.specs.Marking.{IsStrongTarget}
use Rattle.sg_mark.specs.Gray.{IsGray, HasVisited, IsFieldAt, IsKindAt, HasScanned, HasScannedTo}
use Rattle.sg_mark.proofs.Places.{inside}
use Rattle.sg_mark.proofs.Grays.{with_grown, grown_none, grown_on, grown_as}

module _ (t : Contents) (owner : ℕ → Option ℕ) (h : ℕ) (stands : owner h ≡ Some h) (kind : Descriptor) (is : IsKindAt t h kind) (fields : ℕ) (many : fields ≡ word t (h + 1)) where
  -- a strong field of it
  pub field_at : IsSoundBy t owner → RefersSoundly t owner → (i : ℕ) → i < fields → is_strong kind i fields ≡ true → IsFieldAt t owner (h + 2 + i)
  field_at sound refers i l strong = record {
    inside = (let lies = inside t owner sound h stands in let a = lies.0 in let b = lies.1 in (omega arith, omega arith));
    behind = λ o.
        let q = sound.whole h (h + 2 + i) stands (omega arith) (omega arith) in
        let e : Some (h + 2 + i) ≡ Some h = sym o ∙ q in
        let n : h + 2 + i ≡ h = cc in
        absurd (omega arith);
    refers = refers.fields h i is.class is.shape stands is.shape_is is.tag (omega arith)
        (strong_holds is.shape.kind i (word t (h + 1)) (subst (λ (n : ℕ). is_strong is.shape.kind i n ≡ true) many (subst (λ (d : Descriptor). is_strong d i fields ≡ true) is.kind_is strong)));
  }

  -- a target's field is a strong one by this descriptor
  strong_of : (k : ℕ) (target : IsStrongTarget t owner h k) → is_strong kind target.field fields ≡ true
  strong_of k target =
      let a = target.tag in
      let b = is.tag in
      let same : target.class ≡ is.class = omega arith in
      let one : Some target.shape ≡ Some is.shape = sym target.shape_is ∙ ap (slice_get t.shapes) same ∙ is.shape_is in
      let shape : target.shape ≡ is.shape = cc in
      subst (λ (d : Descriptor). is_strong d target.field fields ≡ true) (sym is.kind_is)
      (subst (λ (d : Shape). is_strong d.kind target.field fields ≡ true) shape
      (subst (λ (n : ℕ). is_strong target.shape.kind target.field n ≡ true) (sym many) target.strong))

  module _ (marked : ℕ → Bool) (old : List ℕ) where
    pub scanned_none : (s : Contents) (i : ℕ) → IsGray t owner marked s old → ((j : ℕ) → 0 ≤ j → j < i → is_strong kind j fields ≡ false) → HasScannedTo t owner marked old h i s old
    scanned_none s i gray passed = record {
      gray = gray;
      grown = grown_none _ old;
      closed = λ k target l. absurd (false≢true (sym (passed target.field (omega arith) l) ∙ strong_of k target));
    }

    pub scanned_more : (s new : Contents) (mid next : List ℕ) (i j : ℕ) → HasScannedTo t owner marked old h i s mid → i < fields → is_strong kind i fields ≡ true →
        HasVisited t owner marked mid (word t (h + 2 + i)) new next → ((m : ℕ) → i + 1 ≤ m → m < j → is_strong kind m fields ≡ false) → HasScannedTo t owner marked old h j new next
    scanned_more s new mid next i j before l strong visited passed = record {
      gray = visited.gray;
      grown = grown_on _ old mid next before.grown (grown_as (λ v. v ≡ word t (h + 2 + i)) _ mid next added visited.grown);
      closed = λ k target m. elim (cases_lt target.field i) [
        | inl low ↦ with_grown marked _ mid next k visited.grown (before.closed k target low)
        | inr high ↦ elim (cases_eq target.field i) [
          | inl e ↦ visited.visited k target.target (ap (λ (n : ℕ). word t (h + 2 + n)) (sym e) ∙ target.holds)
          | inr n ↦ absurd (false≢true (sym (passed target.field (omega arith) m) ∙ strong_of k target))
        ]
      ];
    }
      where
        added : (v : ℕ) → In v next → v ≡ word t (h + 2 + i) → (k : ℕ) × (v ≡ byte_at k) × IsStrongTarget t owner h k
        added v at e =
            let q = visited.gray.stand v at in (
              q.0,
              q.2,
              record {
                class = is.class;
                shape = is.shape;
                field = i;
                stands = stands;
                target = q.1;
                shape_is = is.shape_is;
                tag = is.tag;
                within = omega arith;
                strong = subst (λ (n : ℕ). is_strong is.shape.kind i n ≡ true) many (subst (λ (d : Descriptor). is_strong d i fields ≡ true) is.kind_is strong);
                holds = sym e ∙ q.2;
              },
            )

    pub scanned_all : (s : Contents) (new : List ℕ) (i : ℕ) → HasScannedTo t owner marked old h i s new → fields ≤ i → HasScanned t owner marked old h s new
    scanned_all s new i all l = record {
      gray = all.gray;
      grown = all.grown;
      closed = λ k target. all.closed k target (let w = target.within in omega arith);
    }
