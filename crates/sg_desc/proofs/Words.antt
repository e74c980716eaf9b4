-- No two descriptors have one word.
use Rattle.std.proofs.Common.{◌≡◌, ℕ, ◌+◌, ◌*◌, ◌≤◌, Option, Some, None, refl, sym, ap, ◌∙◌, arith}
use Rattle.sg_desc.specs.declared.shapes.Descriptor.{Descriptor}
use Rattle.sg_desc.specs.declared.shapes.Descriptor.TheVariants.{PtrFree, Run, Bitmap, VectorRefs, VectorPlain, Ephemeron}
use Rattle.sg_desc.specs.Codes.{IsDescriptor, descriptor_word, Reads}

same_run : (f c g d : ℕ) → f + c ≤ 62 → g + d ≤ 62 → 1 + 8 * f + 2048 * c ≡ 1 + 8 * g + 2048 * d → Run f c ≡ Run g d
same_run f c g d i j e =
    let counts : c ≡ d = omega arith in
    let firsts : f ≡ g = omega arith in
    rw (counts, firsts) refl

one_word : (a b : Descriptor) → IsDescriptor a → IsDescriptor b → descriptor_word a ≡ descriptor_word b → a ≡ b
one_word PtrFree PtrFree i j e = refl
one_word PtrFree (Run g d) i j e = absurd (omega arith)
one_word PtrFree (Bitmap n) i j e = absurd (omega arith)
one_word PtrFree VectorRefs i j e = absurd (omega arith)
one_word PtrFree VectorPlain i j e = absurd (omega arith)
one_word PtrFree Ephemeron i j e = absurd (omega arith)
one_word (Run f c) PtrFree i j e = absurd (omega arith)
one_word (Run f c) (Run g d) i j e = same_run f c g d i.1 j.1 e
one_word (Run f c) (Bitmap n) i j e = absurd (omega arith)
one_word (Run f c) VectorRefs i j e = absurd (omega arith)
one_word (Run f c) VectorPlain i j e = absurd (omega arith)
one_word (Run f c) Ephemeron i j e = absurd (omega arith)
one_word (Bitmap m) PtrFree i j e = absurd (omega arith)
one_word (Bitmap m) (Run g d) i j e = absurd (omega arith)
one_word (Bitmap m) (Bitmap n) i j e = let same : m ≡ n = omega arith in ap (λ (bits : ℕ). Bitmap bits) same
one_word (Bitmap m) VectorRefs i j e = absurd (omega arith)
one_word (Bitmap m) VectorPlain i j e = absurd (omega arith)
one_word (Bitmap m) Ephemeron i j e = absurd (omega arith)
one_word VectorRefs PtrFree i j e = absurd (omega arith)
one_word VectorRefs (Run g d) i j e = absurd (omega arith)
one_word VectorRefs (Bitmap n) i j e = absurd (omega arith)
one_word VectorRefs VectorRefs i j e = refl
one_word VectorRefs VectorPlain i j e = absurd (omega arith)
one_word VectorRefs Ephemeron i j e = absurd (omega arith)
one_word VectorPlain PtrFree i j e = absurd (omega arith)
one_word VectorPlain (Run g d) i j e = absurd (omega arith)
one_word VectorPlain (Bitmap n) i j e = absurd (omega arith)
one_word VectorPlain VectorRefs i j e = absurd (omega arith)
one_word VectorPlain VectorPlain i j e = refl
one_word VectorPlain Ephemeron i j e = absurd (omega arith)
one_word Ephemeron PtrFree i j e = absurd (omega arith)
one_word Ephemeron (Run g d) i j e = absurd (omega arith)
one_word Ephemeron (Bitmap n) i j e = absurd (omega arith)
one_word Ephemeron VectorRefs i j e = absurd (omega arith)
one_word Ephemeron VectorPlain i j e = absurd (omega arith)
one_word Ephemeron Ephemeron i j e = refl

pub reads_only : (read : Option Descriptor) (word : ℕ) → Reads read word → (descriptor : Descriptor) → IsDescriptor descriptor → descriptor_word descriptor ≡ word → read ≡ Some descriptor
reads_only (Some other) word h descriptor is e = ap (λ (d : Descriptor). Some d) (one_word other descriptor h.0 is (h.1 ∙ sym e))
reads_only None word h descriptor is e = absurd (h descriptor is e)
