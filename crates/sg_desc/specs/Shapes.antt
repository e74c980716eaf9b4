-- Which fields an object has, and of which sort each is.
use Rattle.std.specs.Prelude.{◌≡◌, ℕ, ◌+◌, ◌==◌, ◌&&◌, nat_le, nat_lt, Bool, true, false, not, refl}
use Rattle.std.specs.Int.{bit_at}
use Rattle.sg_desc.specs.declared.shapes.Descriptor.{Descriptor}
use Rattle.sg_desc.specs.declared.shapes.Descriptor.TheVariants.{PtrFree, Run, Bitmap, VectorRefs, VectorPlain, Ephemeron}

-- whether field i of an object of n fields holds a reference
abbrev pub holds_reference : Descriptor → ℕ → ℕ → Bool
holds_reference PtrFree i n = false
holds_reference (Run first count) i n = nat_le first i && nat_lt i (first + count)
holds_reference (Bitmap bits) i n = bit_at bits i == 1
holds_reference VectorRefs i n = true
holds_reference VectorPlain i n = false
holds_reference Ephemeron i n = true

-- whether it holds a reference that keeps its object: both fields of a pair don't
abbrev pub is_strong : Descriptor → ℕ → ℕ → Bool
is_strong PtrFree i n = false
is_strong (Run first count) i n = holds_reference (Run first count) i n
is_strong (Bitmap bits) i n = holds_reference (Bitmap bits) i n
is_strong VectorRefs i n = true
is_strong VectorPlain i n = false
is_strong Ephemeron i n = false

-- which fields are strong doesn't hang on how many there are
pub strong_any : (kind : Descriptor) (i m n : ℕ) → is_strong kind i m ≡ is_strong kind i n
strong_any PtrFree i m n = refl
strong_any (Run first count) i m n = refl
strong_any (Bitmap bits) i m n = refl
strong_any VectorRefs i m n = refl
strong_any VectorPlain i m n = refl
strong_any Ephemeron i m n = refl

-- a strong field holds a reference
pub strong_holds : (kind : Descriptor) (i n : ℕ) → is_strong kind i n ≡ true → holds_reference kind i n ≡ true
strong_holds PtrFree i n e = e
strong_holds (Run first count) i n e = e
strong_holds (Bitmap bits) i n e = e
strong_holds VectorRefs i n e = e
strong_holds VectorPlain i n e = e
strong_holds Ephemeron i n e = refl

-- an object of a class with this descriptor has as many fields as it was made with
abbrev pub is_vector : Descriptor → Bool
is_vector PtrFree = false
is_vector (Run first count) = false
is_vector (Bitmap bits) = false
is_vector VectorRefs = true
is_vector VectorPlain = true
is_vector Ephemeron = false

-- a field holds a reference or a number
pub data Sort : Type 0 where
  Reference : Sort
  Plain : Sort

-- whether an object of n fields with this descriptor has a field i of this sort
abbrev pub has_field : Sort → Descriptor → ℕ → ℕ → Bool
has_field Reference kind n i = nat_lt i n && holds_reference kind i n
has_field Plain kind n i = nat_lt i n && not (holds_reference kind i n)
