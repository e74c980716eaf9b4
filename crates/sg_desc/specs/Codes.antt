-- The word of a descriptor.
use Rattle.std.specs.Prelude.{◌≡◌, ℕ, ◌+◌, ◌*◌, ◌^◌, ◌<◌, ◌≤◌, Option, Some, None}
use Rattle.sg_desc.specs.declared.shapes.Descriptor.{Descriptor}
use Rattle.sg_desc.specs.declared.shapes.Descriptor.TheVariants.{PtrFree, Run, Bitmap, VectorRefs, VectorPlain, Ephemeron}

-- a run has a field and ends at 62 or before, and a mask has 60 bits
abbrev pub IsDescriptor : Descriptor → Type 0
IsDescriptor PtrFree = Unit {0}
IsDescriptor (Run first count) = (1 ≤ count) × (first + count ≤ 62)
IsDescriptor (Bitmap bits) = bits < 2 ^ 60
IsDescriptor VectorRefs = Unit {0}
IsDescriptor VectorPlain = Unit {0}
IsDescriptor Ephemeron = Unit {0}

abbrev pub descriptor_word : Descriptor → ℕ
descriptor_word PtrFree = 0
descriptor_word (Run first count) = 1 + 8 * first + 2048 * count
descriptor_word (Bitmap bits) = 2 + 8 * bits
descriptor_word VectorRefs = 3
descriptor_word VectorPlain = 4
descriptor_word Ephemeron = 5

-- the answer is the descriptor with this word, or none where no descriptor has it
abbrev pub Reads : Option Descriptor → ℕ → Type 0
Reads (Some descriptor) word = IsDescriptor descriptor × (descriptor_word descriptor ≡ word)
Reads None word = (descriptor : Descriptor) → IsDescriptor descriptor → descriptor_word descriptor ≡ word → ⊥
