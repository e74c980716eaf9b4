-- The limits of the language.
use Rattle.std.specs.Prelude.{◌≡◌, ℕ, ◌+◌, ◌%◌, ◌≤◌}
use Rattle.sg_desc.specs.declared.shapes.Descriptor.{Descriptor}
use Rattle.sg_desc.specs.declared.shapes.Descriptor.TheVariants.{PtrFree, Run, Bitmap, VectorRefs, VectorPlain, Ephemeron}

-- the most bytes of an input
abbrev pub most_bytes : ℕ
most_bytes = 1048576

-- the words of the nursery: least and most, and what divides them
abbrev pub least_nursery : ℕ
least_nursery = 256

abbrev pub most_nursery : ℕ
most_nursery = 65536

abbrev pub nursery_step : ℕ
nursery_step = 64

-- the other settings, of which blocks, workers and the count at which an object is cemented are 1 at least
abbrev pub most_blocks : ℕ
most_blocks = 4096

abbrev pub most_pages : ℕ
most_pages = 1024

abbrev pub least_buffer : ℕ
least_buffer = 16

abbrev pub most_buffer : ℕ
most_buffer = 1024

abbrev pub most_workers : ℕ
most_workers = 8

abbrev pub most_cement : ℕ
most_cement = 1000

-- classes, the fields of one, the fields of one by a mask, the fields of a vector
abbrev pub most_classes : ℕ
most_classes = 256

abbrev pub most_fields : ℕ
most_fields = 62

abbrev pub most_mask : ℕ
most_mask = 60

abbrev pub most_vector : ℕ
most_vector = 131070

-- the last register, and the last global or weak link
abbrev pub last_register : ℕ
last_register = 15

abbrev pub last_place : ℕ
last_place = 63

-- how often a repeat does its body, and how many stand inside one another
abbrev pub most_times : ℕ
most_times = 1048576

abbrev pub most_nesting : ℕ
most_nesting = 4

-- what a program does, repeats counted: its statements, and those that register an object for finalization
abbrev pub most_statements : ℕ
most_statements = 1048576

abbrev pub most_finals : ℕ
most_finals = 1024

abbrev pub most_mutators : ℕ
most_mutators = 16

-- a class with this descriptor may have this many fields
abbrev pub MayHave : Descriptor → ℕ → Type 0
MayHave PtrFree fields = fields ≤ most_fields
MayHave (Run first count) fields = (1 ≤ count) × (first + count ≤ fields) × (fields ≤ most_fields)
MayHave (Bitmap bits) fields = fields ≤ most_mask
MayHave VectorRefs fields = fields ≡ 0
MayHave VectorPlain fields = fields ≡ 0
MayHave Ephemeron fields = fields ≡ 2

-- the nursery may have so many words
abbrev pub IsNurserySize : ℕ → Type 0
IsNurserySize n = (least_nursery ≤ n) × (n ≤ most_nursery) × (n % nursery_step ≡ 0)
