-- The area of a space that a program has: its bounds, and which fields are strong, in the program's words.
use Rattle.std.proofs.Common.{◌≡◌, ℕ, Bool, Option, Some, None, map, length, slice_get, refl, ap, ◌∙◌}
use Rattle.std.proofs.Math.Path.{fun_ext}
use Rattle.std.specs.Option.{option_map}
use Rattle.std.proofs.lemmas.Option.{slice_get-map}
use Rattle.std.proofs.lemmas.List.{length-map}
use Rattle.sg_program.specs.declared.program.Class.{Class}
use Rattle.sg_program.specs.declared.program.Program.{Program}
use Rattle.sg_desc.specs.Shapes.{is_strong as is_strong_by}
use Rattle.sg_program.specs.Scripts.{shape_at, kind_of, fields_of}
use Rattle.sg_graph.specs.Book.{Book, nursery_end}
use Rattle.sg_graph.specs.Heap.{layout_of}
use Rattle.sg_words.specs.Sections.{nursery_base, old_base, globals_base, words_end}
use Rattle.sg_words.specs.declared.layout.Layout.{Layout}
use Rattle.sg_space.specs.Space.{Contents}
use Rattle.sg_heap.specs.Holding.{IsSpaceOf}
use Rattle.sg_round.specs.Area.{Area}
use Rattle.sg_copy.specs.Copying.{is_strong_in, area_of}

-- whether field i of an object of class c is strong
abbrev pub refers : Program → ℕ → ℕ → Bool
refers p c i = is_strong_by (kind_of p c) i (fields_of p c)

-- the sections of a program, and which fields of its classes are strong
abbrev pub area_for : Program → Area
area_for p = record {
  low = nursery_base;
  high = nursery_end p;
  blocks = p.config.blocks;
  rows = globals_base (layout_of p);
  end = words_end (layout_of p);
  strong = refers p;
}

by_class : (o : Option Class) (i : ℕ) → is_strong_in (option_map (λ (class : Class). class.shape) o) i ≡ is_strong_by (shape_at o).kind i (shape_at o).fields
by_class None i = refl
by_class (Some class) i = refl

pub reference_is : (p : Program) (c i : ℕ) → is_strong_in (slice_get (map (λ (class : Class). class.shape) p.classes) c) i ≡ refers p c i
reference_is p c i = ap (λ o. is_strong_in o i) (slice_get-map (λ (class : Class). class.shape) p.classes c) ∙ by_class (slice_get p.classes c) i

area_by : Layout → (ℕ → ℕ → Bool) → Area
area_by l strong = record { low = nursery_base; high = old_base l; blocks = l.blocks; rows = globals_base l; end = words_end l; strong = strong }

pub area_is : (p : Program) (s : Contents) (b : Book) → IsSpaceOf p s b → area_of s ≡ area_for p
unfolding area_by
area_is p s b h =
    ap (λ (l : Layout). area_by l (λ c i. is_strong_in (slice_get s.shapes c) i)) h.layout
    ∙ ap (λ (f : ℕ → ℕ → Bool). area_by (layout_of p) f)
    (fun_ext (λ c. fun_ext (λ i. ap (λ shapes. is_strong_in (slice_get shapes c) i) h.shapes ∙ reference_is p c i)))

-- the space has as many classes as the program
pub classes_are : (p : Program) (s : Contents) (b : Book) → IsSpaceOf p s b → length s.shapes ≡ length p.classes
classes_are p s b h = ap length h.shapes ∙ length-map p.classes (λ (class : Class). class.shape)
