-- The area of a space that has a program's sections and classes.
use Rattle.std.proofs.Common.{List, slice_get, refl, ap, ◌∙◌, arith}
use Rattle.sg_program.specs.declared.program.Program.{Program}
use Rattle.sg_desc.specs.declared.shapes.Shape.{Shape}
use Rattle.sg_program.specs.Scripts.{kind_of, fields_of}
use Rattle.sg_graph.specs.Book.{Book}
use Rattle.sg_desc.specs.Shapes.{strong_any}
use Rattle.sg_words.specs.declared.layout.Layout.{Layout}
use Rattle.sg_space.specs.Space.{Contents}
use Rattle.sg_heap.specs.Holding.{IsSpaceOf}
use Rattle.sg_copy.specs.Copying.{area_of, is_strong_in}
use Rattle.sg_minor.proofs.Names.{IsAreaOf}
use Rattle.sg_minor.proofs.Areas.{reference_is}

pub area-of-space : (p : Program) (s : Contents) (b : Book) → IsSpaceOf p s b → IsAreaOf p (area_of s)
area-of-space p s b is =
    let nursery = ap (λ (l : Layout). l.nursery) is.layout in
    record {
      low = refl;
      high = omega arith;
      strong = λ c i n. ap (λ (shapes : List Shape). is_strong_in (slice_get shapes c) i) is.shapes ∙ reference_is p c i ∙ strong_any (kind_of p c) i
          (fields_of p c) n;
    }
