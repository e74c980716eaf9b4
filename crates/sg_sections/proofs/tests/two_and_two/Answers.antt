use Rattle.std.proofs.Common.{List, ap, ◌∙◌}
use Rattle.sg_desc.specs.declared.shapes.Shape.{Shape}
use Rattle.sg_space.specs.Space.{clear_space}
use Rattle.sg_sections.proofs.Four.{layout, four_made}
use Rattle.sg_sections.proofs.tests.two_and_two.Goals as goal

pub returns : goal.returns
returns c = four_made c.in_ok-space.space c.set_next.new.self c.set_block.new.self c.set_used.new.self c.put.new.space c.put-2.new.space c.put-3.new.space c.put-4.new.space
    (c.in_ok-space.ensures.clear ∙ ap (λ (z : List Shape). clear_space layout z) c.as_slice.ensures)
    c.set_next.ensures c.set_block.ensures c.set_used.ensures c.put.ensures c.put-2.ensures c.put-3.ensures c.put-4.ensures
