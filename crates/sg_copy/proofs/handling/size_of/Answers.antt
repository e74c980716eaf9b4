use Rattle.std.proofs.Common.{◌≡◌, ◌+◌, sym, subst}
use Rattle.sg_words.specs.Blocks.{IsSizeClass, slot_size}
use Rattle.sg_words.proofs.Blocks.{slot_size-class, class_bounds}
use Rattle.sg_copy.proofs.handling.size_of.Goals as goal
use Rattle.std.proofs.Common.{rules}

pub returns-clause-class : goal.returns-clause-class
returns-clause-class c =
    let e : c.unwrap.result ≡ slot_size (c.args.fields + 2) = search rules in
    subst IsSizeClass (sym e) (slot_size-class (c.args.fields + 2))

pub returns-clause-most : goal.returns-clause-most
returns-clause-most c =
    let e : c.unwrap.result ≡ slot_size (c.args.fields + 2) = search rules in
    (class_bounds c.unwrap.result (subst IsSizeClass (sym e) (slot_size-class (c.args.fields + 2)))).1
