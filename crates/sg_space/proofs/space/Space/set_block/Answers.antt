use Rattle.std.proofs.Common.{◌≢◌, ◌<◌, arith, rules}
use Rattle.sg_space.proofs.Passing.{block_elsewhere}
use Rattle.sg_space.specs.Inside.{contents_of}
use Rattle.sg_space.proofs.space.Space.set_block.Goals as goal

pub invariant_of-self : goal.invariant_of-self
invariant_of-self c =
    let inv = c.self.invariant in
    let passed = c.self.inside.passed in
    let kept = c.min-self-inside.result in
    let e = c.min-self-inside.ensures in
    let few = inv.few in
    record {
      contents = search rules;
      room_next = inv.room_next;
      room_ends = inv.room_ends;
      room_registered = inv.room_registered;
      within = inv.within;
      clean = inv.clean;
      passed = λ k l.
          let before : k < passed = omega (arith, l, e) in
          let other : k ≢ c.args.b = omega (arith, l, e) in
          block_elsewhere (contents_of c.self.inside) c.args.b c.args.word c.self.inside.passed_size k other (inv.passed k before);
      few = search (rules, arith);
    }
