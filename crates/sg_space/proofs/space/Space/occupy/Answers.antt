use Rattle.std.proofs.Common.{◌≡◌, ◌<◌, length, sym, ◌∙◌, subst, rules}
use Rattle.std.proofs.lemmas.Grind.{get_or_default_zero}
use Rattle.std.specs.Int.{bit_at}
use Rattle.sg_space.proofs.Passing.{still_passed, or_keeps}
use Rattle.sg_space.specs.Inside.{contents_of}
use Rattle.sg_space.specs.Standing.{used_in}
use Rattle.sg_space.proofs.space.Space.occupy.Goals as goal

pub invariant_of-self : goal.invariant_of-self
invariant_of-self c =
    let inv = c.self.invariant in
    let used = c.self.inside.used.items in
    let there : c.args.b < length used = search rules in
    let same : c.index-found.result.now ≡ used_in (contents_of c.self.inside) c.args.b =
    c.index-found.ensures ∙ get_or_default_zero used c.args.b c.index-found.result.now there in
    record {
      contents = search rules;
      room_next = inv.room_next;
      room_ends = inv.room_ends;
      room_registered = inv.room_registered;
      within = inv.within;
      clean = inv.clean;
      passed = λ k l. still_passed (contents_of c.self.inside) c.args.b _ c.self.inside.passed_size k there
          (λ i set. or_keeps c.index-found.result.now _ i (subst (λ n. bit_at n i ≡ 1) (sym same) set)) (inv.passed k l);
      few = inv.few;
    }
