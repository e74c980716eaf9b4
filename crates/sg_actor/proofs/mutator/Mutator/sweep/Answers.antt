use Rattle.std.proofs.Common.{◌≡◌, ℕ, true, sym, ◌∙◌, subst}
use Rattle.sg_words.specs.declared.steps.Step.TheVariants.{OnBlock}
use Rattle.sg_words.specs.declared.steps.BlockStep.TheVariants.{StoreUsed}
use Rattle.sg_words.specs.Sections.{old_base}
use Rattle.sg_cells.specs.Made.{Makes}
use Rattle.sg_cells.specs.Allowed.{MayMake}
use Rattle.sg_sweep.specs.Sweeping.{sweep_steps}
use Rattle.sg_rules.specs.Rules.{Actor, Idle, Search, SeeBlock, StoreOccupancy, sections_of, within}
use Rattle.sg_actor.specs.State.{actor_of}
use Rattle.sg_actor.proofs.Ports.{Ports}
use Rattle.sg_actor.proofs.Turnings.{Turned, midst}
use Rattle.sg_actor.proofs.Paths.{path_may, path_turned}
use Rattle.sg_actor.proofs.Sweeps.{behind, sweep_begins, sweep_leads, sweep_follows}
use Rattle.sg_actor.proofs.Resting.{on_there, turned_there}
use Rattle.sg_actor.proofs.mutator.Mutator.sweep.Given.{Over}
use Rattle.sg_actor.proofs.mutator.Mutator.sweep.Goals as goal

abbrev ports : (g : Over) → Ports g.row.P.Denot
ports g = record {
  leads = g.P.Port.leads;
  may = g.P.Port.may;
  sees = g.P.Port.sees;
  fragments = g.P.FragPort.fragments;
  limit = g.P.FragPort.limit;
  stays = g.P.Port.stays;
  chains = g.P.Port.chains;
  fixed = g.met.P.FragPort.fixed;
  blocks = g.P.BlockPort.blocks;
  heap = g.P.SweepPort.heap;
  marks = g.P.SweepPort.marks;
  fixed_blocks = g.met.P.BlockPort.fixed_blocks;
  fixed_sweep = g.met.P.SweepPort.fixed_sweep;
}

pub write_out-requires-clause-may : goal.write_out-requires-clause-may
write_out-requires-clause-may g c =
    let o = ports g in
    let m = c.args.self.now in
    let p = m.program in
    let t = Search c.args.statement in
    let b = c.args.block in
    let z = c.args.size in
    let x = c.args.port.now in
    let lay = c.requires.on.0 in
    let on = c.requires.on.1 in
    let here = on_there m _ c.requires.stage o lay x on in
    let may = path_may o p lay _ _ (sweep_steps (old_base (sections_of p)) b z (lay.marks b)) x here
    (sweep_follows p lay (actor_of m) m.script t b z here.guided.is_sane.class) in
    subst (λ (marks : ℕ → ℕ). MayMake o.leads o.sees o.may x (sweep_steps (o.heap x) b z (marks b))) (sym on.marks_are)
    (subst (λ heap. MayMake o.leads o.sees o.may x (sweep_steps heap b z (lay.marks b))) (sym on.heap_is) may)

pub returns-clause-turned : goal.returns-clause-turned
returns-clause-turned g c lay on =
    let o = ports g in
    let m = c.args.self.now in
    let p = m.program in
    let s = c.args.statement in
    let t = Search s in
    let b = c.args.block in
    let z = c.args.size in
    let x = c.args.port.now in
    let y = c.write_out.new.port in
    let here = on_there m _ c.requires.stage o lay x on in
    let class = here.guided.is_sane.class in
    let a = actor_of m in
    let made : Makes o.leads o.sees x (sweep_steps (old_base (sections_of p)) b z (lay.marks b)) y =
    subst (λ heap. Makes o.leads o.sees x (sweep_steps heap b z (lay.marks b)) y) on.heap_is
    (subst (λ (marks : ℕ → ℕ). Makes o.leads o.sees x (sweep_steps (o.heap x) b z (marks b)) y) on.marks_are c.write_out.ensures.made) in
    let swept = within a m.script (SeeBlock t true b) in
    let turn = path_turned o p lay _ swept _ (OnBlock (StoreUsed b (lay.marks b))) (behind p lay a m.script t b z class) x y here
    (sweep_begins p lay a m.script t b z class) (sweep_leads p lay a m.script t b z class) made tt in
    let is : actor_of c.rest_at.new.self ≡ swept =
    c.rest_at.ensures.actor ∙ midst c.resume.new.self (within a m.script Idle) (SeeBlock t true b) c.resume.ensures.actor in
    turned_there m _ c.requires.stage o lay x (actor_of c.rest_at.new.self) y
    (subst (λ (d : Actor). Turned o p lay (within a m.script (StoreOccupancy t b z)) x d y) (sym is) turn)
