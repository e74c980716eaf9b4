use Rattle.std.proofs.Common.{◌≡◌, ℕ, Result, Ok, Err, [], ◌∷◌, subst, sym}
use Rattle.std.specs.Result.{MatchResult}
use Rattle.sg_words.specs.declared.steps.BlockWord.{BlockWord}
use Rattle.sg_words.specs.declared.steps.BlockWord.TheVariants.{Free, Swept}
use Rattle.sg_words.specs.declared.steps.BlockStep.TheVariants.{WonBlock, LostBlock}
use Rattle.sg_words.specs.declared.steps.Step.TheVariants.{OnBlock}
use Rattle.sg_words.specs.declared.steps.Call.TheVariants.{OnBlocks}
use Rattle.sg_words.specs.declared.steps.BlockCall.TheVariants.{SwapsBlock}
use Rattle.sg_round.specs.Worker.{On as OnSlot, Take, size_for}
use Rattle.sg_copy.specs.declared.copier.Job.{Job}
use Rattle.sg_copy.specs.Telling.{at}
use Rattle.sg_copy.specs.State.{Copying, teller_of, seat_of, object_of}
use Rattle.sg_copy.proofs.Ports.{Ports, On, Started, Did}
use Rattle.sg_copy.proofs.Places.{look_at}
use Rattle.sg_copy.proofs.Handled.{begun_then}
use Rattle.sg_copy.proofs.Swaps.{take_may, took_block, lost_block}
use Rattle.sg_copy.proofs.copier.Copier.take_block.Given.{Over}
use Rattle.sg_copy.proofs.copier.Copier.take_block.Goals as goal

abbrev ports : (g : Over) → Ports g.row.P.Denot
ports g = record {
  leads = g.P.Port.leads;
  may = g.P.Port.may;
  sees = g.P.Port.sees;
  blocks = g.P.BlockPort.blocks;
  stays = g.P.Port.stays;
  chains = g.P.Port.chains;
  fixed = g.met.P.BlockPort.fixed_blocks;
}

pub swap_block-requires : goal.swap_block-requires
swap_block-requires g c =
    let o = ports g in
    let m = c.args.self.now in
    let x = object_of c.args.job in
    record {
      may = subst (λ z. o.may c.args.port.now (OnBlocks (SwapsBlock c.args.block Free (Swept z)))) (sym c.size_of-size.ensures.size)
          (take_may o (seat_of m) (teller_of m) c.args.job.slot x c.args.block c.args.port.now c.requires.on);
    }

-- won or lost, the block is looked at again
tried : (g : Over) (m : Copying) (job : Job) (b size : ℕ) (p q : g.row.P.Denot) → size ≡ size_for (object_of job) →
    On (ports g) (seat_of m) p (at (teller_of m) (OnSlot job.slot (Take (object_of job) b))) → (result : Result (Unit {0}) BlockWord) →
    MatchResult result (λ _. g.P.Port.leads p (OnBlock (WonBlock b Free (Swept size)) ∷ []) q)
    (λ found. g.P.Port.leads p (OnBlock (LostBlock b Free (Swept size) found) ∷ []) q) →
    MatchResult result (λ _. g.P.Port.sees p (OnBlock (WonBlock b Free (Swept size))))
    (λ found. g.P.Port.sees p (OnBlock (LostBlock b Free (Swept size) found))) →
    On (ports g) (seat_of m) q (look_at (ports g) (seat_of m) (teller_of m) job.slot (object_of job) b)
    × Started (ports g) (seat_of m) (at (teller_of m) (OnSlot job.slot (Take (object_of job) b))) p
    (look_at (ports g) (seat_of m) (teller_of m) job.slot (object_of job) b) q
tried g m job b size p q e on (Ok u) led saw = took_block (ports g) (seat_of m) (teller_of m) job.slot (object_of job) b p on q
    (subst (λ z. Did (ports g) (seat_of m) p (OnBlock (WonBlock b Free (Swept z))) q) e (saw, led))
tried g m job b size p q e on (Err found) led saw = lost_block (ports g) (seat_of m) (teller_of m) job.slot (object_of job) b p on found q
    (subst (λ z. Did (ports g) (seat_of m) p (OnBlock (LostBlock b Free (Swept z) found)) q) e (saw, led))

pub search-requires-clause-on : goal.search-requires-clause-on
search-requires-clause-on g c =
    (tried g c.args.self.now c.args.job c.args.block c.size_of-size.result c.args.port.now c.swap_block.new.self c.size_of-size.ensures.size
    c.requires.on c.swap_block.result
    c.swap_block.ensures.led c.swap_block.ensures.seen).0

pub returns : goal.returns
returns g c =
    let o = ports g in
    let m = c.args.self.now in
    let x = object_of c.args.job in
    let b = c.args.block in
    begun_then o m c.search.new.self (at (teller_of m) (OnSlot c.args.job.slot (Take x b))) (look_at o (seat_of m) (teller_of m) c.args.job.slot x b)
    c.args.port.now c.swap_block.new.self c.search.new.port
    (tried g m c.args.job b c.size_of-size.result c.args.port.now c.swap_block.new.self c.size_of-size.ensures.size c.requires.on c.swap_block.result
    c.swap_block.ensures.led c.swap_block.ensures.seen).1
    c.search.ensures
