use Rattle.std.proofs.Common.{sym, ◌∙◌}
use Rattle.sg_copy.specs.declared.copier.Stage.TheVariants.{Between, Taking, Claiming, Forwarding, Pinning, Grabbing}
use Rattle.sg_copy.proofs.Ports.{Ports}
use Rattle.sg_copy.proofs.Handled.{set_on, set_out, set_out_begun}
use Rattle.sg_copy.proofs.copier.Copier.begin.Given.{Over}
use Rattle.sg_copy.proofs.copier.Copier.begin.Goals as goal

abbrev ports : (g : Over) → Ports g.row.P.Denot
ports g = record {
  leads = g.P.Port.leads;
  may = g.P.Port.may;
  sees = g.P.Port.sees;
  blocks = g.P.BlockPort.blocks;
  stays = g.P.Port.stays;
  chains = g.P.Port.chains;
  fixed = g.met.P.BlockPort.fixed_blocks;
}

pub begin_item-requires-clause-on : goal.begin_item-requires-clause-on
begin_item-requires-clause-on g c =
    set_on (ports g) c.args.self.now c.set_stage.new.self (Between) c.set_stage.ensures (sym c.stage-stage.ensures ∙ c.in-Between.is) c.args.port.now
    c.requires.on

pub returns-in-Between : goal.returns-in-Between
returns-in-Between g c =
    set_out (ports g) c.args.self.now c.set_stage.new.self (Between) c.set_stage.ensures (sym c.stage-stage.ensures ∙ c.in-Between.is)
    c.begin_item.new.self c.args.port.now c.begin_item.new.port c.begin_item.ensures

pub take_block-requires-clause-on : goal.take_block-requires-clause-on
take_block-requires-clause-on g c =
    set_on (ports g) c.args.self.now c.set_stage.new.self (Taking c.in-Taking.job c.in-Taking.block) c.set_stage.ensures
    (sym c.stage-stage.ensures ∙ c.in-Taking.is) c.args.port.now c.requires.on

pub returns-in-Taking : goal.returns-in-Taking
returns-in-Taking g c =
    set_out_begun (ports g) c.args.self.now c.set_stage.new.self (Taking c.in-Taking.job c.in-Taking.block) c.set_stage.ensures
    (sym c.stage-stage.ensures ∙ c.in-Taking.is) c.take_block.new.self c.args.port.now c.take_block.new.port c.take_block.ensures

pub claim-requires-clause-on : goal.claim-requires-clause-on
claim-requires-clause-on g c =
    set_on (ports g) c.args.self.now c.set_stage.new.self (Claiming c.in-Claiming.job c.in-Claiming.block c.in-Claiming.slot) c.set_stage.ensures
    (sym c.stage-stage.ensures ∙ c.in-Claiming.is) c.args.port.now c.requires.on

pub returns-in-Claiming : goal.returns-in-Claiming
returns-in-Claiming g c =
    set_out_begun (ports g) c.args.self.now c.set_stage.new.self (Claiming c.in-Claiming.job c.in-Claiming.block c.in-Claiming.slot)
    c.set_stage.ensures (sym c.stage-stage.ensures ∙ c.in-Claiming.is) c.claim.new.self c.args.port.now c.claim.new.port c.claim.ensures

pub forward-requires-clause-on : goal.forward-requires-clause-on
forward-requires-clause-on g c =
    set_on (ports g) c.args.self.now c.set_stage.new.self (Forwarding c.in-Forwarding.job c.in-Forwarding.to) c.set_stage.ensures
    (sym c.stage-stage.ensures ∙ c.in-Forwarding.is) c.args.port.now c.requires.on

pub returns-in-Forwarding : goal.returns-in-Forwarding
returns-in-Forwarding g c =
    set_out_begun (ports g) c.args.self.now c.set_stage.new.self (Forwarding c.in-Forwarding.job c.in-Forwarding.to) c.set_stage.ensures
    (sym c.stage-stage.ensures ∙ c.in-Forwarding.is) c.forward.new.self c.args.port.now c.forward.new.port c.forward.ensures

pub pin-requires-clause-on : goal.pin-requires-clause-on
pin-requires-clause-on g c =
    set_on (ports g) c.args.self.now c.set_stage.new.self (Pinning c.in-Pinning.job) c.set_stage.ensures (sym c.stage-stage.ensures ∙ c.in-Pinning.is)
    c.args.port.now c.requires.on

pub returns-in-Pinning : goal.returns-in-Pinning
returns-in-Pinning g c =
    set_out_begun (ports g) c.args.self.now c.set_stage.new.self (Pinning c.in-Pinning.job) c.set_stage.ensures
    (sym c.stage-stage.ensures ∙ c.in-Pinning.is) c.pin.new.self c.args.port.now c.pin.new.port c.pin.ensures

pub grab-requires-clause-on : goal.grab-requires-clause-on
grab-requires-clause-on g c =
    set_on (ports g) c.args.self.now c.set_stage.new.self (Grabbing c.in-Grabbing.cell c.in-Grabbing.item) c.set_stage.ensures
    (sym c.stage-stage.ensures ∙ c.in-Grabbing.is) c.args.port.now c.requires.on

pub returns-in-Grabbing : goal.returns-in-Grabbing
returns-in-Grabbing g c =
    set_out (ports g) c.args.self.now c.set_stage.new.self (Grabbing c.in-Grabbing.cell c.in-Grabbing.item) c.set_stage.ensures
    (sym c.stage-stage.ensures ∙ c.in-Grabbing.is) c.grab.new.self c.args.port.now c.grab.new.port c.grab.ensures
