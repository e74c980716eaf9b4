use Rattle.sg_sweep.proofs.Writing.{IsSweepPort, may_clear, may_store, written}
use Rattle.sg_sweep.proofs.sweep.write_out.Given.{Over}
use Rattle.sg_sweep.proofs.sweep.write_out.Goals as goal

port : (g : Over) → IsSweepPort g.P.Port.leads g.P.SweepPort.heap g.P.SweepPort.marks
port g = record { stays = g.P.Port.stays; chains = g.P.Port.chains; fixed = g.met.P.SweepPort.fixed_sweep }

pub clear_unmarked-freed-requires-clause-may : goal.clear_unmarked-freed-requires-clause-may
clear_unmarked-freed-requires-clause-may g c =
    may_clear g.P.Port.leads g.P.Port.sees g.P.Port.may g.P.SweepPort.heap g.P.SweepPort.marks (port g) c.args.block c.args.size c.args.port.now
    c.set_used.new.self c.marks-marks.result c.marks-marks.ensures c.set_used.ensures.led c.set_used.ensures.seen c.requires.may

pub set_block-requires : goal.set_block-requires
set_block-requires g c = record {
  may = may_store g.P.Port.leads g.P.Port.sees g.P.Port.may g.P.SweepPort.heap g.P.SweepPort.marks (port g) c.args.block c.args.size c.args.port.now
      c.set_used.new.self c.marks-marks.result c.marks-marks.ensures c.set_used.ensures.led c.set_used.ensures.seen c.clear_unmarked-freed.new.port
      c.clear_unmarked-freed.ensures.made c.word_after.result c.word_after.ensures c.requires.may;
}

pub returns-clause-made : goal.returns-clause-made
returns-clause-made g c =
    written g.P.Port.leads g.P.Port.sees g.P.Port.may g.P.SweepPort.heap g.P.SweepPort.marks (port g) c.args.block c.args.size c.args.port.now
    c.set_used.new.self c.marks-marks.result c.marks-marks.ensures c.set_used.ensures.led c.set_used.ensures.seen c.clear_unmarked-freed.new.port
    c.clear_unmarked-freed.ensures.made c.word_after.result c.word_after.ensures c.set_block.new.self c.set_block.ensures.led c.set_block.ensures.seen
