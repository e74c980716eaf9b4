use Rattle.sg_sweep.proofs.Writing.{IsSweepPort, may_write, sweeps}
use Rattle.sg_sweep.proofs.sweep.sweep_block.Given.{Over}
use Rattle.sg_sweep.proofs.sweep.sweep_block.Goals as goal

port : (g : Over) → IsSweepPort g.P.Port.leads g.P.SweepPort.heap g.P.SweepPort.marks
port g = record { stays = g.P.Port.stays; chains = g.P.Port.chains; fixed = g.met.P.SweepPort.fixed_sweep }

pub write_out-requires-clause-may : goal.write_out-requires-clause-may
write_out-requires-clause-may g c =
    may_write g.P.Port.leads g.P.Port.sees g.P.Port.may g.P.SweepPort.heap g.P.SweepPort.marks (port g) c.args.block c.size_of.result c.args.port.now
    c.prepare.new.port c.take_over.new.port c.in-Ok.need c.size_of.ensures c.in-Ok.ensures.0 c.in-Ok-take_over.ensures c.requires.may

pub returns-in-Ok-take_over : goal.returns-in-Ok-take_over
returns-in-Ok-take_over g c =
    sweeps g.P.Port.leads g.P.Port.sees g.P.Port.may g.P.SweepPort.heap g.P.SweepPort.marks (port g) c.args.block c.size_of.result c.args.port.now
    c.prepare.new.port c.take_over.new.port c.in-Ok.need c.size_of.ensures c.in-Ok.ensures.0 c.in-Ok-take_over.ensures c.write_out.new.port
    c.write_out.result c.write_out.ensures.made c.write_out.ensures.freed
