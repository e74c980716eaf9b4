use Rattle.std.proofs.Common.{sym, ap}
use Rattle.sg_io.proofs.MemoryReads.{read_from}
use Rattle.sg_io.proofs.memory_source.MemorySourceSource.read.Goals as goal

pub returns-clause-bytes : goal.returns-clause-bytes
returns-clause-bytes c =
    let copy = c.copy_prefix-taken in
    read_from _ _ _ _ _ _ _ c.deref-2.ensures.value (sym (ap (λ s. s.left) c.self.view_is)) copy.ensures.count copy.ensures.copied copy.auto.to
