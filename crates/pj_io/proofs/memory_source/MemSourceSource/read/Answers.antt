use Rattle.pj_io.proofs.MemoryReads.{memory_read}
use Rattle.pj_io.proofs.memory_source.MemSourceSource.read.Goals as goal

pub returns-clause-bytes : goal.returns-clause-bytes
returns-clause-bytes c =
    let s = c.self.inside in
    rw (← c.self.view_is) (memory_read s.bytes c.args.buf.now c.copy_from_slice.new.self c.as_slice-2.result.now s.name s.at c.min-count.result c.min.result s.cut s.faults c.as_slice-2.ensures c.self.invariant.0 c.self.invariant.1 c.min.ensures c.min-count.ensures c.copy_from_slice.ensures.after)
