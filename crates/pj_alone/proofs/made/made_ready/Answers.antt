use Rattle.pj_alone.proofs.MadeLaws.{only_memory}
use Rattle.pj_alone.proofs.made.made_ready.Goals as goal

pub memory_of-requires : goal.memory_of-requires
memory_of-requires c = only_memory c.in-Err.stop c.args.bytes.now c.requires c.in-Err.ensures.cause
