use Rattle.std.proofs.Common.{◌≡◌, drop}
use Rattle.pj_io.specs.MemoryFolders.{added_of}
use Rattle.pj_io.proofs.finding.find_file.Given as goal

abbrev pub invariant-loop-file : goal.invariant-loop-file
invariant-loop-file l = added_of l.files l.name ≡ added_of (drop l.file-index l.files) l.name
