use Rattle.std.proofs.Common.{◌≡◌, drop, map}
use Rattle.std.specs.String.{string_bytes}
use Rattle.pj_words.specs.Reader.{reads, start}
use Rattle.pj_words.specs.Request.{form_of}
use Rattle.pj_words.specs.Steps.{seen_by}
use Rattle.pj_words.proofs.reader.reads_all.Given as goal

abbrev pub invariant-loop-word : goal.invariant-loop-word
invariant-loop-word l = reads (form_of l.command) (map string_bytes (drop l.word-index l.words)) (seen_by l.command l.seen)
    ≡ reads (form_of l.command) (map string_bytes l.words) (start (form_of l.command))
