-- What a refusal leaves of what was handed out: the first of it was taken, and no other.
use Rattle.std.specs.Prelude.{◌≡◌, List, ◌++◌}
use Rattle.pj_pattern.specs.declared.element.Element.{Element}
use Rattle.pj_events.specs.declared.events.Out.{Out}
use Rattle.pj_events.specs.Outcomes.{elements_out}
use Rattle.pj_report.specs.declared.kept.KeptLines.{KeptLines}
use Rattle.pj_report.specs.declared.results.Counts.{Counts}
use Rattle.pj_report.specs.Results.{counts_of}
use Rattle.pj_report.specs.Sorted.{punct_lines, row_lines}

-- so it is with the elements of the first of these
pub record OfFirst (outs : List Out) (So : List Element → Type 0) : Type 0 where
  pub first : List Out
  pub others : List Out
  pub all : first ++ others ≡ outs
  pub so : So (elements_out first)

-- counts of some elements count these behind them
abbrev pub CountsMore : Counts → Counts → List Element → Type 0
CountsMore old new more = (before : List Element) → old ≡ counts_of before → new ≡ counts_of (before ++ more)

-- the lines of these are kept behind those that were
abbrev pub KeepsMore : KeptLines → KeptLines → List Element → Type 0
KeepsMore old new more = (new.rows ≡ old.rows ++ row_lines more) × (new.puncts ≡ old.puncts ++ punct_lines more)
