-- The states of aggregates.
use Rattle.pj_events.specs.Tables.{Tally, Rows, Total, Least, Greatest}
use Rattle.pj_group.specs.declared.tally.State.{State}
use Rattle.pj_group.specs.declared.tally.State.TheVariants.{Rows as KeptRows, Total as KeptTotal, Least as KeptLeast, Greatest as KeptGreatest}

-- what a state says
abbrev pub tally_in : State → Tally
tally_in (KeptRows n) = Rows n
tally_in (KeptTotal z) = Total z
tally_in (KeptLeast v) = Least v
tally_in (KeptGreatest v) = Greatest v
