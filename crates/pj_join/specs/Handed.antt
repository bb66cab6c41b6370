-- What a join hands out where it takes, works on and gives a ticket at once.
use Rattle.std.specs.Prelude.{ℕ, ◌≡◌, List, [], ◌∷◌, ◌++◌, map, Option, Some, None}
use Rattle.pj_events.specs.Join.{Step, Value, Take, Give, joined, results, run, start}
use Rattle.pj_join.specs.Joins.{JoinView, StandsFor, TakesLeast, after, found_of}

-- the join behind the take and the give of a ticket
abbrev pub behind_probe : JoinView → ℕ → JoinView
behind_probe join u = after (after join (Take u)) (Give u)

-- nothing where no ticket is pending; else the least is taken and given
abbrev pub JoinProbes : JoinView → JoinView → Option ℕ → Type 0
JoinProbes old new None = (old.kept.pending ≡ []) × (new ≡ old)
JoinProbes old new (Some u) = TakesLeast old (after old (Take u)) (found_of old u) × (new ≡ behind_probe old u)

-- the rows that the work of the ticket finds
abbrev pub rows_probed : JoinView → Option ℕ → List (List Value)
rows_probed join None = []
rows_probed join (Some u) = (found_of join u).rows

-- where the join stood for these steps it stands for them with the take and the give, and the rows are the results of the
-- ticket over all that arrived
abbrev pub StandsProbed : JoinView → JoinView → List Step → Option ℕ → Type 0
StandsProbed old new steps None = StandsFor new steps
StandsProbed old new steps (Some u) =
    StandsFor new (steps ++ Take u ∷ Give u ∷ [])
    × (rows_probed old (Some u) ≡ map joined (results old.spec (run old.spec start steps).tuples (run old.spec start steps).tuples u))
