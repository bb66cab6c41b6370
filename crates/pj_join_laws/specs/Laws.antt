-- What holds of every legal list of steps of a join.
use Rattle.std.specs.Prelude.{ℕ, zero, suc, ◌+◌, ◌<◌, ◌≡◌, true, false, List, [], ◌∷◌, ◌++◌, map}
use Rattle.pj_pattern.specs.Elements.{IsLawful}
use Rattle.std.specs.List.{list_all}
use Rattle.pj_events.specs.KeptState.{KeptState, kept_step, JoinStands}
use Rattle.pj_value.specs.Bags.{SameBag}
use Rattle.pj_events.specs.Patterns.{all_wild}
use Rattle.pj_events.specs.Join.{In, PunctAt, arity, JoinData, TupleAt, Step, TupleComes, PunctComes, Take, Give, Sweep, start, step, run, AreLegalSteps, IsAllowed, IsCombination, inputs, kept, low, ripe, has, results, outputs, AllGiven, IsSettled, rows_of, puncts_of, joined, widened, all_combinations, covered, need_of, older, older_puncts}

-- A row that a sweep removes stands in no combination that joins and has a ticket from the low-water ticket on,
-- whatever legal steps follow
abbrev pub NeverNeeded : JoinData → Type 0
NeverNeeded spec =
    (before : List Step) (input : ℕ) (later : List Step) → AreLegalSteps spec start before → input < inputs spec
    → AreLegalSteps spec (step spec (run spec start before) (Sweep input)) later
    → (x : TupleAt) → In x (run spec start before).stored → ¬ In x (kept spec (run spec start before) input)
    → (xs : List TupleAt) → IsCombination spec xs → In x xs
    → ((y : TupleAt) → In y xs → In y (run spec (step spec (run spec start before) (Sweep input)) later).tuples)
    → (y : TupleAt) → In y xs → y.ticket < low (run spec start before)

-- The results of a tuple that is not given are the same over the stored tuples as over all that arrived
abbrev pub StoredSuffice : JoinData → Type 0
StoredSuffice spec =
    (steps : List Step) → AreLegalSteps spec start steps → (u : ℕ) → has (run spec start steps).given u ≡ false
    → results spec (run spec start steps).tuples (run spec start steps).stored u ≡ results spec (run spec start steps).tuples (run spec start steps).tuples u

-- A stored row that is ripe stays ripe until a sweep of its input, or is removed by it
abbrev pub StaysRipe : JoinData → Type 0
StaysRipe spec =
    (before : List Step) (later : List Step) → AreLegalSteps spec start before → AreLegalSteps spec (run spec start before) later
    → (x : TupleAt) → In x (run spec start before).stored → ripe spec (run spec start before) x ≡ true
    → In x (run spec (run spec start before) later).stored → ripe spec (run spec (run spec start before) later) x ≡ true

-- A tuple below the low-water ticket is ripe where all that it asks for, over all tuples that arrived below it, is covered
abbrev pub RipeWhenCovered : JoinData → Type 0
RipeWhenCovered spec =
    (steps : List Step) → AreLegalSteps spec start steps → (x : TupleAt) → In x (run spec start steps).tuples → x.ticket < low (run spec start steps)
    → list_all (covered (older_puncts (low (run spec start steps)) (run spec start steps).puncts)) (need_of spec (older (low (run spec start steps)) (run spec start steps).tuples) x) ≡ true
    → ripe spec (run spec start steps) x ≡ true

-- What the join hands up is lawful
abbrev pub HandsUpLawfully : JoinData → Type 0
HandsUpLawfully spec = (steps : List Step) → AreLegalSteps spec start steps → IsLawful (outputs spec start steps)

-- Once every tuple is given, the rows handed up are the nested loops' combinations of all tuples, each once, as a bag
abbrev pub HandsUpAllRows : JoinData → Type 0
HandsUpAllRows spec =
    0 < inputs spec → (steps : List Step) → AreLegalSteps spec start steps → AllGiven (run spec start steps)
    → SameBag (rows_of (outputs spec start steps)) (map joined (all_combinations spec (run spec start steps).tuples))

-- A join hands up each punctuation once, widened, as a bag, once none waits
abbrev pub HandsUpAllPuncts : JoinData → Type 0
HandsUpAllPuncts spec =
    (steps : List Step) → AreLegalSteps spec start steps → (run spec start steps).waiting ≡ []
    → SameBag (puncts_of (outputs spec start steps)) (map (widened spec) (run spec start steps).puncts)

-- no step is a sweep
abbrev pub IsNoSweep : Step → Type 0
IsNoSweep (TupleComes input row) = Unit {0}
IsNoSweep (PunctComes input patterns) = Unit {0}
IsNoSweep (Take u) = Unit {0}
IsNoSweep (Give u) = Unit {0}
IsNoSweep (Sweep input) = ⊥

abbrev pub AreNoSweeps : List Step → Type 0
AreNoSweeps [] = Unit {0}
AreNoSweeps (e ∷ es) = IsNoSweep e × AreNoSweeps es

-- Without sweeps every tuple that arrived is stored
abbrev pub AllIsStored : JoinData → Type 0
AllIsStored spec = (steps : List Step) → AreNoSweeps steps → (run spec start steps).stored ≡ (run spec start steps).tuples

-- A join without certificates is never swept
abbrev pub IsNeverSwept : JoinData → Type 0
IsNeverSwept spec = spec.certs ≡ [] → 1 < inputs spec → (steps : List Step) → AreLegalSteps spec start steps → AreNoSweeps steps

-- A step on what is kept keeps what is to be kept after the step
abbrev pub StepsStand : JoinData → Type 0
StepsStand spec =
    (steps : List Step) (e : Step) (k : KeptState) → AreLegalSteps spec start steps → IsAllowed spec (run spec start steps) e
    → JoinStands spec k steps → JoinStands spec (kept_step spec k e) (steps ++ e ∷ [])

-- a sweep of each input in turn, from this one on
abbrev pub sweeps_from : ℕ → ℕ → List Step
sweeps_from k zero = []
sweeps_from k (suc n) = Sweep k ∷ sweeps_from (k + 1) n

-- Once every tuple is given, and every input has a punctuation of wildcards alone, a sweep of each input in turn
-- leaves no tuple stored and no punctuation waiting
abbrev pub Settles : JoinData → Type 0
Settles spec =
    (steps : List Step) → AreLegalSteps spec start steps → AllGiven (run spec start steps)
    → ((k : ℕ) → k < inputs spec → (p : PunctAt) × In p (run spec start steps).puncts × (p.input ≡ k) × (p.patterns ≡ all_wild (arity spec k)))
    → ((run spec start (steps ++ sweeps_from 0 (inputs spec))).stored ≡ []) × IsSettled (run spec start (steps ++ sweeps_from 0 (inputs spec)))
