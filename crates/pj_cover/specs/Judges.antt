-- What a judge of stored rows looks at.
use Rattle.std.specs.Prelude.{ℕ, List, [], ◌∷◌, Option, drop, slice_index_or}
use Rattle.pj_value.specs.declared.values.Value.{Value}
use Rattle.pj_events.specs.Join.{CertEntry, TupleAt, entry_of, instance_from}
use Rattle.pj_puncts.specs.Stores.{Store, TellsCover}
use Rattle.pj_cover.specs.Asking.{AreDoneUnder, AreParts, Decides, IsDone, IsJudgedThrough, IsJudgedUnder, IsOnWalk, Known, entries, inputs_of, known_of, marks_of, tuples_at}
use Rattle.pj_cover.specs.Routes.{AreSteps, IsPurgeStep, IsReady, steps_in}
use Rattle.pj_cover.specs.declared.ripeness.Verdict.{Verdict}
use Rattle.pj_cover.specs.declared.ripeness.Judge.{Judge}
use Rattle.pj_cover.specs.declared.route.PurgeStep.{PurgeStep}

-- the rows of each input with their tickets
abbrev pub Rows : Type 0
Rows = ℕ → List (ℕ × List Value)

-- what is known of the join
abbrev pub known_by : {R : Type 0} → Rows → Judge R → Known
known_by rows j = known_of j.spec.now rows j.punct_stores.now j.low

-- the parts fit each other
abbrev pub MayJudge : {R : Type 0} → Rows → Judge R → Type 0
MayJudge rows j = AreParts j.spec.now rows j.punct_stores.now

-- the entries of the certificate that the route follows, from a place on
abbrev pub steps_from : {R : Type 0} → Judge R → ℕ → List CertEntry
steps_from j at = entries j.schemes.now (drop at (steps_in j.route.now))

-- these rows were gone through, up to the place
abbrev pub IsWalkAt : {R : Type 0} → Judge R → ℕ → List TupleAt → Type 0
IsWalkAt j at xs = IsOnWalk j.spec.now j.schemes.now (drop at (steps_in j.route.now)) xs

-- the links of the steps from the place on are right for them
abbrev pub IsRouteAt : {R : Type 0} → Judge R → ℕ → List TupleAt → Type 0
IsRouteAt j at xs = AreSteps j.spec.now.classes j.schemes.now j.route.now.links (inputs_of xs) (drop at j.route.now.steps)

-- those of this step are
abbrev pub IsStepHere : {R : Type 0} → Judge R → List TupleAt → PurgeStep → Type 0
IsStepHere j xs step = IsPurgeStep j.spec.now.classes (entry_of j.schemes.now step.step) (inputs_of xs) j.route.now.links step

-- what they lead to is there
abbrev pub IsReadyAt : {R : Type 0} → Judge R → PurgeStep → List TupleAt → Type 0
IsReadyAt j step xs = IsReady j.spec.now.classes (entry_of j.schemes.now step.step) j.route.now.links step xs

-- what a number of a punctuation tells of the instance that the step asks for
abbrev pub TellsStep : {R : Type 0} → Judge R → PurgeStep → List TupleAt → Option ℕ → Type 0
TellsStep j step xs told =
    (d : Store) → TellsCover (slice_index_or j.punct_stores.now step.step.input d).kept j.low (instance_from j.spec.now.classes step.step.input 0 (marks_of j.schemes.now step.step) xs) told

-- what is said of what is asked for, by the steps from a place on, with the rows of the input
abbrev pub IsJudgedAt : {R : Type 0} → Rows → Judge R → ℕ → ℕ → List TupleAt → Verdict → Type 0
IsJudgedAt rows j at input xs v = IsJudgedThrough (known_by rows j) (steps_from j at) xs (tuples_at rows input) v

-- the same with those that have one of these tickets
abbrev pub IsJudgedAmong : {R : Type 0} → Rows → Judge R → ℕ → ℕ → List ℕ → List TupleAt → Verdict → Type 0
IsJudgedAmong rows j at input tickets xs v = IsJudgedUnder (known_by rows j) (steps_from j at) xs (tuples_at rows input) tickets v

-- nothing is told where this row is done; else what is said is so of all rows of its input
abbrev pub IsDecidedBy : {R : Type 0} → Rows → Judge R → ℕ → List TupleAt → TupleAt → Option Verdict → Type 0
IsDecidedBy rows j at xs y told = Decides (IsDone (known_by rows j) (steps_from j at) xs y) (known_by rows j) (steps_from j at) xs (tuples_at rows y.input) told

-- the same with the row of the input that has this ticket
abbrev pub IsDecidedUnder : {R : Type 0} → Rows → Judge R → ℕ → ℕ → ℕ → List TupleAt → Option Verdict → Type 0
IsDecidedUnder rows j at input ticket xs told =
    Decides (AreDoneUnder (known_by rows j) (steps_from j at) xs (tuples_at rows input) (ticket ∷ [])) (known_by rows j) (steps_from j at) xs (tuples_at rows input) told
