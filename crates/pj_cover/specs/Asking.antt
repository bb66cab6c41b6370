-- What a row asks for over the stored rows, and the first of it that is not covered.
use Rattle.std.specs.Prelude.{⊤, ℕ, zero, suc, ◌+◌, ◌<◌, ◌≡◌, Bool, true, false, nat_lt, ◌&&◌, if◌then◌else◌, List, [], ◌∷◌, ◌++◌, Option, None, Some, length, map, slice_index, slice_index_or, ◌≤◌}
use Rattle.std.specs.List.{list_all}
use Rattle.pj_value.specs.declared.values.Value.{Value}
use Rattle.pj_value.specs.Lists.{In}
use Rattle.pj_shape.specs.declared.joins.JoinSpec.{JoinSpec}
use Rattle.pj_shape.specs.Joining.{has_column}
use Rattle.pj_shape.specs.Sound.{IsSoundSpec, arities_of}
use Rattle.pj_events.specs.Join.{TupleAt, PunctAt, ClassCol, CertStep, CertEntry, Demand, agree, constant, class_with, covered, demand, entry_of, need, older, older_puncts, part_of, values}
use Rattle.pj_puncts.specs.Stores.{Store}
use Rattle.pj_puncts.specs.declared.store.NumberedPunct.{NumberedPunct}
use Rattle.pj_cover.specs.declared.ripeness.Verdict.{Verdict}
use Rattle.pj_cover.specs.declared.ripeness.Verdict.TheVariants.{Ripe, Open, Lagging}
use Rattle.pj_join_laws.specs.Walks.{AreListedOnce, IsWalk}

-- ---- rows and punctuations of all inputs

abbrev pub tuple_of : ℕ → ℕ × List Value → TupleAt
tuple_of input r = record { ticket = r.0; input = input; row = r.1 }

-- the rows of an input
abbrev pub tuples_at : (ℕ → List (ℕ × List Value)) → ℕ → List TupleAt
tuples_at rows input = map (tuple_of input) (rows input)

-- the rows of the first so many inputs
abbrev pub tuples_of : (ℕ → List (ℕ × List Value)) → ℕ → List TupleAt
tuples_of rows zero = []
tuples_of rows (suc n) = tuples_of rows n ++ map (tuple_of n) (rows n)

abbrev pub punct_of : ℕ → NumberedPunct → PunctAt
punct_of input k = record { ticket = k.number; input = input; patterns = k.punct }

-- the punctuations of the inputs from this one on
abbrev pub puncts_from : ℕ → List Store → List PunctAt
puncts_from input [] = []
puncts_from input (s ∷ punct_stores) = map (punct_of input) s.kept ++ puncts_from (input + 1) punct_stores

-- the certificate of these steps
abbrev pub entries : List (List (List Bool)) → List CertStep → List CertEntry
entries schemes steps = map (entry_of schemes) steps

-- ---- what is known of a join

-- the classes of its columns, the stored rows, the punctuations, and the low-water ticket
pub record Known : Type 0 where
  pub classes : List (List ClassCol)
  pub stored : List TupleAt
  pub puncts : List PunctAt
  pub low : ℕ

abbrev pub known_of : JoinSpec → (ℕ → List (ℕ × List Value)) → List Store → ℕ → Known
known_of spec rows punct_stores low = record {
  classes = spec.classes;
  stored = tuples_of rows (length spec.inputs);
  puncts = puncts_from 0 punct_stores;
  low = low;
}

-- a punctuation below the low-water ticket covers the instance
abbrev pub is_covered : Known → Demand → Bool
is_covered k d = covered (older_puncts k.low k.puncts) d

-- whether all that these rows ask for, over the stored rows below the low-water ticket, is covered
abbrev pub all_covered : Known → List CertEntry → List TupleAt → Bool
all_covered k cert xs = list_all (is_covered k) (need k.classes (older k.low k.stored) cert xs)

-- after these rows of the first entries' inputs, each of which joins with xs and those before it, the next entry asks for this
abbrev pub IsAsked : List (List ClassCol) → List CertEntry → List TupleAt → List TupleAt → Demand → Type 0
IsAsked classes [] through xs d = ⊥
IsAsked classes (e ∷ cert) [] xs d = demand classes e xs ≡ d
IsAsked classes (e ∷ cert) (y ∷ through) xs d =
    (y.input ≡ e.input) × (agree classes (y ∷ xs) ≡ true) × IsAsked classes cert through (y ∷ xs) d

-- through these rows, which are stored below the low-water ticket, xs ask for what no punctuation covers
pub record AsksBy (k : Known) (cert : List CertEntry) (xs rows : List TupleAt) (asks : Demand) : Type 0 where
  pub there : (y : TupleAt) → In y rows → In y k.stored
  pub below : (y : TupleAt) → In y rows → y.ticket < k.low
  pub asked : IsAsked k.classes cert rows xs asks
  pub uncovered : covered k.puncts asks ≡ false

-- they do so through some
abbrev pub Ask : Known → List CertEntry → List TupleAt → Type 0
Ask k cert xs = (rows : List TupleAt) × (asks : Demand) × AsksBy k cert xs rows asks

-- the tuple does
abbrev pub AsksStill : Known → List CertEntry → TupleAt → Type 0
AsksStill k cert x = Ask k cert (x ∷ [])

-- the same with the punctuations below the low-water ticket alone
abbrev pub below_low : Known → Known
below_low k = record k { puncts = older_puncts k.low k.puncts }

-- through some rows they ask for what a punctuation covers, but none below the low-water ticket
abbrev pub AskEarly : Known → List CertEntry → List TupleAt → Type 0
AskEarly k cert xs = (rows : List TupleAt) × (asks : Demand) × AsksBy (below_low k) cert xs rows asks × (covered k.puncts asks ≡ true)

-- ---- what a judge says

abbrev pub says_ripe : Verdict → Bool
says_ripe Ripe = true
says_ripe Open = false
says_ripe Lagging = false

-- where it is ripe, this holds; else the rows ask for what is not covered
abbrev pub Says : Type 0 → Known → List CertEntry → List TupleAt → Verdict → Type 0
Says holds k cert xs Ripe = holds
Says holds k cert xs Open = Ask k cert xs
Says holds k cert xs Lagging = AskEarly k cert xs

-- of all that these rows ask for
abbrev pub IsJudged : Known → List CertEntry → List TupleAt → Verdict → Type 0
IsJudged k cert xs v = Says (all_covered k cert xs ≡ true) k cert xs v

-- it tells whether a row of the input with any ticket is ripe by what it asks for
abbrev pub TellsRipe : Known → List CertEntry → ℕ → List Value → Verdict → Type 0
TellsRipe k cert input row v = (ticket : ℕ) → says_ripe v ≡ all_covered k cert (tuple_of input (ticket, row) ∷ [])

-- of one instance
abbrev pub IsStepJudged : Known → Demand → Verdict → Type 0
IsStepJudged k d Ripe = is_covered k d ≡ true
IsStepJudged k d Open = covered k.puncts d ≡ false
IsStepJudged k d Lagging = (is_covered k d ≡ false) × (covered k.puncts d ≡ true)

-- the row may stand for the entry, beside these
pub record MayStand (k : Known) (e : CertEntry) (xs : List TupleAt) (y : TupleAt) : Type 0 where
  pub below : y.ticket < k.low
  pub input : y.input ≡ e.input
  pub joins : agree k.classes (y ∷ xs) ≡ true

-- where the row may stand for the first entry, all that is asked for with it is covered
abbrev pub IsDone : Known → List CertEntry → List TupleAt → TupleAt → Type 0
IsDone k [] xs y = ⊤
IsDone k (e ∷ cert) xs y = MayStand k e xs y → all_covered k cert (y ∷ xs) ≡ true

abbrev pub IsJudgedWith : Known → List CertEntry → List TupleAt → TupleAt → Verdict → Type 0
IsJudgedWith k cert xs y v = Says (IsDone k cert xs y) k cert xs v

-- with none of these rows anything is asked for that is not covered
abbrev pub AreDone : Known → List CertEntry → List TupleAt → List TupleAt → Type 0
AreDone k cert xs ys = (y : TupleAt) → In y ys → IsDone k cert xs y

abbrev pub IsJudgedThrough : Known → List CertEntry → List TupleAt → List TupleAt → Verdict → Type 0
IsJudgedThrough k cert xs ys v = Says (AreDone k cert xs ys) k cert xs v

-- the same of those of the rows that have one of these tickets
abbrev pub AreDoneUnder : Known → List CertEntry → List TupleAt → List TupleAt → List ℕ → Type 0
AreDoneUnder k cert xs ys tickets = (y : TupleAt) → In y ys → In y.ticket tickets → IsDone k cert xs y

abbrev pub IsJudgedUnder : Known → List CertEntry → List TupleAt → List TupleAt → List ℕ → Verdict → Type 0
IsJudgedUnder k cert xs ys tickets v = Says (AreDoneUnder k cert xs ys tickets) k cert xs v

-- nothing is told where this holds; else what is said is so of all the rows
abbrev pub Decides : Type 0 → Known → List CertEntry → List TupleAt → List TupleAt → Option Verdict → Type 0
Decides holds k cert xs ys None = holds
Decides holds k cert xs ys (Some v) = IsJudgedThrough k cert xs ys v

-- each of the rows that joins with these has one of the tickets
abbrev pub HavePartners : List (List ClassCol) → List TupleAt → List TupleAt → List ℕ → Type 0
HavePartners classes xs ys tickets = (y : TupleAt) → In y ys → agree classes (y ∷ xs) ≡ true → In y.ticket tickets

-- a class has this column of the input, and rows that join have this value in it
abbrev pub IsPartnerKey : List (List ClassCol) → List TupleAt → ℕ → ℕ → Value → Type 0
IsPartnerKey classes xs input column value =
    (class : List ClassCol) × In class classes × In (record { input = input; column = column }) class × In value (values (map part_of xs) class)

-- ---- the constants of an instance

-- the constant of a column, where it is marked
abbrev pub constant_if : Bool → List (List ClassCol) → ℕ → ℕ → List TupleAt → List Value
constant_if false classes input column xs = []
constant_if true classes input column xs = constant (class_with classes input column) xs ∷ []

-- those of the marked columns, of which the first is this one
abbrev pub constants_in : List (List ClassCol) → ℕ → ℕ → List Bool → List TupleAt → List Value
constants_in classes input column [] xs = []
constants_in classes input column (mark ∷ marks) xs = constant_if mark classes input column xs ++ constants_in classes input (column + 1) marks xs

-- the columns of the first of these classes that has the column, or none
abbrev pub first_class : List (List ClassCol) → ClassCol → List ClassCol
first_class [] at = []
first_class (class ∷ classes) at = if has_column class at then class else first_class classes at

-- ---- the parts of a join fit each other

-- each row has so many values
abbrev pub HaveLength : ℕ → List (ℕ × List Value) → Type 0
HaveLength n rs = (r : ℕ × List Value) → In r rs → length r.1 ≡ n

-- a sound join, rows that fit it, and one store of punctuations for each input
pub record AreParts (spec : JoinSpec) (rows : ℕ → List (ℕ × List Value)) (punct_stores : List Store) : Type 0 where
  pub sound : IsSoundSpec spec
  pub fit : (input : ℕ) → input < length spec.inputs → HaveLength (slice_index (arities_of spec.inputs) input) (rows input)
  pub one_each : map (λ s. s.arity) punct_stores ≡ arities_of spec.inputs

abbrev pub inputs_of : List TupleAt → List ℕ
inputs_of xs = map (λ x. x.input) xs

-- these steps go on with a certificate from these rows, which fit, and join
pub record IsOnWalk (spec : JoinSpec) (schemes : List (List (List Bool))) (steps : List CertStep) (xs : List TupleAt) : Type 0 where
  pub listed : AreListedOnce schemes steps (inputs_of xs)
  pub walk : IsWalk spec (entries schemes steps) (inputs_of xs)
  pub fit : (x : TupleAt) → In x xs → length x.row ≡ slice_index (arities_of spec.inputs) x.input
  pub joined : agree spec.classes xs ≡ true
  pub few : length xs + length steps ≤ 16

-- the marks of a step's scheme
abbrev pub marks_of : List (List (List Bool)) → CertStep → List Bool
marks_of schemes step = (entry_of schemes step).marks

-- what is asked for by a step can be looked up: it has a scheme, and there is a store of its arity
pub record IsStep (schemes : List (List (List Bool))) (punct_stores : List Store) (step : CertStep) : Type 0 where
  pub scheme : step.scheme < length (slice_index_or schemes step.input [])
  pub store : step.input < length punct_stores
  pub fits : (d : Store) → length (marks_of schemes step) ≡ (slice_index_or punct_stores step.input d).arity
  pub few : length (marks_of schemes step) ≤ 120

-- whether the row is below the low-water ticket, and all that it asks for is covered
abbrev pub is_ripe : Known → List CertEntry → TupleAt → Bool
is_ripe k cert x = nat_lt x.ticket k.low && all_covered k cert (x ∷ [])
