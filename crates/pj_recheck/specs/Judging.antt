-- What the stored rows of an input are judged by, and which are ripe.
use Rattle.std.specs.Prelude.{Bool, List, ℕ, ◌≡◌, ◌<◌, if◌then◌else◌, [], ◌∷◌, ◌++◌, map, filter, length}
use Rattle.pj_shape.specs.declared.joins.CertStep.{CertStep}
use Rattle.pj_shape.specs.declared.joins.JoinSpec.{JoinSpec}
use Rattle.pj_events.specs.Join.{JoinData}
use Rattle.pj_value.specs.declared.values.Value.{Value}
use Rattle.pj_shape.specs.Sound.{FitSchemes}
use Rattle.pj_shape.specs.Certificates.{IsCertificate}
use Rattle.pj_state.specs.declared.shared.Stored.{Stored}
use Rattle.pj_state.specs.States.{StateView, pair_of, tickets_of}
use Rattle.pj_puncts.specs.Stores.{Store}
use Rattle.pj_cover.specs.Asking.{AreParts, entries, is_ripe, known_of, tuple_of}
use Rattle.pj_cover.specs.Routes.{IsPurgeRoute, RouteView, steps_in}
use Rattle.pj_rows.specs.Tuples.{row_pairs, state_at}

-- a join of this shape with these schemes and certificates of its inputs, which hands up rows and punctuations
abbrev pub join_data : JoinSpec → List (List (List Bool)) → List (List CertStep) → JoinData
join_data shape schemes certs = record { shape = shape; schemes = schemes; certs = certs }

-- what the rows of an input are judged by: the join's shape and schemes, the input's certificate, all stored rows, the
-- punctuations, and the low-water ticket
pub record JudgeView : Type 0 where
  pub spec : JoinSpec
  pub schemes : List (List (List Bool))
  pub cert : List CertStep
  pub input : ℕ
  pub row_states : List StateView
  pub punct_stores : List Store
  pub low : ℕ

-- these can be judged by: the parts and the schemes fit, and the route follows a certificate of the input
pub record MayJudge (spec : JoinSpec) (schemes : List (List (List Bool))) (route : RouteView) (input : ℕ) (row_states : List StateView) (punct_stores : List Store) : Type 0 where
  pub parts : AreParts spec (row_pairs row_states) punct_stores
  pub count : length row_states ≡ length spec.inputs
  pub there : input < length spec.inputs
  pub fitting : FitSchemes spec.inputs schemes
  pub certified : IsCertificate spec schemes input (steps_in route)
  pub leads : IsPurgeRoute spec schemes (steps_in route) input route

-- the rows of the input
abbrev pub rows_at : JudgeView → List Stored
rows_at j = (state_at j.row_states j.input).rows

-- whether a row of the input is ripe
abbrev pub ripe_at : JudgeView → Stored → Bool
ripe_at j s = is_ripe (known_of j.spec (row_pairs j.row_states) j.punct_stores j.low) (entries j.schemes j.cert) (tuple_of j.input (pair_of s))

abbrev pub row_in : Stored → List Value
row_in s = s.row

-- the rows of the input that are ripe
abbrev pub ripe_rows : JudgeView → List (List Value)
ripe_rows j = map row_in (filter (ripe_at j) (rows_at j))

-- their tickets
abbrev pub ripe_tickets : JudgeView → List ℕ
ripe_tickets j = tickets_of (filter (ripe_at j) (rows_at j))

-- an item, or nothing
abbrev pub one_if : {A : Type 0} → Bool → A → List A
one_if goes x = if goes then (x ∷ []) else []

-- ---- one after the other

-- both lists have these more
abbrev pub BothMore : {A B : Type 0} → List A → List A → List A → List B → List B → List B → Type 0
BothMore old new more old' new' more' = (new ≡ old ++ more) × (new' ≡ old' ++ more')
