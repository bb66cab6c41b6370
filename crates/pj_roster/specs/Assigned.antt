-- The duties of a crew as they are handed out.
use Rattle.std.specs.Prelude.{ℕ, zero, suc, ◌+◌, ◌%◌, ◌<◌, ◌≡◌, ◌==◌, if◌then◌else◌, min, All, Bool, true, false, List, [], ◌∷◌, ◌++◌, map, length, Option, Some, None}
use Rattle.pj_value.specs.declared.values.Value.{Value}
use Rattle.pj_plan.specs.declared.node.PlanNode.{PlanNode}
use Rattle.pj_plan.specs.Nodes.{inputs_of, is_join, joins_of}
use Rattle.pj_plan.specs.Canonical.{node_at}
use Rattle.pj_events.specs.Join.{upto_from}
use Rattle.pj_feed.specs.Feeds.{FeedState}
use Rattle.pj_workers.specs.declared.feeding.FeedEnd.TheVariants.{Halted}
use Rattle.pj_workers.specs.declared.ends.WorkEnd.TheVariants.{Over}
use Rattle.pj_crew.specs.declared.duties.Duty.{Duty}
use Rattle.pj_crew.specs.declared.duties.Duty.TheVariants.{Feed, Probe, Sweep}

-- ---- feeders

-- rows are kept where a check asks for them
abbrev pub kept_at : Bool → Option (List (List Value))
kept_at true = Some []
kept_at false = None

-- feeders of these feeds, in order, for the streams from this number on
abbrev pub feeders : {S : Type 0} → ℕ → Bool → List FeedState → List (Duty S)
feeders k keep [] = []
feeders k keep (feed ∷ feeds) = Feed k feed (kept_at keep) Halted ∷ feeders (k + 1) keep feeds

-- ---- probers and sweepers

-- so many probers, from this number on
abbrev pub probers : {S : Type 0} → ℕ → ℕ → List (Duty S)
probers k zero = []
probers k (suc count) = Probe k Over ∷ probers (k + 1) count

-- a sweeper for each of these lists of places, from this number on
abbrev pub sweepers : {S : Type 0} → ℕ → List (List (ℕ × ℕ)) → List (Duty S)
sweepers k [] = []
sweepers k (places ∷ shares) = Sweep k places Over ∷ sweepers (k + 1) shares

-- ---- who sweeps what

-- an input of a join
abbrev pub place_of : ℕ → ℕ → ℕ × ℕ
place_of join input = (join, input)

-- all inputs of a join, in order
abbrev pub places_of : List PlanNode → ℕ → List (ℕ × ℕ)
places_of nodes join = map (place_of join) (upto_from 0 (length (inputs_of (node_at nodes join))))

-- where it is the join's turn
abbrev pub places_where : Bool → List PlanNode → ℕ → List (ℕ × ℕ)
places_where due nodes join = if due then places_of nodes join else []

-- what one of so many sweepers sweeps of these joins, the first of which has this place among the joins: the one at place k belongs
-- to sweeper k modulo their number
abbrev pub share_from : List PlanNode → ℕ → ℕ → ℕ → List ℕ → List (ℕ × ℕ)
share_from nodes count sweeper k [] = []
share_from nodes count sweeper k (join ∷ joins) = places_where (k % count == sweeper) nodes join ++ share_from nodes count sweeper (k + 1) joins

-- of all joins
abbrev pub share_at : List PlanNode → ℕ → ℕ → List (ℕ × ℕ)
share_at nodes count sweeper = share_from nodes count sweeper 0 (joins_of nodes)

-- what each of so many sweepers sweeps
abbrev pub shares_among : List PlanNode → ℕ → List (List (ℕ × ℕ))
shares_among nodes count = map (share_at nodes count) (upto_from 0 count)

-- ---- all of them

-- as many sweepers as the lesser of these workers and the number of joins
abbrev pub sweeper_count : List PlanNode → ℕ → ℕ
sweeper_count nodes workers = min workers (length (joins_of nodes))

-- all duties: feeders of these feeds, so many probers, and the sweepers
abbrev pub crew_of : {S : Type 0} → List PlanNode → Bool → List FeedState → ℕ → List (Duty S)
crew_of nodes keep feeds workers = feeders 0 keep feeds ++ (probers 0 workers ++ sweepers 0 (shares_among nodes (sweeper_count nodes workers)))

-- ---- what is known of them

-- a join of these nodes and one of its inputs
abbrev pub IsPlace : List PlanNode → ℕ × ℕ → Type 0
IsPlace nodes place = (place.0 < length nodes) × (is_join (node_at nodes place.0) ≡ true) × (place.1 < length (inputs_of (node_at nodes place.0)))

-- each place is a join of these nodes and one of its inputs
abbrev pub ArePlaces : List PlanNode → List (ℕ × ℕ) → Type 0
ArePlaces nodes places = All (λ place. IsPlace nodes place) places

-- a prober's duty, or a sweeper's of these places
abbrev pub IsOther : {S : Type 0} → List PlanNode → Duty S → Type 0
IsOther nodes (Feed stream feed kept end) = ⊥
IsOther nodes (Probe index end) = Unit {0}
IsOther nodes (Sweep index places end) = ArePlaces nodes places

abbrev pub AreOthers : {S : Type 0} → List PlanNode → List (Duty S) → Type 0
AreOthers nodes [] = Unit {0}
AreOthers nodes (duty ∷ duties) = IsOther nodes duty × AreOthers nodes duties

-- the duties are those of a feeder for each of these feeds, in order, and behind them others than feeders
pub record AreAssigned {S : Type 0} (nodes : List PlanNode) (keep : Bool) (feeds : List FeedState) (duties : List (Duty S)) : Type 0 where
  pub others : List (Duty S)
  pub are_others : AreOthers nodes others
  pub are : duties ≡ feeders 0 keep feeds ++ others
