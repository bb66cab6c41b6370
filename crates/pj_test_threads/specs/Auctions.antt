-- The auction of the tests, as contracts of plans and of hubs speak of it.
use Rattle.std.specs.Prelude.{ℕ, ◌≡◌, ◌<◌, true, List, [], ◌∷◌, length}
use Rattle.pj_value.specs.declared.values.Kind.TheVariants.{Int as IntKind, Text as TextKind}
use Rattle.pj_value.specs.declared.values.Value.{Value}
use Rattle.pj_value.specs.Values.{Domain}
use Rattle.pj_shape.specs.Columns.{domains_of}
use Rattle.pj_pattern.specs.Fitting.{FitsDomains}
use Rattle.pj_pattern.specs.Patterns.{Pattern}
use Rattle.pj_pattern.specs.declared.element.Element.{Element}
use Rattle.pj_pattern.specs.declared.element.Element.TheVariants.{Tuple, Punct}
use Rattle.pj_plan.specs.Canonical.{node_at}
use Rattle.pj_plan.specs.Nodes.{inputs_of, is_join, stream_columns, streams_in, streams_of}
use Rattle.pj_plan.specs.declared.node.PlanNode.{PlanNode}
use Rattle.pj_events.specs.History.{streams_of as streams_among}
use Rattle.pj_events.specs.Outcomes.{results_of}
use Rattle.pj_events.specs.declared.events.Entry.{Entry}
use Rattle.pj_probe.specs.declared.probe.Found.{Found}
use Rattle.pj_laws.specs.HistoryLaws.{schema_at}
use Rattle.pj_laws.specs.Seats.{Holds, HubPlan, IsInputOf, made_by}

abbrev pub item_domains : List Domain
item_domains = IntKind ∷ TextKind ∷ []

abbrev pub bid_domains : List Domain
bid_domains = IntKind ∷ IntKind ∷ []

-- a tuple and a punctuation, which fit columns of these kinds
pub record IsPair (kinds : List Domain) (elements : List Element) : Type 0 where
  pub row : List Value
  pub punct : List Pattern
  pub is : elements ≡ Tuple row ∷ Punct punct ∷ []
  pub row_fits : FitsDomains kinds (Tuple row)
  pub punct_fits : FitsDomains kinds (Punct punct)

-- the node is a join of two inputs
pub record HasJoin (nodes : List PlanNode) (node : ℕ) : Type 0 where
  pub there : node < length nodes
  pub is : is_join (node_at nodes node) ≡ true
  pub two : length (inputs_of (node_at nodes node)) ≡ 2

-- two streams of such columns, and a join of two inputs
pub record IsAuctionPlan (nodes : List PlanNode) : Type 0 where
  pub two : length (streams_of nodes) ≡ 2
  pub items : domains_of (stream_columns (streams_in nodes) 0) ≡ item_domains
  pub bids : domains_of (stream_columns (streams_in nodes) 1) ≡ bid_domains
  pub join : HasJoin nodes 2

-- the same of the plan of a hub
pub record IsAuction (hub : HubPlan) : Type 0 where
  pub two : length (streams_among hub.nodes) ≡ 2
  pub items : domains_of (schema_at hub.nodes 0) ≡ item_domains
  pub bids : domains_of (schema_at hub.nodes 1) ≡ bid_domains
  pub first : IsInputOf hub.nodes 2 0
  pub second : IsInputOf hub.nodes 2 1

-- the seat holds the probe's ticket, by its own entries, and the probe finds the results that the seat has seen
pub record IsHeld (hub : HubPlan) (seat : ℕ) (seen : List Entry) (probe : Found) : Type 0 where
  pub holds : Holds seat probe.join probe.ticket (made_by seat seen)
  pub finds : probe.rows ≡ results_of hub.nodes seen probe.join probe.ticket
