-- Replays of the auction that are stepped by hand.
use Rattle.std.specs.Prelude.{ℕ, zero, suc, ◌≡◌, Bool, true, false, List, [], ◌∷◌, length}
use Rattle.pj_value.specs.declared.values.Kind.TheVariants.{Int as IntKind, Text as TextKind}
use Rattle.pj_value.specs.Values.{Domain}
use Rattle.pj_shape.specs.Columns.{domains_of}
use Rattle.pj_pattern.specs.Patterns.{Pattern}
use Rattle.pj_pattern.specs.declared.element.Element.TheVariants.{Punct}
use Rattle.pj_plan.specs.Nodes.{stream_columns, streams_in, streams_of}
use Rattle.pj_plan.specs.Sound.{IsSoundPlan}
use Rattle.pj_plan.specs.declared.node.PlanNode.{PlanNode}
use Rattle.pj_events.specs.declared.events.Entry.{Entry}
use Rattle.pj_events.specs.Join.{In}
use Rattle.pj_events.specs.History.{reached_of}
use Rattle.pj_events.specs.OneThread.{arrival_of}
use Rattle.pj_events.specs.Outcomes.{elements_of}
use Rattle.pj_laws.specs.HistoryLaws.{AllAreCertified}
use Rattle.pj_core.specs.Calls.{closing_of}
use Rattle.pj_core.specs.Cores.{nodes_in}
use Rattle.pj_core.specs.Plans.{RunPlan, nodes_of}
use Rattle.pj_hand.specs.Hands.{HandState, HandStandsFor}
use Rattle.pj_hand.specs.Steps.{HandArrives}

-- ---- the plan

abbrev pub item_domains : List Domain
item_domains = IntKind ∷ TextKind ∷ []

abbrev pub bid_domains : List Domain
bid_domains = IntKind ∷ IntKind ∷ []

-- items come to the first stream, and bids to the other
abbrev pub kinds_at : ℕ → List Domain
kinds_at zero = item_domains
kinds_at (suc n) = bid_domains

-- two streams, with the columns of items and of bids
pub record IsAuctionPlan (nodes : List PlanNode) : Type 0 where
  pub two : length (streams_of nodes) ≡ 2
  pub items : domains_of (stream_columns (streams_in nodes) 0) ≡ item_domains
  pub bids : domains_of (stream_columns (streams_in nodes) 1) ≡ bid_domains

-- such a plan that is sound, and whose joins have certificates
pub record IsAuction (plan : RunPlan) : Type 0 where
  pub streams : IsAuctionPlan plan.nodes
  pub sound : IsSoundPlan plan.nodes
  pub certified : AllAreCertified (nodes_of plan)

-- ---- a hand that is stepped

-- no punctuation arrived
abbrev pub HasRowsAlone : List Entry → Type 0
HasRowsAlone history = (stream : ℕ) (patterns : List Pattern) → In (Punct patterns) (elements_of stream history) → ⊥

-- the hand stands for this history of the auction, in which no stream ended and, where that is asked for, rows alone arrived
pub record Running (rows : Bool) (hand : HandState) (history : List Entry) : Type 0 where
  pub auction : IsAuction hand.core.plan
  pub stands : HandStandsFor hand history
  pub unclosed : (reached_of false (nodes_in hand.core) history).closed ≡ []
  pub alone : rows ≡ true → HasRowsAlone history

abbrev pub IsRunning : Bool → HandState → Type 0
IsRunning rows hand = (history : List Entry) × Running rows hand history

-- the stream was closed
abbrev pub HasClosed : HandState → HandState → ℕ → Type 0
HasClosed old new stream = HandArrives old new (arrival_of (closing_of old.core stream))
