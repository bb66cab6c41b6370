-- How the turns of a run end.
use Rattle.pj_run.specs.Jobs.{Job}
use Rattle.pj_plan.specs.declared.node.PlanNode.{PlanNode}
use Rattle.pj_plan.specs.Nodes.{streams_in}
use Rattle.std.proofs.Common.{◌≡◌, ℕ, ◌≤◌, List, [], ◌∷◌, length, Option, Some, None, IfNone, ap, ◌∙◌, subst}
use Rattle.std.specs.List.{slice_get}
use Rattle.std.proofs.lemmas.List.{length-map}
use Rattle.pj_io.specs.Causes.{Rose}
use Rattle.pj_element.specs.declared.tally.Tally.{Tally}
use Rattle.pj_events.specs.OneThread.{Turn}
use Rattle.pj_feed.specs.declared.feeds.Arrival.{Arrival}
use Rattle.pj_feed.specs.Feeds.{FeedState, AreFeeds, AreSameFeeds, AllClosed, BringsIn, Gives, turn_of, turn_in, tallies_in}
use Rattle.pj_feed.specs.Opened.{AreCounted}
use Rattle.pj_feed.proofs.AllFeeds.{feeds_long, same_at, same_long}
use Rattle.pj_feed.proofs.Opening.{rose_at}

-- ---- what a call of the feeds gave

pub given_some : (streams : List PlanNode) (given : Option Arrival) (next : Arrival) (old new : List Turn) → given ≡ Some next → Gives old new (turn_of streams given) → old ≡ turn_in streams next ∷ new
given_some streams given next old new is gives = subst (λ (o : Option Arrival). Gives old new (turn_of streams o)) is gives

pub given_none : (streams : List PlanNode) (given : Option Arrival) (old new : List Turn) → given ≡ None → Gives old new (turn_of streams given) → old ≡ []
given_none streams given old new is gives = subst (λ (o : Option Arrival). Gives old new (turn_of streams o)) is gives

pub brings_some : (feeds : List FeedState) (given : Option Arrival) (next : Arrival) → given ≡ Some next → BringsIn feeds given → BringsIn feeds (Some next)
brings_some feeds given next is brings = subst (BringsIn feeds) is brings

pub brings_none : (feeds : List FeedState) (given : Option Arrival) → given ≡ None → BringsIn feeds given → AllClosed feeds
brings_none feeds given is brings = subst (BringsIn feeds) is brings

pub same_none : (feeds feeds' : List FeedState) (given : Option Arrival) → given ≡ None → IfNone given (feeds' ≡ feeds) → feeds' ≡ feeds
same_none feeds feeds' given is same = subst (λ (o : Option Arrival). IfNone o (feeds' ≡ feeds)) is same

-- ---- behind the turns

-- a fault that rose at a file is one of its name, once the file is closed
pub fault_of_name : (olds news : List FeedState) (stream : ℕ) (before now : List ℕ → ℕ) → AreSameFeeds olds news → AreCounted before now news → (feed : FeedState) × (slice_get news stream ≡ Some feed) × (1 ≤ feed.source.faults)
    → (feed : FeedState) × (slice_get olds stream ≡ Some feed) × Rose (before feed.source.name) (now feed.source.name)
fault_of_name olds news stream before now same counted f =
    let o = same_at olds news stream f.0 same f.1 in
    (o.0, o.1, subst (λ (m : List ℕ). Rose (before m) (now m)) o.2.name (rose_at before now news stream f.0 counted f.1 f.2))

pub tallies_count : (job : Job) (olds news : List FeedState) (tallies lent : List Tally) → AreFeeds 0 (streams_in job.nodes) olds → AreSameFeeds olds news → tallies ≡ tallies_in news → lent ≡ tallies → length lent ≡ length (streams_in job.nodes)
tallies_count job olds news tallies lent f same is lends =
    ap length lends ∙ (ap length is ∙ (length-map news (λ feed. feed.intake.seen.tally) ∙ (same_long olds news same ∙ feeds_long 0 (streams_in job.nodes) olds f)))
