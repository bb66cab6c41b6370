-- How far a history goes under a limit on the number of elements that reach a node.
use Rattle.std.specs.Prelude.{ℕ, ◌≡◌, List, [], ◌∷◌, ◌++◌, Some, None}
use Rattle.pj_events.specs.declared.events.Entry.{Entry}
use Rattle.pj_events.specs.declared.events.Stop.{Stop}
use Rattle.pj_events.specs.declared.events.Stop.TheVariants.{Limit, NoMemory}
use Rattle.pj_events.specs.Plan.{Node}
use Rattle.pj_events.specs.Outcomes.{goes_beyond}

-- none of these entries behind a history brings an element beyond the limit
abbrev pub StaysWithin : ℕ → List Node → List Entry → List Entry → Type 0
StaysWithin limit nodes history [] = Unit {0}
StaysWithin limit nodes history (entry ∷ entries) =
    (goes_beyond limit nodes history entry.event ≡ None) × StaysWithin limit nodes (history ++ entry ∷ []) entries

-- the first of these entries behind a history brings an element beyond the limit of this node
abbrev pub BeginsBeyond : ℕ → List Node → List Entry → List Entry → ℕ → Type 0
BeginsBeyond limit nodes history [] node = ⊥
BeginsBeyond limit nodes history (entry ∷ entries) node = goes_beyond limit nodes history entry.event ≡ Some node

-- a limit stops a run before these entries where the first of them goes beyond it; memory may be wanting anywhere
abbrev pub StopsAt : ℕ → List Node → List Entry → List Entry → Stop → Type 0
StopsAt limit nodes history entries (Limit node) = BeginsBeyond limit nodes history entries node
StopsAt limit nodes history entries NoMemory = Unit {0}

-- this entry of the history is its first that brings an element beyond the limit, and it does so at this node
pub record ReachesLimit (limit : ℕ) (nodes : List Node) (whole : List Entry) (node : ℕ) : Type 0 where
  pub front : List Entry
  pub next : Entry
  pub back : List Entry
  pub parts : whole ≡ front ++ next ∷ back
  pub within : StaysWithin limit nodes [] front
  pub beyond : goes_beyond limit nodes front next.event ≡ Some node
