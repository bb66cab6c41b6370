-- The rows that are kept of each stream are those that have arrived.
use Rattle.std.proofs.Common.{◌≡◌, ◌<◌, ◌+◌, ℕ, zero, suc, Bool, true, false, cond, List, [], ◌∷◌, ◌++◌, length, get_or, eqb, refl, ap, sym, ◌∙◌, subst, append-nil, arith, inl, inr}
use Rattle.std.specs.Prelude.{set}
use Rattle.std.proofs.lemmas.Bool.Decides.{eqb_tells}
use Rattle.std.proofs.lemmas.List.{length-append, get_or-set_same, get_or-set_other}
use Rattle.pj_value.specs.declared.values.Value.{Value}
use Rattle.pj_pattern.specs.declared.element.Element.{Element}
use Rattle.pj_pattern.specs.declared.element.Element.TheVariants.{Tuple, Punct}
use Rattle.pj_pattern.specs.Columns.{all_wild}
use Rattle.pj_pattern.specs.Elements.{rows_of}
use Rattle.pj_pattern.proofs.Elements.{rows_of-append}
use Rattle.pj_plan.specs.declared.node.PlanNode.{PlanNode}
use Rattle.pj_plan.specs.Nodes.{stream_columns, streams_in}
use Rattle.pj_events.specs.declared.events.Entry.{Entry}
use Rattle.pj_events.specs.OneThread.{Turn}
use Rattle.pj_events.specs.Outcomes.{elements_of as arrived_at}
use Rattle.pj_laws.proofs.OneRun.{elements-append}
use Rattle.pj_core.specs.Cores.{CoreState, nodes_after}
use Rattle.pj_core.specs.Calls.{turn_behind}
use Rattle.pj_feed.specs.declared.feeds.Arrival.{Arrival}
use Rattle.pj_feed.specs.declared.feeds.Arrival.TheVariants.{Brought, Closing}
use Rattle.pj_feed.specs.Feeds.{turn_in}
use Rattle.pj_run.specs.declared.checking.AcceptedRows.{AcceptedRows}
use Rattle.pj_run.specs.Checking.{HoldsNone, IsThere, with_arrival, with_element}
use Rattle.pj_run.specs.Turning.{IsTurnOf}
use Rattle.pj_run.proofs.Arrivals.{brought_by, elements-turn}

-- one list more without rows
none_at : (lists : List (List (List Value))) (s : ℕ) → ((stream : ℕ) → get_or lists stream [] ≡ []) → get_or (lists ++ [] ∷ []) s [] ≡ []
none_at [] zero none = refl
none_at [] (suc s) none = refl
none_at (list ∷ lists) zero none = none 0
none_at (list ∷ lists) (suc s) none = none_at lists s (λ stream. none (suc stream))

pub none_more : (streams : ℕ) (lists : List (List (List Value))) → HoldsNone streams lists → HoldsNone (streams + 1) (lists ++ [] ∷ [])
none_more streams lists none = (length-append lists ([] ∷ []) ∙ ap (λ (n : ℕ). n + 1) none.0, λ s. none_at lists s none.1)

-- where rows are asked for, there is a list for each of so many streams, and it has those that arrived
pub record KeepsRows (accepted : AcceptedRows) (streams : ℕ) (history : List Entry) : Type 0 where
  pub many : accepted.asked ≡ true → length accepted.lists.items ≡ streams
  pub rows : accepted.asked ≡ true → (s : ℕ) → s < streams → get_or accepted.lists.items s [] ≡ rows_of (arrived_at s history)

-- ---- one turn more

-- a punctuation brings no row
no_row : (b : Bool) (punct : Element) → rows_of (punct ∷ []) ≡ [] → (rows : List (List Value)) → rows ≡ rows ++ rows_of (cond b (punct ∷ []) [])
no_row true punct none rows = sym (append-nil rows) ∙ ap (λ (more : List (List Value)). rows ++ more) (sym none)
no_row false punct none rows = sym (append-nil rows)

one_more : (lists : List (List (List Value))) (stream : ℕ) (element : Element) (s : ℕ) → stream < length lists
    → get_or (with_element stream element lists) s [] ≡ get_or lists s [] ++ rows_of (cond (eqb stream s) (element ∷ []) [])
one_more lists stream (Punct punct) s there = no_row (eqb stream s) (Punct punct) refl (get_or lists s [])
one_more lists stream (Tuple row) s there =
    let rows : List (List Value) = get_or lists stream [] ++ row ∷ [] in
    elim (eqb_tells stream s) [
      | inl same ↦ rw same.0 (subst (λ (n : ℕ). get_or (set lists stream rows) n [] ≡ get_or lists n [] ++ row ∷ []) same.1 (get_or-set_same lists stream rows [] there))
      | inr other ↦ rw other.0 (get_or-set_other lists stream s rows [] (λ e. other.1 (sym e)) ∙ sym (append-nil (get_or lists s [])))
    ]

pub arrival_more : (next : Arrival) (streams : List PlanNode) (lists : List (List (List Value))) (s : ℕ) → IsThere next lists
    → get_or (with_arrival next lists) s [] ≡ get_or lists s [] ++ rows_of (brought_by s (turn_in streams next))
arrival_more (Brought stream element) streams lists s there = one_more lists stream element s there
arrival_more (Closing stream) streams lists s there = no_row (eqb stream s) (Punct (all_wild (length (stream_columns streams stream)))) refl (get_or lists s [])

-- there is a list for the stream of a turn
pub there_of : (next : Arrival) (streams : List PlanNode) (lists : List (List (List Value))) → IsTurnOf streams (turn_in streams next) → length lists ≡ length streams → IsThere next lists
there_of (Brought stream element) streams lists of many = let lt = of.0 in omega (arith, lt, many)
there_of (Closing stream) streams lists of many = tt

pub keeps_more : (old new : AcceptedRows) (streams : ℕ) (history : List Entry) (core : CoreState) (next : Arrival) → KeepsRows old streams history → new.asked ≡ old.asked → length new.lists.items ≡ length old.lists.items
    → (old.asked ≡ true → new.lists.items ≡ with_arrival next old.lists.items) → (old.asked ≡ true → IsThere next old.lists.items) → KeepsRows new streams (history ++ turn_behind core history (turn_in (streams_in core.plan.nodes) next))
keeps_more old new streams history core next keeps same many kept there = record {
  many = λ asked. many ∙ keeps.many (sym same ∙ asked);
  rows = λ asked s lt.
      let was : old.asked ≡ true = sym same ∙ asked in
      let t : Turn = turn_in (streams_in core.plan.nodes) next in
      let more : List Entry = turn_behind core history t in
      let arrives : arrived_at s (history ++ more) ≡ arrived_at s history ++ brought_by s t =
      elements-append s history more ∙ ap (λ (es : List Element). arrived_at s history ++ es) (elements-turn s (nodes_after core history) t) in
      ap (λ (lists : List (List (List Value))). get_or lists s []) (kept was)
      ∙ (arrival_more next (streams_in core.plan.nodes) old.lists.items s (there was)
      ∙ (ap (λ (rows : List (List Value)). rows ++ rows_of (brought_by s t)) (keeps.rows was s lt)
      ∙ (sym (rows_of-append (arrived_at s history) (brought_by s t)) ∙ ap rows_of (sym arrives))));
}
