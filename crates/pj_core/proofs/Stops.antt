-- Stops, drains, idle calls and looks at a core, and a new one.
use Rattle.std.proofs.Common.{ℕ, ◌<◌, max, Bool, true, false, cond, List, [], ◌∷◌, ◌++◌, ◌≡◌, map, length, get_or, Option, Some, None, refl, sym, ap, ap₂, ◌∙◌, subst, inl, arith, append-nil}
use Rattle.pj_events.specs.declared.events.Entry.{Entry}
use Rattle.pj_events.specs.declared.events.Event.{Event}
use Rattle.pj_events.specs.declared.events.Event.TheVariants.{Drain, Halt, Stopped, Idle}
use Rattle.pj_events.specs.declared.events.Out.{Out}
use Rattle.pj_events.specs.declared.events.Stop.{Stop}
use Rattle.pj_events.specs.Plan.{Node, Operator, Stream, Select, Project, Union, Join, Group, Pass, operator_at}
use Rattle.pj_events.specs.History.{IsEntryAllowed, IsOn, Reached, closed_after, gained, halted_after, next, nodes_from, notes_of, out_of, reached_of, root_of, step_of, stop_after, undrained_after}
use Rattle.pj_events.specs.Outcomes.{peak_of, stored_at}
use Rattle.pj_events.specs.OneThread.{plain}
use Rattle.pj_laws.specs.Climb.{Climbed, climb_of, local_of}
use Rattle.pj_laws.specs.ClimbKept.{handed_by, undrained_with}
use Rattle.pj_laws.proofs.HistoryAnswers.{adds-entry, grows-legally, trace-adds-notes}
use Rattle.pj_laws.proofs.Nodes.{empty-none, quiet}
use Rattle.pj_operator.specs.declared.operator.RunningOperator.{RunningOperator}
use Rattle.pj_operator.specs.Operators.{AreAs, running_at, peak_seen}
use Rattle.pj_operator.proofs.Emits.{still-counted}
use Rattle.pj_core.specs.Calls.{StaysStopped, StopsNow}
use Rattle.pj_core.specs.Cores.{Notes, StandsFor}
use Rattle.pj_core.specs.Parts.{IsMadeOf, core_of}
use Rattle.pj_core.specs.Plans.{RunPlan, nodes_of}
use Rattle.pj_core.proofs.Stands.{are, noted, stored-is}

-- ---- events that do nothing

pub silent : (trace : Bool) (nodes : List Node) (event : Event) → step_of nodes event ≡ Pass → notes_of nodes event ≡ [] → gained trace nodes event ≡ []
silent trace nodes event e n =
    ap₂ (λ (notes : List Out) (es : List _). cond trace notes [] ++ map out_of es) n
    (ap (λ (s : _). get_or (Rattle.pj_events.specs.Plan.batches s [] nodes) (root_of nodes) []) e ∙ (quiet Pass [] nodes empty-none (λ k le lt. refl)).1 (root_of nodes))
    ∙ none trace
  where
    none : (b : Bool) → (cond b [] [] ++ map out_of []) ≡ []
    none true = refl
    none false = refl

pub stop-same : (trace : Bool) (nodes : List Node) (history : List Entry) → (reached_of trace nodes history).stop ≡ (reached_of false nodes history).stop
stop-same true nodes history = (trace-adds-notes nodes history).stop
stop-same false nodes history = refl

pub closed-same : (trace : Bool) (nodes : List Node) (history : List Entry) → (reached_of trace nodes history).closed ≡ (reached_of false nodes history).closed
closed-same true nodes history = (trace-adds-notes nodes history).closed
closed-same false nodes history = refl

-- ---- behind a stop

-- an entry that leaves a stop, and changes the outputs and the halt alone
pub stop-entered : (plan : RunPlan) (l l' : ℕ) (operators operators' : List RunningOperator) (c c' : List ℕ) (halt halt' : Bool) (u u' : List Out) (t : Option Stop) (s : Stop) (history : List Entry) (event : Event)
    → StandsFor (core_of plan l operators c halt u t) history → IsEntryAllowed (reached_of false (nodes_of plan) history) (plain event)
    → u' ≡ undrained_after plan.trace (reached_of plan.trace (nodes_of plan) history) event → halt' ≡ halted_after halt event → Some s ≡ stop_after t event
    → StandsFor (core_of plan l' operators' c' halt' u' (Some s)) (history ++ plain event ∷ [])
stop-entered plan l l' operators operators' c c' halt halt' u u' t s history event S m hu hh ht =
    let r : reached_of plan.trace (nodes_of plan) (history ++ plain event ∷ []) ≡ next plan.trace (reached_of plan.trace (nodes_of plan) history) (plain event) = (adds-entry (nodes_of plan) history (plain event)).reached plan.trace in
    let stop : Some s ≡ (reached_of plan.trace (nodes_of plan) (history ++ plain event ∷ [])).stop =
    ht ∙ ap (λ (z : Option Stop). stop_after z event) S.stands.3 ∙ sym (ap (λ (z : Reached). z.stop) r) in
    record {
      legal = (grows-legally (nodes_of plan) history (plain event)).1 (S.legal, m);
      stands = (
        (λ on. absurd (let e : Some s ≡ None = stop ∙ on in cc)),
        hu ∙ sym (ap (λ (z : Reached). z.undrained) r),
        hh ∙ ap (λ (z : Bool). halted_after z event) S.stands.2 ∙ sym (ap (λ (z : Reached). z.halted) r),
        stop,
      );
    }

-- the outputs behind an event that hands out nothing
pub same-outs : (plan : RunPlan) (l : ℕ) (operators : List RunningOperator) (c : List ℕ) (halt : Bool) (u : List Out) (t : Option Stop) (history : List Entry) (event : Event) → StandsFor (core_of plan l operators c halt u t) history
    → ((ns : List Node) → step_of ns event ≡ Pass) → ((ns : List Node) → notes_of ns event ≡ [])
    → u ≡ (reached_of plan.trace (nodes_of plan) history).undrained ++ gained plan.trace (reached_of plan.trace (nodes_of plan) history).nodes event
same-outs plan l operators c halt u t history event S pass none =
    let ns = (reached_of plan.trace (nodes_of plan) history).nodes in
    sym (append-nil u) ∙ ap₂ (λ (xs ys : List Out). xs ++ ys) S.stands.1 (sym (silent plan.trace ns event (pass ns) (none ns)))

-- the core stops now
pub stops-now : (plan : RunPlan) (l : ℕ) (operators operators' : List RunningOperator) (c c' : List ℕ) (halt : Bool) (u : List Out) (s : Stop) → StopsNow (core_of plan l operators c halt u None) (core_of plan l operators' c' halt u (Some s)) s
stops-now plan l operators operators' c c' halt u s = record {
  notes = record {
    plan = refl;
    limit = refl;
    stands = λ history S.
        stop-entered plan l l operators operators' c c' halt halt u u None s history (Stopped s) S
        (sym (stop-same plan.trace (nodes_of plan) history) ∙ sym S.stands.3, inl refl)
        (same-outs plan l operators c halt u None history (Stopped s) S (λ ns. refl) (λ ns. refl)) refl refl;
  };
  stopped = refl;
  undrained = refl;
}

pub off : (s : Stop) (r : Option Stop) → Some s ≡ r → r ≡ None → ⊥
off s r p q = let e : Some s ≡ None = p ∙ q in cc

-- a core that stopped stays as it is
pub stays-stopped : (plan : RunPlan) (l : ℕ) (operators : List RunningOperator) (c : List ℕ) (halt : Bool) (u : List Out) (s : Stop) → StaysStopped (core_of plan l operators c halt u (Some s)) (core_of plan l operators c halt u (Some s)) s s
stays-stopped plan l operators c halt u s = record {
  again = refl;
  stays = refl;
  notes = record {
    plan = refl;
    limit = refl;
    stands = λ history S.
        stop-entered plan l l operators operators c c halt halt u u (Some s) s history Idle S
        ((λ on. absurd (off s _ S.stands.3 (stop-same plan.trace (nodes_of plan) history ∙ on))), inl refl)
        (same-outs plan l operators c halt u (Some s) history Idle S (λ ns. refl) (λ ns. refl)) refl refl;
  };
}

-- ---- entries that leave the nodes as they are

module _ (plan : RunPlan) (limit : ℕ) (operators : List RunningOperator) (made : IsMadeOf plan limit operators) (c : List ℕ) (halt : Bool) (u : List Out) (history : List Entry) (S : StandsFor (core_of plan limit operators c halt u None) history) where
  abbrev nodes : List Node
  nodes = nodes_from (nodes_of plan) history

  A : AreAs operators nodes
  A = are plan limit operators made c halt u history S

  pub quiet-noted : (event : Event) (halt' : Bool) (u' : List Out) → local_of event ≡ None → IsEntryAllowed (reached_of false (nodes_of plan) history) (plain event)
      → c ≡ closed_after c 0 event → u' ≡ undrained_with u (handed_by plan.trace nodes event) event → halt' ≡ halted_after halt event → stop_after None event ≡ None
      → StandsFor (core_of plan limit operators c halt' u' None) (history ++ plain event ∷ [])
  quiet-noted event halt' u' local may closed outs halts stops =
      noted plan limit operators made c halt u history S (plain event) operators c halt' u' may
      (record {
        long = refl;
        stands = subst (λ (k : Climbed). AreAs operators k.nodes) (sym climb-is) A;
        counts = still-counted operators (climb_of nodes event).brought (λ m. ap (λ (k : Climbed). get_or k.brought m []) climb-is);
        peaks = λ m lt. raised m lt ∙ ap (λ (k : Climbed). max (peak_seen (running_at operators m)) (stored_at k.nodes m)) (sym climb-is);
        closed = closed;
        undrained = outs;
        halts = halts;
        stops = stops;
      })
    where
      still : Climbed
      still = record { nodes = nodes; brought = []; left = record { from = Rattle.pj_events.specs.Outcomes.origin_of nodes event; elements = [] } }

      climb-is : climb_of nodes event ≡ still
      climb-is = ap (Rattle.pj_laws.specs.Climb.climbed_where nodes (Rattle.pj_events.specs.Outcomes.origin_of nodes event)) local

      raised : (m : ℕ) → m < length operators → peak_seen (running_at operators m) ≡ max (peak_seen (running_at operators m)) (stored_at nodes m)
      raised m lt = omega (arith, stored-is operators nodes m A lt)

  -- nothing goes out where nothing is emitted
  pub nothing-out : (event : Event) → notes_of nodes event ≡ [] → local_of event ≡ None → handed_by plan.trace nodes event ≡ []
  nothing-out event none local =
      ap₂ (λ (notes : List Out) (k : Climbed). cond plan.trace notes [] ++ map out_of k.left.elements) none
      (ap (Rattle.pj_laws.specs.Climb.climbed_where nodes (Rattle.pj_events.specs.Outcomes.origin_of nodes event)) local)
      ∙ empty plan.trace
    where
      empty : (b : Bool) → (cond b [] [] ++ map out_of []) ≡ []
      empty true = refl
      empty false = refl

  pub on : IsOn (reached_of false (nodes_of plan) history)
  on = sym (stop-same plan.trace (nodes_of plan) history) ∙ sym S.stands.3

  pub same-nodes : (reached_of false (nodes_of plan) history).nodes ≡ nodes
  same-nodes = (trace-adds-notes (nodes_of plan) history).nodes false

-- ---- drains

pub notes-drain : (plan : RunPlan) (l : ℕ) (operators : List RunningOperator) (c : List ℕ) (halt : Bool) (u : List Out) (t : Option Stop) → IsMadeOf plan l operators → Notes (core_of plan l operators c halt u t) (core_of plan l operators c halt [] t) (plain Drain)
notes-drain plan l operators c halt u t made = record { plan = refl; limit = refl; stands = λ history S. go t history S }
  where
    go : (o : Option Stop) (history : List Entry) → StandsFor (core_of plan l operators c halt u o) history → StandsFor (core_of plan l operators c halt [] o) (history ++ plain Drain ∷ [])
    go None history S = quiet-noted plan l operators made c halt u history S Drain halt [] refl (tt, inl refl) refl refl refl refl
    go (Some s) history S = stop-entered plan l l operators operators c c halt halt u [] (Some s) s history Drain S (tt, inl refl) refl refl refl

-- ---- halts

pub notes-halt : (plan : RunPlan) (l : ℕ) (operators : List RunningOperator) (c : List ℕ) (halt : Bool) (u : List Out) (t : Option Stop) → IsMadeOf plan l operators → Notes (core_of plan l operators c halt u t) (core_of plan l operators c true u t) (plain Halt)
notes-halt plan l operators c halt u t made = record { plan = refl; limit = refl; stands = λ history S. go t history S }
  where
    go : (o : Option Stop) (history : List Entry) → StandsFor (core_of plan l operators c halt u o) history → StandsFor (core_of plan l operators c true u o) (history ++ plain Halt ∷ [])
    go None history S = quiet-noted plan l operators made c halt u history S Halt true u refl (tt, inl refl) refl
        (sym (ap (λ (outs : List Out). u ++ outs) (nothing-out plan l operators made c halt u history S Halt refl refl) ∙ append-nil u)) refl refl
    go (Some s) history S = stop-entered plan l l operators operators c c halt true u u (Some s) s history Halt S (tt, inl refl)
        (same-outs plan l operators c halt u (Some s) history Halt S (λ ns. refl) (λ ns. refl)) refl refl
