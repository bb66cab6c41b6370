-- An element arrives at a core.
use Rattle.std.proofs.Common.{ℕ, ◌<◌, ◌≤◌, Bool, true, false, cond, List, [], ◌∷◌, ◌++◌, ◌≡◌, Option, Some, None, length, get_or, refl, sym, ap, ◌∙◌, subst, arith, append-nil}
use Rattle.std.proofs.lemmas.Bool.{false≢true}
use Rattle.pj_plan.specs.declared.node.Node.{Node as Operation}
use Rattle.pj_plan.specs.declared.node.Node.TheVariants.{Stream as StreamNode, Select as SelectNode, Project as ProjectNode, Union as UnionNode, Join as JoinNode, Group as GroupNode}
use Rattle.pj_core.specs.Parts.{plan_node, IsMadeOf, core_of, kind_for}
use Rattle.pj_plan.specs.Nodes.{is_stream, streams_of}
use Rattle.pj_scheme.specs.Derived.{schemes_of}
use Rattle.pj_pattern.specs.declared.element.Element.{Element}
use Rattle.pj_events.specs.declared.events.Entry.{Entry}
use Rattle.pj_events.specs.declared.events.Event.TheVariants.{Arrive}
use Rattle.pj_events.specs.declared.events.Out.{Out}
use Rattle.pj_events.specs.declared.events.Stop.{Stop}
use Rattle.pj_events.specs.declared.events.Stop.TheVariants.{Limit, NoMemory}
use Rattle.pj_events.specs.Plan.{Operator, Stream, Select, Project, Union, Join, Group, Node, Fed, after, hands, operator_at}
use Rattle.pj_events.specs.History.{IsEntryAllowed, closed_after, nodes_from, reached_of, stream_node}
use Rattle.pj_events.specs.OneThread.{Turn, arrival_of}
use Rattle.pj_events.specs.Outcomes.{goes_beyond}
use Rattle.pj_operator.specs.declared.operator.RunningOperator.{RunningOperator}
use Rattle.pj_operator.specs.declared.operator.OperatorState.{OperatorState}
use Rattle.pj_operator.specs.Operators.{AreAs, Frame, IsAs, IsKind, Kind, StreamKind, running_at, frame_at, kind_of}
use Rattle.pj_operator.specs.Emitting.{Emits, GoBeyond, IsEmitStop, StaysAs}
use Rattle.pj_core.specs.Cores.{StandsFor}
use Rattle.pj_core.specs.Calls.{HasArrived, IsCause}
use Rattle.pj_core.specs.Plans.{RunPlan, nodes_of}
use Rattle.pj_operator.proofs.Emits.{frame-at}
use Rattle.pj_core.proofs.Events.{Steps, beyond-is, note, steps-still}
use Rattle.pj_core.proofs.Frames.{certs_at, frame-is, kind-after}
use Rattle.pj_core.proofs.Stands.{are, long-now}
use Rattle.pj_core.proofs.Streams.{number_below, stream-number, stream-there}
use Rattle.pj_laws.proofs.ClimbingKept.{stored_of}

-- ---- at the stream

stream-kind : (schemes : List (List (List Bool))) (limit n : ℕ) (certs : List (List _)) (columns : List _) (operation : Operation) → is_stream operation ≡ true → kind_for schemes limit n certs columns operation ≡ StreamKind
stream-kind schemes limit n certs columns (StreamNode stated) t = refl
stream-kind schemes limit n certs columns (SelectNode input test) t = absurd (false≢true t)
stream-kind schemes limit n certs columns (ProjectNode input kept) t = absurd (false≢true t)
stream-kind schemes limit n certs columns (UnionNode inputs) t = absurd (false≢true t)
stream-kind schemes limit n certs columns (JoinNode inputs spec) t = absurd (false≢true t)
stream-kind schemes limit n certs columns (GroupNode input spec) t = absurd (false≢true t)

hands-fed : (operator : Operator) (e : Element) → IsKind StreamKind operator → hands operator (Fed e) ≡ e ∷ []
hands-fed (Stream schema sent) e k = refl
hands-fed (Select test) e k = cc
hands-fed (Project columns) e k = cc
hands-fed (Union n u) e k = cc
hands-fed (Join spec s) e k = cc
hands-fed (Group spec rows) e k = cc

as-fed : (state : OperatorState) (operator : Operator) (e : Element) → IsAs state operator → IsAs state (after operator (Fed e))
as-fed state (Stream schema sent) e a = record { kind = kind-after (kind_of state) (Stream schema sent) (Fed e) a.kind; kept = a.kept; below = tt }
as-fed state (Select test) e a = a
as-fed state (Project columns) e a = a
as-fed state (Union n u) e a = a
as-fed state (Join spec s) e a = a
as-fed state (Group spec rows) e a = a

stored-fed : (operator : Operator) (e : Element) → stored_of operator ≤ stored_of (after operator (Fed e))
stored-fed (Stream schema sent) e = omega arith
stored-fed (Select test) e = omega arith
stored-fed (Project columns) e = omega arith
stored-fed (Union n u) e = omega arith
stored-fed (Join spec s) e = omega arith
stored-fed (Group spec rows) e = omega arith

module _ (plan : RunPlan) (limit : ℕ) (operators : List RunningOperator) (made : IsMadeOf plan limit operators) (c : List ℕ) (halt : Bool) (u : List Out) (history : List Entry) (S : StandsFor (core_of plan limit operators c halt u None) history)
    (stream : ℕ) (there : stream < length (streams_of plan.nodes)) (e : Element) where
  abbrev number : ℕ
  number = get_or (streams_of plan.nodes) stream 0

  abbrev nodes : List Node
  nodes = nodes_from (nodes_of plan) history

  A : AreAs operators nodes
  A = are plan limit operators made c halt u history S

  within : number < length operators
  within = omega (arith, number_below plan.nodes stream there, A.long, long-now plan limit history made.0 S.legal)

  stream-is : (kind_of (running_at operators number).state) ≡ StreamKind
  stream-is =
      ap (λ (f : Frame). f.kind) (sym (frame-at operators number) ∙ ap (λ (fs : List Frame). frame_at fs number) made.2 ∙ frame-is plan limit number (number_below plan.nodes stream there))
      ∙ stream-kind (schemes_of plan.nodes) limit number (certs_at plan.nodes plan.certs number) (plan_node plan.nodes number).schema (plan_node plan.nodes number).node (stream-there plan.nodes stream there)

  handed : hands (operator_at nodes number) (Fed e) ≡ e ∷ []
  handed = hands-fed (operator_at nodes number) e (subst (λ (k : Kind). IsKind k (operator_at nodes number)) stream-is (A.each number within).kind)

  step : Steps operators operators nodes number (Fed e)
  step = steps-still operators nodes number (Fed e) A within (as-fed (running_at operators number).state (operator_at nodes number) e (A.each number within)) (stored-fed (operator_at nodes number) e)

  begins : stream_node nodes stream ≡ number
  begins = stream-number plan history stream there

  arrives : (closing : ℕ) (new : List RunningOperator) (c' : List ℕ) (u' : List Out) → Emits (record { operators = operators; outs = u }) (record { operators = new; outs = u' }) number (e ∷ []) → StaysAs operators new
      → c' ≡ closed_after c closing (Arrive stream e) → IsEntryAllowed (reached_of false (nodes_of plan) history) (record { event = Arrive stream e; seat = 0; closing = closing })
      → StandsFor (core_of plan limit new c' halt u' None) (history ++ record { event = Arrive stream e; seat = 0; closing = closing } ∷ [])
  arrives closing new c' u' C stays closed allowed =
      note plan limit operators made c halt u history S (Arrive stream e) number (Fed e) refl begins operators step new c' u u' closing allowed (silent plan.trace)
      (subst (λ (es : List Element). Emits (record { operators = operators; outs = u }) (record { operators = new; outs = u' }) number es) (sym handed) C) stays closed (λ old more. refl) refl refl
    where
      silent : (trace : Bool) → u ≡ u ++ cond trace [] []
      silent true = sym (append-nil u)
      silent false = sym (append-nil u)

  goes : (o : Option ℕ) → GoBeyond operators number (e ∷ []) o → goes_beyond limit (nodes_of plan) history (Arrive stream e) ≡ o
  goes o G =
      beyond-is plan limit operators made c halt u history S (Arrive stream e) number (Fed e) refl begins operators step o (subst (λ (es : List Element). GoBeyond operators number es o) (sym handed) G)

-- an element has arrived
pub arrived : (plan : RunPlan) (limit : ℕ) (operators new : List RunningOperator) (c c' : List ℕ) (halt : Bool) (u u' : List Out) (turn : Turn) → IsMadeOf plan limit operators → turn.stream < length (streams_of plan.nodes)
    → Emits (record { operators = operators; outs = u }) (record { operators = new; outs = u' }) (get_or (streams_of plan.nodes) turn.stream 0) (turn.element ∷ []) → StaysAs operators new
    → c' ≡ closed_after c turn.closing (Arrive turn.stream turn.element) → HasArrived (core_of plan limit operators c halt u None) (core_of plan limit new c' halt u' None) (arrival_of turn)
arrived plan limit operators new c c' halt u u' turn made there C stays closed = record {
  on = (refl, refl);
  notes = record {
    plan = refl;
    limit = refl;
    stands = λ history S may. arrives plan limit operators made c halt u history S turn.stream there turn.element turn.closing new c' u' C stays closed may;
  };
  within = λ history S. goes plan limit operators made c halt u history S turn.stream there turn.element None C.within;
}

-- why an arrival stops
pub arrival-stop : (plan : RunPlan) (limit : ℕ) (operators : List RunningOperator) (c : List ℕ) (halt : Bool) (u : List Out) (stream : ℕ) (e : Element) (stop : Stop) → IsMadeOf plan limit operators → stream < length (streams_of plan.nodes)
    → IsEmitStop operators (get_or (streams_of plan.nodes) stream 0) (e ∷ []) stop → IsCause (core_of plan limit operators c halt u None) (Arrive stream e) stop
arrival-stop plan limit operators c halt u stream e (Limit node) made there g = λ history S. goes plan limit operators made c halt u history S stream there e (Some node) g
arrival-stop plan limit operators c halt u stream e NoMemory made there g = tt
