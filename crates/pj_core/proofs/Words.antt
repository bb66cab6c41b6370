-- What the calls of a core answer, as its parts are seen.
use Rattle.std.proofs.Common.{true, Bool, ℕ, max, ◌<◌, ◌≤◌, ◌∷◌, [], List, ◌≡◌, Option, Some, None, length, map, get_or, refl, sym, ap, ◌∙◌, subst, arith}
use Rattle.std.specs.Prelude.{IfSome}
use Rattle.std.proofs.lemmas.List.{get_or_default, length-map}
use Rattle.pj_value.specs.declared.values.Value.{Value}
use Rattle.pj_shape.specs.Columns.{domains_of}
use Rattle.pj_shape.specs.declared.columns.Column.{Column}
use Rattle.pj_plan.specs.Canonical.{node_schema}
use Rattle.pj_plan.specs.Nodes.{stream_columns, streams_in, streams_of}
use Rattle.pj_events.specs.declared.events.Out.{Out}
use Rattle.pj_events.specs.declared.events.Stop.{Stop}
use Rattle.pj_events.specs.OneThread.{Turn, arrival_of, plain}
use Rattle.pj_events.specs.History.{closed_after}
use Rattle.pj_events.specs.declared.events.Event.TheVariants.{Arrive, Drain, Halt}
use Rattle.pj_pattern.specs.Fitting.{FitsDomains}
use Rattle.pj_pattern.proofs.Rows.{wilds-length}
use Rattle.pj_pattern.specs.declared.element.Element.{Element}
use Rattle.pj_pattern.specs.declared.element.Element.TheVariants.{Tuple}
use Rattle.pj_events.specs.Plan.{Fits}
use Rattle.pj_laws.proofs.Whole.{fits-length}
use Rattle.pj_probe.specs.declared.probe.Found.{Found}
use Rattle.pj_events.specs.declared.events.Look.{Look as TheLook}
use Rattle.pj_operator.specs.declared.look.Sums.{Sums}
use Rattle.pj_operator.specs.Looks.{AreFew, AreWith}
use Rattle.pj_operator.specs.declared.operator.RunningOperator.{RunningOperator}
use Rattle.pj_core.specs.Calls.{FitNode, HasArrived, IsCause, IsOpen, IsJoinNode, IsLookAt, IsPeak, IsRefused, StaysStopped, StopsNow, closing_of}
use Rattle.pj_operator.specs.Operators.{AreLinked, AreWide, Frame, running_at, frame_at, frame_of, frames_in, kept_seen, no_operator, peak_seen, stored_kept, IsTakenIn}
use Rattle.pj_operator.specs.Emitting.{AreOrderly, Emits, IsEmitStop, MayEmit, StaysAs}
use Rattle.pj_core.specs.Cores.{CoreState, Notes}
use Rattle.pj_core.specs.Parts.{IsMadeOf, closing_in, core_of}
use Rattle.pj_core.specs.Plans.{RunPlan}
use Rattle.pj_operator.proofs.Emits.{frame-at}
use Rattle.pj_operator.proofs.Widths.{one-wide, rows-wide}
use Rattle.pj_core.proofs.Arrivals.{arrival-stop, arrived}
use Rattle.pj_core.proofs.Frames.{frame-is, links-of, long-of}
use Rattle.pj_core.proofs.Looking.{HasNumbers, are_few, is-look, is-peak}
use Rattle.pj_core.proofs.Streams.{columns_there, number_below, streams-few}
use Rattle.pj_core.proofs.Stops.{notes-drain, notes-halt, stays-stopped, stops-now}
use Rattle.pj_core.proofs.Takes.{open-there}
use Rattle.pj_core.specs.Settling.{IsSettlingRefused}
use Rattle.pj_core.specs.Turns.{StopsMaking, working}

-- a core with these parts
module _ (plan : RunPlan) (limit : ℕ) (operators : List RunningOperator) (c : List ℕ) (halt : Bool) (u : List Out) (t : Option Stop) (old : CoreState) (is : core_of plan limit operators c halt u t ≡ old) (made : IsMadeOf plan limit operators) where
  pub long : length operators ≡ length plan.nodes
  long = sym (length-map operators frame_of) ∙ ap length made.2 ∙ long-of plan limit

  pub linked : AreLinked (frames_in operators)
  linked = subst AreLinked (sym made.2) (links-of plan limit made.0)

  -- the stop that was answered before
  pub refused-again : (s : Stop) (cause : Type 0) → t ≡ Some s → IsRefused old.kept.stop old old s cause
  refused-again s cause e =
      subst (λ (o : CoreState). IsRefused o.kept.stop o o s cause) (ap (core_of plan limit operators c halt u) (sym e) ∙ is) (stays-stopped plan limit operators c halt u s)

  -- where there is one, answering it again changes nothing
  pub stays-where : IfSome t (λ s. StaysStopped old old s s)
  stays-where = go t refl
    where
      go : (x : Option Stop) → t ≡ x → IfSome x (λ s. StaysStopped old old s s)
      go None e = tt
      go (Some s) e = subst (λ (o : Option Stop). IsRefused o old old s ⊥) (sym (ap (λ (o : CoreState). o.kept.stop) is) ∙ e) (refused-again s ⊥ e)

  -- a stop now
  pub refused-now : (operators' : List RunningOperator) (c' : List ℕ) (u' : List Out) (s : Stop) (cause : CoreState → Type 0) → t ≡ None → u' ≡ u → cause (core_of plan limit operators c halt u None) → IsRefused old.kept.stop old (core_of plan limit operators' c' halt u' (Some s)) s (cause old)
  refused-now operators' c' u' s cause e outs why =
      subst (λ (v : List Out). IsRefused old.kept.stop old (core_of plan limit operators' c' halt v (Some s)) s (cause old)) (sym outs)
      (subst (λ (o : CoreState). IsRefused o.kept.stop o (core_of plan limit operators' c' halt u (Some s)) s (cause o)) (ap (core_of plan limit operators c halt u) (sym e) ∙ is)
      (stops-now plan limit operators operators' c c' halt u s, why))

  -- the node of a stream is among the operators
  pub below-operators : (m : ℕ) → m < length plan.nodes → (xs : List RunningOperator) → xs ≡ operators → m < length xs
  below-operators m lt xs e = let l = long in omega (arith, lt, l, ap length e)

  pub linked-operators : (xs : List RunningOperator) → xs ≡ operators → AreLinked (frames_in xs)
  linked-operators xs e = subst (λ (ys : List RunningOperator). AreLinked (frames_in ys)) (sym e) linked

  pub orderly-operators : (xs : List RunningOperator) → xs ≡ operators → AreOrderly xs
  orderly-operators xs e = subst AreOrderly (sym e) made.3

  -- a node hands up as many columns as it has
  width-is : (n : ℕ) → n < length plan.nodes → (running_at operators n).width ≡ length (node_schema plan.nodes n)
  width-is n lt = ap (λ (f : Frame). f.width) (sym (frame-at operators n) ∙ ap (λ (fs : List Frame). frame_at fs n) made.2 ∙ frame-is plan limit n lt)

  may-climb : (xs : List RunningOperator) (n : ℕ) (es : List Element) → xs ≡ operators → n < length plan.nodes → AreWide (length (node_schema plan.nodes n)) es → MayEmit xs n es
  may-climb xs n es e lt wide = subst (λ (ys : List RunningOperator). MayEmit ys n es) (sym e) (record { linked = linked; orderly = made.3; wide = λ x h. wide x h ∙ sym (width-is n lt) })

  -- what arrives at a stream, or closes it, may climb
  may-come : (xs : List RunningOperator) (stream : ℕ) (x : Element) → xs ≡ operators → stream < length (streams_of plan.nodes) → Fits (length (stream_columns (streams_in plan.nodes) stream)) x → MayEmit xs (get_or (streams_of plan.nodes) stream 0) (x ∷ [])
  may-come xs stream x e there fits =
      may-climb xs (get_or (streams_of plan.nodes) stream 0) (x ∷ []) e (number_below plan.nodes stream there)
      (one-wide x (length (node_schema plan.nodes (get_or (streams_of plan.nodes) stream 0))) (subst (λ (columns : List Column). Fits (length columns) x) (sym (columns_there plan.nodes stream there)) fits))

  pub may-arrive : (xs : List RunningOperator) (from stream : ℕ) (x : Element) → xs ≡ operators → from ≡ get_or (streams_of plan.nodes) stream 0 → stream < length (streams_of old.plan.nodes) → FitsDomains (domains_of (stream_columns (streams_in old.plan.nodes) stream)) x
      → MayEmit xs from (x ∷ [])
  may-arrive xs from stream x e at there fits =
      subst (λ (n : ℕ). MayEmit xs n (x ∷ [])) (sym at)
      (may-come xs stream x e (subst (λ (o : CoreState). stream < length (streams_of o.plan.nodes)) (sym is) there)
      (fits-length (stream_columns (streams_in plan.nodes) stream) x (subst (λ (o : CoreState). FitsDomains (domains_of (stream_columns (streams_in o.plan.nodes) stream)) x) (sym is) fits)))

  pub may-close : (xs : List RunningOperator) (stream : ℕ) → xs ≡ operators → stream < length (streams_of old.plan.nodes) → MayEmit xs (get_or (streams_of plan.nodes) stream 0) (closing_in plan.nodes stream ∷ [])
  may-close xs stream e there =
      may-come xs stream (closing_in plan.nodes stream) e (subst (λ (o : CoreState). stream < length (streams_of o.plan.nodes)) (sym is) there)
      (wilds-length (length (stream_columns (streams_in plan.nodes) stream)))

  pub may-give : (xs : List RunningOperator) (probe : Found) (rows : List (List Value)) → xs ≡ operators → IsOpen old probe → FitNode old probe.join rows → MayEmit xs probe.join (map Tuple rows)
  may-give xs probe rows e opened fits =
      may-climb xs probe.join (map Tuple rows) e
      (let lt = (open-there operators probe.join probe.ticket (subst (λ (s : CoreState). IsOpen s probe) (sym is) opened)).0 in omega (arith, lt, long))
      (rows-wide rows (length (node_schema plan.nodes probe.join)) (subst (λ (o : CoreState). FitNode o probe.join rows) (sym is) fits))

  -- an element has arrived
  pub arrived-now : t ≡ None → (turn : Turn) → turn.stream < length (streams_of old.plan.nodes) → (xs new new' : List RunningOperator) (from : ℕ) (c' : List ℕ) (u' : List Out) → xs ≡ operators → new' ≡ new → from ≡ get_or (streams_of plan.nodes) turn.stream 0
      → Emits (record { operators = xs; outs = u }) (record { operators = new; outs = u' }) from (turn.element ∷ []) → StaysAs xs new → c' ≡ closed_after c turn.closing (Arrive turn.stream turn.element)
      → HasArrived old (core_of plan limit new' c' halt u' t) (arrival_of turn)
  arrived-now e turn there xs new new' from c' u' same same' at C stays closed =
      subst (λ (o : Option Stop). HasArrived old (core_of plan limit new' c' halt u' o) (arrival_of turn)) (sym e)
      (subst (λ (ys : List RunningOperator). HasArrived old (core_of plan limit ys c' halt u' None) (arrival_of turn)) (sym same')
      (subst (λ (o : CoreState). HasArrived o (core_of plan limit new c' halt u' None) (arrival_of turn)) (ap (core_of plan limit operators c halt u) (sym e) ∙ is)
      (arrived plan limit operators new c c' halt u u' turn made (subst (λ (o : CoreState). turn.stream < length (streams_of o.plan.nodes)) (sym is) there)
      (subst (λ (ys : List RunningOperator). Emits (record { operators = ys; outs = u }) (record { operators = new; outs = u' }) (get_or (streams_of plan.nodes) turn.stream 0) (turn.element ∷ [])) same
      (subst (λ (m : ℕ). Emits (record { operators = xs; outs = u }) (record { operators = new; outs = u' }) m (turn.element ∷ [])) at C))
      (subst (λ (ys : List RunningOperator). StaysAs ys new) same stays) closed)))

  -- why an arrival stops
  pub arrival-cause : (stream : ℕ) (x : Element) (xs : List RunningOperator) (from : ℕ) (s : Stop) → stream < length (streams_of old.plan.nodes) → xs ≡ operators → from ≡ get_or (streams_of plan.nodes) stream 0
      → IsEmitStop xs from (x ∷ []) s → IsCause (core_of plan limit operators c halt u None) (Arrive stream x) s
  arrival-cause stream x xs from s there same at g =
      arrival-stop plan limit operators c halt u stream x s made (subst (λ (o : CoreState). stream < length (streams_of o.plan.nodes)) (sym is) there)
      (subst (λ (ys : List RunningOperator). IsEmitStop ys (get_or (streams_of plan.nodes) stream 0) (x ∷ []) s) same
      (subst (λ (m : ℕ). IsEmitStop xs m (x ∷ []) s) at g))

  -- what a core is made of stays
  pub made-now : (xs new new' : List RunningOperator) → xs ≡ operators → new' ≡ new → frames_in new ≡ frames_in xs → (AreOrderly xs → AreOrderly new) → IsMadeOf plan limit new'
  made-now xs new new' same same' frames orderly =
      subst (IsMadeOf plan limit) (sym same') (made.0, made.1, frames ∙ ap frames_in same ∙ made.2, orderly (subst AreOrderly (sym same) made.3))

  -- what holds of the parts holds of the core
  pub holds-now : (P : CoreState → CoreState → Type 0) → t ≡ None → (new new' : List RunningOperator) (c' : List ℕ) (u' : List Out) → new' ≡ new
      → P (core_of plan limit operators c halt u None) (core_of plan limit new c' halt u' None) → P old (core_of plan limit new' c' halt u' t)
  holds-now P e new new' c' u' same p =
      subst (λ (o : Option Stop). P old (core_of plan limit new' c' halt u' o)) (sym e)
      (subst (λ (ys : List RunningOperator). P old (core_of plan limit ys c' halt u' None)) (sym same)
      (subst (λ (o : CoreState). P o (core_of plan limit new c' halt u' None)) (ap (core_of plan limit operators c halt u) (sym e) ∙ is) p))

  -- the parts of an open probe
  pub open-parts : (probe : Found) → IsOpen old probe → (xs : List RunningOperator) → xs ≡ operators → (probe.join < length xs) × IsTakenIn (kept_seen (running_at xs probe.join).state) probe.ticket
  open-parts probe o xs same =
      subst (λ (ys : List RunningOperator). (probe.join < length ys) × IsTakenIn (kept_seen (running_at ys probe.join).state) probe.ticket) (sym same)
      (open-there operators probe.join probe.ticket (subst (λ (s : CoreState). IsOpen s probe) (sym is) o))

  pub drains-now : Notes old (core_of plan limit operators c halt [] t) (plain Drain)
  drains-now = subst (λ (o : CoreState). Notes o (core_of plan limit operators c halt [] t) (plain Drain)) is (notes-drain plan limit operators c halt u t made)

  pub halts-now : Notes old (core_of plan limit operators c true u t) (plain Halt)
  halts-now = subst (λ (o : CoreState). Notes o (core_of plan limit operators c true u t) (plain Halt)) is (notes-halt plan limit operators c halt u t made)

  pub few-operators : (xs : List RunningOperator) → xs ≡ operators → length xs ≤ 64
  few-operators xs e = let l = long in let f = made.0.few in omega (arith, l, f, ap length e)

  pub stop-none : old.kept.stop ≡ None → t ≡ None
  stop-none e = ap (λ (o : CoreState). o.kept.stop) is ∙ e

  pub on-now : t ≡ None → old.kept.stop ≡ None
  on-now e = sym (ap (λ (o : CoreState). o.kept.stop) is) ∙ e

  -- a stop of a core that goes on
  pub stopped-now : (operators' : List RunningOperator) (c' : List ℕ) (u' : List Out) (s : Stop) (cause : CoreState → Type 0) → t ≡ None → u' ≡ u → cause (core_of plan limit operators c halt u None) → StopsNow old (core_of plan limit operators' c' halt u' (Some s)) s × cause old
  stopped-now operators' c' u' s cause e outs why =
      subst (λ (v : List Out). StopsNow old (core_of plan limit operators' c' halt v (Some s)) s × cause old) (sym outs)
      (subst (λ (o : CoreState). StopsNow o (core_of plan limit operators' c' halt u (Some s)) s × cause o) (ap (core_of plan limit operators c halt u) (sym e) ∙ is) (stops-now plan limit operators operators' c c' halt u s, why))

  -- what the core is said to have, of its parts
  pub of-parts : (P : CoreState → Type 0) → t ≡ None → P old → P (core_of plan limit operators c halt u None)
  of-parts P e p = subst P (sym is ∙ ap (core_of plan limit operators c halt u) e) p

  pub streams-here : (stream : ℕ) → stream < length (streams_of old.plan.nodes) → stream < length (streams_of plan.nodes)
  streams-here stream there = subst (λ (o : CoreState). stream < length (streams_of o.plan.nodes)) (sym is) there

  pub long-operators : (xs : List RunningOperator) → xs ≡ operators → length xs ≡ length plan.nodes
  long-operators xs e = ap length e ∙ long

  -- a look
  pub is-look-now : (sums : Sums) (look : TheLook) (xs : List RunningOperator) → xs ≡ operators → AreWith sums [] xs → HasNumbers plan c halt u t sums look → IsLookAt old look
  is-look-now sums look xs e w n = subst (λ (o : CoreState). IsLookAt o look) is (is-look plan limit operators c halt u t sums look made (subst (AreWith sums []) e w) n)

  pub few-now : (xs : List RunningOperator) → xs ≡ operators → AreFew xs
  few-now xs e = are_few xs (few-operators xs e) (subst AreOrderly (sym e) made.3)

  pub peak-there : (join : ℕ) → IsJoinNode old join → join < length operators
  peak-there join j = let a = (subst (λ (o : CoreState). IsJoinNode o join) (sym is) j).0 in omega (arith, a, long)

  pub is-peak-now : (join : ℕ) (x : RunningOperator) (stored : ℕ) → IsJoinNode old join → x ≡ get_or operators join x → stored ≡ stored_kept (kept_seen x.state) → (peak : ℕ) → peak ≡ max x.peak stored → IsPeak old join peak
  is-peak-now join x stored j at e peak p =
      let lt = peak-there join j in
      subst (λ (o : CoreState). IsPeak o join peak) is
      (subst (IsPeak (core_of plan limit operators c halt u t) join) (sym (p ∙ ap (max x.peak) e ∙ ap peak_seen (at ∙ get_or_default operators join x no_operator lt)))
      (is-peak plan limit operators c halt u t join made lt))

  -- at most 16 streams
  pub few-streams : length (streams_of plan.nodes) ≤ length plan.nodes
  few-streams = streams-few 0 plan.nodes

  -- a stream is closed
  pub closed-now : t ≡ None → (stream : ℕ) → stream < length (streams_of old.plan.nodes) → (xs new new' : List RunningOperator) (from : ℕ) (c' : List ℕ) (u' : List Out) → xs ≡ operators → new' ≡ new → from ≡ get_or (streams_of plan.nodes) stream 0
      → Emits (record { operators = xs; outs = u }) (record { operators = new; outs = u' }) from (closing_in plan.nodes stream ∷ []) → StaysAs xs new → c' ≡ stream ∷ c
      → HasArrived old (core_of plan limit new' c' halt u' t) (arrival_of (closing_of old stream))
  closed-now e stream there xs new new' from c' u' same same' at C stays closed =
      subst (λ (o : CoreState). HasArrived old (core_of plan limit new' c' halt u' t) (arrival_of (closing_of o stream))) is
      (arrived-now e (record { stream = stream; element = closing_in plan.nodes stream; closing = 1 }) there xs new new' from c' u' same same' at C stays closed)

pub settling-again : (t : Option Stop) (old : CoreState) (stop : Stop) → t ≡ Some stop → StaysStopped old old stop stop → IsSettlingRefused t old old stop
settling-again t old stop e s = subst (λ (o : Option Stop). IsSettlingRefused o old old stop) (sym e) s

pub settling-stopped : (t : Option Stop) (old new : CoreState) (stop : Stop) → t ≡ None → StopsMaking old new (working true old) stop → IsSettlingRefused t old new stop
settling-stopped None old new stop e s = s
settling-stopped (Some before) old new stop e s = cc
