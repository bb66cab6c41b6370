-- The nodes of a core stand for those of a history, and one more entry is noted.
use Rattle.std.proofs.Common.{ℕ, suc, ◌+◌, ◌<◌, max, Bool, false, if◌then◌else◌, List, [], ◌∷◌, ◌++◌, ◌≡◌, None, map, length, get_or, refl, sym, ap, ap₂, ◌∙◌, subst, arith}
use Rattle.std.proofs.lemmas.List.{ext_get_or, get_or-map, length-map}
use Rattle.pj_shape.specs.declared.columns.Column.{Column}
use Rattle.pj_shape.specs.declared.joins.CertStep.{CertStep}
use Rattle.pj_plan.specs.declared.node.Node.{Node as Operation}
use Rattle.pj_plan.specs.declared.node.Node.TheVariants.{Stream as StreamNode, Select as SelectNode, Project as ProjectNode, Union as UnionNode, Join as JoinNode, Group as GroupNode}
use Rattle.pj_core.specs.Parts.{plan_node, IsMadeOf, all_kept, core_of, frames_of, kind_for}
use Rattle.pj_plan.specs.Sound.{IsSoundOperator, IsSoundPlan}
use Rattle.pj_scheme.specs.Derived.{inputs_schemes, schemes_of}
use Rattle.pj_events.specs.declared.events.Entry.{Entry}
use Rattle.pj_events.specs.declared.events.Out.{Out}
use Rattle.pj_events.specs.Join.{AreLegalSteps, JoinData, JoinState, Step, inputs, run, start}
use Rattle.pj_events.specs.Plan.{Operator, Stream, Select, Project, Union, Join, Group, Node, nowhere, operator_at}
use Rattle.pj_events.specs.History.{IsEntryAllowed, IsLegal, closed_after, halted_after, nodes_from, reached_of, state_in, stop_after}
use Rattle.pj_events.specs.Outcomes.{Arrival, counted, counts, join_steps_of, stored_at}
use Rattle.pj_events.specs.CoreKept.{CoreKept, KeptOperator, NothingKept, core_kept, kept_in}
use Rattle.pj_laws.specs.Climb.{climb_of}
use Rattle.pj_laws.specs.ClimbKept.{AddsClimb, counted_with, handed_by, kept_with, raised, undrained_with}
use Rattle.pj_laws.proofs.ClimbingKept.{adds-climb, counted-none, counted-zero}
use Rattle.pj_join_laws.proofs.Complete.{IsCounted, counted-run, counted-start}
use Rattle.pj_laws.proofs.HistoryAnswers.{grows-legally}
use Rattle.pj_laws.proofs.JoinRuns.{join-runs}
use Rattle.pj_laws.proofs.Nodes.{counts-from}
use Rattle.pj_laws.proofs.Probes.{length-from}
use Rattle.pj_join_laws.proofs.Sound.{sound-start}
use Rattle.pj_laws.proofs.Trees.{above-from, tree-from}
use Rattle.pj_join.specs.Joins.{join_data}
use Rattle.pj_operator.specs.declared.operator.RunningOperator.{RunningOperator}
use Rattle.pj_operator.specs.Operators.{AreAs, Frame, GroupKind, GroupRole, IsBelow, IsBelowIn, IsKind, JoinKind, JoinRole, Kind, ProjectKind, ProjectRole, SelectKind, SelectRole, StreamKind, StreamRole, UnionKind, UnionRole, above_pair, running_at, count_seen, counted_by, frame_at, frame_of, frames_in, kept_seen, no_operator, peak_seen, role_in, role_of, stored_kept}
use Rattle.pj_operator.specs.Emitting.{AreCounted, count_at, kind_at}
use Rattle.pj_core.specs.Cores.{StandsFor}
use Rattle.pj_core.specs.Plans.{RunPlan, nodes_of, operator_of}
use Rattle.pj_operator.proofs.Emits.{frame-at}
use Rattle.pj_core.proofs.Frames.{above-of, certs_at, frame-is, kind-is, long-of, operator-is}
use Rattle.pj_core.proofs.Planned.{nodes-long, one-top, planned, tree}

-- ---- what is below

below-of : (spec : JoinData) (s : JoinState) → IsCounted spec s → IsBelow s
below-of spec s c = (c.taken_below, λ u h. c.taken_below u (c.given_taken u h))

-- ---- the nodes of a core

module _ (plan : RunPlan) (limit : ℕ) (history : List Entry) (sound : IsSoundPlan plan.nodes) (legal : IsLegal (nodes_of plan) history) where
  abbrev now : List Node
  now = nodes_from (nodes_of plan) history

  pub long-now : length now ≡ length plan.nodes
  long-now = length-from (nodes_of plan) history ∙ nodes-long plan

  -- a join was one at its start
  pub join-start : (n : ℕ) → n < length plan.nodes → (spec : JoinData) (s : JoinState) → operator_at now n ≡ Join spec s → (operator_at (nodes_of plan) n ≡ Join spec start) × (0 < inputs spec)
  join-start n lt spec s is = go (plan_node plan.nodes n).node refl
    where
      certs : List (List CertStep)
      certs = certs_at plan.nodes plan.certs n

      schema : List Column
      schema = (plan_node plan.nodes n).schema

      kind : (op : Operation) → (plan_node plan.nodes n).node ≡ op → IsKind (kind_for (schemes_of plan.nodes) limit n certs schema op) (Join spec s)
      kind op e =
          subst (λ (x : Operation). IsKind (kind_for (schemes_of plan.nodes) limit n certs schema x) (Join spec s)) e
          (subst (λ (o : Operator). IsKind (kind_for (schemes_of plan.nodes) limit n certs schema (plan_node plan.nodes n).node) o) is
          (subst (λ (f : Frame). IsKind f.kind (operator_at now n)) (frame-is plan limit n lt) (kind-is plan limit history n lt (nodes-long plan))))

      go : (op : Operation) → (plan_node plan.nodes n).node ≡ op → (operator_at (nodes_of plan) n ≡ Join spec start) × (0 < inputs spec)
      go (StreamNode stated) e = absurd (let k : StreamRole ≡ JoinRole spec = kind (StreamNode stated) e in cc)
      go (SelectNode input test) e = absurd (let k : SelectRole test ≡ JoinRole spec = kind (SelectNode input test) e in cc)
      go (ProjectNode input columns) e = absurd (let k : ProjectRole columns ≡ JoinRole spec = kind (ProjectNode input columns) e in cc)
      go (UnionNode ins) e = absurd (let k : UnionRole (length ins) ≡ JoinRole spec = kind (UnionNode ins) e in cc)
      go (JoinNode ins shape) e =
          let whole : JoinData = join_data shape (inputs_schemes (schemes_of plan.nodes) ins) certs in
          let same : whole ≡ spec = (let k : JoinRole whole ≡ JoinRole spec = kind (JoinNode ins shape) e in cc) in
          let sound-here : IsSoundOperator plan.nodes schema (JoinNode ins shape) = subst (IsSoundOperator plan.nodes schema) e (sound.each n lt).operator in (
            operator-is (schemes_of plan.nodes) plan.certs plan.nodes n lt ∙ ap (operator_of (schemes_of plan.nodes) certs schema) e ∙ ap (λ (d : JoinData). Join d start) same,
            subst (λ (d : JoinData). 0 < inputs d) same (let few = sound-here.0.few_inputs.0 in omega (arith, few, length-map shape.inputs length)),
          )
      go (GroupNode input group) e = absurd (let k : GroupRole group ≡ JoinRole spec = kind (GroupNode input group) e in cc)

  -- and legal steps made it what it is
  pub join-steps : (n : ℕ) → n < length plan.nodes → (spec : JoinData) (s : JoinState) → operator_at now n ≡ Join spec s → (steps : List Step) × AreLegalSteps spec start steps × (s ≡ run spec start steps)
  join-steps n lt spec s is =
      let at = (join-start n lt spec s is).0 in
      let there : n < length (nodes_of plan) = omega (arith, lt, nodes-long plan) in
      let runs = join-runs (nodes_of plan) (planned plan sound) in
      let state : Join spec s ≡ Join spec (run spec start (join_steps_of (nodes_of plan) history n)) = sym is ∙ runs.state history n spec there at in
      (join_steps_of (nodes_of plan) history n, runs.legal history n spec legal there at, ap state_in state)

  pub below-at : (n : ℕ) → n < length plan.nodes → IsBelowIn (operator_at now n)
  below-at n lt = go (operator_at now n) refl
    where
      go : (o : Operator) → operator_at now n ≡ o → IsBelowIn o
      go (Stream schema sent) e = tt
      go (Select test) e = tt
      go (Project columns) e = tt
      go (Union m u) e = tt
      go (Join spec s) e =
          let some = (join-start n lt spec s e).1 in
          let steps = join-steps n lt spec s e in
          subst IsBelow (sym steps.2) (below-of spec (run spec start steps.0) (counted-run spec start steps.0 (sound-start spec) (counted-start spec some) steps.1))
      go (Group spec rows) e = tt

  -- what is kept of the nodes is what the history leaves
  pub are-as : (operators : List RunningOperator) → frames_in operators ≡ frames_of plan limit → map (λ (operator : RunningOperator). kept_seen operator.state) operators ≡ map (λ (node : Node). kept_in node.operator) now → AreAs operators now
  are-as operators frames kept = record {
    tree = tree-from (nodes_of plan) history (tree plan sound);
    long = long ∙ sym long-now;
    links = λ n lt.
        above-from (nodes_of plan) history n ∙ above-of plan n
        ∙ ap (λ (f : Frame). above_pair f.above) (sym (frame-is plan limit n (omega (arith, lt, long))) ∙ ap (λ (fs : List Frame). frame_at fs n) (sym frames) ∙ frame-at operators n);
    each = λ n lt. record {
      kind = subst (λ (f : Frame). IsKind f.kind (operator_at now n)) (ap (λ (fs : List Frame). frame_at fs n) (sym frames) ∙ frame-at operators n)
          (kind-is plan limit history n (omega (arith, lt, long)) (nodes-long plan));
      kept = sym (get_or-map (λ (operator : RunningOperator). kept_seen operator.state) operators n no_operator NothingKept lt)
          ∙ ap (λ (ks : List KeptOperator). get_or ks n NothingKept) kept
          ∙ get_or-map (λ (node : Node). kept_in node.operator) now n nowhere NothingKept (omega (arith, lt, long, long-now));
      below = below-at n (omega (arith, lt, long));
    };
  }
    where
      long : length operators ≡ length plan.nodes
      long = sym (length-map operators frame_of) ∙ ap length frames ∙ long-of plan limit

-- ---- lists, place by place

pub same-kept : (operators : List RunningOperator) (nodes : List Node) → AreAs operators nodes → map (λ (operator : RunningOperator). kept_seen operator.state) operators ≡ map (λ (node : Node). kept_in node.operator) nodes
same-kept operators nodes A =
    ext_get_or NothingKept (map (λ (operator : RunningOperator). kept_seen operator.state) operators) (map (λ (node : Node). kept_in node.operator) nodes)
    (length-map operators (λ (operator : RunningOperator). kept_seen operator.state) ∙ A.long ∙ sym (length-map nodes (λ (node : Node). kept_in node.operator)))
    (λ n lt.
    let l : n < length operators = omega (arith, lt, length-map operators (λ (operator : RunningOperator). kept_seen operator.state)) in
    get_or-map (λ (operator : RunningOperator). kept_seen operator.state) operators n no_operator NothingKept l ∙ (A.each n l).kept
    ∙ sym (get_or-map (λ (node : Node). kept_in node.operator) nodes n nowhere NothingKept (omega (arith, l, A.long))))

-- what a node counts, by its kind
pub counted-kind : (kind : Kind) (o : Operator) (n : ℕ) → IsKind kind o → counted o n ≡ counted_by kind n
counted-kind StreamKind (Stream schema sent) n k = refl
counted-kind (SelectKind own) (Select test) n k = refl
counted-kind (ProjectKind own) (Project columns) n k = refl
counted-kind (UnionKind own arity) (Union m u) n k = refl
counted-kind (JoinKind node own limit) (Join spec s) n k = refl
counted-kind (GroupKind own limit) (Group spec rows) n k = refl
counted-kind kind o n k = absurd (let e : role_of kind ≡ role_in o = k in cc)

counted-same : (f g : RunningOperator → ℕ) (old new : List RunningOperator) (nodes : List Node) (brought : List (List Arrival)) → length old ≡ length new → length old ≡ length nodes
    → ((n : ℕ) → n < length old → g (get_or new n no_operator) ≡ f (get_or old n no_operator) + counted (operator_at nodes n) (length (get_or brought n []))) → map g new ≡ counted_with (map f old) nodes brought
counted-same f g [] [] nodes brought e l s = refl
counted-same f g [] (y ∷ ys) nodes brought e l s = cc
counted-same f g (x ∷ xs) [] nodes brought e l s = cc
counted-same f g (x ∷ xs) (y ∷ ys) [] brought e l s = absurd (omega (arith, l))
counted-same f g (x ∷ xs) (y ∷ ys) (node ∷ nodes) [] e l s =
    ap₂ (λ (n : ℕ) (ns : List ℕ). n ∷ ns) (s 0 (omega arith) ∙ plus (f x) (counted node.operator 0) (counted-zero node.operator))
    (counted-same f g xs ys nodes [] (omega (arith, e)) (omega (arith, l)) (λ n lt. s (suc n) (omega (arith, lt))) ∙ counted-none (map f xs) nodes)
  where
    plus : (n z : ℕ) → z ≡ 0 → n + z ≡ n
    plus n z e = omega (arith, e)
counted-same f g (x ∷ xs) (y ∷ ys) (node ∷ nodes) (came ∷ brought) e l s =
    ap₂ (λ (n : ℕ) (ns : List ℕ). n ∷ ns) (s 0 (omega arith)) (counted-same f g xs ys nodes brought (omega (arith, e)) (omega (arith, l)) (λ n lt. s (suc n) (omega (arith, lt))))

raised-same : (f g : RunningOperator → ℕ) (old new : List RunningOperator) (nodes : List Node) → length old ≡ length new → length old ≡ length nodes
    → ((n : ℕ) → n < length old → g (get_or new n no_operator) ≡ max (f (get_or old n no_operator)) (stored_at nodes n)) → map g new ≡ raised (map f old) nodes
raised-same f g [] [] nodes e l s = refl
raised-same f g [] (y ∷ ys) nodes e l s = cc
raised-same f g (x ∷ xs) [] nodes e l s = cc
raised-same f g (x ∷ xs) (y ∷ ys) [] e l s = absurd (omega (arith, l))
raised-same f g (x ∷ xs) (y ∷ ys) (node ∷ nodes) e l s =
    ap₂ (λ (n : ℕ) (ns : List ℕ). n ∷ ns) (s 0 (omega arith)) (raised-same f g xs ys nodes (omega (arith, e)) (omega (arith, l)) (λ n lt. s (suc n) (omega (arith, lt))))

-- what is stored at a node
pub stored-is : (operators : List RunningOperator) (nodes : List Node) (n : ℕ) → AreAs operators nodes → n < length operators → stored_kept (kept_seen (running_at operators n).state) ≡ stored_at nodes n
stored-is operators nodes n A lt = ap stored_kept (A.each n lt).kept ∙ of (operator_at nodes n)
  where
    of : (o : Operator) → stored_kept (kept_in o) ≡ length (state_in o).stored
    of (Stream schema sent) = refl
    of (Select test) = refl
    of (Project columns) = refl
    of (Union m u) = refl
    of (Join spec s) = refl
    of (Group spec rows) = refl

-- ---- one more entry

-- what one more entry does to the parts of a core that goes on
pub record Goes (trace : Bool) (old new : CoreKept) (operators operators' : List RunningOperator) (nodes : List Node) (entry : Entry) : Type 0 where
  pub long : length operators' ≡ length operators
  pub stands : AreAs operators' (climb_of nodes entry.event).nodes
  pub counts : AreCounted operators operators' (climb_of nodes entry.event).brought
  pub peaks : (n : ℕ) → n < length operators → peak_seen (running_at operators' n) ≡ max (peak_seen (running_at operators n)) (stored_at (climb_of nodes entry.event).nodes n)
  pub closed : new.closed ≡ closed_after old.closed entry.closing entry.event
  pub undrained : new.undrained ≡ undrained_with old.undrained (handed_by trace nodes entry.event) entry.event
  pub halts : new.halted ≡ halted_after old.halted entry.event
  pub stops : stop_after None entry.event ≡ None

module _ (plan : RunPlan) (limit : ℕ) (operators : List RunningOperator) (made : IsMadeOf plan limit operators) (c : List ℕ) (halt : Bool) (u : List Out) (history : List Entry) (S : StandsFor (core_of plan limit operators c halt u None) history) where
  abbrev nodes : List Node
  nodes = nodes_from (nodes_of plan) history

  pub kept-is : all_kept operators c halt u None ≡ core_kept plan.trace (nodes_of plan) history
  kept-is = S.stands.0 (sym S.stands.3)

  pub are : AreAs operators nodes
  are = are-as plan limit history made.0 S.legal operators made.2 (ap (λ (k : CoreKept). k.nodes) kept-is)

  pub noted : (entry : Entry) (new : List RunningOperator) (c' : List ℕ) (halt' : Bool) (u' : List Out) → IsEntryAllowed (reached_of false (nodes_of plan) history) entry
      → Goes plan.trace (all_kept operators c halt u None) (all_kept new c' halt' u' None) operators new nodes entry → StandsFor (core_of plan limit new c' halt' u' None) (history ++ entry ∷ [])
  noted entry new c' halt' u' allowed G = record {
    legal = (grows-legally (nodes_of plan) history entry).1 (S.legal, allowed);
    stands = (λ _. K, ap (λ (k : CoreKept). k.undrained) K, ap (λ (k : CoreKept). k.halted) K, ap (λ (k : CoreKept). k.stop) K);
  }
    where
      emits : AddsClimb (nodes_of plan) history entry
      emits = adds-climb (nodes_of plan) (tree plan made.0) history entry

      -- a node counts behind the entry where it did before
      counts-still : (n : ℕ) → n < length operators → counts (operator_at (climb_of nodes entry.event).nodes n) ≡ counts (operator_at nodes n)
      counts-still n lt =
          let l : n < length (nodes_of plan) = omega (arith, lt, are.long, length-from (nodes_of plan) history) in
          ap (λ (ns : List Node). counts (operator_at ns n)) (sym emits.nodes) ∙ counts-from (nodes_of plan) (history ++ entry ∷ []) n l ∙ sym (counts-from (nodes_of plan) history n l)

      counts-with : (n : ℕ) → n < length operators → count_at new n ≡ count_at operators n + counted (operator_at (climb_of nodes entry.event).nodes n) (length (get_or (climb_of nodes entry.event).brought n []))
      counts-with n lt =
          let came = length (get_or (climb_of nodes entry.event).brought n []) in
          G.counts n lt
          ∙ ap (λ (m : ℕ). count_at operators n + m)
          (sym (counted-kind (kind_at operators n) (operator_at nodes n) came (are.each n lt).kind) ∙ ap (λ (b : Bool). if b then came else 0) (sym (counts-still n lt)))

      after-entry : all_kept new c' halt' u' None ≡ kept_with plan.trace (all_kept operators c halt u None) nodes entry
      after-entry = λ i. record {
        nodes = same-kept new (climb_of nodes entry.event).nodes G.stands i;
        counts = counted-same count_seen count_seen operators new (climb_of nodes entry.event).nodes (climb_of nodes entry.event).brought (sym G.long) (sym G.long ∙ G.stands.long) counts-with i;
        peaks = raised-same peak_seen peak_seen operators new (climb_of nodes entry.event).nodes (sym G.long) (sym G.long ∙ G.stands.long) G.peaks i;
        closed = G.closed i;
        undrained = G.undrained i;
        halted = G.halts i;
        stop = (sym G.stops) i;
      }

      K : all_kept new c' halt' u' None ≡ core_kept plan.trace (nodes_of plan) (history ++ entry ∷ [])
      K = after-entry ∙ ap (λ (k : CoreKept). kept_with plan.trace k nodes entry) kept-is
          ∙ sym (emits.kept plan.trace (one-top plan made.0))
