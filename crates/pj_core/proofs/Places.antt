-- The places of a core's sweeps are the inputs of its joins, node by node.
use Rattle.std.proofs.Common.{ℕ, zero, suc, ◌+◌, ◌-◌, ◌<◌, ◌≤◌, Bool, true, List, [], ◌∷◌, ◌++◌, ◌≡◌, map, length, take, get_or, refl, sym, ap, ap₂, ◌∙◌, subst, append_assoc, arith}
use Rattle.std.specs.Prelude.{slice_index}
use Rattle.std.proofs.lemmas.List.{append-nil, length-map, map-append, take_all}
use Rattle.pj_shape.specs.declared.columns.Column.{Column}
use Rattle.pj_shape.specs.declared.joins.CertStep.{CertStep}
use Rattle.pj_plan.specs.declared.node.Node.{Node as Operation}
use Rattle.pj_plan.specs.declared.node.Node.TheVariants.{Stream as StreamNode, Select as SelectNode, Project as ProjectNode, Union as UnionNode, Join as JoinNode, Group as GroupNode}
use Rattle.pj_plan.specs.declared.node.PlanNode.{PlanNode}
use Rattle.pj_plan.specs.Nodes.{inputs_of, is_join}
use Rattle.pj_plan.specs.Canonical.{node_at}
use Rattle.pj_scheme.specs.Derived.{schemes_of}
use Rattle.pj_events.specs.declared.events.Entry.{Entry}
use Rattle.pj_events.specs.declared.events.Stop.{Stop}
use Rattle.pj_events.specs.Join.{upto_from}
use Rattle.pj_events.specs.Plan.{ArePlanned, IsWellMade, Node, node_width}
use Rattle.pj_events.specs.History.{nodes_from}
use Rattle.pj_events.specs.OneThread.{Place, places_from, places_in, sweeps_at}
use Rattle.pj_laws.proofs.SettledRun.{sweeps-append}
use Rattle.pj_laws.proofs.SweptRun.{places-same}
use Rattle.pj_core.specs.Plans.{RunPlan, certs_behind, node_of, nodes_with, operator_of}
use Rattle.pj_core.specs.Cores.{CoreState, nodes_after, nodes_in}
use Rattle.pj_core.specs.Calls.{IsJoinInput}
use Rattle.pj_core.specs.Turns.{IsSoundCore, Makes, StopsMaking, place, places_of, places_total, places_upto, sweeping, sweeping_all, sweeping_at, sweeping_inputs, sweeping_upto}
use Rattle.pj_core.proofs.Making.{makes-as, makes-then, nodes-on, stops-as, stops-more, stops-then, then}
use Rattle.pj_core.proofs.Planned.{planned}

-- ---- the places of a plan

-- those of one node
places-made : (schemes : List (List (List Bool))) (certs : List (List CertStep)) (schema : List Column) (ws : List ℕ) (k : ℕ) (o : Operation)
    → IsWellMade (operator_of schemes certs schema o) (map (slice_index ws) (inputs_of o)) → places_in k (operator_of schemes certs schema o) ≡ places_upto k (places_total o)
places-made schemes certs schema ws k (StreamNode stated) made = refl
places-made schemes certs schema ws k (SelectNode input test) made = refl
places-made schemes certs schema ws k (ProjectNode input columns) made = refl
places-made schemes certs schema ws k (UnionNode inputs) made = refl
places-made schemes certs schema ws k (JoinNode inputs spec) made = ap (places_upto k) (sym (ap length made.0) ∙ length-map inputs (slice_index ws))
places-made schemes certs schema ws k (GroupNode input spec) made = refl

places-with : (schemes : List (List (List Bool))) (certs : List (List (List CertStep))) (ws : List ℕ) (k : ℕ) (nodes : List PlanNode) → ArePlanned ws (nodes_with schemes certs nodes)
    → places_from k (nodes_with schemes certs nodes) ≡ places_of k nodes
places-with schemes certs ws k [] p = refl
places-with schemes certs ws k (node ∷ nodes) p =
    ap₂ (λ (xs ys : List Place). xs ++ ys) (places-made schemes (get_or certs 0 []) node.schema ws k node.node p.1)
    (places-with schemes (certs_behind node certs) (ws ++ node_width ws (node_of schemes (get_or certs 0 []) node) ∷ []) (k + 1) nodes p.2)

-- after any history
all-places : (core : CoreState) → IsSoundCore core → (h : List Entry) → places_from 0 (nodes_after core h) ≡ places_of 0 core.plan.nodes
all-places core sound h = places-same (nodes_in core) h ∙ places-with (schemes_of core.plan.nodes) core.plan.certs [] 0 core.plan.nodes (planned core.plan sound)

-- ---- so many of them

upto-split : (base m n : ℕ) → upto_from base (m + n) ≡ upto_from base m ++ upto_from (base + m) n
upto-split base zero n = let z : base ≡ base + 0 = omega arith in let y : 0 + n ≡ n = omega arith in ap (upto_from base) y ∙ ap (λ (k : ℕ). upto_from k n) z
upto-split base (suc m) n =
    let z : base + 1 + m ≡ base + suc m = omega arith in
    let y : suc m + n ≡ suc (m + n) = omega arith in
    ap (upto_from base) y ∙ ap (λ (ks : List ℕ). base ∷ ks) (upto-split (base + 1) m n ∙ ap (λ (k : ℕ). upto_from (base + 1) m ++ upto_from k n) z)

-- those of an input and behind it
abbrev places_behind : ℕ → ℕ → ℕ → List Place
places_behind join m n = map (place join) (upto_from m n)

inputs-split : (join m n : ℕ) → places_upto join (m + n) ≡ places_upto join m ++ places_behind join m n
inputs-split join m n =
    let z : 0 + m ≡ m = omega arith in
    ap (map (place join)) (upto-split 0 m n ∙ ap (λ (k : ℕ). upto_from 0 m ++ upto_from k n) z) ∙ map-append (place join) (upto_from 0 m) (upto_from m n)

-- those of one node more
next-node : (k : ℕ) (nodes : List PlanNode) (n : ℕ) → n < length nodes → places_of k (take (suc n) nodes) ≡ places_of k (take n nodes) ++ places_upto (k + n) (places_total (node_at nodes n))
next-node k [] n lt = absurd (omega (arith, lt))
next-node k (node ∷ nodes) zero lt =
    let z : k ≡ k + 0 = omega arith in
    append-nil (places_upto k (places_total node.node)) ∙ ap (λ (i : ℕ). places_upto i (places_total node.node)) z
next-node k (node ∷ nodes) (suc n) lt =
    let z : k + 1 + n ≡ k + suc n = omega arith in
    let here = places_upto k (places_total node.node) in
    ap (λ (ps : List Place). here ++ ps) (next-node (k + 1) nodes n (omega (arith, lt)))
    ∙ sym (append_assoc here (places_of (k + 1) (take n nodes)) (places_upto (k + 1 + n) (places_total (node_at nodes n))))
    ∙ ap (λ (i : ℕ). (here ++ places_of (k + 1) (take n nodes)) ++ places_upto i (places_total (node_at nodes n))) z

-- those of more nodes
more-nodes : (k : ℕ) (nodes : List PlanNode) (m n : ℕ) → (rest : List Place) × (places_of k (take (m + n) nodes) ≡ places_of k (take m nodes) ++ rest)
more-nodes k nodes zero n = (places_of k (take (0 + n) nodes), refl)
more-nodes k [] (suc m) n = ([], let y : suc m + n ≡ suc (m + n) = omega arith in ap (λ (i : ℕ). places_of k (take i [])) y)
more-nodes k (node ∷ nodes) (suc m) n =
    let y : suc m + n ≡ suc (m + n) = omega arith in
    let r = more-nodes (k + 1) nodes m n in
    let here = places_upto k (places_total node.node) in (
      r.0,
      ap (λ (i : ℕ). places_of k (take i (node ∷ nodes))) y
          ∙ ap (λ (ps : List Place). here ++ ps) r.1
          ∙ sym (append_assoc here (places_of (k + 1) (take m nodes)) r.0),
    )

-- ---- the inputs of one node

-- sweeps of so many inputs, and of those behind them
inputs-then : (a : CoreState) (join m n : ℕ) (h : List Entry)
    → sweeping_inputs a join (m + n) h ≡ sweeping_inputs a join m h ++ sweeps_at (nodes_from (nodes_after a h) (sweeping_inputs a join m h)) (places_behind join m n)
inputs-then a join m n h = ap (sweeps_at (nodes_after a h)) (inputs-split join m n) ∙ sweeps-append (nodes_after a h) (places_upto join m) (places_behind join m n)

inputs-next : (a b : CoreState) (join m : ℕ) (h : List Entry) → b.plan ≡ a.plan → then (sweeping_inputs a join m) (sweeping b join m) h ≡ sweeping_inputs a join (m + 1) h
inputs-next a b join m h p =
    ap (λ (ns : List Node). sweeping_inputs a join m h ++ sweeps_at ns (place join m ∷ [])) (nodes-on a b h (sweeping_inputs a join m h) p) ∙ sym (inputs-then a join m 1 h)

pub inputs-more : (a b c : CoreState) (join m : ℕ) → Makes a b (sweeping_inputs a join m) → Makes b c (sweeping b join m) → Makes a c (sweeping_inputs a join (m + 1))
inputs-more a b c join m x y =
    makes-as a c (then (sweeping_inputs a join m) (sweeping b join m)) (sweeping_inputs a join (m + 1)) (λ h S. inputs-next a b join m h x.plan)
    (makes-then a b c (sweeping_inputs a join m) (sweeping b join m) x y)

-- the number of a node's places
abbrev IsTotal : CoreState → ℕ → ℕ → Type 0
IsTotal core node count = count ≡ places_total (node_at core.plan.nodes node)

pub inputs-stop : (a b c : CoreState) (node m count : ℕ) (stop : Stop) → IsTotal a node count → m < count → Makes a b (sweeping_inputs a node m) → StopsMaking b c (sweeping b node m) stop
    → StopsMaking a c (sweeping_at a node) stop
inputs-stop a b c node m count stop e lt x y =
    let rest = count - (m + 1) in
    let total : m + 1 + rest ≡ count = omega (arith, lt) in
    let more : List Entry → List Entry = λ h. sweeps_at (nodes_from (nodes_after a h) (sweeping_inputs a node (m + 1) h)) (places_behind node (m + 1) rest) in
    stops-as a c (λ h. sweeping_inputs a node (m + 1) h ++ more h) (sweeping_at a node) stop
    (λ h S. sym (inputs-then a node (m + 1) rest h) ∙ ap (λ (n : ℕ). sweeping_inputs a node n h) (total ∙ e))
    (stops-more a c (sweeping_inputs a node (m + 1)) more stop
    (stops-as a c (then (sweeping_inputs a node m) (sweeping b node m)) (sweeping_inputs a node (m + 1)) stop (λ h S. inputs-next a b node m h x.plan)
    (stops-then a b c (sweeping_inputs a node m) (sweeping b node m) stop x y)))

some-input : (node : Operation) (m : ℕ) → m < places_total node → (is_join node ≡ true) × (m < length (inputs_of node))
some-input (StreamNode stated) m lt = absurd (omega (arith, lt))
some-input (SelectNode input test) m lt = absurd (omega (arith, lt))
some-input (ProjectNode input columns) m lt = absurd (omega (arith, lt))
some-input (UnionNode inputs) m lt = absurd (omega (arith, lt))
some-input (JoinNode inputs spec) m lt = (refl, lt)
some-input (GroupNode input spec) m lt = absurd (omega (arith, lt))

-- a place of a node is an input of a join
pub input-there : (a b : CoreState) (node m count : ℕ) → node < length a.plan.nodes → IsTotal a node count → b.plan ≡ a.plan → m < count → IsJoinInput b node m
input-there a b node m count there e p lt =
    let s = some-input (node_at a.plan.nodes node) m (subst (λ (n : ℕ). m < n) e lt) in
    subst (λ (plan : RunPlan). IsJoinInput (record b { plan = plan }) node m) (sym p) ((there, s.0), s.1)

-- ---- all nodes

upto-then : (a : CoreState) (n : ℕ) (h : List Entry) → n < length a.plan.nodes
    → sweeping_upto a (n + 1) h ≡ sweeping_upto a n h ++ sweeps_at (nodes_from (nodes_after a h) (sweeping_upto a n h)) (places_upto n (places_total (node_at a.plan.nodes n)))
upto-then a n h lt =
    let nodes : List PlanNode = a.plan.nodes in
    let y : n + 1 ≡ suc n = omega arith in
    let z : 0 + n ≡ n = omega arith in
    ap (λ (i : ℕ). sweeping_upto a i h) y
    ∙ ap (sweeps_at (nodes_after a h)) (next-node 0 nodes n lt ∙ ap (λ (i : ℕ). places_of 0 (take n nodes) ++ places_upto i (places_total (node_at nodes n))) z)
    ∙ sweeps-append (nodes_after a h) (places_of 0 (take n nodes)) (places_upto n (places_total (node_at nodes n)))

upto-next : (a b : CoreState) (n : ℕ) (h : List Entry) → n < length a.plan.nodes → b.plan ≡ a.plan → then (sweeping_upto a n) (sweeping_at b n) h ≡ sweeping_upto a (n + 1) h
upto-next a b n h lt p =
    ap (λ (plan : RunPlan). sweeping_upto a n h ++ sweeps_at (nodes_after b (h ++ sweeping_upto a n h)) (places_upto n (places_total (node_at plan.nodes n)))) p
    ∙ ap (λ (ns : List Node). sweeping_upto a n h ++ sweeps_at ns (places_upto n (places_total (node_at a.plan.nodes n)))) (nodes-on a b h (sweeping_upto a n h) p)
    ∙ sym (upto-then a n h lt)

pub sweeps-more : (a b c : CoreState) (n count : ℕ) → count ≡ length a.plan.nodes → n < count → Makes a b (sweeping_upto a n) → Makes b c (sweeping_at b n) → Makes a c (sweeping_upto a (n + 1))
sweeps-more a b c n count e lt x y =
    makes-as a c (then (sweeping_upto a n) (sweeping_at b n)) (sweeping_upto a (n + 1)) (λ h S. upto-next a b n h (omega (arith, e, lt)) x.plan)
    (makes-then a b c (sweeping_upto a n) (sweeping_at b n) x y)

-- those of as many nodes as there are
all-are : (a : CoreState) (count : ℕ) → IsSoundCore a → count ≡ length a.plan.nodes → (h : List Entry) → sweeping_upto a count h ≡ sweeping_all a h
all-are a count sound e h =
    let all : length a.plan.nodes ≤ count = omega (arith, e) in
    ap (λ (nodes : List PlanNode). sweeps_at (nodes_after a h) (places_of 0 nodes)) (take_all count a.plan.nodes all) ∙ ap (sweeps_at (nodes_after a h)) (sym (all-places a sound h))

pub sweeps-end : (a b : CoreState) (count : ℕ) → IsSoundCore a → count ≡ length a.plan.nodes → Makes a b (sweeping_upto a count) → Makes a b (sweeping_all a)
sweeps-end a b count sound e x = makes-as a b (sweeping_upto a count) (sweeping_all a) (λ h S. all-are a count sound e h) x

pub sweeps-stop : (a b c : CoreState) (n count : ℕ) (stop : Stop) → IsSoundCore a → count ≡ length a.plan.nodes → n < count → Makes a b (sweeping_upto a n) → StopsMaking b c (sweeping_at b n) stop
    → StopsMaking a c (sweeping_all a) stop
sweeps-stop a b c n count stop sound e lt x y =
    let nodes : List PlanNode = a.plan.nodes in
    let there : n < length nodes = omega (arith, e, lt) in
    let total : n + 1 + (count - (n + 1)) ≡ count = omega (arith, lt) in
    let r = more-nodes 0 nodes (n + 1) (count - (n + 1)) in
    let more : List Entry → List Entry = λ h. sweeps_at (nodes_from (nodes_after a h) (sweeping_upto a (n + 1) h)) r.0 in
    stops-as a c (λ h. sweeping_upto a (n + 1) h ++ more h) (sweeping_all a) stop
    (λ h S. sym (ap (sweeps_at (nodes_after a h)) r.1 ∙ sweeps-append (nodes_after a h) (places_of 0 (take (n + 1) nodes)) r.0)
    ∙ ap (λ (i : ℕ). sweeping_upto a i h) total ∙ all-are a count sound e h)
    (stops-more a c (sweeping_upto a (n + 1)) more stop
    (stops-as a c (then (sweeping_upto a n) (sweeping_at b n)) (sweeping_upto a (n + 1)) stop (λ h S. upto-next a b n h there x.plan)
    (stops-then a b c (sweeping_upto a n) (sweeping_at b n) stop x y)))
