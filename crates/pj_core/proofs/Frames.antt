-- The nodes that a core is made of are those of its plan.
use Rattle.std.proofs.Common.{ℕ, zero, suc, ◌+◌, ◌<◌, ◌≤◌, Bool, List, [], ◌∷◌, ◌≡◌, Option, Some, None, map, length, get_or, refl, sym, ap, ◌∙◌, subst, inl, inr, arith}
use Rattle.std.specs.Prelude.{All, slice_get, slice_index}
use Rattle.std.proofs.lemmas.Bool.{cases_lt}
use Rattle.std.proofs.lemmas.List.{length-append, length-map}
use Rattle.std.proofs.lemmas.List.Elements.{All-cons, All-nil}
use Rattle.pj_value.specs.Lists.{In}
use Rattle.pj_shape.specs.declared.columns.Column.{Column}
use Rattle.pj_shape.specs.declared.joins.CertStep.{CertStep}
use Rattle.pj_plan.specs.declared.node.Node.{Node as Operation}
use Rattle.pj_plan.specs.declared.node.Node.TheVariants.{Stream as StreamNode, Select as SelectNode, Project as ProjectNode, Union as UnionNode, Join as JoinNode, Group as GroupNode}
use Rattle.pj_plan.specs.declared.node.PlanNode.{PlanNode}
use Rattle.pj_plan.specs.Canonical.{no_node, node_schema}
use Rattle.pj_core.specs.Parts.{plan_node, frame_for, frames_from, frames_of, kind_for}
use Rattle.pj_plan.specs.Nodes.{inputs_of, parent_of}
use Rattle.pj_plan.specs.Sound.{IsSoundAgg, IsSoundOperator, IsSoundPlan, agg_domain_at, domain_at}
use Rattle.pj_shape.specs.declared.groups.Agg.{Agg}
use Rattle.pj_shape.specs.declared.groups.Agg.TheVariants.{Count, Sum, Min, Max}
use Rattle.pj_shape.proofs.DomainsOf.{domains_length}
use Rattle.pj_group.specs.Steps.{Fits, IsInRange}
use Rattle.pj_scheme.specs.Derived.{schemes_of}
use Rattle.pj_events.specs.Join.{JoinData}
use Rattle.pj_events.specs.Plan.{Operator, Stream, Select, Project, Union, Join, Group, Local, Comes, Fed, Own, after, after_all, operator_at}
use Rattle.pj_events.specs.declared.events.Entry.{Entry}
use Rattle.pj_events.specs.History.{nodes_from}
use Rattle.pj_laws.specs.Climb.{Above, above}
use Rattle.pj_laws.proofs.Nodes.{operator-from}
use Rattle.pj_operator.specs.Operators.{AreLinked, FitsKind, Frame, HasLimit, HasOwnWidth, HaveLimit, IsKind, IsLinked, JoinKind, Kind, above_pair, frame_at, role_in, width_up}
use Rattle.pj_core.specs.Plans.{RunPlan, certs_behind, nodes_of, nodes_with, operator_of}
use Rattle.pj_core.proofs.Planned.{above-is, node_made}

-- ---- each of them

-- the certificates that a node of these has
abbrev pub certs_at : List PlanNode → List (List (List CertStep)) → ℕ → List (List CertStep)
certs_at [] certs n = []
certs_at (node ∷ nodes) certs zero = get_or certs 0 []
certs_at (node ∷ nodes) certs (suc n) = certs_at nodes (certs_behind node certs) n

frame-from : (all : List PlanNode) (limit k : ℕ) (certs : List (List (List CertStep))) (nodes : List PlanNode) (n : ℕ) → n < length nodes
    → frame_at (frames_from all limit k certs nodes) n ≡ frame_for all limit (k + n) (certs_at nodes certs n) (get_or nodes n no_node)
frame-from all limit k certs [] n lt = absurd (omega (arith, lt))
frame-from all limit k certs (node ∷ nodes) zero lt =
    let z : k ≡ k + 0 = omega arith in ap (λ (m : ℕ). frame_for all limit m (get_or certs 0 []) node) z
frame-from all limit k certs (node ∷ nodes) (suc n) lt =
    let z : k + 1 + n ≡ k + suc n = omega arith in
    frame-from all limit (k + 1) (certs_behind node certs) nodes n (omega (arith, lt))
    ∙ ap (λ (m : ℕ). frame_for all limit m (certs_at nodes (certs_behind node certs) n) (get_or nodes n no_node)) z

pub frame-is : (plan : RunPlan) (limit n : ℕ) → n < length plan.nodes → frame_at (frames_of plan limit) n ≡ frame_for plan.nodes limit n (certs_at plan.nodes plan.certs n) (plan_node plan.nodes n)
frame-is plan limit n lt =
    let z : 0 + n ≡ n = omega arith in
    frame-from plan.nodes limit 0 plan.certs plan.nodes n lt
    ∙ ap (λ (m : ℕ). frame_for plan.nodes limit m (certs_at plan.nodes plan.certs n) (get_or plan.nodes n no_node)) z

frames-long : (all : List PlanNode) (limit k : ℕ) (certs : List (List (List CertStep))) (nodes : List PlanNode) → length (frames_from all limit k certs nodes) ≡ length nodes
frames-long all limit k certs [] = refl
frames-long all limit k certs (node ∷ nodes) = ap suc (frames-long all limit (k + 1) (certs_behind node certs) nodes)

pub long-of : (plan : RunPlan) (limit : ℕ) → length (frames_of plan limit) ≡ length plan.nodes
long-of plan limit = frames-long plan.nodes limit 0 plan.certs plan.nodes

-- the operator of a node
pub operator-is : (schemes : List (List (List Bool))) (certs : List (List (List CertStep))) (nodes : List PlanNode) (n : ℕ) → n < length nodes
    → operator_at (nodes_with schemes certs nodes) n ≡ operator_of schemes (certs_at nodes certs n) (get_or nodes n no_node).schema (get_or nodes n no_node).node
operator-is schemes certs [] n lt = absurd (omega (arith, lt))
operator-is schemes certs (node ∷ nodes) zero lt = refl
operator-is schemes certs (node ∷ nodes) (suc n) lt = operator-is schemes (certs_behind node certs) nodes n (omega (arith, lt))

-- ---- kinds

kind-fits : (schemes : List (List (List Bool))) (limit n : ℕ) (certs : List (List CertStep)) (columns : List Column) (operation : Operation)
    → IsKind (kind_for schemes limit n certs columns operation) (operator_of schemes certs columns operation)
kind-fits schemes limit n certs columns (StreamNode stated) = refl
kind-fits schemes limit n certs columns (SelectNode input test) = refl
kind-fits schemes limit n certs columns (ProjectNode input kept) = refl
kind-fits schemes limit n certs columns (UnionNode inputs) = refl
kind-fits schemes limit n certs columns (JoinNode inputs spec) = refl
kind-fits schemes limit n certs columns (GroupNode input spec) = refl

role-after : (operator : Operator) (l : Local) → role_in (after operator l) ≡ role_in operator
role-after (Stream schema sent) (Comes input e) = refl
role-after (Stream schema sent) (Fed e) = refl
role-after (Stream schema sent) (Own s) = refl
role-after (Select test) l = refl
role-after (Project columns) l = refl
role-after (Union n u) (Comes input e) = refl
role-after (Union n u) (Fed e) = refl
role-after (Union n u) (Own s) = refl
role-after (Join spec s) l = refl
role-after (Group spec rows) (Comes input e) = refl
role-after (Group spec rows) (Fed e) = refl
role-after (Group spec rows) (Own s) = refl

pub kind-after : (kind : Kind) (operator : Operator) (l : Local) → IsKind kind operator → IsKind kind (after operator l)
kind-after kind operator l k = k ∙ sym (role-after operator l)

kind-all : (kind : Kind) (operator : Operator) (ls : List Local) → IsKind kind operator → IsKind kind (after_all operator ls)
kind-all kind operator [] k = k
kind-all kind operator (l ∷ ls) k = kind-all kind (after operator l) ls (kind-after kind operator l k)

-- the nodes after a history are of the kinds of the plan
pub kind-is : (plan : RunPlan) (limit : ℕ) (history : List Entry) (n : ℕ) → n < length plan.nodes → length (nodes_of plan) ≡ length plan.nodes
    → IsKind (frame_at (frames_of plan limit) n).kind (operator_at (nodes_from (nodes_of plan) history) n)
kind-is plan limit history n lt long =
    let o = operator-from (nodes_of plan) history n (omega (arith, lt, long)) in
    subst (IsKind (frame_at (frames_of plan limit) n).kind) (sym o.1)
    (kind-all (frame_at (frames_of plan limit) n).kind (operator_at (nodes_of plan) n) o.0
    (subst (λ (f : Frame). IsKind f.kind (operator_at (nodes_of plan) n)) (sym (frame-is plan limit n lt))
    (subst (IsKind (kind_for (schemes_of plan.nodes) limit n (certs_at plan.nodes plan.certs n) (plan_node plan.nodes n).schema (plan_node plan.nodes n).node)) (sym (operator-is (schemes_of plan.nodes) plan.certs plan.nodes n lt))
    (kind-fits (schemes_of plan.nodes) limit n (certs_at plan.nodes plan.certs n) (plan_node plan.nodes n).schema (plan_node plan.nodes n).node))))

limit-for : (schemes : List (List (List Bool))) (limit n : ℕ) (certs : List (List CertStep)) (columns : List Column) (operation : Operation) → HasLimit limit (kind_for schemes limit n certs columns operation)
limit-for schemes limit n certs columns (StreamNode stated) = tt
limit-for schemes limit n certs columns (SelectNode input test) = tt
limit-for schemes limit n certs columns (ProjectNode input kept) = tt
limit-for schemes limit n certs columns (UnionNode inputs) = tt
limit-for schemes limit n certs columns (JoinNode inputs spec) = refl
limit-for schemes limit n certs columns (GroupNode input spec) = refl

pub limits-of : (plan : RunPlan) (limit : ℕ) → HaveLimit limit (frames_of plan limit)
limits-of plan limit n lt =
    let l : n < length plan.nodes = omega (arith, lt, long-of plan limit) in
    subst (λ (f : Frame). HasLimit limit f.kind) (sym (frame-is plan limit n l))
    (limit-for (schemes_of plan.nodes) limit n (certs_at plan.nodes plan.certs n) (plan_node plan.nodes n).schema (plan_node plan.nodes n).node)

-- ---- links

abbrev told : Option Above → Option (ℕ × ℕ)
told None = None
told (Some a) = Some (a.place, a.input)

pub above-of : (plan : RunPlan) (n : ℕ) → above (nodes_of plan) n ≡ above_pair (parent_of plan.nodes n)
above-of plan n = go (above (nodes_of plan) n) ∙ ap above_pair (sym (above-is plan n))
  where
    go : (o : Option Above) → o ≡ above_pair (told o)
    go None = refl
    go (Some a) = refl

all-in : {A : Type 0} (P : A → Type 0) (xs : List A) → ((x : A) → In x xs → P x) → All P xs
all-in P [] f = All-nil P
all-in P (x ∷ xs) f = All-cons P x xs (f x (inl refl)) (all-in P xs (λ y h. f y (inr h)))

one-input : (input position n : ℕ) → slice_get (input ∷ []) position ≡ Some n → input ≡ n
one-input input zero n e = cc
one-input input (suc position) n e = cc

got-below : {A : Type 0} (xs : List A) (position : ℕ) (x : A) → slice_get xs position ≡ Some x → position < length xs
got-below [] position x e = cc
got-below (y ∷ xs) zero x e = omega arith
got-below (y ∷ xs) (suc position) x e = let l = got-below xs position x e in omega (arith, l)

got-in : {A : Type 0} (xs : List A) (position : ℕ) (x : A) → slice_get xs position ≡ Some x → In x xs
got-in [] position x e = cc
got-in (y ∷ xs) zero x e = inl cc
got-in (y ∷ xs) (suc position) x e = inr (got-in xs position x e)

got-mapped : (f : ℕ → ℕ) (xs : List ℕ) (position n : ℕ) → slice_get xs position ≡ Some n → slice_index (map f xs) position ≡ f n
got-mapped f [] position n e = cc
got-mapped f (y ∷ xs) zero n e = let q : y ≡ n = cc in ap f q
got-mapped f (y ∷ xs) (suc position) n e = got-mapped f xs position n e

in-range : (columns : List Column) (aggs : List Agg) → ((agg : Agg) → In agg aggs → IsSoundAgg columns agg) → All (IsInRange (length columns)) aggs
in-range columns aggs f = all-in (IsInRange (length columns)) aggs (λ agg h. one agg (f agg h))
  where
    one : (agg : Agg) → IsSoundAgg columns agg → IsInRange (length columns) agg
    one Count s = tt
    one (Sum column) s = s.0
    one (Min column) s = s
    one (Max column) s = s

-- an element of a node that feeds another fits it there
kind-takes : (nodes : List PlanNode) (limit m : ℕ) (certs : List (List CertStep)) (schema : List Column) (operation : Operation) (position n : ℕ) → length schema ≤ 120
    → IsSoundOperator nodes schema operation → slice_get (inputs_of operation) position ≡ Some n → FitsKind (kind_for (schemes_of nodes) limit m certs schema operation) position (length (node_schema nodes n))
kind-takes nodes limit m certs schema (StreamNode stated) position n few s e = tt
kind-takes nodes limit m certs schema (SelectNode input test) position n few s e = tt
kind-takes nodes limit m certs schema (ProjectNode input columns) position n few s e =
    all-in (λ c. c < length (node_schema nodes n)) columns (λ c h. subst (λ (i : ℕ). c < length (node_schema nodes i)) (one-input input position n e) (s.0 c h))
kind-takes nodes limit m certs schema (UnionNode inputs) position n few s e =
    (got-below inputs position n e, sym (domains_length (node_schema nodes n)) ∙ ap length (s.3 n (got-in inputs position n e)) ∙ domains_length schema)
kind-takes nodes limit m certs schema (JoinNode inputs spec) position n few s e =
    let long : length (map length spec.inputs) ≡ length inputs = length-map spec.inputs length ∙ ap length s.1 ∙ length-map inputs (node_schema nodes) in (
      (let l = got-below inputs position n e in omega (arith, l, long)),
      sym (got-mapped (λ i. length (node_schema nodes i)) inputs position n e) ∙ ap (λ (ns : List ℕ). slice_index ns position) (mapped inputs ∙ ap (map length) (sym s.1)),
    )
  where
    mapped : (is : List ℕ) → map (λ i. length (node_schema nodes i)) is ≡ map length (map (node_schema nodes) is)
    mapped [] = refl
    mapped (i ∷ is) = ap (λ (ns : List ℕ). length (node_schema nodes i) ∷ ns) (mapped is)
kind-takes nodes limit m certs schema (GroupNode input spec) position n few s e =
    let columns = node_schema nodes input in
    let kinds = sym (domains_length schema) ∙ ap length s.2 ∙ length-append (map (domain_at columns) spec.keys) (map (agg_domain_at columns) spec.aggs) in (
      subst (λ (i : ℕ). Fits spec (length (node_schema nodes i))) (one-input input position n e)
          (record { keys = all-in (λ c. c < length columns) spec.keys s.0.keys_there; aggs = in-range columns spec.aggs s.0.sound_aggs }),
      omega (arith, kinds, few, length-map spec.keys (domain_at columns), length-map spec.aggs (agg_domain_at columns)),
    )

-- how many columns a node hands up, by those that come to it
kind-wide : (nodes : List PlanNode) (limit m : ℕ) (certs : List (List CertStep)) (schema : List Column) (operation : Operation) (position n : ℕ)
    → IsSoundOperator nodes schema operation → slice_get (inputs_of operation) position ≡ Some n → length schema ≡ width_up (kind_for (schemes_of nodes) limit m certs schema operation) (length (node_schema nodes n))
kind-wide nodes limit m certs schema (StreamNode stated) position n s e = absurd (let l = got-below [] position n e in omega (arith, l))
kind-wide nodes limit m certs schema (SelectNode input test) position n s e =
    sym (node_made (schemes_of nodes) certs schema (λ k. length (node_schema nodes k)) nodes (SelectNode input test) s (λ k h. refl)).width
    ∙ ap (λ (k : ℕ). length (node_schema nodes k)) (one-input input position n e)
kind-wide nodes limit m certs schema (ProjectNode input columns) position n s e = sym (node_made (schemes_of nodes) certs schema (λ k. length (node_schema nodes k)) nodes (ProjectNode input columns) s (λ k h. refl)).width
kind-wide nodes limit m certs schema (UnionNode inputs) position n s e = refl
kind-wide nodes limit m certs schema (JoinNode inputs spec) position n s e = sym (node_made (schemes_of nodes) certs schema (λ k. length (node_schema nodes k)) nodes (JoinNode inputs spec) s (λ k h. refl)).width
kind-wide nodes limit m certs schema (GroupNode input spec) position n s e = sym (node_made (schemes_of nodes) certs schema (λ k. length (node_schema nodes k)) nodes (GroupNode input spec) s (λ k h. refl)).width

own-wide : (nodes : List PlanNode) (limit m : ℕ) (certs : List (List CertStep)) (schema : List Column) (operation : Operation) → IsSoundOperator nodes schema operation → HasOwnWidth (kind_for (schemes_of nodes) limit m certs schema operation) (length schema)
own-wide nodes limit m certs schema (StreamNode stated) s = tt
own-wide nodes limit m certs schema (SelectNode input test) s = tt
own-wide nodes limit m certs schema (ProjectNode input columns) s = tt
own-wide nodes limit m certs schema (UnionNode inputs) s = tt
own-wide nodes limit m certs schema (JoinNode inputs spec) s = sym (node_made (schemes_of nodes) certs schema (λ k. length (node_schema nodes k)) nodes (JoinNode inputs spec) s (λ k h. refl)).width
own-wide nodes limit m certs schema (GroupNode input spec) s = tt

-- what feeds a node fits it there
pub links-of : (plan : RunPlan) (limit : ℕ) → IsSoundPlan plan.nodes → AreLinked (frames_of plan limit)
links-of plan limit sound n lt =
    let l : n < length plan.nodes = omega (arith, lt, long-of plan limit) in
    subst (λ (f : Frame). IsLinked (frames_of plan limit) n f.above f.width × HasOwnWidth f.kind f.width) (sym (frame-is plan limit n l)) (
      feeds l,
      own-wide plan.nodes limit n (certs_at plan.nodes plan.certs n) (plan_node plan.nodes n).schema (plan_node plan.nodes n).node (sound.each n l).operator,
    )
  where
    feeds : n < length plan.nodes → IsLinked (frames_of plan limit) n (parent_of plan.nodes n) (length (plan_node plan.nodes n).schema)
    feeds l = elim (cases_lt (n + 1) (length plan.nodes)) [
      | inl before ↦
          let p = sound.led n before in
          subst (λ (o : Option (ℕ × ℕ)). IsLinked (frames_of plan limit) n o (length (plan_node plan.nodes n).schema)) (sym p.2) (
            p.3,
            (let m = p.4 in omega (arith, m, long-of plan limit)),
            subst (λ (f : Frame). FitsKind f.kind p.1 (length (plan_node plan.nodes n).schema)) (sym (frame-is plan limit p.0 p.4))
                (kind-takes plan.nodes limit p.0 (certs_at plan.nodes plan.certs p.0) (plan_node plan.nodes p.0).schema (plan_node plan.nodes p.0).node p.1 n
                (sound.each p.0 p.4).schema.few (sound.each p.0 p.4).operator p.5),
            subst (λ (f : Frame). f.width ≡ width_up f.kind (length (plan_node plan.nodes n).schema)) (sym (frame-is plan limit p.0 p.4))
                (kind-wide plan.nodes limit p.0 (certs_at plan.nodes plan.certs p.0) (plan_node plan.nodes p.0).schema (plan_node plan.nodes p.0).node p.1 n (sound.each p.0 p.4).operator p.5),
          )
      | inr behind ↦
          subst (λ (o : Option (ℕ × ℕ)). IsLinked (frames_of plan limit) n o (length (plan_node plan.nodes n).schema)) (sym (sound.last n (omega (arith, l, behind)))) tt
    ]

-- a join has its own number
number-for : (schemes : List (List (List Bool))) (limit n : ℕ) (certs : List (List CertStep)) (columns : List Column) (operation : Operation) (node : ℕ) (spec : JoinData) (own : ℕ)
    → kind_for schemes limit n certs columns operation ≡ JoinKind node spec own → node ≡ n
number-for schemes limit n certs columns (StreamNode stated) node spec own e = cc
number-for schemes limit n certs columns (SelectNode input test) node spec own e = cc
number-for schemes limit n certs columns (ProjectNode input kept) node spec own e = cc
number-for schemes limit n certs columns (UnionNode inputs) node spec own e = cc
number-for schemes limit n certs columns (JoinNode inputs shape) node spec own e = cc
number-for schemes limit n certs columns (GroupNode input group) node spec own e = cc

pub join-number : (plan : RunPlan) (limit n node : ℕ) (spec : JoinData) (own : ℕ) → n < length plan.nodes → (frame_at (frames_of plan limit) n).kind ≡ JoinKind node spec own → node ≡ n
join-number plan limit n node spec own lt e =
    number-for (schemes_of plan.nodes) limit n (certs_at plan.nodes plan.certs n) (plan_node plan.nodes n).schema (plan_node plan.nodes n).node node spec own
    (ap (λ (f : Frame). f.kind) (sym (frame-is plan limit n lt)) ∙ e)
