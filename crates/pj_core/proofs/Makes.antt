-- The nodes of a new core.
use Rattle.std.proofs.Common.{ℕ, zero, suc, ◌+◌, ◌^◌, ◌<◌, ◌≤◌, Bool, true, false, cond, List, [], ◌∷◌, ◌++◌, ◌≡◌, None, map, length, get_or, drop, refl, sym, ap, ap₂, ◌∙◌, subst, inl, inr, arith, append_assoc}
use Rattle.std.proofs.lemmas.Bool.{cases_lt, false≢true}
use Rattle.std.proofs.lemmas.List.{drop-drop, drop_more, ext_get_or, get_or-drop, get_or-map, get_or_at, length-map, length_push}
use Rattle.pj_events.specs.declared.events.Out.{Out}
use Rattle.pj_events.specs.Join.{upto_from, AreCertified}
use Rattle.pj_events.specs.Plan.{Node, operator_at}
use Rattle.pj_events.specs.CoreKept.{KeptOperator, count_of, kept_in}
use Rattle.pj_events.specs.Outcomes.{stored_at}
use Rattle.pj_join_laws.proofs.Upto.{get_or-upto, length-upto}
use Rattle.pj_plan.specs.Nodes.{is_join}
use Rattle.pj_core.specs.Calls.{IsFresh}
use Rattle.pj_laws.proofs.ClimbingKept.{counted-zero}
use Rattle.pj_operator.specs.Emitting.{AreOrderly, state_at}
use Rattle.pj_core.proofs.Stands.{are-as, stored-is}
use Rattle.pj_shape.specs.declared.columns.Column.{Column}
use Rattle.pj_shape.specs.declared.joins.CertStep.{CertStep}
use Rattle.pj_shape.specs.Sound.{IsSoundSpec}
use Rattle.pj_plan.specs.declared.node.Node.{Node as Operation}
use Rattle.pj_plan.specs.declared.node.Node.TheVariants.{Stream as StreamNode, Select as SelectNode, Project as ProjectNode, Union as UnionNode, Join as JoinNode, Group as GroupNode}
use Rattle.pj_plan.specs.declared.node.PlanNode.{PlanNode}
use Rattle.pj_plan.specs.Canonical.{no_node, node_at, node_schema}
use Rattle.pj_plan.specs.Sound.{IsSoundOperator, IsSoundPlan}
use Rattle.pj_scheme.specs.Derived.{inputs_schemes, schemes_of}
use Rattle.pj_laws.specs.HistoryLaws.{AllAreCertified, Certified}
use Rattle.pj_join.specs.Joins.{join_data}
use Rattle.pj_operator.specs.declared.operator.RunningOperator.{RunningOperator}
use Rattle.pj_operator.specs.Operators.{AreAs, Frame, GroupKind, HasLimit, IsOrderly, JoinKind, Kind, ProjectKind, SelectKind, StreamKind, UnionKind, running_at, count_in, count_seen, frame_at, frame_of, frames_in, kept_seen, kind_of, no_operator, no_frame, peak_seen}
use Rattle.pj_core.specs.Fresh.{IsCertifiedKind, fresh_operator, fresh_state, joins_with}
use Rattle.pj_core.specs.Parts.{IsMadeOf, core_of, frame_for, frames_from, frames_of, kind_for, plan_node}
use Rattle.pj_core.specs.Plans.{RunPlan, certs_behind, nodes_of, nodes_with, operator_of}
use Rattle.pj_core.proofs.Frames.{certs_at, frame-is, limits-of, long-of, operator-is}
use Rattle.pj_core.proofs.Planned.{nodes-long}

pub few_columns : (nodes : List PlanNode) (n : ℕ) → IsSoundPlan nodes → n < length nodes → length (node_schema nodes n) ≤ 120
few_columns nodes n sound lt = (sound.each n lt).schema.few

pub sound_join : (nodes : List PlanNode) (n : ℕ) (inputs : List ℕ) (spec : _) → IsSoundPlan nodes → n < length nodes → node_at nodes n ≡ JoinNode inputs spec → IsSoundSpec spec
sound_join nodes n inputs spec sound lt e = (subst (IsSoundOperator nodes (node_schema nodes n)) e (sound.each n lt).operator).0

pub certified_join : (nodes : List PlanNode) (limit n : ℕ) (certs : List (List CertStep)) (inputs : List ℕ) (spec copy : _) (schemes : List (List (List Bool))) → node_at nodes n ≡ JoinNode inputs spec
    → IsCertifiedKind (frame_for nodes limit n certs (plan_node nodes n)).kind → copy ≡ spec → schemes ≡ inputs_schemes (schemes_of nodes) inputs → AreCertified (join_data copy schemes certs)
certified_join nodes limit n certs inputs spec copy schemes e c same made =
    subst (λ (s : _). AreCertified (join_data s schemes certs)) (sym same)
    (subst (λ (s : List (List (List Bool))). AreCertified (join_data spec s certs)) (sym made)
    (subst (λ (o : Operation). IsCertifiedKind (kind_for (schemes_of nodes) limit n certs (plan_node nodes n).schema o)) e c))

certified-for : (schemes : List (List (List Bool))) (limit n : ℕ) (certs : List (List CertStep)) (columns : List Column) (operation : Operation) → Certified (operator_of schemes certs columns operation) → IsCertifiedKind (kind_for schemes limit n certs columns operation)
certified-for schemes limit n certs columns (StreamNode stated) c = tt
certified-for schemes limit n certs columns (SelectNode input test) c = tt
certified-for schemes limit n certs columns (ProjectNode input kept) c = tt
certified-for schemes limit n certs columns (UnionNode inputs) c = tt
certified-for schemes limit n certs columns (JoinNode inputs spec) c = c
certified-for schemes limit n certs columns (GroupNode input spec) c = tt

pub frames-certified : (plan : RunPlan) (limit n : ℕ) → AllAreCertified (nodes_of plan) → n < length plan.nodes → IsCertifiedKind (frame_at (frames_of plan limit) n).kind
frames-certified plan limit n all lt =
    subst (λ (f : Frame). IsCertifiedKind f.kind) (sym (frame-is plan limit n lt))
    (certified-for (schemes_of plan.nodes) limit n (certs_at plan.nodes plan.certs n) (plan_node plan.nodes n).schema (plan_node plan.nodes n).node
    (subst Certified (operator-is (schemes_of plan.nodes) plan.certs plan.nodes n lt) (all n (let l = nodes-long plan in omega (arith, lt, l)))))

-- ---- one after the other

-- the first of the nodes are made, and so many of them are joins
pub record MadeSoFar (plan : RunPlan) (limit : ℕ) (operators : List RunningOperator) (joins number : ℕ) : Type 0 where
  pub parts : operators ++ map fresh_operator (frames_from plan.nodes limit number (drop joins plan.certs) (drop number plan.nodes)) ≡ map fresh_operator (frames_of plan limit)
  pub long : length operators ≡ number
  pub few : joins ≤ number

kind-fresh : (kind : Kind) → kind_of (fresh_state kind) ≡ kind
kind-fresh StreamKind = refl
kind-fresh (SelectKind test) = refl
kind-fresh (ProjectKind columns) = refl
kind-fresh (UnionKind n arity) = refl
kind-fresh (JoinKind node spec limit) = refl
kind-fresh (GroupKind spec limit) = refl

frame-fresh : (frame : Frame) → frame_of (fresh_operator frame) ≡ frame
frame-fresh frame = ap (λ (k : Kind). record { kind = k; above = frame.above; width = frame.width }) (kind-fresh frame.kind)

pub frames-fresh : (frames : List Frame) → map frame_of (map fresh_operator frames) ≡ frames
frames-fresh [] = refl
frames-fresh (f ∷ frames) = ap₂ (λ (x : Frame) (xs : List Frame). x ∷ xs) (frame-fresh f) (frames-fresh frames)

module _ (plan : RunPlan) (limit : ℕ) (operators : List RunningOperator) (joins number : ℕ) (M : MadeSoFar plan limit operators joins number) (lt : number < length plan.nodes) where
  abbrev node : PlanNode
  node = plan_node plan.nodes number

  abbrev rest : List Frame
  rest = frames_from plan.nodes limit (number + 1) (certs_behind node (drop joins plan.certs)) (drop (number + 1) plan.nodes)

  first : get_or (drop joins plan.certs) 0 [] ≡ get_or plan.certs joins []
  first = let z : joins + 0 ≡ joins = omega arith in get_or-drop joins plan.certs 0 [] ∙ ap (λ (m : ℕ). get_or plan.certs m []) z

  opened : frames_from plan.nodes limit number (drop joins plan.certs) (drop number plan.nodes) ≡ frame_for plan.nodes limit number (get_or plan.certs joins []) node ∷ rest
  opened =
      ap (frames_from plan.nodes limit number (drop joins plan.certs)) (drop_more plan.nodes number no_node lt)
      ∙ ap (λ (cs : List (List CertStep)). frame_for plan.nodes limit number cs node ∷ rest) first

  parts : operators ++ fresh_operator (frame_for plan.nodes limit number (get_or plan.certs joins []) node) ∷ map fresh_operator rest ≡ map fresh_operator (frames_of plan limit)
  parts = ap (λ (fs : List Frame). operators ++ map fresh_operator fs) (sym opened) ∙ M.parts

  pub next-frame : frame_for plan.nodes limit number (get_or plan.certs joins []) node ≡ frame_at (frames_of plan limit) number
  next-frame =
      sym (frame-fresh (frame_for plan.nodes limit number (get_or plan.certs joins []) node))
      ∙ ap frame_of
      (sym (get_or_at operators (fresh_operator (frame_for plan.nodes limit number (get_or plan.certs joins []) node)) (map fresh_operator rest) no_operator number M.long)
      ∙ ap (λ (cs : List RunningOperator). get_or cs number no_operator) parts
      ∙ get_or-map fresh_operator (frames_of plan limit) number no_frame no_operator (let l = long-of plan limit in omega (arith, lt, l)))
      ∙ frame-fresh (frame_at (frames_of plan limit) number)

  pub next-certified : AllAreCertified (nodes_of plan) → IsCertifiedKind (frame_for plan.nodes limit number (get_or plan.certs joins []) node).kind
  next-certified all = subst (λ (f : Frame). IsCertifiedKind f.kind) (sym next-frame) (frames-certified plan limit number all lt)

  behind : certs_behind node (drop joins plan.certs) ≡ drop (joins_with node.node joins) plan.certs
  behind = go (is_join node.node)
    where
      go : (b : Bool) → cond b (drop 1 (drop joins plan.certs)) (drop joins plan.certs) ≡ drop (cond b (joins + 1) joins) plan.certs
      go true = drop-drop 1 joins plan.certs
      go false = refl

  pub made-more : (operator : RunningOperator) (joins' : ℕ) → operator ≡ fresh_operator (frame_for plan.nodes limit number (get_or plan.certs joins []) node) → joins' ≡ joins_with node.node joins → MadeSoFar plan limit (operators ++ operator ∷ []) joins' (number + 1)
  made-more operator joins' e j = record {
    parts = append_assoc operators (operator ∷ []) (map fresh_operator (frames_from plan.nodes limit (number + 1) (drop joins' plan.certs) (drop (number + 1) plan.nodes)))
        ∙ ap₂ (λ (x : RunningOperator) (cs : List (List (List CertStep))). operators ++ x ∷ map fresh_operator (frames_from plan.nodes limit (number + 1) cs (drop (number + 1) plan.nodes))) e
        (ap (λ (m : ℕ). drop m plan.certs) j ∙ sym behind)
        ∙ parts;
    long = length_push operators operator ∙ ap (λ (m : ℕ). m + 1) M.long;
    few = (let l = M.few in let s = step (is_join node.node) in omega (arith, l, s, j));
  }
    where
      step : (b : Bool) → cond b (joins + 1) joins ≤ joins + 1
      step true = omega arith
      step false = omega arith

-- ---- a new core

orderly-fresh : (limit : ℕ) → limit ≤ 2 ^ 40 → (kind : Kind) → HasLimit limit kind → IsOrderly (fresh_state kind)
orderly-fresh limit le StreamKind h = tt
orderly-fresh limit le (SelectKind test) h = tt
orderly-fresh limit le (ProjectKind columns) h = tt
orderly-fresh limit le (UnionKind n arity) h = λ p i. absurd i
orderly-fresh limit le (JoinKind node spec own) h = record {
  below = λ t q. absurd (false≢true q);
  next = omega arith;
  limit = omega (arith, le, h);
  pending = omega arith;
  opened = omega arith;
  stored = omega arith;
  waiting = omega arith;
  rows_fit = λ x i. absurd i;
  puncts_fit = λ p i. absurd i;
}
orderly-fresh limit le (GroupKind spec own) h = ([], refl)

pub made-fresh : (plan : RunPlan) (limit : ℕ) (operators : List RunningOperator) → IsSoundPlan plan.nodes → AllAreCertified (nodes_of plan) → limit ≤ 2 ^ 40 → operators ≡ map fresh_operator (frames_of plan limit) → IsMadeOf plan limit operators
made-fresh plan limit operators sound all le e = (sound, all, ap frames_in e ∙ frames-fresh (frames_of plan limit), subst AreOrderly (sym e) (λ n. orderly n))
  where
    orderly : (n : ℕ) → IsOrderly (state_at (map fresh_operator (frames_of plan limit)) n)
    orderly n = elim (cases_lt n (length (frames_of plan limit))) [
      | inl lt ↦
          subst (λ (x : RunningOperator). IsOrderly x.state) (sym (get_or-map fresh_operator (frames_of plan limit) n no_frame no_operator lt))
          (orderly-fresh limit le (frame_at (frames_of plan limit) n).kind (limits-of plan limit n lt))
      | inr ge ↦ subst (λ (x : RunningOperator). IsOrderly x.state) (sym (get_or-past (map fresh_operator (frames_of plan limit)) n no_operator (let l = length-map (frames_of plan limit) fresh_operator in omega (arith, ge, l)))) tt
    ]
      where
        get_or-past : (xs : List RunningOperator) (m : ℕ) (d : RunningOperator) → length xs ≤ m → get_or xs m d ≡ d
        get_or-past [] m d q = refl
        get_or-past (x ∷ xs) zero d q = absurd (omega (arith, q))
        get_or-past (x ∷ xs) (suc m) d q = get_or-past xs m d (omega (arith, q))

kept-fresh : (schemes : List (List (List Bool))) (limit n : ℕ) (certs : List (List CertStep)) (columns : List Column) (operation : Operation) → kept_seen (fresh_state (kind_for schemes limit n certs columns operation)) ≡ kept_in (operator_of schemes certs columns operation)
kept-fresh schemes limit n certs columns (StreamNode stated) = refl
kept-fresh schemes limit n certs columns (SelectNode input test) = refl
kept-fresh schemes limit n certs columns (ProjectNode input kept) = refl
kept-fresh schemes limit n certs columns (UnionNode inputs) = refl
kept-fresh schemes limit n certs columns (JoinNode inputs spec) = refl
kept-fresh schemes limit n certs columns (GroupNode input spec) = refl

kept-fresh-all : (all : List PlanNode) (limit k : ℕ) (certs : List (List (List CertStep))) (nodes : List PlanNode)
    → map (λ (x : RunningOperator). kept_seen x.state) (map fresh_operator (frames_from all limit k certs nodes)) ≡ map (λ (x : Node). kept_in x.operator) (nodes_with (schemes_of all) certs nodes)
kept-fresh-all all limit k certs [] = refl
kept-fresh-all all limit k certs (node ∷ nodes) =
    ap₂ (λ (x : KeptOperator) (xs : List KeptOperator). x ∷ xs) (kept-fresh (schemes_of all) limit k (get_or certs 0 []) node.schema node.node) (kept-fresh-all all limit (k + 1) (certs_behind node certs) nodes)

counts-fresh : (frames : List Frame) (k : ℕ) → map count_seen (map fresh_operator frames) ≡ map (λ (n : ℕ). 0) (upto_from k (length frames))
counts-fresh [] k = refl
counts-fresh (f ∷ frames) k = ap₂ (λ (x : ℕ) (xs : List ℕ). x ∷ xs) (of f.kind) (counts-fresh frames (k + 1))
  where
    of : (kind : Kind) → count_in (fresh_state kind) ≡ 0
    of StreamKind = refl
    of (SelectKind test) = refl
    of (ProjectKind columns) = refl
    of (UnionKind n arity) = refl
    of (JoinKind at spec limit) = refl
    of (GroupKind spec limit) = refl

pub is-fresh : (plan : RunPlan) (limit : ℕ) (operators : List RunningOperator) → IsMadeOf plan limit operators → operators ≡ map fresh_operator (frames_of plan limit) → IsFresh (core_of plan limit operators [] false [] None) plan limit
is-fresh plan limit operators made e = record { of_plan = refl; with_limit = refl; sound = made.0; certified = made.1; undrained = refl; halted = refl; on = refl; stands = record { legal = tt; stands = (λ o i. record { nodes = nodes i; counts = counts i; peaks = peaks i; closed = []; undrained = []; halted = false; stop = None }, refl, refl, refl) } }
  where
    nodes : map (λ (x : RunningOperator). kept_seen x.state) operators ≡ map (λ (x : Node). kept_in x.operator) (nodes_of plan)
    nodes = ap (map (λ (x : RunningOperator). kept_seen x.state)) e ∙ kept-fresh-all plan.nodes limit 0 plan.certs plan.nodes

    A : AreAs operators (nodes_of plan)
    A = are-as plan limit [] made.0 tt operators made.2 nodes

    counts : map count_seen operators ≡ map (count_of (nodes_of plan) []) (upto_from 0 (length (nodes_of plan)))
    counts = ap (map count_seen) e ∙ counts-fresh (frames_of plan limit) 0 ∙ ap (λ (m : ℕ). map (λ (n : ℕ). 0) (upto_from 0 m)) (long-of plan limit ∙ sym (nodes-long plan))
        ∙ (λ i. map (λ (n : ℕ). sym (counted-zero (operator_at (nodes_of plan) n)) i) (upto_from 0 (length (nodes_of plan))))

    peaks : map peak_seen operators ≡ map (λ (n : ℕ). stored_at (nodes_of plan) n) (upto_from 0 (length (nodes_of plan)))
    peaks =
        ext_get_or 0 (map peak_seen operators) (map (λ (n : ℕ). stored_at (nodes_of plan) n) (upto_from 0 (length (nodes_of plan))))
        (length-map operators peak_seen ∙ A.long ∙ sym (length-map (upto_from 0 (length (nodes_of plan))) (λ (n : ℕ). stored_at (nodes_of plan) n) ∙ length-upto 0 (length (nodes_of plan))))
        (λ n lt.
        let l : n < length operators = omega (arith, lt, length-map operators peak_seen) in
        let z : 0 + n ≡ n = omega arith in
        get_or-map peak_seen operators n no_operator 0 l ∙ peak n l
        ∙ ap (stored_at (nodes_of plan)) (sym z) ∙ sym (get_or-upto (λ (m : ℕ). stored_at (nodes_of plan) m) 0 (length (nodes_of plan)) n 0 (omega (arith, l, A.long))))
      where
        peak : (n : ℕ) → n < length operators → peak_seen (running_at operators n) ≡ stored_at (nodes_of plan) n
        peak n l =
            let raw = ap (λ (x : RunningOperator). x.peak) (ap (λ (cs : List RunningOperator). running_at cs n) e ∙ get_or-map fresh_operator (frames_of plan limit) n no_frame no_operator (let q = ap length e ∙ length-map (frames_of plan limit) fresh_operator in omega (arith, l, q))) in
            omega (arith, raw, stored-is operators (nodes_of plan) n A l)

pub is-fresh-now : (plan : RunPlan) (limit : ℕ) (operators : List RunningOperator) (c : List ℕ) (u : List Out) → IsMadeOf plan limit operators → operators ≡ map fresh_operator (frames_of plan limit) → c ≡ [] → u ≡ [] → IsFresh (core_of plan limit operators c false u None) plan limit
is-fresh-now plan limit operators c u made e ec eu =
    subst (λ (x : List ℕ). IsFresh (core_of plan limit operators x false u None) plan limit) (sym ec)
    (subst (λ (x : List Out). IsFresh (core_of plan limit operators [] false x None) plan limit) (sym eu) (is-fresh plan limit operators made e))
