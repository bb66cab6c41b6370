-- In a sound plan, where no node feeds twice, each node has few schemes.
use Rattle.std.proofs.Common.{ℕ, zero, suc, ◌+◌, ◌*◌, ◌<◌, ◌≤◌, ◌≡◌, length, get_or, arith, Bool, true, false, cond, List, [], ◌∷◌, ◌++◌, map, filter, drop, refl, sym, ap, ◌∙◌, subst, inl, inr, sum}
use Rattle.std.specs.List.{sum_by}
use Rattle.std.proofs.lemmas.List.{append_assoc, drop_more, length-map, length-append, length_push}
use Rattle.std.proofs.lemmas.List.Concat.{length-flat_map}
use Rattle.std.proofs.lemmas.List.Sums.{sum_by-cons, sum_by-append, sum_by_push, sum_by-le-sum_by}
use Rattle.pj_value.specs.Lists.{In}
use Rattle.pj_value.proofs.Members.{filter_few}
use Rattle.pj_shape.specs.declared.columns.Column.{Column}
use Rattle.pj_shape.specs.Sound.{arities_of}
use Rattle.pj_plan.specs.declared.node.Node.{Node}
use Rattle.pj_plan.specs.declared.node.Node.TheVariants.{Stream, Select, Project, Union, Join, Group}
use Rattle.pj_plan.specs.declared.node.PlanNode.{PlanNode}
use Rattle.pj_plan.specs.Nodes.{inputs_of, is_stream}
use Rattle.pj_plan.specs.Canonical.{no_node, node_at, node_schema}
use Rattle.pj_plan.specs.Faults.{stream_count}
use Rattle.pj_plan.specs.Sound.{AreDistinct, IsSoundPlan, IsSoundOperator, all_inputs}
use Rattle.pj_plan.proofs.Lists.{distinct_left}
use Rattle.pj_scheme.specs.Derived.{cut, are_kept, widened, schemes_at, inputs_schemes, projected, others_have, joined, node_schemes, derived_from}
use Rattle.pj_scheme.specs.Laws.{SchemesAreFew}

-- how many schemes the node has
abbrev pub count : List (List (List Bool)) → ℕ → ℕ
count done number = length (schemes_at done number)

-- how many these nodes have
abbrev pub counts : List (List (List Bool)) → List ℕ → ℕ
counts done numbers = sum_by (count done) numbers

-- 1 for a stream
abbrev pub one : Node → ℕ
one node = cond (is_stream node) 1 0

-- ---- the schemes of different nodes are at most all schemes

-- the numbers above 0, each made lower by 1
abbrev pub lowered : List ℕ → List ℕ
lowered [] = []
lowered (zero ∷ numbers) = lowered numbers
lowered (suc k ∷ numbers) = k ∷ lowered numbers

in_lowered : (k : ℕ) (numbers : List ℕ) → In k (lowered numbers) → In (suc k) numbers
in_lowered k [] h = absurd h
in_lowered k (zero ∷ numbers) h = inr (in_lowered k numbers h)
in_lowered k (suc n ∷ numbers) (inl e) = inl (ap suc e)
in_lowered k (suc n ∷ numbers) (inr h) = inr (in_lowered k numbers h)

lowered_distinct : (numbers : List ℕ) → AreDistinct numbers → AreDistinct (lowered numbers)
lowered_distinct [] d = tt
lowered_distinct (zero ∷ numbers) d = lowered_distinct numbers d.1
lowered_distinct (suc n ∷ numbers) d = ((λ h. d.0 (in_lowered n numbers h)), lowered_distinct numbers d.1)

counts_lowered : (list : List (List Bool)) (done : List (List (List Bool))) (numbers : List ℕ) → (In 0 numbers → ⊥) → counts (list ∷ done) numbers ≡ counts done (lowered numbers)
counts_lowered list done [] missing = refl
counts_lowered list done (zero ∷ numbers) missing = absurd (missing (inl refl))
counts_lowered list done (suc n ∷ numbers) missing =
    omega (arith, sum_by-cons (count (list ∷ done)) (suc n) numbers, sum_by-cons (count done) n (lowered numbers), counts_lowered list done numbers (λ h. missing (inr h)))

counts_with_first : (list : List (List Bool)) (done : List (List (List Bool))) (numbers : List ℕ) → AreDistinct numbers
    → counts (list ∷ done) numbers ≤ length list + counts done (lowered numbers)
counts_with_first list done [] d = omega arith
counts_with_first list done (zero ∷ numbers) d = omega (arith, sum_by-cons (count (list ∷ done)) 0 numbers, counts_lowered list done numbers d.0)
counts_with_first list done (suc n ∷ numbers) d =
    omega (arith, sum_by-cons (count (list ∷ done)) (suc n) numbers, sum_by-cons (count done) n (lowered numbers), counts_with_first list done numbers d.1)

counts_nothing : (numbers : List ℕ) → counts [] numbers ≡ 0
counts_nothing [] = refl
counts_nothing (n ∷ numbers) = omega (arith, sum_by-cons (count []) n numbers, counts_nothing numbers)

distinct_counts : (done : List (List (List Bool))) (numbers : List ℕ) → AreDistinct numbers → counts done numbers ≤ sum_by length done
distinct_counts [] numbers d = omega (arith, counts_nothing numbers)
distinct_counts (list ∷ done) numbers d =
    omega (arith, counts_with_first list done numbers d, sum_by-cons length list done, distinct_counts done (lowered numbers) (lowered_distinct numbers d))

-- ---- one node

projected_few : (columns : List ℕ) (schemes : List (List Bool)) → length (projected columns schemes) ≤ length schemes
projected_few columns schemes = omega (arith, length-map (filter (are_kept columns) schemes) (cut columns), filter_few (are_kept columns) schemes)

joined_few : (done : List (List (List Bool))) (before : ℕ) (schemas : List (List Column)) (inputs : List ℕ) → length (joined before schemas (inputs_schemes done inputs)) ≤ counts done inputs
joined_few done before [] inputs = omega arith
joined_few done before (schema ∷ schemas) [] = omega arith
joined_few done before (schema ∷ schemas) (input ∷ inputs) =
    let here : List (List Bool) = map (widened before (sum (arities_of schemas))) (schemes_at done input) in
    omega (
      arith,
      length-append here (joined (before + length schema) schemas (inputs_schemes done inputs)),
      length-map (schemes_at done input) (widened before (sum (arities_of schemas))),
      sum_by-cons (count done) input inputs,
      joined_few done (before + length schema) schemas inputs,
    )

node_few : (nodes : List PlanNode) (done : List (List (List Bool))) (schema : List Column) (node : Node) → IsSoundOperator nodes schema node
    → length (node_schemes done node) ≤ counts done (inputs_of node) + 16 * one node
node_few nodes done schema (Stream schemes) sound = omega (arith, sound.0)
node_few nodes done schema (Select input test) sound = omega arith
node_few nodes done schema (Project input columns) sound = omega (arith, projected_few columns (schemes_at done input))
node_few nodes done schema (Union inputs) sound =
    omega (
      arith,
      length-flat_map (λ input. filter (others_have done inputs input) (schemes_at done input)) inputs,
      sum_by-le-sum_by (λ input. length (filter (others_have done inputs input) (schemes_at done input))) (count done) inputs
          (λ input. filter_few (others_have done inputs input) (schemes_at done input)),
    )
node_few nodes done schema (Join inputs spec) sound = omega (arith, joined_few done 0 spec.inputs inputs)
node_few nodes done schema (Group input spec) sound =
    omega (arith, length-map (projected spec.keys (schemes_at done input)) (widened 0 (length spec.aggs)), projected_few spec.keys (schemes_at done input))

-- ---- all nodes

streams_more : (node : PlanNode) (nodes : List PlanNode) → stream_count (node ∷ nodes) ≡ one node.node + stream_count nodes
streams_more node nodes = go (is_stream node.node)
  where
    go : (b : Bool) → length (cond b (node ∷ filter (λ other. is_stream other.node) nodes) (filter (λ other. is_stream other.node) nodes)) ≡ cond b 1 0 + stream_count nodes
    go true = omega arith
    go false = omega arith

push_few : (done : List (List (List Bool))) (list : List (List Bool)) (most : ℕ) → ((m : ℕ) → count done m ≤ most) → length list ≤ most → (m : ℕ) → count (done ++ list ∷ []) m ≤ most
push_few [] list most few h zero = h
push_few [] list most few h (suc m) = few 0
push_few (d ∷ done) list most few h zero = few 0
push_few (d ∷ done) list most few h (suc m) = push_few done list most (λ k. few (suc k)) h m

push_more : (done : List (List (List Bool))) (list : List (List Bool)) (m : ℕ) → count done m ≤ count (done ++ list ∷ []) m
push_more [] list zero = omega arith
push_more [] list (suc m) = omega arith
push_more (d ∷ done) list zero = omega arith
push_more (d ∷ done) list (suc m) = push_more done list m

-- so far: all schemes are at most those of the nodes that fed one, and 16 for each stream
record AreFewSoFar (nodes rest : List PlanNode) (done : List (List (List Bool))) (fed : List ℕ) (streams : ℕ) : Type 0 where
  from : drop (length done) nodes ≡ rest
  in_all : length done + length rest ≡ length nodes
  inputs : fed ++ all_inputs rest ≡ all_inputs nodes
  all_streams : streams + stream_count rest ≡ stream_count nodes
  bound : sum_by length done ≤ counts done fed + 16 * streams
  each : (m : ℕ) → count done m ≤ 256

one_more : (nodes rest : List PlanNode) (node : PlanNode) (done : List (List (List Bool))) (fed : List ℕ) (streams : ℕ) → IsSoundPlan nodes
    → AreFewSoFar nodes (node ∷ rest) done fed streams
    → AreFewSoFar nodes rest (done ++ node_schemes done node.node ∷ []) (fed ++ inputs_of node.node) (streams + one node.node)
one_more nodes rest node done fed streams sound so_far =
    let n : ℕ = length done in
    let in_all : length done + suc (length rest) ≡ length nodes = so_far.in_all in
    let lt : n < length nodes = omega arith in
    let from : drop n nodes ≡ node ∷ rest = so_far.from in
    let more : drop n nodes ≡ get_or nodes n no_node ∷ drop (n + 1) nodes = drop_more nodes n no_node lt in
    let here : get_or nodes n no_node ≡ node = cc in
    let behind : drop (n + 1) nodes ≡ rest = cc in
    let list : List (List Bool) = node_schemes done node.node in
    let inputs : List ℕ = inputs_of node.node in
    let pushed : length (done ++ list ∷ []) ≡ n + 1 = length_push done list in
    let parts : (fed ++ inputs) ++ all_inputs rest ≡ all_inputs nodes = append_assoc fed inputs (all_inputs rest) ∙ so_far.inputs in
    let streams_here : streams + one node.node + stream_count rest ≡ stream_count nodes = omega (arith, streams_more node rest, so_far.all_streams) in
    let step : length list ≤ counts done inputs + 16 * one node.node =
    subst (λ (p : PlanNode). length (node_schemes done p.node) ≤ counts done (inputs_of p.node) + 16 * one p.node) here
    (node_few nodes done (node_schema nodes n) (node_at nodes n) (sound.each n lt).operator) in
    let both : counts done (fed ++ inputs) ≡ counts done fed + counts done inputs = sum_by-append (count done) fed inputs in
    let apart : counts done (fed ++ inputs) ≤ sum_by length done =
    distinct_counts done (fed ++ inputs) (distinct_left (fed ++ inputs) (all_inputs rest) (subst (λ (xs : List ℕ). AreDistinct xs) (sym parts) sound.once)) in
    let few : length list ≤ 256 = omega (arith, so_far.bound, sound.few_streams) in
    record {
      from = ap (λ (k : ℕ). drop k nodes) pushed ∙ behind;
      in_all = omega (arith, pushed);
      inputs = parts;
      all_streams = streams_here;
      bound = omega (
        arith,
        so_far.bound,
        sum_by_push length done list,
        sum_by-le-sum_by (count done) (count (done ++ list ∷ [])) (fed ++ inputs) (push_more done list),
      );
      each = push_few done list 256 so_far.each few;
    }

derived_few : (nodes rest : List PlanNode) (done : List (List (List Bool))) (fed : List ℕ) (streams : ℕ) → IsSoundPlan nodes → AreFewSoFar nodes rest done fed streams
    → (m : ℕ) → count (derived_from done rest) m ≤ 256
derived_few nodes [] done fed streams sound so_far m = so_far.each m
derived_few nodes (node ∷ rest) done fed streams sound so_far m =
    derived_few nodes rest (done ++ node_schemes done node.node ∷ []) (fed ++ inputs_of node.node) (streams + one node.node) sound
    (one_more nodes rest node done fed streams sound so_far) m

pub schemes_few : SchemesAreFew
schemes_few nodes sound n lt = derived_few nodes nodes [] [] 0 sound start n
  where
    start : AreFewSoFar nodes nodes [] [] 0
    start = record { from = refl; in_all = omega arith; inputs = refl; all_streams = omega arith; bound = omega arith; each = λ m. omega arith }
