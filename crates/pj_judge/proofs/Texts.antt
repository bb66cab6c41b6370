-- Lines that are put one behind another.
use Rattle.std.proofs.Common.{ℕ, zero, suc, ◌+◌, ◌≡◌, length, arith, Bool, true, false, List, [], ◌∷◌, ◌++◌, Some, None, map, flat_map, refl, sym, ap, ◌∙◌, append_assoc, append-nil}
use Rattle.std.specs.List.{concat, range_with_len}
use Rattle.std.proofs.lemmas.Bool.{false≢true}
use Rattle.std.proofs.lemmas.Grind.{flat_map-append}
use Rattle.std.proofs.lemmas.List.Folds.{concat-append}
use Rattle.pj_shape.specs.declared.joins.JoinSpec.{JoinSpec}
use Rattle.pj_plan.specs.declared.node.Node.{Node}
use Rattle.pj_plan.specs.declared.node.Node.TheVariants.{Stream, Select, Project, Union, Join, Group}
use Rattle.pj_plan.specs.declared.node.Outline.{Outline}
use Rattle.pj_plan.specs.declared.node.PlanNode.{PlanNode}
use Rattle.pj_plan.specs.declared.statement.Statement.{Statement}
use Rattle.pj_plan.specs.Canonical.{node_at, statements_of}
use Rattle.pj_plan.specs.Nodes.{is_join, join_in}
use Rattle.pj_plan_text.specs.Spelling.{fed, lines_of}
use Rattle.pj_graph.specs.declared.answers.Reach.{Reach}
use Rattle.pj_graph.specs.declared.answers.Reach.TheVariants.{All, Stuck}
use Rattle.pj_graph.specs.Saturation.{reach_of}
use Rattle.pj_cert.specs.Verdicts.{reached_text, unreached_text, verdict_of, whole_text}
use Rattle.pj_safety.proofs.Nodes.{is_no_join, is_some_join}
use Rattle.pj_judge.specs.Asked.{Asked, asked_of}
use Rattle.pj_judge.specs.Checks.{asked_lines, check_lines, input_lines, inputs_lines, node_lines, nodes_lines, operator_lines, partner_lines, plan_lines, printed, told_lines, told_of, verdict_lines}

-- the lines of one more number
lines_more : (lines : ℕ → List (List ℕ)) (ns : List ℕ) (n : ℕ) → concat (flat_map lines (ns ++ n ∷ [])) ≡ concat (flat_map lines ns) ++ concat (lines n)
lines_more lines ns n =
    ap concat (flat_map-append lines ns (n ∷ []))
    ∙ concat-append (flat_map lines ns) (lines n ++ [])
    ∙ ap (λ (ls : List (List ℕ)). concat (flat_map lines ns) ++ concat ls) (append-nil (lines n))

put_more : (lines : ℕ → List (List ℕ)) (ns : List ℕ) (n : ℕ) (before middle after : List ℕ) → middle ≡ before ++ concat (flat_map lines ns)
    → after ≡ middle ++ concat (lines n) → after ≡ before ++ concat (flat_map lines (ns ++ n ∷ []))
put_more lines ns n before middle after e f =
    f ∙ ap (λ (t : List ℕ). t ++ concat (lines n)) e ∙ append_assoc before (concat (flat_map lines ns)) (concat (lines n))
    ∙ ap (λ (t : List ℕ). before ++ t) (sym (lines_more lines ns n))

range_more : (a n last : ℕ) → a + n ≡ last → range_with_len a (suc n) ≡ range_with_len a n ++ last ∷ []
range_more a zero last e = let f : a ≡ last = omega (arith, e) in ap (λ (k : ℕ). k ∷ []) f
range_more a (suc n) last e = ap (λ (ks : List ℕ). a ∷ ks) (range_more (a + 1) n last (omega (arith, e)))

-- so many numbers, the first ones, and one more
put_next : (lines : ℕ → List (List ℕ)) (n : ℕ) (before middle after : List ℕ) → middle ≡ before ++ concat (flat_map lines (range_with_len 0 n))
    → after ≡ middle ++ concat (lines n) → after ≡ before ++ concat (flat_map lines (range_with_len 0 (n + 1)))
put_next lines n before middle after put e =
    put_more lines (range_with_len 0 n) n before middle after put e
    ∙ ap (λ (ks : List ℕ). before ++ concat (flat_map lines ks)) (sym (range_more 0 n n (omega arith)) ∙ ap (range_with_len 0) one)
  where
    one : suc n ≡ n + 1
    one = omega arith

-- ---- the inputs of a join

verdict_is : (asked : Asked) (n : ℕ) (found : Reach) → concat (verdict_lines asked n found) ≡ verdict_of asked.schemes asked.name asked.names n found
verdict_is asked n (All cert) = append-nil (whole_text asked.schemes asked.name asked.names n cert)
verdict_is asked n (Stuck reached missing) =
    ap (λ (t : List ℕ). unreached_text asked.name asked.names n missing ++ t) (append-nil (reached_text asked.names reached))

told_is : (asked : Asked) (n : ℕ) (found : Reach) → concat (told_lines asked n found) ≡ told_of asked n found
told_is asked n found =
    concat-append (verdict_lines asked n found) (partner_lines asked n found)
    ∙ ap (λ (t : List ℕ). t ++ concat (partner_lines asked n found)) (verdict_is asked n found)

pub no_inputs : (asked : Asked) (text : List ℕ) → text ≡ text ++ concat (inputs_lines asked 0)
no_inputs asked text = sym (append-nil text)

pub input_more : (asked : Asked) (n : ℕ) (found : Reach) (before middle after : List ℕ) → middle ≡ before ++ concat (inputs_lines asked n)
    → found ≡ reach_of asked.spec asked.schemes n → after ≡ middle ++ told_of asked n found → after ≡ before ++ concat (inputs_lines asked (n + 1))
input_more asked n found before middle after put reached e =
    put_next (input_lines asked) n before middle after put
    (e ∙ ap (λ (t : List ℕ). middle ++ t) (sym (told_is asked n found) ∙ ap (λ (r : Reach). concat (told_lines asked n r)) reached))

-- ---- the nodes of a plan

no_operator_lines : (node : Node) (asked : Asked) → is_join node ≡ false → operator_lines node asked ≡ []
no_operator_lines (Stream schemes) asked e = refl
no_operator_lines (Select input test) asked e = refl
no_operator_lines (Project input columns) asked e = refl
no_operator_lines (Union inputs) asked e = refl
no_operator_lines (Join inputs spec) asked e = absurd (false≢true (sym e))
no_operator_lines (Group input spec) asked e = refl

join_operator_lines : (node : Node) (asked : Asked) → is_join node ≡ true → operator_lines node asked ≡ asked_lines asked
join_operator_lines (Stream schemes) asked e = absurd (false≢true e)
join_operator_lines (Select input test) asked e = absurd (false≢true e)
join_operator_lines (Project input columns) asked e = absurd (false≢true e)
join_operator_lines (Union inputs) asked e = absurd (false≢true e)
join_operator_lines (Join inputs spec) asked e = refl
join_operator_lines (Group input spec) asked e = absurd (false≢true e)

-- a node that is no join adds nothing
pub other_put : (nodes : List PlanNode) (n : ℕ) (text : List ℕ) → None ≡ join_in (node_at nodes n) → text ≡ text ++ concat (node_lines nodes n)
other_put nodes n text e =
    sym (append-nil text)
    ∙ ap (λ (ls : List (List ℕ)). text ++ concat ls) (sym (no_operator_lines (node_at nodes n) (asked_of nodes n) (is_no_join (node_at nodes n) e)))

pub join_put : (nodes : List PlanNode) (n : ℕ) (spec : JoinSpec) (before after : List ℕ) → Some spec ≡ join_in (node_at nodes n)
    → after ≡ before ++ concat (asked_lines (asked_of nodes n)) → after ≡ before ++ concat (node_lines nodes n)
join_put nodes n spec before after e put =
    put
    ∙ ap (λ (ls : List (List ℕ)). before ++ concat ls) (sym (join_operator_lines (node_at nodes n) (asked_of nodes n) (is_some_join (node_at nodes n) spec e)))

pub no_nodes : (nodes : List PlanNode) (text : List ℕ) → text ≡ text ++ concat (nodes_lines nodes 0)
no_nodes nodes text = sym (append-nil text)

pub node_more : (nodes : List PlanNode) (n : ℕ) (before middle after : List ℕ) → middle ≡ before ++ concat (nodes_lines nodes n)
    → after ≡ middle ++ concat (node_lines nodes n) → after ≡ before ++ concat (nodes_lines nodes (n + 1))
node_more nodes n before middle after put e = put_next (node_lines nodes) n before middle after put e

-- ---- the whole

plan_is : (print : Bool) (plan : Outline) → concat (plan_lines print plan) ≡ printed print plan
plan_is true plan = go (statements_of plan)
  where
    go : (statements : List Statement) → concat (map fed statements) ≡ lines_of statements
    go [] = refl
    go (statement ∷ statements) = ap (λ (t : List ℕ). fed statement ++ t) (go statements)
plan_is false plan = refl

pub check_put : (print : Bool) (plan : Outline) (before text after : List ℕ) → text ≡ printed print plan ++ concat (nodes_lines plan.nodes (length plan.nodes))
    → after ≡ before ++ text → after ≡ before ++ concat (check_lines print plan)
check_put print plan before text after put e =
    e ∙ ap (λ (t : List ℕ). before ++ t)
    (put ∙ ap (λ (t : List ℕ). t ++ concat (nodes_lines plan.nodes (length plan.nodes))) (sym (plan_is print plan))
    ∙ sym (concat-append (plan_lines print plan) (nodes_lines plan.nodes (length plan.nodes))))
