-- A plan is read again from its canonical text.
use Rattle.std.proofs.Common.{◌≡◌, ℕ, suc, ◌+◌, Bool, true, false, ◌&&◌, cond, List, [], ◌∷◌, ◌++◌, None, map, length, refl, ap, sym, ◌∙◌, subst, append_assoc, arith}
use Rattle.std.specs.Prelude.{⊤}
use Rattle.std.specs.List.{All, flat_map, list_all}
use Rattle.std.proofs.lemmas.Bool.{and_parts}
use Rattle.std.proofs.lemmas.Option.{none-some}
use Rattle.std.proofs.lemmas.List.Concat.{flat_map-cons}
use Rattle.pj_value.specs.Laws.{IsPrintable}
use Rattle.pj_line.specs.Lines.{HasNo, is_skipped, pieces}
use Rattle.pj_line.proofs.PieceLaws.{fed_piece_is_first}
use Rattle.pj_plan.specs.declared.node.Node.{Node}
use Rattle.pj_plan.specs.declared.node.Node.TheVariants.{Stream as StreamNode, Select as SelectNode, Project as ProjectNode, Union as UnionNode, Join as JoinNode, Group as GroupNode}
use Rattle.pj_plan.specs.declared.node.PlanNode.{PlanNode}
use Rattle.pj_plan.specs.declared.node.Outline.{Outline}
use Rattle.pj_plan.specs.declared.statement.Statement.{Statement}
use Rattle.pj_plan.specs.declared.statement.Statement.TheVariants.{Plan, Stream, Scheme, Select, Project, Union, Join, Group, Output, Bad}
use Rattle.pj_plan.specs.declared.statement.Stated.{Stated}
use Rattle.pj_plan.specs.Built.{built}
use Rattle.pj_plan.specs.Canonical.{declaration, last_name, lines_from, node_statements, scheme_statements, statements_of}
use Rattle.pj_plan.specs.Kept.{IsMadeAgain}
use Rattle.pj_plan.specs.Names.{AreSpelled, is_spelled}
use Rattle.pj_plan.specs.Words.{bad_why}
use Rattle.pj_plan.specs.Sound.{IsSoundPlan}
use Rattle.pj_plan_text.specs.Kept.{AreKeptNodes}
use Rattle.pj_plan_text.specs.Laws.{AllShort, HasLine, PlanIsReadAgain}
use Rattle.pj_plan_text.specs.PlanRead.{is_passed, is_short, line_stated, stated_from}
use Rattle.pj_plan_text.specs.Spelling.{lines_of, plan_spelling, spell}
use Rattle.pj_plan_text.proofs.PlanFits.{AllFit, plan_fits}
use Rattle.pj_plan_text.proofs.LinesAgain.{spelled_printable, spelled_whole, statement_again}

-- ---- lines

no_feed : (line : List ℕ) → All IsPrintable line → HasNo 10 line
no_feed [] all = tt
no_feed (b ∷ bs) all =
    let first = all 0 0 (omega arith) in
    ((λ e. omega (arith, first.0, e)), no_feed bs (λ k d h. all (suc k) d (omega (arith, h))))

begins : (statement : Statement) → HasLine statement → is_skipped (spell statement) ≡ false
begins (Plan version) line = refl
begins (Stream name columns) line = refl
begins (Scheme stream marks) line = refl
begins (Select name input tests) line = refl
begins (Project name input columns) line = refl
begins (Union name inputs) line = refl
begins (Join name inputs classes) line = refl
begins (Group name input keys aggs) line = refl
begins (Output name) line = refl
begins (Bad why) line = absurd (none-some why (sym line.good))

and_false : (b : Bool) → (b && false) ≡ false
and_false true = refl
and_false false = refl

not_passed : (statement : Statement) → HasLine statement → is_passed (spell statement) ≡ false
not_passed statement line =
    ap (λ (l : List ℕ). is_short (spell statement) && is_skipped l) (spelled_whole statement line)
    ∙ (ap (λ (b : Bool). is_short (spell statement) && b) (begins statement line) ∙ and_false (is_short (spell statement)))

abbrev AllHaveLines : List Statement → Type 0
AllHaveLines [] = ⊤
AllHaveLines (statement ∷ statements) = HasLine statement × AllHaveLines statements

first_piece : (statement : Statement) (statements : List Statement) → HasLine statement → pieces (lines_of (statement ∷ statements)) ≡ spell statement ∷ pieces (lines_of statements)
first_piece statement statements line =
    ap pieces (append_assoc (spell statement) (10 ∷ []) (lines_of statements))
    ∙ fed_piece_is_first (spell statement) (lines_of statements) (no_feed (spell statement) (spelled_printable statement line))

first_stated : (number : ℕ) (statement : Statement) (rest : List (List ℕ)) → HasLine statement → stated_from number (spell statement ∷ rest) ≡ record { line = number; what = statement } ∷ stated_from (number + 1) rest
first_stated number statement rest line =
    ap (λ b. cond b (stated_from (number + 1) rest) (record { line = number; what = line_stated (spell statement) } ∷ stated_from (number + 1) rest)) (not_passed statement line)
    ∙ ap (λ (what : Statement). record { line = number; what = what } ∷ stated_from (number + 1) rest) (statement_again statement line)

lines_read : (number : ℕ) (statements : List Statement) → AllHaveLines statements → stated_from number (pieces (lines_of statements)) ≡ lines_from number statements
lines_read number [] all = refl
lines_read number (s ∷ ss) all =
    ap (stated_from number) (first_piece s ss all.0)
    ∙ (first_stated number s (pieces (lines_of ss)) all.0
    ∙ ap (λ (others : List Stated). record { line = number; what = s } ∷ others) (lines_read (number + 1) ss all.1))

-- ---- canonical statements are no bad ones

abbrev AllGood : List Statement → Type 0
AllGood [] = ⊤
AllGood (statement ∷ statements) = (bad_why statement ≡ None) × AllGood statements

both_good : (statements others : List Statement) → AllGood statements → AllGood others → AllGood (statements ++ others)
both_good [] others p q = q
both_good (s ∷ ss) others p q = (p.0, both_good ss others p.1 q)

declared_good : (nodes : List PlanNode) (node : PlanNode) (operator : Node) → bad_why (declaration nodes node operator) ≡ None
declared_good nodes node (StreamNode schemes) = refl
declared_good nodes node (SelectNode input test) = refl
declared_good nodes node (ProjectNode input columns) = refl
declared_good nodes node (UnionNode inputs) = refl
declared_good nodes node (JoinNode inputs spec) = refl
declared_good nodes node (GroupNode input spec) = refl

each_scheme : (name : List ℕ) (schemes : List (List Bool)) → AllGood (map (Scheme name) schemes)
each_scheme name [] = tt
each_scheme name (scheme ∷ schemes) = (refl, each_scheme name schemes)

schemes_good : (name : List ℕ) (operator : Node) → AllGood (scheme_statements name operator)
schemes_good name (StreamNode schemes) = each_scheme name schemes
schemes_good name (SelectNode input test) = tt
schemes_good name (ProjectNode input columns) = tt
schemes_good name (UnionNode inputs) = tt
schemes_good name (JoinNode inputs spec) = tt
schemes_good name (GroupNode input spec) = tt

nodes_good : (nodes some : List PlanNode) → AllGood (flat_map (node_statements nodes) some)
nodes_good nodes [] = tt
nodes_good nodes (node ∷ some) =
    subst AllGood (sym (flat_map-cons (node_statements nodes) node some))
    (both_good (node_statements nodes node) (flat_map (node_statements nodes) some) (declared_good nodes node node.node, schemes_good node.name node.node) (nodes_good nodes some))

all_good : (plan : Outline) → AllGood (statements_of plan)
all_good plan = (refl, both_good (flat_map (node_statements plan.nodes) plan.nodes) (Output (last_name plan.nodes) ∷ []) (nodes_good plan.nodes plan.nodes) (refl, tt))

-- ---- plans

have_lines : (statements : List Statement) → AreSpelled statements → AllGood statements → AllFit statements → AllShort statements → AllHaveLines statements
have_lines [] spelled good fit short = tt
have_lines (s ∷ ss) spelled good fit short =
    let parts = and_parts (is_spelled s) (list_all is_spelled ss) spelled in
    (record { spelled = parts.0; good = good.0; kept = fit.0.kept; few = fit.0.few parts.0; short = short.0 }, have_lines ss parts.1 good.1 fit.1 short.1)

pub plan_again : (plan : Outline) → IsSoundPlan plan.nodes → IsMadeAgain plan → AreKeptNodes plan.nodes → PlanIsReadAgain plan
plan_again plan sound made kept short =
    let text = plan_spelling plan in
    let lines = have_lines (statements_of plan) made.spelled (all_good plan) (plan_fits plan sound kept) short in
    ap (λ (ss : List Stated). built ss (length (pieces text) + 1)) (lines_read 1 (statements_of plan) lines) ∙ made.again (length (pieces text) + 1)
