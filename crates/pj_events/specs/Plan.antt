-- A plan of operators, the steps of a run, and what each node hands up.
use Rattle.std.specs.Prelude.{ℕ, ◌+◌, ◌<◌, ◌≡◌, false, ◌==◌, if◌then◌else◌, List, [], ◌∷◌, ◌++◌, map, length, slice_index, slice_index_or, filter, flat_map, sum}
use Rattle.pj_pattern.specs.Elements.{IsLawful}
use Rattle.pj_value.specs.declared.values.Value.{Value}
use Rattle.pj_shape.specs.declared.columns.Column.{Column}
use Rattle.pj_shape.specs.Joining.{join_answer}
use Rattle.pj_pattern.specs.declared.element.Element.{Element}
use Rattle.pj_pattern.specs.declared.element.Element.TheVariants.{Tuple, Punct}
use Rattle.pj_value.specs.Bags.{SameBag}
use Rattle.pj_pattern.specs.Fitting.{FitsDomains}
use Rattle.pj_shape.specs.Columns.{domains_of}
use Rattle.pj_events.specs.Patterns.{Pattern, all_wild, matches_row}
use Rattle.pj_events.specs.Join.{In, JoinData, JoinState, Step, TupleComes, PunctComes, Take, Give, Sweep, start, run, outputs, IsAllowed, AllGiven, IsSettled, arities, inputs, rows_of}
use Rattle.pj_events.specs.Operators.{GroupSpec, UnionState, picked_cells, select_hands, project_hands, union_after, union_hands, group_after, group_hands, group_rows}

-- ---- what a node is, with what it holds

-- A stream has its columns and what was fed to it, a union its number of inputs, a group the rows that it holds
pub data Operator : Type 0 where
  Stream : List Column → List Element → Operator
  Select : List Pattern → Operator
  Project : List ℕ → Operator
  Union : ℕ → UnionState → Operator
  Join : JoinData → JoinState → Operator
  Group : GroupSpec → List (List Value) → Operator

-- the numbers of its inputs, all of which stand before it, and its operator
pub record Node : Type 0 where
  pub inputs : List ℕ
  pub operator : Operator

-- what happens at one node: an element comes from an input, a stream is fed, or a join makes a step of its own
pub data Local : Type 0 where
  Comes : ℕ → Element → Local
  Fed : Element → Local
  Own : Step → Local

abbrev pub join_step : ℕ → Element → Step
join_step input (Tuple row) = TupleComes input row
join_step input (Punct patterns) = PunctComes input patterns

-- the steps of a join at this
abbrev pub join_local : Local → List Step
join_local (Comes input e) = join_step input e ∷ []
join_local (Fed e) = []
join_local (Own s) = s ∷ []

-- the operator after this
abbrev pub after : Operator → Local → Operator
after (Stream schema sent) (Fed e) = Stream schema (sent ++ e ∷ [])
after (Stream schema sent) _ = Stream schema sent
after (Select test) l = Select test
after (Project columns) l = Project columns
after (Union n u) (Comes input e) = Union n (union_after n u input e)
after (Union n u) _ = Union n u
after (Join spec s) l = Join spec (run spec s (join_local l))
after (Group spec rows) (Comes input e) = Group spec (group_after spec rows e)
after (Group spec rows) _ = Group spec rows

-- what the operator hands up at this
abbrev pub hands : Operator → Local → List Element
hands (Stream schema sent) (Fed e) = e ∷ []
hands (Stream schema sent) _ = []
hands (Select test) (Comes input e) = select_hands test e
hands (Select test) _ = []
hands (Project columns) (Comes input e) = project_hands columns e
hands (Project columns) _ = []
hands (Union n u) (Comes input e) = union_hands n u input e
hands (Union n u) _ = []
hands (Join spec s) l = outputs spec s (join_local l)
hands (Group spec rows) (Comes input e) = group_hands spec rows e
hands (Group spec rows) _ = []

abbrev pub after_all : Operator → List Local → Operator
after_all m [] = m
after_all m (l ∷ ls) = after_all (after m l) ls

abbrev pub hands_all : Operator → List Local → List Element
hands_all m [] = []
hands_all m (l ∷ ls) = hands m l ++ hands_all (after m l) ls

-- ---- steps of a plan, node by node

-- an element is fed to a node, a node makes a step of its own, or nothing happens
pub data PlanStep : Type 0 where
  Feed : ℕ → Element → PlanStep
  Act : ℕ → Step → PlanStep
  Pass : PlanStep

-- what the step does at this node itself
abbrev pub own : PlanStep → ℕ → List Local
own (Feed stream e) place = if stream == place then (Fed e ∷ []) else []
own (Act join s) place = if join == place then (Own s ∷ []) else []
own Pass place = []

-- what the step brings to a node from its inputs, from this position on, where the nodes before it handed up these lists
abbrev pub brought_from : ℕ → List ℕ → List (List Element) → List Local
brought_from k [] done = []
brought_from k (m ∷ ms) done = map (Comes k) (slice_index_or done m []) ++ brought_from (k + 1) ms done

abbrev pub locals : PlanStep → List (List Element) → Node → List Local
locals e done node = own e (length done) ++ brought_from 0 node.inputs done

abbrev pub handed_at : PlanStep → List (List Element) → Node → List Element
handed_at e done node = hands_all node.operator (locals e done node)

-- what each node hands up at one step, behind what those before it did
abbrev pub batches : PlanStep → List (List Element) → List Node → List (List Element)
batches e done [] = done
batches e done (node ∷ nodes) = batches e (done ++ handed_at e done node ∷ []) nodes

-- the nodes after the step
abbrev pub moved : PlanStep → List (List Element) → List Node → List Node
moved e done [] = []
moved e done (node ∷ nodes) =
    record { inputs = node.inputs; operator = after_all node.operator (locals e done node) } ∷ moved e (done ++ handed_at e done node ∷ []) nodes

abbrev pub plan_run : List Node → List PlanStep → List Node
plan_run nodes [] = nodes
plan_run nodes (e ∷ es) = plan_run (moved e [] nodes) es

-- what this node hands up in all
abbrev pub handed : ℕ → List Node → List PlanStep → List Element
handed place nodes [] = []
handed place nodes (e ∷ es) = slice_index_or (batches e [] nodes) place [] ++ handed place (moved e [] nodes) es

-- ---- which steps are allowed

-- the element has this many columns
abbrev pub Fits : ℕ → Element → Type 0
Fits width (Tuple row) = length row ≡ width
Fits width (Punct patterns) = length patterns ≡ width

-- a tuple matches no punctuation among these elements
abbrev pub IsClearOf : List Element → Element → Type 0
IsClearOf sent (Tuple row) = (patterns : List Pattern) → In (Punct patterns) sent → matches_row patterns row ≡ false
IsClearOf sent (Punct patterns) = Unit {0}

-- a step that is the join's own
abbrev pub IsOwn : Step → Type 0
IsOwn (TupleComes input row) = ⊥
IsOwn (PunctComes input patterns) = ⊥
IsOwn (Take u) = Unit {0}
IsOwn (Give u) = Unit {0}
IsOwn (Sweep input) = Unit {0}

-- the operator is a stream, the element fits it, and a tuple matches no punctuation that was fed to it
abbrev pub MayArrive : Operator → Element → Type 0
MayArrive (Stream schema sent) e = IsClearOf sent e × FitsDomains (domains_of schema) e
MayArrive (Select test) e = ⊥
MayArrive (Project columns) e = ⊥
MayArrive (Union n u) e = ⊥
MayArrive (Join spec s) e = ⊥
MayArrive (Group spec rows) e = ⊥

-- the operator is a join, and the step is its own and is allowed
abbrev pub MayAct : Operator → Step → Type 0
MayAct (Stream schema sent) s = ⊥
MayAct (Select test) s = ⊥
MayAct (Project columns) s = ⊥
MayAct (Union n u) s = ⊥
MayAct (Join spec state) s = IsOwn s × IsAllowed spec state s
MayAct (Group spec rows) s = ⊥

-- stands for a node where there is none
abbrev pub nowhere : Node
nowhere = record { inputs = []; operator = Select [] }

abbrev pub operator_at : List Node → ℕ → Operator
operator_at nodes place = (slice_index_or nodes place nowhere).operator

abbrev pub IsStepAllowed : List Node → PlanStep → Type 0
IsStepAllowed nodes (Feed stream e) = (stream < length nodes) × MayArrive (operator_at nodes stream) e
IsStepAllowed nodes (Act join s) = (join < length nodes) × MayAct (operator_at nodes join) s
IsStepAllowed nodes Pass = Unit {0}

abbrev pub AreStepsLegal : List Node → List PlanStep → Type 0
AreStepsLegal nodes [] = Unit {0}
AreStepsLegal nodes (e ∷ es) = IsStepAllowed nodes e × AreStepsLegal (moved e [] nodes) es

-- ---- the answer, node by node

-- the lists of a node's inputs
abbrev pub inputs_of : Node → List (List (List Value)) → List (List (List Value))
inputs_of node done = map (λ m. slice_index_or done m []) node.inputs

-- the rows of an operator over those of its inputs, or of a stream over what was fed to it
abbrev pub operator_answer : Operator → List (List Value) → List (List (List Value)) → List (List Value)
operator_answer (Stream schema sent) rows lists = rows
operator_answer (Select test) rows lists = filter (matches_row test) (flat_map (λ l. l) lists)
operator_answer (Project columns) rows lists = map (picked_cells columns) (flat_map (λ l. l) lists)
operator_answer (Union n u) rows lists = flat_map (λ l. l) lists
operator_answer (Join spec s) rows lists = join_answer spec.shape.classes lists
operator_answer (Group spec held) rows lists = group_rows spec (flat_map (λ l. l) lists)

-- the lists of rows of all nodes behind these, where the streams have these rows, by numbers of nodes
abbrev pub answers_from : (ℕ → List (List Value)) → List (List (List Value)) → List Node → List (List (List Value))
answers_from streams done [] = done
answers_from streams done (node ∷ nodes) =
    answers_from streams (done ++ operator_answer node.operator (streams (length done)) (inputs_of node done) ∷ []) nodes

-- ---- which plans are well made

abbrev pub operator_width : Operator → List ℕ → ℕ
operator_width (Stream schema sent) ws = length schema
operator_width (Select test) ws = slice_index ws 0
operator_width (Project columns) ws = length columns
operator_width (Union n u) ws = slice_index ws 0
operator_width (Join spec s) ws = sum (arities spec)
operator_width (Group spec rows) ws = length spec.keys + length spec.aggs

-- the operator is at its start, and fits inputs of these widths
abbrev pub IsWellMade : Operator → List ℕ → Type 0
IsWellMade (Stream schema sent) ws = (ws ≡ []) × (sent ≡ [])
IsWellMade (Select test) ws = (length ws ≡ 1) × (length test ≡ slice_index ws 0)
IsWellMade (Project columns) ws = (length ws ≡ 1) × ((c : ℕ) → In c columns → c < slice_index ws 0)
IsWellMade (Union n u) ws = (length ws ≡ n) × ((w : ℕ) → In w ws → w ≡ slice_index ws 0) × (u.came ≡ []) × (u.waiting ≡ []) × (0 < n)
IsWellMade (Join spec s) ws = (ws ≡ arities spec) × (0 < inputs spec) × (s ≡ start)
IsWellMade (Group spec rows) ws = (length ws ≡ 1) × ((c : ℕ) → In c spec.keys → c < slice_index ws 0) × (rows ≡ [])

abbrev pub node_width : List ℕ → Node → ℕ
node_width ws node = operator_width node.operator (map (slice_index ws) node.inputs)

-- each node stands behind its inputs, and is well made for their widths
abbrev pub ArePlanned : List ℕ → List Node → Type 0
ArePlanned ws [] = Unit {0}
ArePlanned ws (node ∷ nodes) =
    ((m : ℕ) → In m node.inputs → m < length ws) × IsWellMade node.operator (map (slice_index ws) node.inputs)
    × ArePlanned (ws ++ node_width ws node ∷ []) nodes

-- ---- the laws

-- no node hands up a row that matches a punctuation that it handed up before
abbrev pub PlanIsLawful : List Node → Type 0
PlanIsLawful nodes = (es : List PlanStep) → AreStepsLegal nodes es → (n : ℕ) → n < length nodes → IsLawful (handed n nodes es)

-- the elements that are fed to a node
abbrev pub fed_to : ℕ → List PlanStep → List Element
fed_to n [] = []
fed_to n (Feed stream e ∷ es) = if stream == n then (e ∷ fed_to n es) else fed_to n es
fed_to n (Act join s ∷ es) = fed_to n es
fed_to n (Pass ∷ es) = fed_to n es

-- the answers of all nodes over what was fed
abbrev pub answers : List Node → List PlanStep → List (List (List Value))
answers nodes es = answers_from (λ n. rows_of (fed_to n es)) [] nodes

-- a join has given every tuple, and a group holds no row
abbrev pub HasGiven : Operator → Type 0
HasGiven (Stream schema sent) = Unit {0}
HasGiven (Select test) = Unit {0}
HasGiven (Project columns) = Unit {0}
HasGiven (Union n u) = Unit {0}
HasGiven (Join spec s) = AllGiven s
HasGiven (Group spec rows) = rows ≡ []

-- once the joins have given every tuple and the groups hold no row, each node has handed up its answer's rows
abbrev pub RowsAreAnswers : List Node → Type 0
RowsAreAnswers nodes =
    (es : List PlanStep) → AreStepsLegal nodes es → ((n : ℕ) → n < length nodes → HasGiven (operator_at (plan_run nodes es) n))
    → (n : ℕ) → n < length nodes → SameBag (rows_of (handed n nodes es)) (slice_index_or (answers nodes es) n [])

-- a stream was closed by these
abbrev pub IsClosedBy : Operator → List Element → Type 0
IsClosedBy (Stream schema sent) es = In (Punct (all_wild (length schema))) es
IsClosedBy (Select test) es = Unit {0}
IsClosedBy (Project columns) es = Unit {0}
IsClosedBy (Union n u) es = Unit {0}
IsClosedBy (Join spec s) es = Unit {0}
IsClosedBy (Group spec rows) es = Unit {0}

-- a join is settled
abbrev pub IsDone : Operator → Type 0
IsDone (Stream schema sent) = Unit {0}
IsDone (Select test) = Unit {0}
IsDone (Project columns) = Unit {0}
IsDone (Union n u) = Unit {0}
IsDone (Join spec s) = IsSettled s
IsDone (Group spec rows) = Unit {0}

-- every stream is closed, every join has given every tuple, and no punctuation waits at a join
abbrev pub IsCompleteRun : List Node → List PlanStep → Type 0
IsCompleteRun nodes es =
    (n : ℕ) → n < length nodes → IsClosedBy (operator_at nodes n) (fed_to n es) × IsDone (operator_at (plan_run nodes es) n)

-- after a complete run each node has handed up its answer's rows
abbrev pub CompleteAnswers : List Node → Type 0
CompleteAnswers nodes =
    (es : List PlanStep) → AreStepsLegal nodes es → IsCompleteRun nodes es → (n : ℕ) → n < length nodes
    → SameBag (rows_of (handed n nodes es)) (slice_index_or (answers nodes es) n [])
