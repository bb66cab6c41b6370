-- The lines of what is handed out, and the counts of them.
use Rattle.std.specs.Prelude.{ℕ, List, [], ◌∷◌, ◌++◌, Option, Some, None, map, length, slice_get, codes}
use Rattle.pj_value.specs.declared.values.Value.{Value}
use Rattle.pj_pattern.specs.declared.element.Element.{Element}
use Rattle.pj_element.specs.Elements.{row_line, punct_line}
use Rattle.pj_element.specs.Runs.{rows_of, puncts_of, fed}
use Rattle.pj_events.specs.declared.events.Out.{Out}
use Rattle.pj_events.specs.declared.events.Out.TheVariants.{Tuple, Punct, Purged}
use Rattle.pj_plan.specs.declared.node.PlanNode.{PlanNode}
use Rattle.pj_plan.specs.Canonical.{node_at, node_name}
use Rattle.pj_plan.specs.Nodes.{inputs_of}
use Rattle.pj_report.specs.declared.results.Counts.{Counts}
use Rattle.pj_report.specs.Report.{counted_to}

-- the name of the node of this number, if there is a number
abbrev pub name_of : List PlanNode → Option ℕ → List ℕ
name_of nodes None = []
name_of nodes (Some number) = node_name nodes number

-- the name of the node that feeds an input of a node; empty where there is none
abbrev pub input_name : List PlanNode → ℕ → ℕ → List ℕ
input_name nodes node input = name_of nodes (slice_get (inputs_of (node_at nodes node)) input)

-- `# purge J I t ..`: a sweep removed this row from an input of a join
abbrev pub purge_line : List PlanNode → ℕ → ℕ → List Value → List ℕ
purge_line nodes join input row = fed (codes "# purge " ++ node_name nodes join ++ codes " " ++ input_name nodes join input ++ codes " " ++ row_line row)

-- the line of what is handed out: that of an element, or the note of a row that was removed
abbrev pub out_line : List PlanNode → Out → List ℕ
out_line nodes (Tuple row) = fed (row_line row)
out_line nodes (Punct patterns) = fed (punct_line patterns)
out_line nodes (Purged join input row) = purge_line nodes join input row

-- the lines of what is handed out, in its order
abbrev pub out_lines : List PlanNode → List Out → List (List ℕ)
out_lines nodes outs = map (out_line nodes) outs

-- no row that was removed is noted
abbrev pub NoneNoted : List Out → Type 0
NoneNoted [] = Unit {0}
NoneNoted (Tuple row ∷ outs) = NoneNoted outs
NoneNoted (Punct patterns ∷ outs) = NoneNoted outs
NoneNoted (Purged join input row ∷ outs) = ⊥

-- how many rows and how many punctuations these are, as far as the counts go
abbrev pub counts_of : List Element → Counts
counts_of es = record { rows = counted_to (length (rows_of es)); puncts = counted_to (length (puncts_of es)) }
