-- Worked plans with their rows and punctuations.
use Rattle.std.specs.Prelude.{◌≡◌, ℕ, true, false, Some, pos, codes, List, [], ◌∷◌}
use Rattle.pj_value.specs.declared.values.Kind.TheVariants.{Int as IntKind, Text as TextKind}
use Rattle.pj_value.specs.declared.values.Value.{Value}
use Rattle.pj_value.specs.declared.values.Value.TheVariants.{Int, Text}
use Rattle.pj_shape.specs.declared.columns.Column.{Column}
use Rattle.pj_shape.specs.declared.groups.Agg.TheVariants.{Count, Sum}
use Rattle.pj_shape.specs.declared.joins.ClassCol.{ClassCol}
use Rattle.pj_pattern.specs.Patterns.{Pattern}
use Rattle.pj_pattern.specs.declared.pattern.Form.TheVariants.{Wild, Constant, Range}
use Rattle.pj_plan.specs.declared.node.Node.{Node}
use Rattle.pj_plan.specs.declared.node.Node.TheVariants.{Stream, Select, Project, Union, Join, Group}
use Rattle.pj_plan.specs.declared.node.PlanNode.{PlanNode}
use Rattle.pj_algebra.specs.Answers.{answer_of, punctuations_of}

-- ---- words

abbrev pub int : ℕ → Value
int n = Int (pos n)

abbrev pub is : ℕ → Pattern
is n = Constant (int n)

abbrev pub a : Value
a = Text (codes "a")

abbrev pub number : List ℕ → Column
number name = record { name = name; kind = IntKind }

abbrev pub text : List ℕ → Column
text name = record { name = name; kind = TextKind }

abbrev pub named : List ℕ → List Column → Node → PlanNode
named name schema node = record { name = name; schema = schema; node = node }

abbrev pub at : ℕ → ℕ → ClassCol
at input column = record { input = input; column = column }

-- ---- joins

abbrev pub item_columns : List Column
item_columns = number (codes "item") ∷ text (codes "seller") ∷ []

abbrev pub bid_columns : List Column
bid_columns = number (codes "bitem") ∷ number (codes "price") ∷ []

-- items and the bids for them
abbrev pub auction : List PlanNode
auction =
    named (codes "items") item_columns (Stream ((true ∷ false ∷ []) ∷ []))
    ∷ named (codes "bids") bid_columns (Stream ((true ∷ false ∷ []) ∷ []))
    ∷ named (codes "j") (number (codes "item") ∷ text (codes "seller") ∷ bid_columns)
    (Join (0 ∷ 1 ∷ []) (record { inputs = item_columns ∷ bid_columns ∷ []; classes = (at 0 0 ∷ at 1 0 ∷ []) ∷ [] }))
    ∷ []

abbrev pub sold : List Value
sold = int 1 ∷ a ∷ int 1 ∷ int 5 ∷ []

-- an item that came twice, three equal bids for it, and one for an item that did not come
abbrev pub JoinRows : Type 0
JoinRows =
    answer_of auction (((int 1 ∷ a ∷ []) ∷ (int 1 ∷ a ∷ []) ∷ []) ∷ ((int 1 ∷ int 5 ∷ []) ∷ (int 1 ∷ int 5 ∷ []) ∷ (int 2 ∷ int 5 ∷ []) ∷ (int 1 ∷ int 5 ∷ []) ∷ []) ∷ [])
    ≡ sold ∷ sold ∷ sold ∷ sold ∷ sold ∷ sold ∷ []

-- each stream has one punctuation and its closing
abbrev pub JoinPuncts : Type 0
JoinPuncts =
    punctuations_of auction (((is 1 ∷ Wild ∷ []) ∷ (Wild ∷ Wild ∷ []) ∷ []) ∷ ((is 1 ∷ Wild ∷ []) ∷ (Wild ∷ Wild ∷ []) ∷ []) ∷ [])
    ≡ (is 1 ∷ Wild ∷ Wild ∷ Wild ∷ []) ∷ (Wild ∷ Wild ∷ Wild ∷ Wild ∷ []) ∷ (Wild ∷ Wild ∷ is 1 ∷ Wild ∷ []) ∷ (Wild ∷ Wild ∷ Wild ∷ Wild ∷ []) ∷ []

-- a chain of three streams, of one column, of two and of one
abbrev pub chain : List PlanNode
chain =
    named (codes "a") (number (codes "x") ∷ []) (Stream ((true ∷ []) ∷ []))
    ∷ named (codes "b") (number (codes "bx") ∷ number (codes "by") ∷ []) (Stream ((true ∷ false ∷ []) ∷ (false ∷ true ∷ []) ∷ []))
    ∷ named (codes "c") (number (codes "cy") ∷ []) (Stream ((true ∷ []) ∷ []))
    ∷ named (codes "j") (number (codes "x") ∷ number (codes "bx") ∷ number (codes "by") ∷ number (codes "cy") ∷ [])
    (Join (0 ∷ 1 ∷ 2 ∷ []) (record {
      inputs = (number (codes "x") ∷ []) ∷ (number (codes "bx") ∷ number (codes "by") ∷ []) ∷ (number (codes "cy") ∷ []) ∷ [];
      classes = (at 0 0 ∷ at 1 0 ∷ []) ∷ (at 1 1 ∷ at 2 0 ∷ []) ∷ [];
    }))
    ∷ []

-- one row of the middle input joins with one of each side
abbrev pub ChainRows : Type 0
ChainRows =
    answer_of chain (((int 1 ∷ []) ∷ []) ∷ ((int 1 ∷ int 10 ∷ []) ∷ (int 1 ∷ int 20 ∷ []) ∷ []) ∷ ((int 20 ∷ []) ∷ []) ∷ []) ≡ (int 1 ∷ int 1 ∷ int 20 ∷ int 20 ∷ []) ∷ []

-- a punctuation of the middle input has wildcards on both sides
abbrev pub ChainPuncts : Type 0
ChainPuncts =
    punctuations_of chain (((Wild ∷ []) ∷ []) ∷ ((is 1 ∷ Wild ∷ []) ∷ (Wild ∷ Wild ∷ []) ∷ []) ∷ ((is 10 ∷ []) ∷ (is 20 ∷ []) ∷ (Wild ∷ []) ∷ []) ∷ [])
    ≡ (Wild ∷ Wild ∷ Wild ∷ Wild ∷ []) ∷ (Wild ∷ is 1 ∷ Wild ∷ Wild ∷ []) ∷ (Wild ∷ Wild ∷ Wild ∷ Wild ∷ [])
    ∷ (Wild ∷ Wild ∷ Wild ∷ is 10 ∷ []) ∷ (Wild ∷ Wild ∷ Wild ∷ is 20 ∷ []) ∷ (Wild ∷ Wild ∷ Wild ∷ Wild ∷ []) ∷ []

-- ---- groups

-- the number of bids for each item, and their sum
abbrev pub totals : List PlanNode
totals =
    named (codes "bids") (number (codes "item") ∷ number (codes "price") ∷ []) (Stream [])
    ∷ named (codes "g") (number (codes "item") ∷ number (codes "n") ∷ number (codes "total") ∷ []) (Group 0 (record { keys = 0 ∷ []; aggs = Count ∷ Sum 1 ∷ [] }))
    ∷ []

abbrev pub most : ℕ
most = 9223372036854775807

-- a sum stops at the greatest integer
abbrev pub GroupRows : Type 0
GroupRows =
    answer_of totals (((int 1 ∷ int 50 ∷ []) ∷ (int 2 ∷ int 7 ∷ []) ∷ (int 1 ∷ int 60 ∷ []) ∷ (int 2 ∷ int most ∷ []) ∷ []) ∷ [])
    ≡ (int 1 ∷ int 2 ∷ int 110 ∷ []) ∷ (int 2 ∷ int 2 ∷ int most ∷ []) ∷ []

-- one of the price has no place in the result
abbrev pub GroupPuncts : Type 0
GroupPuncts =
    punctuations_of totals (((Wild ∷ is 50 ∷ []) ∷ (is 1 ∷ Wild ∷ []) ∷ (Wild ∷ Wild ∷ []) ∷ []) ∷ [])
    ≡ (is 1 ∷ Wild ∷ Wild ∷ []) ∷ (Wild ∷ Wild ∷ Wild ∷ []) ∷ []

-- ---- unions, selects and projects

abbrev pub united : List PlanNode
united =
    named (codes "l") (number (codes "v") ∷ []) (Stream []) ∷ named (codes "r") (number (codes "w") ∷ []) (Stream [])
    ∷ named (codes "u") (number (codes "v") ∷ []) (Union (0 ∷ 1 ∷ [])) ∷ []

abbrev pub UnionRows : Type 0
UnionRows = answer_of united (((int 5 ∷ []) ∷ []) ∷ ((int 5 ∷ []) ∷ []) ∷ []) ≡ (int 5 ∷ []) ∷ (int 5 ∷ []) ∷ []

abbrev pub UnionPuncts : Type 0
UnionPuncts =
    punctuations_of united (((Range (Some (int 1)) (Some (int 9)) ∷ []) ∷ (Wild ∷ []) ∷ []) ∷ ((is 5 ∷ []) ∷ (Wild ∷ []) ∷ []) ∷ [])
    ≡ (Range (Some (int 1)) (Some (int 9)) ∷ []) ∷ (Wild ∷ []) ∷ (is 5 ∷ []) ∷ (Wild ∷ []) ∷ []

abbrev pub keyed : List Column
keyed = number (codes "k") ∷ text (codes "v") ∷ []

-- the texts of the keys from 3 to 9
abbrev pub parts : List PlanNode
parts =
    named (codes "s") keyed (Stream []) ∷ named (codes "f") keyed (Select 0 (Range (Some (int 3)) (Some (int 9)) ∷ Wild ∷ []))
    ∷ named (codes "g") (text (codes "v") ∷ []) (Project 1 (1 ∷ [])) ∷ []

abbrev pub PartRows : Type 0
PartRows = answer_of parts (((int 5 ∷ a ∷ []) ∷ (int 12 ∷ Text (codes "b") ∷ []) ∷ []) ∷ []) ≡ (a ∷ []) ∷ []

-- one of the key has no place in the result
abbrev pub PartPuncts : Type 0
PartPuncts =
    punctuations_of parts (((Wild ∷ Constant a ∷ []) ∷ (is 5 ∷ Wild ∷ []) ∷ (Wild ∷ Wild ∷ []) ∷ []) ∷ [])
    ≡ (Constant a ∷ []) ∷ (Wild ∷ []) ∷ []
