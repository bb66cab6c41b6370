-- What is printed of an input of a join.
use Rattle.std.specs.Prelude.{ℕ, Bool, true, false, List, [], ◌∷◌, ◌++◌, codes, slice_index_or}
use Rattle.std.specs.List.{flat_map}
use Rattle.pj_shape.specs.declared.joins.CertStep.{CertStep}
use Rattle.pj_graph.specs.declared.answers.Reach.{Reach}
use Rattle.pj_graph.specs.declared.answers.Reach.TheVariants.{All, Stuck}
use Rattle.pj_shape.specs.Sets.{schemes_of}

-- a mark behind a space: a plus, or a low line for a column that is not marked
abbrev pub mark_text : Bool → List ℕ
mark_text true = codes " +"
mark_text false = codes " _"

-- the name of an input
abbrev pub name_of : List (List ℕ) → ℕ → List ℕ
name_of names input = slice_index_or names input []

-- the marks of a step's scheme
abbrev pub marks_of : List (List (List Bool)) → CertStep → List Bool
marks_of schemes step = slice_index_or (schemes_of schemes step.input) step.scheme []

-- a step behind a space: its input and the marks of its scheme
abbrev pub step_text : List (List (List Bool)) → List (List ℕ) → CertStep → List ℕ
step_text schemes names step = codes " " ++ name_of names step.input ++ codes " by" ++ flat_map mark_text (marks_of schemes step)

-- more steps, each behind a comma
abbrev pub more_text : List (List (List Bool)) → List (List ℕ) → List CertStep → List ℕ
more_text schemes names [] = []
more_text schemes names (step ∷ steps) = codes "," ++ step_text schemes names step ++ more_text schemes names steps

-- the steps, parted by commas
abbrev pub steps_text : List (List (List Bool)) → List (List ℕ) → List CertStep → List ℕ
steps_text schemes names [] = []
steps_text schemes names (step ∷ steps) = step_text schemes names step ++ more_text schemes names steps

-- names of inputs, each behind a space
abbrev pub names_text : List (List ℕ) → List ℕ → List ℕ
names_text names [] = []
names_text names (input ∷ inputs) = codes " " ++ name_of names input ++ names_text names inputs

-- what stands before the verdict
abbrev pub head_text : List ℕ → List ℕ → List ℕ → List ℕ
head_text word join input = word ++ join ++ codes " input " ++ input ++ codes ":"

-- the line of an input that reaches all
abbrev pub whole_text : List (List (List Bool)) → List ℕ → List (List ℕ) → ℕ → List CertStep → List ℕ
whole_text schemes join names input cert =
    head_text (codes "# safe join ") join (name_of names input) ++ steps_text schemes names cert ++ codes "\n"

-- the end of the first line of a stuck input
abbrev pub missing_text : List ℕ → List ℕ
missing_text name = codes " cannot reach " ++ name ++ codes "\n"

-- the first line of a stuck input
abbrev pub unreached_text : List ℕ → List (List ℕ) → ℕ → ℕ → List ℕ
unreached_text join names input missing = head_text (codes "# unsafe join ") join (name_of names input) ++ missing_text (name_of names missing)

-- the second line of a stuck input
abbrev pub reached_text : List (List ℕ) → List ℕ → List ℕ
reached_text names reached = codes "# reached:" ++ names_text names reached ++ codes "\n"

-- both lines of a stuck input
abbrev pub stuck_text : List ℕ → List (List ℕ) → ℕ → List ℕ → ℕ → List ℕ
stuck_text join names input reached missing = unreached_text join names input missing ++ reached_text names reached

-- the lines of an input: its certificate, or what it cannot reach and what it reaches
abbrev pub verdict_of : List (List (List Bool)) → List ℕ → List (List ℕ) → ℕ → Reach → List ℕ
verdict_of schemes join names input (All cert) = whole_text schemes join names input cert
verdict_of schemes join names input (Stuck reached missing) = stuck_text join names input reached missing
