-- Punctuations of one constant, of which the constant and the numbers are kept alone.
use Rattle.std.specs.Prelude.{ℕ, ◌≡◌, ◌⊎◌, Bool, true, false, nat_lt, nat_eq, if◌then◌else◌, List, [], ◌∷◌, ◌++◌, length, map, Option, Some, None, slice_get}
use Rattle.pj_value.specs.Lists.{In}
use Rattle.pj_value.specs.declared.values.Value.{Value}
use Rattle.pj_pattern.specs.declared.pattern.Form.TheVariants.{Constant as Fixed}
use Rattle.pj_events.specs.Patterns.{Pattern}
use Rattle.pj_puncts.specs.Hashes.{cell_at}
use Rattle.pj_puncts.specs.Stores.{AreRising}
use Rattle.pj_puncts.specs.Indexed.{IsIndexed, filled, least}
use Rattle.pj_puncts.specs.Numbers.{AreTold, Changes, HasNone, IsOnly, has_only, told, with_last}
use Rattle.pj_puncts.specs.declared.index.Index.{Index}
use Rattle.pj_puncts.specs.declared.store.NumberedPunct.{NumberedPunct}
use Rattle.pj_puncts.specs.declared.numbers.Constant.{Constant}
use Rattle.pj_puncts.specs.declared.numbers.NumberLists.{NumberLists}

-- the constant in its column, and wildcards elsewhere
abbrev pub only : ℕ → ℕ → Value → List Pattern
only arity column value = filled arity column (Fixed value)

abbrev pub alone : ℕ → Constant → ℕ → NumberedPunct
alone arity key number = record { punct = only arity key.column key.value; number = number }

-- the punctuations of so many columns with these constants and numbers
abbrev pub entered : ℕ → List (Constant × List ℕ) → List NumberedPunct
entered arity [] = []
entered arity (e ∷ es) = map (alone arity e.0) e.1 ++ entered arity es

-- before the first with a greater number
abbrev pub placed : NumberedPunct → List NumberedPunct → List NumberedPunct
placed k [] = k ∷ []
placed k (j ∷ js) = if nat_lt k.number j.number then k ∷ j ∷ js else j ∷ placed k js

-- in order of their numbers
abbrev pub in_order : List NumberedPunct → List NumberedPunct
in_order [] = []
in_order (k ∷ ks) = placed k (in_order ks)

-- all that is kept, in order of the numbers: the punctuations of one constant, and the others
abbrev pub kept_of : ℕ → List NumberedPunct → NumberLists → List NumberedPunct
kept_of arity others lists = in_order (others ++ entered arity lists.lists.entries)

-- ---- one punctuation more

-- the second list has one more somewhere
pub record HasMore (k : NumberedPunct) (old new : List NumberedPunct) : Type 0 where
  pub front : List NumberedPunct
  pub back : List NumberedPunct
  pub old_is : old ≡ front ++ back
  pub new_is : new ≡ front ++ k ∷ back

-- each of the first is one of the second
abbrev pub AreAmong : List ℕ → List ℕ → Type 0
AreAmong old new = (c : ℕ) → In c old → In c new

-- the punctuation of this constant and this number
abbrev pub IsOneMore : Constant → ℕ → NumberLists → NumberLists → Type 0
IsOneMore key number old new = (arity : ℕ) → HasMore (alone arity key number) (entered arity old.lists.entries) (entered arity new.lists.entries)

-- the constant has this number more, and its column is one of those with constants
pub record IsAdded (key : Constant) (number : ℕ) (old new : NumberLists) : Type 0 where
  pub tells : Changes (with_last number) (told old) (told new) key
  pub more : IsOneMore key number old new
  pub here : In key.column new.columns
  pub columns : AreAmong old.columns new.columns

pub record HasTaken (patterns : List Pattern) (number : ℕ) (old new : NumberLists) : Type 0 where
  pub key : Constant
  pub only_one : IsOnly patterns key
  pub added : IsAdded key number old new

-- whether the lists took the punctuation in
abbrev pub IsTaken : List Pattern → ℕ → NumberLists → NumberLists → Bool → Type 0
IsTaken patterns number old new false = HasNone patterns × (new ≡ old)
IsTaken patterns number old new true = HasTaken patterns number old new

-- the same constants with the same numbers
pub record AreSame (old new : NumberLists) : Type 0 where
  pub entries : new.lists.entries ≡ old.lists.entries
  pub columns : AreAmong old.columns new.columns

-- ---- looking up

-- the first of the numbers that are told for the value of a cell
abbrev pub first_in_cell : (ℕ → Value → List ℕ) → ℕ → Option Value → Option ℕ
first_in_cell tells column None = None
first_in_cell tells column (Some v) = slice_get (tells column v) 0

-- the least of this number and the first ones of these columns' cells
abbrev pub least_in : (ℕ → Value → List ℕ) → List (Option Value) → Option ℕ → List ℕ → Option ℕ
least_in tells cells best [] = best
least_in tells cells best (c ∷ cs) = least_in tells cells (least best (first_in_cell tells c (cell_at cells c))) cs

-- the least number of one constant in so many cells
abbrev pub first_told : ℕ → NumberLists → List (Option Value) → Option ℕ
first_told arity lists cells = if nat_eq (length cells) arity then least_in (told lists) cells None lists.columns else None

-- ---- what is kept

-- it has one constant alone, in one of these columns
abbrev pub IsAlone : List ℕ → NumberedPunct → Type 0
IsAlone columns k = (c : ℕ) × (v : Value) × In c columns × (has_only c v k.punct ≡ true)

-- the numbers of the punctuations of one constant are told by their constants, and the others are found by their forms
pub record IsStored (arity : ℕ) (kept others : List NumberedPunct) (index : Index) (lists : NumberLists) : Type 0 where
  pub fits : (k : NumberedPunct) → In k kept → length k.punct ≡ arity
  pub rising : AreRising kept
  pub told_all : AreTold kept lists
  pub indexed : IsIndexed others index
  pub among : (k : NumberedPunct) → In k others → In k kept
  pub split : (k : NumberedPunct) → In k kept → In k others ⊎ IsAlone lists.columns k
