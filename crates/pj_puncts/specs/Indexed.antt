-- How punctuations are found by their forms.
use Rattle.std.specs.Prelude.{ℕ, zero, suc, ◌+◌, ◌<◌, ◌≤◌, ◌≡◌, ◌⊎◌, ⊤, Bool, true, false, not, ◌&&◌, nat_lt, nat_eq, if◌then◌else◌, List, [], ◌∷◌, ◌++◌, length, Option, Some, None, slice_get, slice_index_or}
use Rattle.indexmap.specs.IndexMap.{get}
use Rattle.pj_value.specs.Lists.{In}
use Rattle.pj_value.specs.declared.values.Value.{Value}
use Rattle.pj_pattern.specs.declared.pattern.Form.TheVariants.{Wild, Empty, Constant, Range, Members}
use Rattle.pj_events.specs.Patterns.{Pattern, all_wild, covers, covers_punct, is_wild}
use Rattle.pj_intervals.specs.Intervals.{Answers, Entry, first_place}
use Rattle.pj_puncts.specs.Hashes.{cell_at, hash_of}
use Rattle.pj_puncts.specs.Stores.{AreRising, IsAbove}
use Rattle.pj_puncts.specs.declared.store.NumberedPunct.{NumberedPunct}
use Rattle.pj_puncts.specs.Numbers.{numbers_in}
use Rattle.pj_puncts.specs.declared.index.ShapeSet.{ShapeSet}
use Rattle.pj_puncts.specs.declared.index.ColumnIndex.{ColumnIndex}
use Rattle.pj_puncts.specs.declared.index.Index.{Index}

-- ---- the least number of a punctuation that covers some cells

-- the number of the first punctuation that covers the cells
abbrev pub first_covering : List NumberedPunct → List (Option Value) → Option ℕ
first_covering [] cells = None
first_covering (k ∷ ks) cells = if covers k.punct cells then Some k.number else first_covering ks cells

-- one of these has this number and covers the cells
abbrev pub IsCovering : List NumberedPunct → List (Option Value) → ℕ → Type 0
IsCovering kept cells n = (k : NumberedPunct) × In k kept × (covers k.punct cells ≡ true) × (k.number ≡ n)

-- the lesser of two numbers that may be there
abbrev pub least : Option ℕ → Option ℕ → Option ℕ
least None other = other
least (Some n) None = Some n
least (Some n) (Some m) = if nat_lt m n then Some m else Some n

abbrev pub is_below : Option ℕ → ℕ → Bool
is_below None below = false
is_below (Some n) below = nat_lt n below

-- ---- what is found at places

-- the number of a punctuation that is there and covers the cells
abbrev pub number_in : List (Option Value) → Option NumberedPunct → Option ℕ
number_in cells None = None
number_in cells (Some k) = if covers k.punct cells then Some k.number else None

abbrev pub number_at : List NumberedPunct → List (Option Value) → ℕ → Option ℕ
number_at kept cells at = number_in cells (slice_get kept at)

abbrev pub first_of : Option ℕ → Option ℕ → Option ℕ
first_of None other = other
first_of (Some n) other = Some n

-- that of the first of these places that has one
abbrev pub first_at : List NumberedPunct → List (Option Value) → List ℕ → Option ℕ
first_at kept cells [] = None
first_at kept cells (at ∷ ats) = first_of (number_at kept cells at) (first_at kept cells ats)

-- the places that a set has for the constants of the cells
abbrev pub slot : List (Option Value) → ShapeSet → List ℕ
slot cells set = numbers_in (get nat_eq set.chains (hash_of set.marks cells))

-- the least of this number and the first ones of the places that the sets lead to
abbrev pub least_of_sets : List NumberedPunct → List (Option Value) → Option ℕ → List ShapeSet → Option ℕ
least_of_sets kept cells best [] = best
least_of_sets kept cells best (set ∷ sets) = least_of_sets kept cells (least best (first_at kept cells (slot cells set))) sets

-- the column's index leads from the cells to this place: that of the first pattern that the value of its cell matches
pub record IsInColumn (column : ColumnIndex) (cells : List (Option Value)) (at : ℕ) : Type 0 where
  pub value : Value
  pub entries : List Entry
  pub cell : cell_at cells column.column ≡ Some value
  pub answers : Answers column.patterns entries
  pub first : first_place value entries ≡ Some at

-- a number that a column's index leads to: that of the punctuation at the place, where this covers the cells
pub record IsOfColumn (kept : List NumberedPunct) (cells : List (Option Value)) (column : ColumnIndex) (number : Option ℕ) : Type 0 where
  pub sound : (n : ℕ) → number ≡ Some n → IsCovering kept cells n
  pub leads : (at : ℕ) → IsInColumn column cells at → number ≡ number_at kept cells at

-- the least of a number and those that the columns' indexes lead to
abbrev pub IsLeastOfColumns : List NumberedPunct → List (Option Value) → Option ℕ → List ColumnIndex → Option ℕ → Type 0
IsLeastOfColumns kept cells best [] result = result ≡ best
IsLeastOfColumns kept cells best (column ∷ columns) result = (n : Option ℕ) × IsOfColumn kept cells column n × IsLeastOfColumns kept cells (least best n) columns result

-- ---- the form of a punctuation

abbrev pub is_constant : Pattern → Bool
is_constant Wild = false
is_constant Empty = false
is_constant (Constant c) = true
is_constant (Range low high) = false
is_constant (Members ms) = false

-- a constant exactly where it is marked
abbrev pub fits_mark : Bool → Pattern → Bool
fits_mark false p = not (is_constant p)
fits_mark true p = is_constant p

-- constants in exactly the marked columns
abbrev pub fits_marks : List Bool → List Pattern → Bool
fits_marks [] [] = true
fits_marks [] (p ∷ ps) = false
fits_marks (mark ∷ marks) [] = false
fits_marks (mark ∷ marks) (p ∷ ps) = fits_mark mark p && fits_marks marks ps

-- so many patterns: this one in this column, and wildcards elsewhere
abbrev pub filled : ℕ → ℕ → Pattern → List Pattern
filled zero column p = []
filled (suc arity) zero p = p ∷ all_wild arity
filled (suc arity) (suc column) p = Wild ∷ filled arity column p

-- this column alone has no wildcard
pub record IsFilled (patterns : List Pattern) (column : ℕ) : Type 0 where
  pub within : column < length patterns
  pub not_wild : (d : Pattern) → is_wild (slice_index_or patterns column d) ≡ false
  pub filled_is : (d : Pattern) → patterns ≡ filled (length patterns) column (slice_index_or patterns column d)

-- ---- the index of a list of punctuations

-- the place is one of those that these sets lead to
abbrev pub InSets : List (Option Value) → ℕ → List ShapeSet → Type 0
InSets cells at [] = ⊥
InSets cells at (set ∷ sets) = In at (slot cells set) ⊎ InSets cells at sets

abbrev pub InColumns : List (Option Value) → ℕ → List ColumnIndex → Type 0
InColumns cells at [] = ⊥
InColumns cells at (column ∷ columns) = IsInColumn column cells at ⊎ InColumns cells at columns

-- the index leads from the cells to this place
abbrev pub IsLedTo : Index → List (Option Value) → ℕ → Type 0
IsLedTo index cells at = InSets cells at index.sets.items ⊎ (InColumns cells at index.columns.items ⊎ In at index.rest)

-- the punctuation at this place has no greater number, and covers the cells
pub record IsAtLeastAt (kept : List NumberedPunct) (number at : ℕ) (cells : List (Option Value)) : Type 0 where
  pub punct : NumberedPunct
  pub there : slice_get kept at ≡ Some punct
  pub number_is : punct.number ≤ number
  pub covers_too : covers punct.punct cells ≡ true

-- from all cells that the punctuation covers the index leads to one that does it too, and is no later
abbrev pub IsHeld : List NumberedPunct → Index → NumberedPunct → Type 0
IsHeld kept index k = (cells : List (Option Value)) → covers k.punct cells ≡ true → (at : ℕ) × IsLedTo index cells at × IsAtLeastAt kept k.number at cells

-- each place is below the count, and above the one before
abbrev pub ArePlaces : ℕ → ℕ → List ℕ → Type 0
ArePlaces from count [] = ⊤
ArePlaces from count (at ∷ ats) = (from ≤ at) × (at < count) × ArePlaces (at + 1) count ats

-- the punctuation at each place of the chain covers all cells that the one before covers
abbrev pub IsChain : List NumberedPunct → List ℕ → Type 0
IsChain kept places = (cells : List (Option Value)) (i n : ℕ) → i + 1 < length places → number_at kept cells (slice_index_or places i 0) ≡ Some n
    → (m : ℕ) × (number_at kept cells (slice_index_or places (i + 1) 0) ≡ Some m)

pub record IsChained (kept : List NumberedPunct) (places : List ℕ) : Type 0 where
  pub places_are : ArePlaces 0 (length kept) places
  pub grows : IsChain kept places

-- the places of each hash are a chain
abbrev pub AreChained : List NumberedPunct → ShapeSet → Type 0
AreChained kept set = (hash_value : ℕ) → IsChained kept (numbers_in (get nat_eq set.chains hash_value))

abbrev pub AreSetsChained : List NumberedPunct → List ShapeSet → Type 0
AreSetsChained kept [] = ⊤
AreSetsChained kept (set ∷ sets) = AreChained kept set × AreSetsChained kept sets

-- the punctuation at the entry's place has its pattern in this column, and wildcards elsewhere
pub record IsEntry (kept : List NumberedPunct) (arity column : ℕ) (entry : Entry) : Type 0 where
  pub punct : NumberedPunct
  pub there : slice_get kept entry.place ≡ Some punct
  pub alone : punct.punct ≡ filled arity column entry.pattern

abbrev pub AreEntries : List NumberedPunct → ℕ → ℕ → List Entry → Type 0
AreEntries kept arity column [] = ⊤
AreEntries kept arity column (entry ∷ entries) = IsEntry kept arity column entry × AreEntries kept arity column entries

pub record IsColumn (kept : List NumberedPunct) (column : ColumnIndex) : Type 0 where
  pub entries : List Entry
  pub answers : Answers column.patterns entries
  pub are : AreEntries kept column.arity column.column entries

abbrev pub AreColumns : List NumberedPunct → List ColumnIndex → Type 0
AreColumns kept [] = ⊤
AreColumns kept (column ∷ columns) = IsColumn kept column × AreColumns kept columns

abbrev pub AreHeld : List NumberedPunct → Index → Type 0
AreHeld kept index = (k : NumberedPunct) → In k kept → IsHeld kept index k

-- the index is that of these punctuations
pub record IsIndexed (kept : List NumberedPunct) (index : Index) : Type 0 where
  pub rising : AreRising kept
  pub held : AreHeld kept index
  pub chained : AreSetsChained kept index.sets.items
  pub columned : AreColumns kept index.columns.items
  pub others : ArePlaces 0 (length kept) index.rest

-- ---- one punctuation more, at the last place

-- the punctuation at this place covers the cells
pub record IsCoveredAt (kept : List NumberedPunct) (at : ℕ) (cells : List (Option Value)) : Type 0 where
  pub punct : NumberedPunct
  pub there : slice_get kept at ≡ Some punct
  pub covers_too : covers punct.punct cells ≡ true

-- from all cells that the punctuation at this place covers, the places of the second kind lead to one that does it too
abbrev pub AreLed : List NumberedPunct → ℕ → (List (Option Value) → ℕ → Type 0) → Type 0
AreLed kept at leads =
    (k : NumberedPunct) (cells : List (Option Value)) → slice_get kept at ≡ Some k → covers k.punct cells ≡ true
    → (a : ℕ) × leads cells a × IsCoveredAt kept a cells

-- what the first leads to the second leads to
abbrev pub Grows : (List (Option Value) → ℕ → Type 0) → (List (Option Value) → ℕ → Type 0) → Type 0
Grows old new = (cells : List (Option Value)) (a : ℕ) → old cells a → new cells a

abbrev pub IsIn : List ℕ → List (Option Value) → ℕ → Type 0
IsIn places cells at = In at places

abbrev pub IsInSlot : ShapeSet → List (Option Value) → ℕ → Type 0
IsInSlot set cells at = In at (slot cells set)

abbrev pub IsInSets : List ShapeSet → List (Option Value) → ℕ → Type 0
IsInSets sets cells at = InSets cells at sets

abbrev pub IsInColumns : List ColumnIndex → List (Option Value) → ℕ → Type 0
IsInColumns columns cells at = InColumns cells at columns

-- the patterns at this place fit the marks
abbrev pub FitsAt : List NumberedPunct → ℕ → List Bool → Type 0
FitsAt kept at marks = (k : NumberedPunct) → slice_get kept at ≡ Some k → fits_marks marks k.punct ≡ true

-- this set has the marks of the patterns
pub record IsSetFor (sets : List ShapeSet) (patterns : List Pattern) (at : ℕ) : Type 0 where
  pub within : at < length sets
  pub fits : (d : ShapeSet) → fits_marks (slice_index_or sets at d).marks patterns ≡ true

abbrev pub covers_in : Option NumberedPunct → List Pattern → Bool
covers_in None patterns = false
covers_in (Some k) patterns = covers_punct k.punct patterns

abbrev pub covered_in : Option NumberedPunct → List Pattern → Bool
covered_in None patterns = false
covered_in (Some k) patterns = covers_punct patterns k.punct

-- the chain took the punctuation in
pub record ChainGrew (kept : List NumberedPunct) (at : ℕ) (old new : List ℕ) : Type 0 where
  pub grow : (a : ℕ) → In a old → In a new
  pub leads : AreLed kept at (IsIn new)
  pub chained : (ks : List NumberedPunct) (k : NumberedPunct) → kept ≡ ks ++ k ∷ [] → IsChained ks old → IsChained kept new

-- whether it did
abbrev pub ChainTakes : List NumberedPunct → ℕ → List ℕ → List ℕ → Bool → Type 0
ChainTakes kept at old new false = new ≡ old
ChainTakes kept at old new true = ChainGrew kept at old new

-- the set leads to where it led
pub record SetStays (old new : ShapeSet) : Type 0 where
  pub marks : new.marks ≡ old.marks
  pub same : (hash_value : ℕ) → numbers_in (get nat_eq new.chains hash_value) ≡ numbers_in (get nat_eq old.chains hash_value)

-- the set took the punctuation in
pub record SetGrew (kept : List NumberedPunct) (at : ℕ) (old new : ShapeSet) : Type 0 where
  pub grow : Grows (IsInSlot old) (IsInSlot new)
  pub leads : AreLed kept at (IsInSlot new)
  pub chained : (ks : List NumberedPunct) (k : NumberedPunct) → kept ≡ ks ++ k ∷ [] → AreChained ks old → AreChained kept new

abbrev pub SetTakes : List NumberedPunct → ℕ → ShapeSet → ShapeSet → Bool → Type 0
SetTakes kept at old new false = SetStays old new
SetTakes kept at old new true = SetGrew kept at old new

-- the sets lead to where they led
pub record SetsStay (old new : List ShapeSet) : Type 0 where
  pub grow : Grows (IsInSets old) (IsInSets new)
  pub chained : (ks : List NumberedPunct) → AreSetsChained ks old → AreSetsChained ks new

-- the sets took the punctuation in
pub record SetsGrew (kept : List NumberedPunct) (at : ℕ) (old new : List ShapeSet) : Type 0 where
  pub grow : Grows (IsInSets old) (IsInSets new)
  pub leads : AreLed kept at (IsInSets new)
  pub chained : (ks : List NumberedPunct) (k : NumberedPunct) → kept ≡ ks ++ k ∷ [] → AreSetsChained ks old → AreSetsChained kept new

abbrev pub SetsTake : List NumberedPunct → ℕ → List ShapeSet → List ShapeSet → Bool → Type 0
SetsTake kept at old new false = SetsStay old new
SetsTake kept at old new true = SetsGrew kept at old new

-- the place of a column's index for so many columns
pub record IsColumnFor (columns : List ColumnIndex) (arity column at : ℕ) : Type 0 where
  pub within : at < length columns
  pub arity_is : (d : ColumnIndex) → (slice_index_or columns at d).arity ≡ arity
  pub column_is : (d : ColumnIndex) → (slice_index_or columns at d).column ≡ column

-- the columns' indexes took the punctuation in
pub record ColumnsGrew (kept : List NumberedPunct) (at : ℕ) (old new : List ColumnIndex) : Type 0 where
  pub grow : Grows (IsInColumns old) (IsInColumns new)
  pub leads : (ks : List NumberedPunct) (k : NumberedPunct) → kept ≡ ks ++ k ∷ [] → AreColumns ks old → AreLed kept at (IsInColumns new)
  pub columned : (ks : List NumberedPunct) (k : NumberedPunct) → kept ≡ ks ++ k ∷ [] → AreColumns ks old → AreColumns kept new

abbrev pub ColumnsTake : List NumberedPunct → ℕ → List ColumnIndex → List ColumnIndex → Bool → Type 0
ColumnsTake kept at old new false = new ≡ old
ColumnsTake kept at old new true = ColumnsGrew kept at old new

-- they lead to where they led
pub record ColumnsStay (old new : List ColumnIndex) : Type 0 where
  pub grow : Grows (IsInColumns old) (IsInColumns new)
  pub columned : (ks : List NumberedPunct) → AreColumns ks old → AreColumns ks new

-- where the old index is that of all but the last, whose number is above theirs, the new one is that of all
abbrev pub IsFiled : List NumberedPunct → Index → Index → Type 0
IsFiled kept old new = (ks : List NumberedPunct) (k : NumberedPunct) → kept ≡ ks ++ k ∷ [] → IsAbove k.number ks → IsIndexed ks old → IsIndexed kept new

-- the new index is that of the same punctuations
abbrev pub IsUnfiled : Index → Index → Type 0
IsUnfiled old new = (ks : List NumberedPunct) → IsIndexed ks old → IsIndexed ks new
