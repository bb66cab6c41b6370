-- Which stored tuples of an input a sweep has to judge.
pub use Rattle.pj_cover.specs.Asking.{AsksStill}
pub use Rattle.pj_recheck.specs.declared.marks.DueRechecks.{DueRechecks}
pub use Rattle.pj_recheck.specs.declared.marks.SweepResult.{SweepResult}
use Rattle.std.specs.BTreeSet.{BTreeSet, contains}
use Rattle.std.specs.Option.{option_map}
use Rattle.std.specs.Ordering.{nat_cmp}
use Rattle.std.specs.Prelude.{ℕ, zero, suc, ◌<◌, ◌≤◌, ◌≡◌, ◌==◌, if◌then◌else◌, Bool, true, false, not, nat_lt, ◌&&◌, ◌||◌, List, [], ◌∷◌, ◌++◌, Option, Some, None, filter, flat_map, length, slice_get, slice_index_or}
use Rattle.pj_value.specs.declared.values.Value.{Value}
use Rattle.pj_value.specs.Options.{is_value}
use Rattle.pj_state.specs.declared.shared.Stored.{Stored}
use Rattle.pj_state.specs.States.{StateView, row_under, stored, tickets_of}
use Rattle.pj_cover.specs.Asking.{IsAsked, Known, entries, first_class, known_of}
use Rattle.pj_cover.specs.declared.ripeness.Verdict.{Verdict}
use Rattle.pj_cover.specs.declared.ripeness.Verdict.TheVariants.{Ripe, Open, Lagging}
use Rattle.pj_events.specs.Patterns.{Pattern, covers, is_wild}
use Rattle.pj_events.specs.Join.{CertEntry, ClassCol, Demand, In, JoinData, PunctAt, TupleAt, agree, cert_of, constant, covered, has, instance_from, value_at}
use Rattle.pj_recheck.specs.Judging.{JudgeView, ripe_at, rows_at}
use Rattle.pj_rows.specs.Tuples.{row_pairs, state_at, tuple_in, under_with}
use Rattle.pj_recheck.specs.declared.routes.Pair.{Pair}
use Rattle.pj_rows.specs.Finding.{is_match}

abbrev pub none_due : DueRechecks
none_due = record { from = 0; marked = [] }

abbrev pub watches_at : List DueRechecks → ℕ → DueRechecks
watches_at ws input = slice_index_or ws input none_due

-- the tuple with this ticket was judged, and is not marked: it is passed over
abbrev pub is_passed : DueRechecks → ℕ → Bool
is_passed w ticket = nat_lt ticket w.from && not (has w.marked ticket)

abbrev pub known : List (List ClassCol) → List TupleAt → List PunctAt → ℕ → Known
known classes stored puncts low = record { classes = classes; stored = stored; puncts = puncts; low = low }

-- ---- what a punctuation marks

-- no row more is passed over
pub record IsFewer (old new : DueRechecks) : Type 0 where
  pub from : new.from ≤ old.from
  pub passed : (ticket : ℕ) → is_passed new ticket ≡ true → is_passed old ticket ≡ true

-- an input and its stored rows
pub record SideView : Type 0 where
  pub input : ℕ
  pub state : StateView

abbrev pub side_at : List StateView → ℕ → SideView
side_at row_states input = record { input = input; state = state_at row_states input }

-- a punctuation that comes: its input and its patterns
pub record PunctView : Type 0 where
  pub input : ℕ
  pub patterns : List Pattern

-- the same with its ticket
abbrev pub come_at : PunctView → ℕ → PunctAt
come_at c ticket = record { ticket = ticket; input = c.input; patterns = c.patterns }

-- the tuples stand in these states
abbrev pub AreStored : List StateView → List TupleAt → Type 0
AreStored row_states ys = (y : TupleAt) → In y ys → (t : Stored) × In t (state_at row_states y.input).rows × (tuple_in y.input t ≡ y)

-- whatever its ticket, the punctuation covers nothing that a row asks for, through whatever rows, that is passed over
abbrev pub AreLeftAt : JoinData → List StateView → PunctView → DueRechecks → ℕ → Type 0
AreLeftAt spec row_states c w input =
    (ticket : ℕ) (s : Stored) → In s (state_at row_states input).rows → is_passed w s.ticket ≡ true → (rows : List TupleAt) (asks : Demand) → AreStored row_states rows
    → IsAsked spec.shape.classes (cert_of spec input) rows (tuple_in input s ∷ []) asks → covered (come_at c ticket ∷ []) asks ≡ false

-- the same of the first so many inputs
abbrev pub AreLeft : JoinData → List StateView → PunctView → List DueRechecks → ℕ → Type 0
AreLeft spec row_states c ws count = (input : ℕ) → input < count → AreLeftAt spec row_states c (watches_at ws input) input

-- the same, but of what one of these punctuations covers
abbrev pub AreLeftBeside : JoinData → List StateView → List PunctAt → PunctView → List DueRechecks → ℕ → Type 0
AreLeftBeside spec row_states puncts c ws count =
    (input : ℕ) → input < count → (ticket : ℕ) (s : Stored) → In s (state_at row_states input).rows → is_passed (watches_at ws input) s.ticket ≡ true → (rows : List TupleAt) (asks : Demand) → AreStored row_states rows
    → IsAsked spec.shape.classes (cert_of spec input) rows (tuple_in input s ∷ []) asks → covered puncts asks ≡ false → covered (come_at c ticket ∷ []) asks ≡ false

-- of no input are more rows passed over
pub record AreFewer (old new : List DueRechecks) : Type 0 where
  pub count : length new ≡ length old
  pub each : (input : ℕ) → IsFewer (watches_at old input) (watches_at new input)

-- the first column of the input in a class
abbrev pub first_column : List ClassCol → ℕ → Option ℕ
first_column [] input = None
first_column (at ∷ class) input = if at.input == input then Some at.column else first_column class input

-- the value of each class in these tuples is the one that this tuple has in the class's first column of its input
abbrev pub Tells : List (List ClassCol) → List TupleAt → TupleAt → Type 0
Tells classes xs z =
    (at : ClassCol) (own : ℕ) → first_column (first_class classes at) z.input ≡ Some own → constant (first_class classes at) xs ≡ value_at z.row own

-- a punctuation of an input, and what tuples ask for of this input: by a scheme's marks, with the values of these classes
pub record CoverageView : Type 0 where
  pub classes : List (List ClassCol)
  pub input : ℕ
  pub marks : List Bool
  pub patterns : List Pattern

-- whether the punctuation covers what these tuples ask for
abbrev pub is_met : CoverageView → List TupleAt → Bool
is_met c xs = covers c.patterns (instance_from c.classes c.input 0 c.marks xs)

-- there is a pattern for each mark, and a wildcard for each column that is not marked
abbrev pub is_wild_elsewhere : List Bool → List Pattern → Bool
is_wild_elsewhere [] [] = true
is_wild_elsewhere [] (p ∷ patterns) = false
is_wild_elsewhere (mark ∷ marks) [] = false
is_wild_elsewhere (mark ∷ marks) (p ∷ patterns) = (mark || is_wild p) && is_wild_elsewhere marks patterns

-- the column is indexed, and the punctuation covers what tuples ask for whose values a row tells only where it has this value there
abbrev pub IsKey : SideView → CoverageView → ℕ → Value → Type 0
IsKey side c column value =
    In column side.state.columns
    × ((z : TupleAt) (xs : List TupleAt) → Tells c.classes xs z → z.input ≡ side.input → column < length z.row → is_value value (slice_get z.row column) ≡ false → is_met c xs ≡ false)

-- the punctuation covers what tuples ask for whose values a row tells only where this pattern matches its value in this column
abbrev pub Limits : SideView → CoverageView → ℕ → Pattern → Type 0
Limits side c column pattern =
    (z : TupleAt) (xs : List TupleAt) → Tells c.classes xs z → z.input ≡ side.input → column < length z.row → is_match pattern (slice_get z.row column) ≡ false → is_met c xs ≡ false

-- ---- rows that join with one of another input

-- tuples of both inputs that join have one value in these columns
abbrev pub IsPair : List (List ClassCol) → ℕ → ℕ → Pair → Type 0
IsPair classes input other pair =
    (x y : TupleAt) → x.input ≡ input → y.input ≡ other → agree classes (y ∷ x ∷ []) ≡ true → value_at x.row pair.mine ≡ value_at y.row pair.theirs

-- no row with one of these tickets is passed over
abbrev pub AreMarked : List ℕ → DueRechecks → Type 0
AreMarked tickets w = (t : ℕ) → In t tickets → is_passed w t ≡ false

-- these are the tickets of all rows that have one value in these columns with a row of these other tickets
abbrev pub HavePartners : List Stored → List Stored → Pair → List ℕ → List ℕ → Type 0
HavePartners rows others pair tickets found =
    (s t : Stored) → In s rows → In t others → In t.ticket tickets → value_at s.row pair.mine ≡ value_at t.row pair.theirs → In s.ticket found

-- each row whose ticket was seen, and each that has one value with it in this column, has its ticket among those found
abbrev pub AreWhole : List Stored → ℕ → BTreeSet ℕ → List ℕ → Type 0
AreWhole rows column seen found =
    (s t : Stored) → In s rows → In t rows → contains nat_cmp seen s.ticket ≡ true → value_at t.row column ≡ value_at s.row column → In t.ticket found

-- the rows of an input, and the certificate by which they ask
pub record PathView : Type 0 where
  pub classes : List (List ClassCol)
  pub cert : List CertEntry
  pub input : ℕ
  pub row_states : List StateView

-- the tuple is a row of the path's input, and asks for this through these rows
pub record AsksAlong (path : PathView) (x : TupleAt) (rows : List TupleAt) (asks : Demand) : Type 0 where
  pub own : x.input ≡ path.input
  pub stored : AreStored path.row_states (x ∷ rows)
  pub asked : IsAsked path.classes path.cert rows (x ∷ []) asks

-- an input, and the certificate by which its rows ask
pub record Asker : Type 0 where
  pub classes : List (List ClassCol)
  pub cert : List CertEntry
  pub input : ℕ

abbrev pub asker : PathView → Asker
asker path = record { classes = path.classes; cert = path.cert; input = path.input }

-- the input at a position: its own, and then those of the certificate
abbrev pub input_of : Asker → ℕ → Option ℕ
input_of a zero = Some a.input
input_of a (suc at) = option_map (λ (e : CertEntry). e.input) (slice_get a.cert at)

abbrev pub input_at : PathView → ℕ → Option ℕ
input_at path at = input_of (asker path) at

-- these are the tickets of all rows of the input that ask through one with such a ticket at this position of the path
abbrev pub LeadsBack : PathView → ℕ → List ℕ → List ℕ → Type 0
LeadsBack path at tickets found =
    (x : TupleAt) (rows : List TupleAt) (asks : Demand) → AsksAlong path x rows asks → (y : TupleAt) → slice_get (x ∷ rows) at ≡ Some y → In y.ticket tickets → In x.ticket found

-- these are the tickets of all rows at the position before, through which rows ask for one with such a ticket at this one
abbrev pub HopsBack : PathView → ℕ → ℕ → List ℕ → List ℕ → Type 0
HopsBack path at before tickets found =
    (x : TupleAt) (rows : List TupleAt) (asks : Demand) → AsksAlong path x rows asks → (y z : TupleAt) → slice_get (x ∷ rows) at ≡ Some y → slice_get (x ∷ rows) before ≡ Some z → In y.ticket tickets → In z.ticket found

-- these are the tickets of all rows of the input that ask by this entry for something that the punctuation covers
abbrev pub FindCovered : PathView → ℕ → CoverageView → List ℕ → Type 0
FindCovered path entry c found =
    (x : TupleAt) (rows : List TupleAt) (asks : Demand) → AsksAlong path x rows asks → length rows ≡ entry → covers c.patterns asks.instance ≡ true → In x.ticket found

-- whatever its ticket, the punctuation covers nothing that the path's rows ask for by this entry that are passed over
abbrev pub IsLeftBy : PathView → ℕ → PunctView → DueRechecks → Type 0
IsLeftBy path entry c w =
    (ticket : ℕ) (x : TupleAt) (rows : List TupleAt) (asks : Demand) → AsksAlong path x rows asks → length rows ≡ entry → is_passed w x.ticket ≡ true → covered (come_at c ticket ∷ []) asks ≡ false

-- the same of a punctuation of the entry's input
abbrev pub IsUnmet : PathView → ℕ → CoverageView → DueRechecks → Type 0
IsUnmet path entry c w = (x : TupleAt) (rows : List TupleAt) (asks : Demand) → AsksAlong path x rows asks → length rows ≡ entry → is_passed w x.ticket ≡ true → covers c.patterns asks.instance ≡ false

-- the coverage is of what is asked for by this entry
pub record IsOfEntry (path : PathView) (entry : ℕ) (c : CoverageView) : Type 0 where
  pub classes : c.classes ≡ path.classes
  pub entry_is : slice_get path.cert entry ≡ Some (record { input = c.input; marks = c.marks })

-- no row of the path's input that is passed over asks through one with such a ticket at this position
abbrev pub IsAsideAt : PathView → ℕ → List ℕ → DueRechecks → Type 0
IsAsideAt path at gone w =
    (x : TupleAt) (rows : List TupleAt) (asks : Demand) → AsksAlong path x rows asks → is_passed w x.ticket ≡ true → (y : TupleAt) → slice_get (x ∷ rows) at ≡ Some y → In y.ticket gone → ⊥

-- nor at any of the first so many positions, its own aside, that are of the other input
abbrev pub AreAside : PathView → ℕ → ℕ → List ℕ → DueRechecks → Type 0
AreAside path count other gone w = (at : ℕ) → 0 < at → at < count → input_at path at ≡ Some other → IsAsideAt path at gone w

-- no row of the input that is passed over asks through a row of the other one that goes
abbrev pub IsRousedAt : JoinData → List StateView → ℕ → List ℕ → DueRechecks → ℕ → Type 0
IsRousedAt spec row_states other gone w input =
    (s : Stored) → In s (state_at row_states input).rows → is_passed w s.ticket ≡ true → (rows : List TupleAt) (asks : Demand) → AreStored row_states rows
    → IsAsked spec.shape.classes (cert_of spec input) rows (tuple_in input s ∷ []) asks → (y : TupleAt) → In y rows → y.input ≡ other → In y.ticket gone → ⊥

-- the same of the first so many inputs
abbrev pub AreRoused : JoinData → List StateView → ℕ → List ℕ → List DueRechecks → ℕ → Type 0
AreRoused spec row_states other gone ws count = (input : ℕ) → input < count → IsRousedAt spec row_states other gone (watches_at ws input) input

-- ---- what a judge says

-- through rows below the low-water ticket the row asks for something that no punctuation covers
abbrev pub IsOpenAt : JudgeView → Stored → Type 0
IsOpenAt j s = AsksStill (known_of j.spec (row_pairs j.row_states) j.punct_stores j.low) (entries j.schemes j.cert) (tuple_in j.input s)

-- it is ripe; or it is not, and where it is below the low-water ticket asks for something that no punctuation covers; or it is
-- not ripe
abbrev pub IsVerdict : JudgeView → Stored → Verdict → Type 0
IsVerdict j s Ripe = ripe_at j s ≡ true
IsVerdict j s Open = (ripe_at j s ≡ false) × (s.ticket < j.low → IsOpenAt j s)
IsVerdict j s Lagging = ripe_at j s ≡ false

abbrev pub marked_by : Verdict → Bool
marked_by Ripe = false
marked_by Open = false
marked_by Lagging = true

-- the row of the input with this ticket, where it is ripe
abbrev pub picked : JudgeView → ℕ → List Stored
picked j ticket = filter (ripe_at j) (under_with ticket (row_under ticket (rows_at j)))

abbrev pub all_picked : JudgeView → List ℕ → List Stored
all_picked j tickets = flat_map (picked j) tickets

-- the row is ripe, or marked, or asks for something that no punctuation covers
abbrev pub IsLookedAt : JudgeView → List ℕ → Stored → Type 0
IsLookedAt j marked s = s.ticket < j.low → ripe_at j s ≡ false → has marked s.ticket ≡ false → IsOpenAt j s

-- the row with this ticket was judged
pub record IsOneJudged (j : JudgeView) (ticket : ℕ) (old new : SweepResult) : Type 0 where
  pub gone : new.gone ≡ old.gone ++ tickets_of (picked j ticket)
  pub more : (m : ℕ) → has new.marked m ≡ false → has old.marked m ≡ false
  pub looked : (row : List Value) → Some row ≡ row_under ticket (rows_at j) → IsLookedAt j new.marked (stored ticket row)

-- the rows with these tickets were
pub record AreJudged (j : JudgeView) (tickets : List ℕ) (judged : SweepResult) : Type 0 where
  pub gone : judged.gone ≡ tickets_of (all_picked j tickets)
  pub looked : (t : ℕ) → In t tickets → (row : List Value) → Some row ≡ row_under t (rows_at j) → IsLookedAt j judged.marked (stored t row)

-- these have the tickets of all rows from one ticket on and below another
abbrev pub HaveBetween : List Stored → ℕ → ℕ → List ℕ → Type 0
HaveBetween rows from low tickets = (s : Stored) → In s rows → from ≤ s.ticket → s.ticket < low → In s.ticket tickets

-- these have the tickets of all rows below the low-water ticket that are not passed over
abbrev pub HaveDue : List Stored → DueRechecks → ℕ → List ℕ → Type 0
HaveDue rows w low tickets = (s : Stored) → In s rows → is_passed w s.ticket ≡ false → s.ticket < low → In s.ticket tickets

-- no row that is passed over is ripe
abbrev pub NoneIsRipe : JudgeView → DueRechecks → Type 0
NoneIsRipe j w = (s : Stored) → In s (rows_at j) → is_passed w s.ticket ≡ true → ripe_at j s ≡ false

-- each other row was judged
abbrev pub AreLookedAt : JudgeView → DueRechecks → List ℕ → Type 0
AreLookedAt j w marked = (s : Stored) → In s (rows_at j) → is_passed w s.ticket ≡ false → IsLookedAt j marked s
