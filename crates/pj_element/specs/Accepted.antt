-- Which lines of a stream's file are accepted, by their positions alone. Lines are numbered from 1.
use Rattle.std.specs.Prelude.{◌≡◌, ◌<◌, ℕ, ◌+◌, Bool, true, false, List, [], ◌∷◌, ◌++◌, map, take, length, Option, Some, None, if◌then◌else◌, slice_get}
use Rattle.pj_value.specs.declared.values.Value.{Value}
use Rattle.pj_shape.specs.declared.columns.Column.{Column}
use Rattle.pj_element.specs.declared.element.Read.{Read}
use Rattle.pj_element.specs.declared.element.Read.TheVariants.{Skip, Tuple, Punct, Bad}
use Rattle.pj_element.specs.declared.element.Reject.{Reject}
use Rattle.pj_element.specs.declared.element.Reject.TheVariants.{Closed}
use Rattle.pj_pattern.specs.declared.element.Element.{Element}
use Rattle.pj_pattern.specs.declared.element.Element.TheVariants.{Tuple as AcceptedTuple, Punct as AcceptedPunct}
use Rattle.pj_element.specs.declared.tally.Tally.{Tally}
use Rattle.pj_line.specs.Lines.{pieces}
use Rattle.pj_pattern.specs.Columns.{matches_row}
use Rattle.pj_element.specs.Elements.{reading_at}
use Rattle.pj_element.specs.Runs.{rows_of, puncts_of, closing}

-- the line has a punctuation that the row matches
abbrev pub closes : Read → List Value → Bool
closes Skip row = false
closes (Tuple other) row = false
closes (Punct punct) row = matches_row punct row
closes (Bad why) row = false

-- the number of the first of these lines that closes the row, where the first of them has the number n
abbrev pub closing_line : ℕ → List Read → List Value → Option ℕ
closing_line n [] row = None
closing_line n (r ∷ rs) row = if closes r row then Some n else closing_line (n + 1) rs row

-- what becomes of a line
pub data Fate : Type 0 where
  Passed : Fate
  Taken : Element → Fate
  Refused : Reject → Fate

abbrev pub tuple_fate : List Value → Option ℕ → Fate
tuple_fate row None = Taken (AcceptedTuple row)
tuple_fate row (Some line) = Refused (Closed line)

-- what becomes of a line behind these: a punctuation is accepted, a tuple where no line before closes it
abbrev pub fate_behind : List Read → Read → Fate
fate_behind earlier Skip = Passed
fate_behind earlier (Tuple row) = tuple_fate row (closing_line 1 earlier row)
fate_behind earlier (Punct punct) = Taken (AcceptedPunct punct)
fate_behind earlier (Bad why) = Refused why

-- what becomes of each of these lines, which stand behind earlier ones
abbrev pub fates : List Read → List Read → List Fate
fates earlier [] = []
fates earlier (r ∷ rs) = fate_behind earlier r ∷ fates (earlier ++ r ∷ []) rs

abbrev pub with_taken : Fate → List Element → List Element
with_taken Passed es = es
with_taken (Taken e) es = e ∷ es
with_taken (Refused why) es = es

-- the elements that were accepted
abbrev pub taken_of : List Fate → List Element
taken_of [] = []
taken_of (f ∷ fs) = with_taken f (taken_of fs)

abbrev pub with_refused : ℕ → Fate → List (ℕ × Reject) → List (ℕ × Reject)
with_refused n Passed rejects = rejects
with_refused n (Taken e) rejects = rejects
with_refused n (Refused why) rejects = (n, why) ∷ rejects

-- the rejects with the numbers of their lines, where the first line has the number n
abbrev pub rejects_of : ℕ → List Fate → List (ℕ × Reject)
rejects_of n [] = []
rejects_of n (f ∷ fs) = with_refused n f (rejects_of (n + 1) fs)

-- the counts of a stream, and its first 1,000 rejects
abbrev pub tally_of : List Fate → Tally
tally_of fs = record {
  tuples = length (rows_of (taken_of fs));
  puncts = length (puncts_of (taken_of fs));
  rejected = length (rejects_of 1 fs);
  listed = take 1000 (rejects_of 1 fs);
}

-- the tuple on line m, counted from 0, is refused because the line of this number, counted from 1, closes it
abbrev pub IsRefusedFor : List Read → ℕ → ℕ → Type 0
IsRefusedFor reads m line = slice_get (fates [] reads) m ≡ Some (Refused (Closed line))

-- what the lines of a file say
abbrev pub reads_of : List Column → List ℕ → List Read
reads_of columns bytes = map (reading_at columns) (pieces bytes)

-- what becomes of the lines of a file
abbrev pub fates_of : List Column → List ℕ → List Fate
fates_of columns bytes = fates [] (reads_of columns bytes)

-- the accepted elements of a file in order, and the closing punctuation
abbrev pub accepted_elements : List Column → List ℕ → List Element
accepted_elements columns bytes = taken_of (fates_of columns bytes) ++ AcceptedPunct (closing columns) ∷ []

-- Line n, counted from 0, closes the tuple on line m, and no line before n does
pub record ClosedBy (reads : List Read) (m n : ℕ) (row : List Value) : Type 0 where
  pub tuple : slice_get reads m ≡ Some (Tuple row)
  pub before : n < m
  pub closing_read : Read
  pub reads_so : slice_get reads n ≡ Some closing_read
  pub closed : closes closing_read row ≡ true
  pub first : (k : ℕ) → k < n → (r : Read) → slice_get reads k ≡ Some r → closes r row ≡ false

-- Line n, counted from 0, is accepted: it has a punctuation, or a tuple that no line before it closes
abbrev pub IsAccepted : List Read → ℕ → Element → Type 0
IsAccepted reads n (AcceptedPunct punct) = slice_get reads n ≡ Some (Punct punct)
IsAccepted reads n (AcceptedTuple row) =
    (slice_get reads n ≡ Some (Tuple row)) × ((k : ℕ) → k < n → (r : Read) → slice_get reads k ≡ Some r → closes r row ≡ false)
