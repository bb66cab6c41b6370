-- What lines say, and how much the rows among what is accepted weigh.
use Rattle.std.proofs.Common.{ℕ, ◌+◌, ◌-◌, ◌≤◌, ◌≡◌, ◌==◌, Bool, true, false, cond, inl, inr, nat_lt, List, [], ◌∷◌, ◌++◌, Option, Some, None, length, map, refl, ap, ◌∙◌, append_assoc, append-nil, arith}
use Rattle.std.specs.Prelude.{slice_index}
use Rattle.std.specs.List.{All}
use Rattle.std.proofs.lemmas.Bool.Decides.{nat_tests}
use Rattle.pj_value.specs.declared.values.Value.{Value}
use Rattle.pj_value.specs.Bags.{weigh}
use Rattle.pj_value.specs.Laws.{IsPrintable}
use Rattle.pj_value.specs.Lists.{In}
use Rattle.pj_shape.specs.declared.columns.Column.{Column}
use Rattle.pj_shape.specs.Columns.{domains_of}
use Rattle.pj_shape.proofs.DomainsOf.{domains_length}
use Rattle.pj_pattern.specs.Elements.{rows_of}
use Rattle.pj_pattern.proofs.Fitting.{row_length}
use Rattle.pj_line.specs.Lines.{HasNo, line_of, pieces}
use Rattle.pj_line.proofs.PieceLaws.{fed_piece_is_first}
use Rattle.pj_element.specs.declared.element.Read.{Read}
use Rattle.pj_element.specs.declared.element.Read.TheVariants.{Skip, Tuple, Punct, Bad}
use Rattle.pj_element.specs.declared.element.Reject.TheVariants.{TooLong}
use Rattle.pj_element.specs.Accepted.{closing_line, fates, fates_of, reads_of, taken_of, tuple_fate, with_taken}
use Rattle.pj_element.specs.Elements.{reading_at, reading_of}
use Rattle.pj_element.specs.Fitting.{FitsRead}
use Rattle.pj_element.proofs.Fitting.{line_fits}

-- ---- the rows that lines say

abbrev pub row_said : (List Value → ℕ) → Read → ℕ
row_said f Skip = 0
row_said f (Tuple row) = f row
row_said f (Punct punct) = 0
row_said f (Bad why) = 0

-- so much do the rows weigh that these bytes say
abbrev pub rows_said : (List Value → ℕ) → List Column → List ℕ → ℕ
rows_said f columns bytes = weigh (row_said f) (reads_of columns bytes)

-- a tuple is taken or not
taken_or_not : (f : List Value → ℕ) (row : List Value) (closing : Option ℕ) (es : _) → weigh f (rows_of (with_taken (tuple_fate row closing) es)) ≤ f row + weigh f (rows_of es)
taken_or_not f row None es = omega arith
taken_or_not f row (Some line) es = omega arith

taken_among : (f : List Value → ℕ) (earlier reads : List Read) → weigh f (rows_of (taken_of (fates earlier reads))) ≤ weigh (row_said f) reads
taken_among f earlier [] = omega arith
taken_among f earlier (Skip ∷ reads) = omega (arith, taken_among f (earlier ++ Skip ∷ []) reads)
taken_among f earlier (Tuple row ∷ reads) =
    omega (arith, taken_among f (earlier ++ Tuple row ∷ []) reads, taken_or_not f row (closing_line 1 earlier row) (taken_of (fates (earlier ++ Tuple row ∷ []) reads)))
taken_among f earlier (Punct punct ∷ reads) = omega (arith, taken_among f (earlier ++ Punct punct ∷ []) reads)
taken_among f earlier (Bad why ∷ reads) = omega (arith, taken_among f (earlier ++ Bad why ∷ []) reads)

-- whatever rows weigh: those that are accepted weigh no more than those that are said
pub accepted_among : (f : List Value → ℕ) (columns : List Column) (bytes : List ℕ) → weigh f (rows_of (taken_of (fates_of columns bytes))) ≤ rows_said f columns bytes
accepted_among f columns bytes = taken_among f [] (reads_of columns bytes)

-- what is in a list weighs no more than the list
pub weighs_within : {A : Type 0} (f : A → ℕ) (x : A) (xs : List A) → In x xs → f x ≤ weigh f xs
weighs_within f x [] h = absurd h
weighs_within f x (y ∷ xs) (inl e) = omega (arith, ap f e)
weighs_within f x (y ∷ xs) (inr h) = omega (arith, weighs_within f x xs h)

-- ---- how many cells a row has

-- nothing for a row of so many cells, and something for every other
abbrev off_width : ℕ → List Value → ℕ
off_width width row = (length row - width) + (width - length row)

read_width : (columns : List Column) (read : Read) → FitsRead columns read → row_said (off_width (length columns)) read ≡ 0
read_width columns Skip fits = refl
read_width columns (Tuple row) fits = omega (arith, row_length (domains_of columns) row fits, domains_length columns)
read_width columns (Punct punct) fits = refl
read_width columns (Bad why) fits = refl

piece_width : (columns : List Column) (piece : List ℕ) → row_said (off_width (length columns)) (reading_at columns piece) ≡ 0
piece_width columns piece = go (nat_lt 65536 (length piece))
  where
    go : (b : Bool) → row_said (off_width (length columns)) (cond b (Bad TooLong) (reading_of columns (line_of piece))) ≡ 0
    go true = refl
    go false = read_width columns (reading_of columns (line_of piece)) (line_fits columns (line_of piece) (reading_of columns (line_of piece)) refl)

pieces_width : (columns : List Column) (ps : List (List ℕ)) → weigh (row_said (off_width (length columns))) (map (reading_at columns) ps) ≡ 0
pieces_width columns [] = refl
pieces_width columns (piece ∷ ps) = omega (arith, piece_width columns piece, pieces_width columns ps)

-- a row that is accepted has a cell for each column
pub accepted_width : (columns : List Column) (bytes : List ℕ) (row : List Value) → In row (rows_of (taken_of (fates_of columns bytes))) → length row ≡ length columns
accepted_width columns bytes row h =
    let off : off_width (length columns) row ≤ weigh (off_width (length columns)) (rows_of (taken_of (fates_of columns bytes))) = weighs_within (off_width (length columns)) row (rows_of (taken_of (fates_of columns bytes))) h in
    omega (arith, off, accepted_among (off_width (length columns)) columns bytes, pieces_width columns (pieces bytes))

-- ---- one line

-- a short line without control bytes is read whole
pub read_whole : (columns : List Column) (line : List ℕ) → All IsPrintable line → length line ≤ 65536 → reading_at columns line ≡ reading_of columns line
read_whole columns [] all short = refl
read_whole columns (b ∷ bs) all short =
    let last = all (length (b ∷ bs) - 1) 0 (omega arith) in
    let brief : nat_lt 65536 (length (b ∷ bs)) ≡ false = grind (arith, nat_tests, short) in
    let ends : (slice_index (b ∷ bs) (length (b ∷ bs) - 1) == 13) ≡ false = grind (arith, nat_tests, last.0) in
    rw (brief, ends) refl

-- ---- many lines

-- whatever comes behind these bytes, they say rows that weigh so much at most
abbrev pub SayAtMost : (List Value → ℕ) → List Column → List ℕ → ℕ → Type 0
SayAtMost f columns bytes most = (more : List ℕ) → rows_said f columns (bytes ++ more) ≤ most + rows_said f columns more

pub nothing_said : (f : List Value → ℕ) (columns : List Column) → SayAtMost f columns [] 0
nothing_said f columns more = omega arith

pub both_said : (f : List Value → ℕ) (columns : List Column) (first second : List ℕ) (m n most : ℕ) → m + n ≤ most → SayAtMost f columns first m → SayAtMost f columns second n → SayAtMost f columns (first ++ second) most
both_said f columns first second m n most le one other more =
    let parts : rows_said f columns ((first ++ second) ++ more) ≡ rows_said f columns (first ++ (second ++ more)) = ap (rows_said f columns) (append_assoc first second more) in
    omega (arith, le, parts, one (second ++ more), other more)

pub line_said : (f : List Value → ℕ) (columns : List Column) (line : List ℕ) (read : Read) → HasNo 10 line → reading_at columns line ≡ read → SayAtMost f columns (line ++ 10 ∷ []) (row_said f read)
line_said f columns line read none is more =
    let first : rows_said f columns ((line ++ 10 ∷ []) ++ more) ≡ row_said f (reading_at columns line) + rows_said f columns more =
    ap (rows_said f columns) (append_assoc line (10 ∷ []) more) ∙ ap (λ (ps : List (List ℕ)). weigh (row_said f) (map (reading_at columns) ps)) (fed_piece_is_first line more none) in
    omega (arith, first, ap (row_said f) is)

pub all_said : (f : List Value → ℕ) (columns : List Column) (bytes : List ℕ) (most : ℕ) → SayAtMost f columns bytes most → rows_said f columns bytes ≤ most
all_said f columns bytes most say = omega (arith, say [], ap (rows_said f columns) (append-nil bytes))
