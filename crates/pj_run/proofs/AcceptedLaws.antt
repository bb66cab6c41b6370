-- What is accepted of a file fits the columns and is lawful.
use Rattle.std.proofs.Common.{◌≡◌, ℕ, Bool, true, false, cond, inl, inr, List, [], ◌∷◌, ◌++◌, length, map, Option, Some, None, refl, subst}
use Rattle.std.specs.Prelude.{nat_lt}
use Rattle.pj_value.specs.declared.values.Value.{Value}
use Rattle.pj_value.specs.Lists.{In}
use Rattle.pj_shape.specs.declared.columns.Column.{Column}
use Rattle.pj_shape.specs.Columns.{domains_of}
use Rattle.pj_pattern.specs.Fitting.{row_fits, FitsDomains}
use Rattle.pj_pattern.specs.declared.element.Element.{Element}
use Rattle.pj_pattern.specs.declared.element.Element.TheVariants.{Punct}
use Rattle.pj_line.specs.Lines.{pieces, line_of}
use Rattle.pj_element.specs.declared.element.Read.{Read}
use Rattle.pj_element.specs.declared.element.Read.TheVariants.{Skip, Tuple as ReadTuple, Punct as ReadPunct, Bad}
use Rattle.pj_element.specs.declared.element.Reject.TheVariants.{TooLong}
use Rattle.pj_element.specs.Elements.{reading_of, reading_at}
use Rattle.pj_element.specs.Fitting.{FitsRead}
use Rattle.pj_element.specs.Runs.{closing}
use Rattle.pj_element.specs.Accepted.{tuple_fate, fate_behind, fates, with_taken, taken_of, closing_line, reads_of, fates_of}
use Rattle.pj_element.proofs.Fitting.{line_fits}
use Rattle.pj_element.proofs.Lawful.{lawful_behind}
use Rattle.pj_laws.specs.HistoryLaws.{AreAccepted}
use Rattle.pj_pattern.proofs.Lawful.{lawful_front}

-- ---- what is accepted fits the columns

piece_fits : (columns : List Column) (piece : List ℕ) → FitsRead columns (reading_at columns piece)
piece_fits columns piece = go (nat_lt 65536 (length piece))
  where
    go : (b : Bool) → FitsRead columns (cond b (Bad TooLong) (reading_of columns (line_of piece)))
    go true = tt
    go false = line_fits columns (line_of piece) (reading_of columns (line_of piece)) refl

tuple_taken : (columns : List Column) (row : List Value) (closed : Option ℕ) (es : List Element) (e : Element) → row_fits (domains_of columns) row ≡ true → (In e es → FitsDomains (domains_of columns) e)
    → In e (with_taken (tuple_fate row closed) es) → FitsDomains (domains_of columns) e
tuple_taken columns row None es e f later (inl is) = subst (FitsDomains (domains_of columns)) is f
tuple_taken columns row None es e f later (inr h) = later h
tuple_taken columns row (Some n) es e f later h = later h

line_taken : (columns : List Column) (earlier : List Read) (read : Read) (es : List Element) (e : Element) → FitsRead columns read → (In e es → FitsDomains (domains_of columns) e)
    → In e (with_taken (fate_behind earlier read) es) → FitsDomains (domains_of columns) e
line_taken columns earlier Skip es e f later h = later h
line_taken columns earlier (ReadTuple row) es e f later h = tuple_taken columns row (closing_line 1 earlier row) es e f later h
line_taken columns earlier (ReadPunct punct) es e f later (inl is) = subst (FitsDomains (domains_of columns)) is f
line_taken columns earlier (ReadPunct punct) es e f later (inr h) = later h
line_taken columns earlier (Bad why) es e f later h = later h

taken_fit : (columns : List Column) (earlier : List Read) (ps : List (List ℕ)) (e : Element) → In e (taken_of (fates earlier (map (reading_at columns) ps))) → FitsDomains (domains_of columns) e
taken_fit columns earlier [] e h = absurd h
taken_fit columns earlier (p ∷ ps) e h =
    let behind : List Read = earlier ++ reading_at columns p ∷ [] in
    line_taken columns earlier (reading_at columns p) (taken_of (fates behind (map (reading_at columns) ps))) e (piece_fits columns p) (taken_fit columns behind ps e) h

-- ---- a front of lawful elements is lawful

-- ---- both

pub accepted_file : (columns : List Column) (bytes : List ℕ) → AreAccepted columns (taken_of (fates_of columns bytes))
accepted_file columns bytes = (
  taken_fit columns [] (pieces bytes),
  lawful_front (taken_of (fates_of columns bytes)) (Punct (closing columns) ∷ []) (lawful_behind (closing columns) [] (reads_of columns bytes)),
)
