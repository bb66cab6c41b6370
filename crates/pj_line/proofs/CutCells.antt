-- The loop that cuts a line.
use Rattle.std.proofs.Common.{◌≡◌, ◌≢◌, ℕ, ◌+◌, ◌-◌, ◌<◌, ◌≤◌, false, get_or, List, [], ◌∷◌, ◌++◌, length, take, drop, slice_range, Option, Some, None, Err, refl, ap, sym, ◌∙◌, subst, arith, length-append, append_assoc}
use Rattle.pj_value.specs.Options.{with_first, with_front}
use Rattle.pj_line.specs.declared.cell.Place.{Place}
use Rattle.std.proofs.lemmas.List.{drop-drop, get_or-drop, length-drop, length-take-le}
use Rattle.pj_line.specs.declared.quote.Quote.TheVariants.{Outside}
use Rattle.pj_line.specs.declared.cell.CellFault.{CellFault}
use Rattle.pj_line.specs.declared.cell.CellFault.TheVariants.{Unclosed, TooMany}
use Rattle.pj_line.specs.Cutting.{IsFault}
use Rattle.pj_line.specs.Places.{cell_at, cells_at}
use Rattle.pj_line.specs.Spans.{Span}
use Rattle.pj_line.proofs.CellPlaces.{cells_count, cells_more}
use Rattle.pj_line.specs.Lines.{is_blank}
use Rattle.pj_line.specs.Cells.{cells_from, cells_of, bytes_in, StandIn, AreCut}
use Rattle.pj_line.proofs.Cuts.{cell_first}

-- where the last cell ends
abbrev pub end_of : ℕ → List Span → ℕ
end_of from [] = from
end_of from (c ∷ cs) = end_of (c.start + length c.bytes) cs

-- these cells were cut, and the line from this place on is left
pub record CutTo (line : List ℕ) (cells : List Span) (from : ℕ) : Type 0 where
  pub within : from ≤ length line
  pub few : length cells ≤ 128
  pub cut : cells_of line ≡ with_front (bytes_in cells) (cells_of (drop from line))
  pub stand : StandIn line 0 cells
  pub ends : end_of 0 cells ≡ from

pub nothing_cut : (line : List ℕ) → CutTo line [] 0
nothing_cut line = record { within = omega arith; few = omega arith; cut = same (cells_of line); stand = tt; ends = refl }
  where
    same : (o : Option (List (List ℕ))) → o ≡ with_front [] o
    same None = refl
    same (Some cs) = refl

bytes_more : (cells : List Span) (c : Span) → bytes_in (cells ++ c ∷ []) ≡ bytes_in cells ++ c.bytes ∷ []
bytes_more [] c = refl
bytes_more (d ∷ cells) c = ap (λ (bs : List (List ℕ)). d.bytes ∷ bs) (bytes_more cells c)

pub bytes_count : (cells : List Span) → length (bytes_in cells) ≡ length cells
bytes_count [] = refl
bytes_count (c ∷ cells) = rw (bytes_count cells) refl

front_first : (front : List (List ℕ)) (c : List ℕ) (o : Option (List (List ℕ))) → with_front front (with_first c o) ≡ with_front (front ++ c ∷ []) o
front_first front c None = refl
front_first front c (Some cs) = ap Some (sym (append_assoc front (c ∷ []) cs))

stand_more : (line : List ℕ) (from : ℕ) (cells : List Span) (c : Span) → StandIn line from cells → end_of from cells ≤ c.start → take (length c.bytes) (drop c.start line) ≡ c.bytes → StandIn line from (cells ++ c ∷ [])
stand_more line from [] c stand le is = (le, is, tt)
stand_more line from (d ∷ cells) c stand le is = (stand.0, stand.1, stand_more line (d.start + length d.bytes) cells c stand.2 le is)

end_more : (from : ℕ) (cells : List Span) (c : Span) → end_of from (cells ++ c ∷ []) ≡ c.start + length c.bytes
end_more from [] c = refl
end_more from (d ∷ cells) c = end_more (d.start + length d.bytes) cells c

pub one_more_cell : (line : List ℕ) (cells : List Span) (from : ℕ) (c : Span) → CutTo line cells from → length cells ≢ 128 → cells_of (drop from line) ≡ with_first c.bytes (cells_of (drop (c.start + length c.bytes) line)) → from ≤ c.start → c.start + length c.bytes ≤ length line → take (length c.bytes) (drop c.start line) ≡ c.bytes → CutTo line (cells ++ c ∷ []) (c.start + length c.bytes)
one_more_cell line cells from c before room cut le within is = record {
  within = within;
  few = omega (arith, before.few, room, length-append cells (c ∷ []));
  cut = before.cut ∙ (ap (with_front (bytes_in cells)) cut ∙ (front_first (bytes_in cells) c.bytes _ ∙ ap (λ (front : List (List ℕ)). with_front front (cells_of (drop (c.start + length c.bytes) line))) (sym (bytes_more cells c))));
  stand = stand_more line 0 cells c before.stand (omega (arith, before.ends)) is;
  ends = end_more 0 cells c;
}

-- where 128 cells were cut and another one follows, a line that is closed has more than 128
pub too_many_cells : (line : List ℕ) (cells : List Span) (from : ℕ) (c : List ℕ) (rest : Option (List (List ℕ))) (all : List (List ℕ)) → CutTo line cells from → cells_of (drop from line) ≡ with_first c rest → length cells ≡ 128 → cells_of line ≡ Some all → 128 < length all
too_many_cells line cells from c rest all before next full is = go rest (sym is ∙ (before.cut ∙ ap (with_front (bytes_in cells)) next))
  where
    go : (o : Option (List (List ℕ))) → Some all ≡ with_front (bytes_in cells) (with_first c o) → 128 < length all
    go None e = absurd (cc)
    go (Some cs) e =
        let same : all ≡ bytes_in cells ++ c ∷ cs = cc in
        omega (arith, ap length same, length-append (bytes_in cells) (c ∷ cs), bytes_count cells)

-- the next cell, behind blanks
pub next_cut : (line behind rest : List ℕ) (from blanks n : ℕ) → behind ≡ drop from line → rest ≡ drop (from + blanks) line → cells_of (drop blanks behind) ≡ cells_of behind → 0 < length rest → is_blank (get_or rest 0 0) ≡ false → cells_from (Some Outside) rest ≡ with_first (take n rest) (cells_of (drop n rest)) → cells_of (drop from line) ≡ with_first (slice_range line (from + blanks) (from + blanks + n)) (cells_of (drop (from + blanks + n) line))
next_cut line behind rest from blanks n is_behind is_rest same some begins cut =
    let at_rest : drop blanks behind ≡ rest = rw (is_behind, is_rest) (drop-drop blanks from line) in
    let at_end : drop n rest ≡ drop (from + blanks + n) line = rw is_rest (drop-drop n (from + blanks) line) in
    let piece : take n rest ≡ slice_range line (from + blanks) (from + blanks + n) = rw is_rest (ap (λ (k : ℕ). take k (drop (from + blanks) line)) {x = n} {y = from + blanks + n - (from + blanks)} (omega arith)) in
    ap cells_of (sym is_behind) ∙ (sym same ∙ (ap cells_of at_rest ∙ (cell_first rest some begins ∙ (cut ∙ rw (at_end, piece) refl))))

-- one more place
pub one_more_place : (line : List ℕ) (places : List Place) (from : ℕ) (place : Place) → CutTo line (cells_at line places) from → length places ≢ 128 → cells_of (drop from line) ≡ with_first (slice_range line place.start place.end) (cells_of (drop place.end line)) → from ≤ place.start → place.start < place.end → place.end ≤ length line → CutTo line (cells_at line (places ++ place ∷ [])) place.end
one_more_place line places from place before room cut le some within =
    let long : length (slice_range line place.start place.end) ≡ place.end - place.start = length-take-le (place.end - place.start) (drop place.start line) (omega (arith, length-drop place.start line)) in
    let end : place.start + length (slice_range line place.start place.end) ≡ place.end = omega (arith, long, some) in
    let next : cells_of (drop from line) ≡ with_first (slice_range line place.start place.end) (cells_of (drop (place.start + length (slice_range line place.start place.end)) line)) = rw end cut in
    let more : CutTo line (cells_at line places ++ cell_at line place ∷ []) (place.start + length (slice_range line place.start place.end)) = one_more_cell line (cells_at line places) from (cell_at line place) before (λ full. room (cells_count line places ∙ full)) next le (omega (arith, end, within)) (rw long refl) in
    subst (λ (cells : List Span). CutTo line cells place.end) (sym (cells_more line places place)) (subst (CutTo line (cells_at line places ++ cell_at line place ∷ [])) end more)

pub fault_is : (line : List ℕ) (fault : CellFault) → IsFault line fault → ((all : List (List ℕ)) → cells_of line ≡ Some all → 128 < length all) → AreCut line (Err fault)
fault_is line (Unclosed at) is more = is
fault_is line TooMany is more = (is.0, is.1, more is.0 is.1)

-- the byte behind the blanks
pub begins_at : (line behind rest : List ℕ) (from blanks : ℕ) → behind ≡ drop from line → rest ≡ drop (from + blanks) line → is_blank (get_or behind blanks 0) ≡ false → is_blank (get_or rest 0 0) ≡ false
begins_at line behind rest from blanks is_behind is_rest begins =
    let same : get_or rest 0 0 ≡ get_or behind blanks 0 =
    ap (λ (l : List ℕ). get_or l 0 0) is_rest
    ∙ (get_or-drop (from + blanks) line 0 0
    ∙ (ap (λ n. get_or line n 0) {x = from + blanks + 0} {y = from + blanks} (omega arith)
    ∙ (sym (get_or-drop from line blanks 0) ∙ ap (λ (l : List ℕ). get_or l blanks 0) (sym is_behind)))) in
    ap is_blank same ∙ begins
