-- Pieces of one buffer.
use Rattle.std.proofs.Common.{◌≡◌, ◌≤◌, ◌<◌, ◌+◌, ◌-◌, ℕ, suc, List, [], ◌∷◌, ◌++◌, Result, length, map, take, drop, get_or, sym, ap, ap₂, ◌∙◌, append_assoc, append-nil, subst, IsErrAnd, arith}
use Rattle.std.specs.List.{sum}
use Rattle.std.proofs.lemmas.List.{drop-append-le, drop_all, length-append, length-drop, map-append, take-append-le}
use Rattle.std.proofs.lemmas.List.Sums.{sum_by-cons}
use Rattle.std.proofs.Math.Seq.{drop-cons, take-length}
use denote.Ref.{Bor}
use Rattle.pj_io.specs.States.{SinkState}
use Rattle.pj_report.specs.Sorted.{lent, pieces}
use Rattle.pj_report.specs.Written.{flat, Cut, Leaves, WritesBy}
use Rattle.pj_report.proofs.LinesWritten.{map_more, map_rest, stopped_then, written_then}

-- one more line behind the bytes
pieces_grow : (ns bytes line : List ℕ) → sum ns ≡ length bytes → pieces (ns ++ length line ∷ []) (bytes ++ line) ≡ pieces ns bytes ++ line ∷ []
pieces_grow [] [] line is = ap (λ (l : List ℕ). l ∷ []) (take-length line)
pieces_grow [] (b ∷ bytes) line is = absurd (omega (arith, is))
pieces_grow (n ∷ ns) bytes line is =
    let cons : sum (n ∷ ns) ≡ n + sum ns = sum_by-cons (λ (m : ℕ). m) n ns in
    let le : n ≤ length bytes = omega (arith, is, cons) in
    let rest : sum ns ≡ length (drop n bytes) = omega (arith, is, cons, length-drop n bytes) in
    ap₂ (λ (l : List ℕ) (ls : List (List ℕ)). l ∷ ls) (take-append-le n bytes line le)
    (ap (pieces (ns ++ length line ∷ [])) (drop-append-le n bytes line le) ∙ pieces_grow ns (drop n bytes) line rest)

-- the length of the line behind the first bytes is noted
same_length : (bytes line grown : List ℕ) (start : ℕ) → start ≡ length bytes → grown ≡ bytes ++ line → length grown - start ≡ length line
same_length bytes line grown start at is = omega (arith, at, ap length is, length-append bytes line)

pub line_kept : (lens bytes line noted grown all : List ℕ) (start : ℕ) (before : List (List ℕ)) → pieces lens bytes ≡ before → sum lens ≡ length bytes → start ≡ length bytes → grown ≡ bytes ++ line
    → noted ≡ lens ++ (length grown - start) ∷ [] → all ≡ grown → pieces noted all ≡ before ++ line ∷ []
line_kept lens bytes line noted grown all start before view whole at is notes same =
    ap₂ pieces (notes ∙ ap (λ (n : ℕ). lens ++ n ∷ []) (same_length bytes line grown start at is)) (same ∙ is)
    ∙ (pieces_grow lens bytes line whole ∙ ap (λ (ls : List (List ℕ)). ls ++ line ∷ []) view)

-- ---- the pieces one by one

-- those that are lent so far, and those of the rest, are all
pub record LentSoFar (lens bytes : List ℕ) (so_far : List (Bor (List ℕ))) (i : ℕ) (rest : List ℕ) : Type 0 where
  pub all : map lent so_far ++ pieces (drop i lens) rest ≡ pieces lens bytes
  pub whole : sum (drop i lens) ≡ length rest

pub lent_none : (lens bytes : List ℕ) (so_far : List (Bor (List ℕ))) → sum lens ≡ length bytes → so_far ≡ [] → LentSoFar lens bytes so_far 0 bytes
lent_none lens bytes so_far whole none = record { all = ap (λ (xs : List (Bor (List ℕ))). map lent xs ++ pieces lens bytes) none; whole = whole }

next_len : (lens : List ℕ) (i d : ℕ) → i < length lens → drop i lens ≡ get_or lens i d ∷ drop (i + 1) lens
next_len lens i d lt =
    let one : suc i ≡ i + 1 = omega arith in
    drop-cons lens i d lt ∙ ap (λ (k : ℕ). get_or lens i d ∷ drop k lens) one

next_sum : (lens : List ℕ) (i d : ℕ) → i < length lens → sum (drop i lens) ≡ get_or lens i d + sum (drop (i + 1) lens)
next_sum lens i d lt = ap sum (next_len lens i d lt) ∙ sum_by-cons (λ (m : ℕ). m) (get_or lens i d) (drop (i + 1) lens)

pub next_fits : (lens bytes rest : List ℕ) (so_far : List (Bor (List ℕ))) (i d : ℕ) → LentSoFar lens bytes so_far i rest → i < length lens → get_or lens i d ≤ length rest
next_fits lens bytes rest so_far i d s lt = omega (arith, s.whole, next_sum lens i d lt)

pub lent_more : (lens bytes rest others : List ℕ) (so_far more : List (Bor (List ℕ))) (line : Bor (List ℕ)) (i d : ℕ) → LentSoFar lens bytes so_far i rest → i < length lens → line.now ≡ take (get_or lens i d) rest
    → others ≡ drop (get_or lens i d) rest → more ≡ so_far ++ line ∷ [] → LentSoFar lens bytes more (i + 1) others
lent_more lens bytes rest others so_far more line i d s lt front back pushed =
    let n = get_or lens i d in
    record {
      all =
          ap₂ (λ (xs ys : List (List ℕ)). xs ++ ys) (ap (map lent) pushed ∙ map-append lent so_far (line ∷ [])) (ap (pieces (drop (i + 1) lens)) back)
          ∙ (append_assoc (map lent so_far) (line.now ∷ []) (pieces (drop (i + 1) lens) (drop n rest))
          ∙ (ap (λ (l : List ℕ). map lent so_far ++ l ∷ pieces (drop (i + 1) lens) (drop n rest)) front
          ∙ (ap (λ (ns : List ℕ). map lent so_far ++ pieces ns rest) (sym (next_len lens i d lt)) ∙ s.all)));
      whole = omega (arith, s.whole, next_sum lens i d lt, ap length back, length-drop n rest);
    }

pub lent_all : (lens bytes rest : List ℕ) (so_far : List (Bor (List ℕ))) (i : ℕ) → LentSoFar lens bytes so_far i rest → length lens ≤ i → map lent so_far ≡ pieces lens bytes
lent_all lens bytes rest so_far i s end =
    sym (append-nil (map lent so_far)) ∙ (ap (λ (ns : List ℕ). map lent so_far ++ pieces ns rest) (sym (drop_all i lens end)) ∙ s.all)

-- ---- lent lines that are written

-- one more was written
pub one_written : (lines : List (Bor (List ℕ))) (i : ℕ) (d : Bor (List ℕ)) (before mid after : List ℕ) → i < length lines → mid ≡ before ++ flat (map lent (take i lines))
    → ((ls : List (List ℕ)) → flat ls ≡ (get_or lines i d).now → after ≡ mid ++ flat ls) → after ≡ before ++ flat (map lent (take (i + 1) lines))
one_written lines i d before mid after lt first then =
    let line = lent (get_or lines i d) in
    subst (λ (ls : List (List ℕ)). after ≡ before ++ flat ls) (map_more lent lines i d lt) (written_then (map lent (take i lines)) (line ∷ []) before mid after first (then (line ∷ []) (append-nil line)))

-- a stop came in one more
pub one_stopped : {T E : Type 0} (cut : E → Cut) (result : Result T E) (stop : E) (lines : List (Bor (List ℕ))) (i : ℕ) (d : Bor (List ℕ)) (old mid new : SinkState) → i < length lines
    → mid.written ≡ old.written ++ flat (map lent (take i lines)) → ((ls : List (List ℕ)) → flat ls ≡ (get_or lines i d).now → Leaves (cut stop) ls mid.written new.written) → IsErrAnd result (λ x. x ≡ stop)
    → WritesBy cut (map lent lines) old new result
one_stopped cut result stop lines i d old mid new lt first stops is =
    let line = lent (get_or lines i d) in
    stopped_then cut result stop (map lent (take i lines)) (line ∷ []) (map lent (drop (i + 1) lines)) (map lent lines) old mid new first (stops (line ∷ []) (append-nil line))
    (ap (λ (ls : List (List ℕ)). ls ++ map lent (drop (i + 1) lines)) (map_more lent lines i d lt) ∙ map_rest lent lines (i + 1)) is
