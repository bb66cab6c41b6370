-- The lines of a status, of which a front was written.
use Rattle.std.proofs.Common.{◌≡◌, ◌≤◌, ◌<◌, ◌+◌, ◌-◌, ℕ, inr, List, [], ◌∷◌, ◌++◌, length, take, drop, get_or, ap, sym, subst, append_assoc, append-nil, ◌∙◌, arith}
use Rattle.std.proofs.Math.Seq.{take-add}
use Rattle.std.proofs.lemmas.List.{take-append-drop, take_more}
use Rattle.pj_io.specs.Causes.{Rose}
use Rattle.pj_io.specs.Pieces.{GrewByLess}
use Rattle.pj_io.specs.States.{SinkState}
use Rattle.pj_element.specs.Runs.{fed}
use Rattle.pj_report.specs.Written.{anywhere}
use Rattle.pj_report.specs.Written.{Delivered, flat}
use Rattle.pj_report.proofs.LinesWritten.{piece_cut, stop_among, written_then}

-- the sink failed in this piece
pub cut_delivered : (piece all : List ℕ) (old new : SinkState) → GrewByLess old.written new.written piece → Rose old.faults new.faults → piece ≡ all → Delivered all old new
cut_delivered piece all old new grew rose is told =
    inr (rose, record { front = take grew.0 piece; others = drop grew.0 piece; all = take-append-drop grew.0 piece ∙ is; written = grew.1.grew })

-- the line of this text, by the bytes of the text
pub delivered_as : (text all : List ℕ) (old new : SinkState) → text ≡ all → Delivered (fed text) old new → Delivered (fed all) old new
delivered_as text all old new same line = subst (λ (xs : List ℕ). Delivered (fed xs) old new) same line

-- texts that are put together piece by piece
pub three_pieces : (a b c one two : List ℕ) → one ≡ a ++ b → two ≡ one ++ c → two ≡ a ++ (b ++ c)
three_pieces a b c one two first second = second ∙ (ap (λ (xs : List ℕ). xs ++ c) first ∙ append_assoc a b c)

pub four_pieces : (a b c d one two three : List ℕ) → one ≡ a ++ b → two ≡ one ++ c → three ≡ two ++ d → three ≡ ((a ++ b) ++ c) ++ d
four_pieces a b c d one two three first second third = third ∙ ap (λ (xs : List ℕ). xs ++ d) (second ∙ ap (λ (xs : List ℕ). xs ++ c) first)

-- ---- line by line

-- the first lines and one more are the first of one more
one_more : (lines : List (List ℕ)) (i : ℕ) (line : List ℕ) → i < length lines → line ≡ get_or lines i line → take i lines ++ line ∷ [] ≡ take (i + 1) lines
one_more lines i line lt is = ap (λ (l : List ℕ). take i lines ++ l ∷ []) is ∙ sym (take_more lines i line lt)

-- one more line was written
pub line_more : (lines : List (List ℕ)) (i : ℕ) (line before mid after : List ℕ) → i < length lines → line ≡ get_or lines i line → mid ≡ before ++ flat (take i lines) → after ≡ mid ++ line → after ≡ before ++ flat (take (i + 1) lines)
line_more lines i line before mid after lt is first then =
    written_then (take i lines) (line ∷ []) before mid after first (then ∙ ap (λ (l : List ℕ). mid ++ l) (sym (append-nil line)))
    ∙ ap (λ (ls : List (List ℕ)). before ++ flat ls) (one_more lines i line lt is)

-- the sink failed in one more line
pub line_cut : (lines : List (List ℕ)) (i : ℕ) (line : List ℕ) (old mid new : SinkState) → i < length lines → line ≡ get_or lines i line → mid.written ≡ old.written ++ flat (take i lines) → old.faults ≤ mid.faults
    → GrewByLess mid.written new.written line → Rose mid.faults new.faults → Delivered (flat lines) old new
line_cut lines i line old mid new lt is first later grew rose told = inr (
  omega (arith, later, rose),
  stop_among anywhere (take i lines) (line ∷ []) (drop (i + 1) lines) lines old.written mid.written new.written first (piece_cut (line ∷ []) mid.written new.written line (append-nil line) grew)
      (ap (λ (ls : List (List ℕ)). ls ++ drop (i + 1) lines) (one_more lines i line lt is) ∙ take-append-drop (i + 1) lines),
)

-- ---- piece by piece of one text

-- the text was written up to one place, and then up to a later one
pub written_up : (text : List ℕ) (at end : ℕ) (before mid after : List ℕ) → at ≤ end → mid ≡ before ++ take at text → after ≡ mid ++ take (end - at) (drop at text) → after ≡ before ++ take end text
written_up text at end before mid after le first then =
    let more : at + (end - at) ≡ end = omega (arith, le) in
    then
    ∙ (ap (λ (xs : List ℕ). xs ++ take (end - at) (drop at text)) first
    ∙ (append_assoc before (take at text) (take (end - at) (drop at text))
    ∙ (ap (λ (xs : List ℕ). before ++ xs) (sym (take-add at (end - at) text)) ∙ ap (λ (n : ℕ). before ++ take n text) more)))

-- the sink failed between two places
pub cut_between : (text : List ℕ) (at len : ℕ) (old mid new : SinkState) → mid.written ≡ old.written ++ take at text → old.faults ≤ mid.faults → GrewByLess mid.written new.written (take len (drop at text)) → Rose mid.faults new.faults
    → Delivered text old new
cut_between text at len old mid new first later grew rose told =
    let rest = drop at text in
    let piece = take len rest in
    let front = take grew.0 piece in
    let others = drop grew.0 piece in inr (
      omega (arith, later, rose),
      record {
        front = take at text ++ front;
        others = others ++ drop len rest;
        all = append_assoc (take at text) front (others ++ drop len rest)
            ∙ (ap (λ (xs : List ℕ). take at text ++ xs) (sym (append_assoc front others (drop len rest)) ∙ (ap (λ (xs : List ℕ). xs ++ drop len rest) (take-append-drop grew.0 piece) ∙ take-append-drop len rest))
            ∙ take-append-drop at text);
        written = grew.1.grew ∙ (ap (λ (xs : List ℕ). xs ++ front) first ∙ append_assoc old.written (take at text) front);
      },
    )
