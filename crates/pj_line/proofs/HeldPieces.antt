-- The pieces that end with a line feed.
use Rattle.std.proofs.Common.{◌≡◌, ℕ, ◌+◌, ◌<◌, List, [], ◌∷◌, ◌++◌, Some, length, take, drop, refl, ap, ap₂, sym, ◌∙◌, arith}
use Rattle.std.proofs.lemmas.List.{drop-drop, length-drop}
use Rattle.std.proofs.lemmas.Bool.Decides.{nat_tests}
use Rattle.pj_line.specs.Lines.{fed_pieces, onto_first, HasNo}
use Rattle.pj_line.specs.FirstFeed.{IsFeedAt}

fed_at_other : (b : ℕ) (bs : List ℕ) → (b ≡ 10 → ⊥) → fed_pieces (b ∷ bs) ≡ onto_first b (fed_pieces bs)
fed_at_other b bs is_not = grind (arith, nat_tests)

fed_first : (piece rest : List ℕ) → HasNo 10 piece → fed_pieces (piece ++ 10 ∷ rest) ≡ piece ∷ fed_pieces rest
fed_first [] rest none = refl
fed_first (b ∷ bs) rest none = fed_at_other b (bs ++ 10 ∷ rest) none.0 ∙ ap (onto_first b) (fed_first bs rest none.1)

pub none_fed : (bytes : List ℕ) → HasNo 10 bytes → fed_pieces bytes ≡ []
none_fed [] none = refl
none_fed (b ∷ bs) none = fed_at_other b bs none.0 ∙ ap (onto_first b) (none_fed bs none.1)

-- what a line feed tells of them
pub fed_parts : (bytes piece behind rest : List ℕ) (at : ℕ) → IsFeedAt bytes (Some at) → piece ≡ take at bytes → behind ≡ drop at bytes → rest ≡ drop 1 behind
    → (fed_pieces bytes ≡ piece ∷ fed_pieces rest) × (length rest < length bytes)
fed_parts bytes piece behind rest at feed is_piece is_behind is_rest =
    let all : rest ≡ drop (at + 1) bytes = is_rest ∙ (ap (drop 1) is_behind ∙ drop-drop 1 at bytes) in (
      ap fed_pieces feed.2 ∙ (fed_first (take at bytes) (drop (at + 1) bytes) feed.1 ∙ ap₂ (λ (p r : List ℕ). p ∷ fed_pieces r) (sym is_piece) (sym all)),
      omega (arith, ap length all, length-drop (at + 1) bytes, feed.0),
    )
