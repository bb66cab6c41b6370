-- What is consumed of a source.
use Rattle.std.proofs.Common.{ℕ, List, [], ◌++◌, append_assoc, ap, sym, refl, ◌∙◌}
use Rattle.std.proofs.lemmas.List.{append-nil}
use Rattle.pj_io.specs.Pieces.{Consumes}
use Rattle.pj_io.specs.States.{SourceState}

pub consumes_none : (s : SourceState) → Consumes s s []
consumes_none s = record { left = refl; taken = sym (append-nil s.taken) }

-- what is consumed twice is consumed at once
pub consumes_more : (a b c : SourceState) (p q : List ℕ) → Consumes a b p → Consumes b c q → Consumes a c (p ++ q)
consumes_more a b c p q first second = record {
  left = first.left ∙ (ap (λ (xs : List ℕ). p ++ xs) second.left ∙ sym (append_assoc p q c.left));
  taken = second.taken ∙ (ap (λ (xs : List ℕ). xs ++ q) first.taken ∙ append_assoc a.taken p q);
}
