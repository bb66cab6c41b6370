-- What a loop over writes has written.
use Rattle.std.proofs.Common.{◌≡◌, ℕ, ◌+◌, ◌-◌, List, ◌++◌, length, take, drop, arith, append_assoc, ap, sym, ◌∙◌}
use Rattle.std.proofs.Math.Seq.{take-add}
use Rattle.std.proofs.lemmas.List.{take_all, length-drop}

-- one more write of n bytes of what is behind the first `done`
pub grown_more : (before mid now piece : List ℕ) (done n : ℕ) → mid ≡ before ++ take done piece → now ≡ mid ++ take n (take (length piece - done) (drop done piece)) → now ≡ before ++ take (done + n) piece
grown_more before mid now piece done n m w =
    let all : take (length piece - done) (drop done piece) ≡ drop done piece = take_all (length piece - done) (drop done piece) (omega (arith, length-drop done piece)) in
    let wrote : now ≡ mid ++ take n (drop done piece) = w ∙ ap (λ (xs : List ℕ). mid ++ take n xs) all in
    wrote ∙ (ap (λ (xs : List ℕ). xs ++ take n (drop done piece)) m ∙ (append_assoc before (take done piece) (take n (drop done piece)) ∙ ap (λ (xs : List ℕ). before ++ xs) (sym (take-add done n piece))))
