-- What becomes of the bytes that a buffered sink holds back.
use Rattle.std.specs.Prelude.{◌≡◌, ℕ, List, [], ◌++◌, take, drop, Result, MatchResult}

-- a front of the bytes held back was handed on, and more came behind the others
abbrev pub HandsOn : List ℕ → List ℕ → List ℕ → Type 0
HandsOn before now more = (gone : ℕ) × (now ≡ drop gone before ++ more)

-- `Ok(n)`: the first n bytes of the piece came behind those held back; `Err`: nothing came. A front may have been handed on
abbrev pub HoldsBack : {E : Type 0} → List ℕ → List ℕ → List ℕ → Result ℕ E → Type 0
HoldsBack before now piece result =
    MatchResult result (λ n. HandsOn before now (take n piece)) (λ _. HandsOn before now [])
