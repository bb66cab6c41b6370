-- The pieces of bytes that stand behind a line feed, and how many pieces there are.
use Rattle.std.proofs.Common.{◌≡◌, ◌<◌, ◌≤◌, ℕ, suc, Bool, true, false, cond, ◌==◌, List, [], ◌∷◌, ◌++◌, length, refl, ap, ◌∙◌, inl, inr, arith}
use Rattle.pj_line.specs.Lines.{onto, pieces}
use Rattle.pj_line.specs.Fed.{PiecesGoOn}

onto-append : (b : ℕ) (ps qs : List (List ℕ)) → 0 < length ps → onto b (ps ++ qs) ≡ onto b ps ++ qs
onto-append b [] qs lt = absurd (omega arith)
onto-append b (p ∷ ps) qs lt = refl

pub onto-some : (b : ℕ) (ps : List (List ℕ)) → 0 < length (onto b ps)
onto-some b [] = omega arith
onto-some b (p ∷ ps) = omega arith

pieces-some : (b : ℕ) (bs : List ℕ) → 0 < length (pieces (b ∷ bs))
pieces-some b bs = go (b == 10)
  where
    go : (t : Bool) → 0 < length (cond t ([] ∷ pieces bs) (onto b (pieces bs)))
    go true = omega arith
    go false = onto-some b (pieces bs)

fed-some : (front : List ℕ) → 0 < length (pieces (front ++ 10 ∷ []))
fed-some [] = pieces-some 10 []
fed-some (b ∷ bs) = pieces-some b (bs ++ 10 ∷ [])

fed-append : (front more : List ℕ) → pieces ((front ++ 10 ∷ []) ++ more) ≡ pieces (front ++ 10 ∷ []) ++ pieces more
fed-append [] more = refl
fed-append (b ∷ bs) more = go (b == 10) (fed-append bs more)
  where
    go : (t : Bool) → pieces ((bs ++ 10 ∷ []) ++ more) ≡ pieces (bs ++ 10 ∷ []) ++ pieces more → cond t ([] ∷ pieces ((bs ++ 10 ∷ []) ++ more)) (onto b (pieces ((bs ++ 10 ∷ []) ++ more)))
        ≡ cond t ([] ∷ pieces (bs ++ 10 ∷ [])) (onto b (pieces (bs ++ 10 ∷ []))) ++ pieces more
    go true ih = ap (λ (ps : List (List ℕ)). [] ∷ ps) ih
    go false ih = ap (onto b) ih ∙ onto-append b (pieces (bs ++ 10 ∷ [])) (pieces more) (fed-some bs)

pub pieces_go_on : PiecesGoOn
pieces_go_on bytes more (inl none) = rw none refl
pieces_go_on bytes more (inr fed) = rw fed.1 (fed-append fed.0 more)

onto-length : (b : ℕ) (ps : List (List ℕ)) (n : ℕ) → length ps ≤ n → length (onto b ps) ≤ suc n
onto-length b [] n le = omega arith
onto-length b (p ∷ ps) n le = omega arith

-- there are no more pieces than bytes
pub pieces-length : (bytes : List ℕ) → length (pieces bytes) ≤ length bytes
pieces-length [] = omega arith
pieces-length (b ∷ bs) = go (b == 10) (pieces-length bs)
  where
    go : (t : Bool) → length (pieces bs) ≤ length bs → length (cond t ([] ∷ pieces bs) (onto b (pieces bs))) ≤ suc (length bs)
    go true ih = omega (arith, ih)
    go false ih = onto-length b (pieces bs) (length bs) ih
