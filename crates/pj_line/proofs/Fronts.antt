-- A loop over bytes against a recursion on them: what was passed is folded onto what the rest gives.
use Rattle.std.proofs.Common.{◌≡◌, ℕ, ◌+◌, ◌<◌, ◌≤◌, List, [], ◌∷◌, ◌++◌, length, get_or, take, drop, refl, ap, sym, ◌∙◌}
pub use Rattle.pj_line.specs.Folds.{folded}
use Rattle.std.proofs.lemmas.List.{take_more, take_all, at_drop_more, at_drop_all}

pub folded_both : {R : Type 0} (f : ℕ → R → R) (xs ys : List ℕ) (r : R) → folded f (xs ++ ys) r ≡ folded f xs (folded f ys r)
folded_both f [] ys r = refl
folded_both f (x ∷ xs) ys r = ap (f x) (folded_both f xs ys r)

pub folded_push : {R : Type 0} (f : ℕ → R → R) (xs : List ℕ) (x : ℕ) (r : R) → folded f (xs ++ x ∷ []) r ≡ folded f xs (f x r)
folded_push f [] x r = refl
folded_push f (y ∷ xs) x r = ap (f y) (folded_push f xs x r)

-- the turn of such a loop
pub folded_turn : {R : Type 0} (f : ℕ → R → R) (all : R) (now next : List ℕ → R) (bytes : List ℕ) (i : ℕ) → i < length bytes → all ≡ folded f (take i bytes) (now (drop i bytes)) → ((rest : List ℕ) → now (get_or bytes i 0 ∷ rest) ≡ f (get_or bytes i 0) (next rest)) → all ≡ folded f (take (i + 1) bytes) (next (drop (i + 1) bytes))
folded_turn f all now next bytes i lt before step =
    before
    ∙ (ap (folded f (take i bytes)) (at_drop_more now bytes i 0 lt ∙ step (drop (i + 1) bytes))
    ∙ (sym (folded_push f (take i bytes) (get_or bytes i 0) (next (drop (i + 1) bytes)))
    ∙ ap (λ (xs : List ℕ). folded f xs (next (drop (i + 1) bytes))) (sym (take_more bytes i 0 lt))))

-- where it stops in the middle
pub folded_stop : {R : Type 0} (f : ℕ → R → R) (all stop : R) (now : List ℕ → R) (bytes : List ℕ) (i : ℕ) → i < length bytes → all ≡ folded f (take i bytes) (now (drop i bytes)) → now (get_or bytes i 0 ∷ drop (i + 1) bytes) ≡ stop → all ≡ folded f (take i bytes) stop
folded_stop f all stop now bytes i lt before step = before ∙ ap (folded f (take i bytes)) (at_drop_more now bytes i 0 lt ∙ step)

-- where it comes to the end
pub folded_end : {R : Type 0} (f : ℕ → R → R) (all : R) (now : List ℕ → R) (bytes : List ℕ) (i : ℕ) → length bytes ≤ i → all ≡ folded f (take i bytes) (now (drop i bytes)) → all ≡ folded f bytes (now [])
folded_end f all now bytes i le before = before ∙ (ap (folded f (take i bytes)) (at_drop_all now bytes i le) ∙ ap (λ (xs : List ℕ). folded f xs (now [])) (take_all i bytes le))
