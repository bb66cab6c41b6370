-- Bytes that are held back and handed on.
use Rattle.std.proofs.Common.{◌≡◌, ℕ, ◌+◌, ◌-◌, ◌≤◌, List, [], ◌++◌, length, drop, ap, sym, ◌∙◌, arith}
use Rattle.std.proofs.lemmas.List.{drop-drop, drop_all, drop-append-le, append-nil}
use Rattle.pj_io.specs.Held.{HandsOn}

-- what is behind a later place is an end of what is behind an earlier one
pub hands_on_front : (xs ys : List ℕ) (a b : ℕ) → ys ≡ xs → a ≤ b → HandsOn (drop a xs) (drop b ys) []
hands_on_front xs ys a b same h =
    let sum : a + (b - a) ≡ b = omega arith in
    (b - a, ap (drop b) same ∙ sym (append-nil (drop (b - a) (drop a xs)) ∙ (drop-drop (b - a) a xs ∙ ap (λ (n : ℕ). drop n xs) sum)))

pub hands_on_all : (xs : List ℕ) → HandsOn xs [] []
hands_on_all xs = (length xs, sym (append-nil (drop (length xs) xs) ∙ drop_all (length xs) xs (omega arith)))

-- more bytes behind those that are still held
pub hands_on_more : (before xs more : List ℕ) (sent : ℕ) → sent ≤ length xs → HandsOn before (drop sent xs) [] → HandsOn before (drop sent (xs ++ more)) more
hands_on_more before xs more sent within (gone, e) =
    (gone, drop-append-le sent xs more within ∙ ap (λ (ys : List ℕ). ys ++ more) (e ∙ append-nil (drop gone before)))
