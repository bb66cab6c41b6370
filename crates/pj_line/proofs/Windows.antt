-- What a window holds after a step.
use Rattle.std.proofs.Common.{◌≡◌, ℕ, ◌+◌, ◌-◌, ◌≤◌, List, ◌++◌, Ok, Err, take, drop, ap, sym, ◌∙◌, arith}
use Rattle.std.specs.Prelude.{Result, OnErr}
use Rattle.std.proofs.lemmas.List.{drop-drop, drop-take, take-take}
use Rattle.std.proofs.Math.Seq.{take-add}

pub skipped : (xs : List ℕ) (start end n : ℕ) → start + n ≤ end → take (end - (start + n)) (drop (start + n) xs) ≡ drop n (take (end - start) (drop start xs))
skipped xs start end n le =
    ap (take (end - (start + n))) (sym (drop-drop n start xs))
    ∙ (sym (drop-take n (end - (start + n)) (drop start xs))
    ∙ ap (λ k. drop n (take k (drop start xs))) {x = n + (end - (start + n))} {y = end - start} (omega arith))

-- bytes in front of a place stay, and with them what is held in front of it
pub front_keeps : (xs ys : List ℕ) (start end : ℕ) → start ≤ end → take end ys ≡ take end xs → take (end - start) (drop start ys) ≡ take (end - start) (drop start xs)
front_keeps xs ys start end le same =
    let whole : start + (end - start) ≡ end = omega arith in
    sym (drop-take start (end - start) ys)
    ∙ (ap (λ k. drop start (take k ys)) whole
    ∙ (ap (drop start) same
    ∙ (ap (λ k. drop start (take k xs)) (sym whole)
    ∙ drop-take start (end - start) xs)))

-- and n bytes behind that place are held too
pub front_grows : (xs ys : List ℕ) (start end n : ℕ) → start ≤ end → take end ys ≡ take end xs → take (end + n - start) (drop start ys) ≡ take (end - start) (drop start xs) ++ take n (drop end ys)
front_grows xs ys start end n le same =
    ap (λ k. take k (drop start ys)) {x = end + n - start} {y = end - start + n} (omega arith)
    ∙ (take-add (end - start) n (drop start ys)
    ∙ (ap (λ (front : List ℕ). front ++ take n (drop (end - start) (drop start ys))) (front_keeps xs ys start end le same)
    ∙ ap (λ (rest : List ℕ). take (end - start) (drop start xs) ++ take n rest) (drop-drop (end - start) start ys ∙ ap (λ k. drop k ys) {x = start + (end - start)} {y = end} (omega arith))))

-- what was held stands in front of what is held then
pub front_of_more : (xs ys : List ℕ) (start end n : ℕ) → start ≤ end → take end ys ≡ take end xs → take (end - start) (take (end + n - start) (drop start ys)) ≡ take (end - start) (drop start xs)
front_of_more xs ys start end n le same = take-take (end - start) (end + n - start) (drop start ys) (omega arith) ∙ front_keeps xs ys start end le same

pub on_err : {T E : Type 0} (r : Result T E) (P : Type 0) → P → OnErr r P
on_err (Ok x) P p = tt
on_err (Err e) P p = p
