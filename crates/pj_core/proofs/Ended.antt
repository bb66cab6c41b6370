-- How many streams are closed.
use Rattle.std.proofs.Common.{ℕ, suc, ◌+◌, Bool, true, false, cond, ◌||◌, List, [], ◌∷◌, ◌++◌, ◌≡◌, filter, length, reverse, eqb, refl, sym, ap, ◌∙◌, arith, length-append}
use Rattle.std.proofs.lemmas.List.{reverse-append}
use Rattle.std.proofs.lemmas.List.Elements.{filter-append}
use Rattle.pj_events.specs.Join.{has, upto_from}
use Rattle.pj_events.specs.Outcomes.{ended_of}
use Rattle.pj_join_laws.proofs.Upto.{upto-push}
use Rattle.pj_value.proofs.Numbers.{has-append}

or-turned : (a b : Bool) → (a || (b || false)) ≡ (b || a)
or-turned true true = refl
or-turned true false = refl
or-turned false true = refl
or-turned false false = refl

has-reverse : (xs : List ℕ) (n : ℕ) → has (reverse xs) n ≡ has xs n
has-reverse [] n = refl
has-reverse (x ∷ xs) n =
    ap (λ (zs : List ℕ). has zs n) (reverse-append (x ∷ []) xs) ∙ has-append (reverse xs) (x ∷ []) n
    ∙ or-turned (has (reverse xs) n) (eqb x n) ∙ ap (λ (b : Bool). eqb x n || b) (has-reverse xs n)

filter-same : (p q : ℕ → Bool) (xs : List ℕ) → ((n : ℕ) → p n ≡ q n) → filter p xs ≡ filter q xs
filter-same p q [] f = refl
filter-same p q (x ∷ xs) f = ap (λ (b : Bool). cond b (x ∷ filter p xs) (filter p xs)) (f x) ∙ ap (λ (zs : List ℕ). cond (q x) (x ∷ zs) zs) (filter-same p q xs f)

pub ended-reversed : (n : ℕ) (closed : List ℕ) → ended_of n closed ≡ ended_of n (reverse closed)
ended-reversed n closed = ap length (filter-same (has closed) (has (reverse closed)) (upto_from 0 n) (λ m. sym (has-reverse closed m)))

one-more : (n : ℕ) (closed : List ℕ) → ended_of (n + 1) closed ≡ ended_of n closed + length (filter (has closed) (n ∷ []))
one-more n closed =
    let z : 0 + n ≡ n = omega arith in
    ap (λ (m : ℕ). ended_of m closed) (let e : n + 1 ≡ suc n = omega arith in e)
    ∙ ap (λ (ms : List ℕ). length (filter (has closed) ms)) (upto-push 0 n ∙ ap (λ (m : ℕ). upto_from 0 n ++ m ∷ []) z)
    ∙ ap length (filter-append (has closed) (upto_from 0 n) (n ∷ []))
    ∙ length-append (filter (has closed) (upto_from 0 n)) (filter (has closed) (n ∷ []))

pub ended_more : (n : ℕ) (closed : List ℕ) → has closed n ≡ true → ended_of (n + 1) closed ≡ ended_of n closed + 1
ended_more n closed h = one-more n closed ∙ ap (λ (b : Bool). ended_of n closed + length (cond b (n ∷ []) [])) h

pub ended_same : (n : ℕ) (closed : List ℕ) → has closed n ≡ false → ended_of (n + 1) closed ≡ ended_of n closed
ended_same n closed h =
    let z : ended_of n closed + 0 ≡ ended_of n closed = omega arith in
    one-more n closed ∙ ap (λ (b : Bool). ended_of n closed + length (cond b (n ∷ []) [])) h ∙ z
