-- A joined row matches_row a widened punctuation exactly where the row of its input matches_row the punctuation.
use Rattle.std.proofs.Common.{ℕ, zero, suc, ◌+◌, ◌&&◌, List, [], ◌∷◌, ◌++◌, ◌≡◌, take, drop, length, get_or, sum, refl, sym, ap, ◌∙◌, inl, inr, arith, append_assoc}
use Rattle.std.proofs.lemmas.List.{replicate-append-replicate, length-append}
use Rattle.std.proofs.lemmas.List.Sums.{sum_by-cons}
use Rattle.std.proofs.Math.Bool.{and-true}
use Rattle.pj_events.specs.Patterns.{Pattern, wild, all_wild, matches_row}
use Rattle.pj_events.specs.Join.{In, TupleAt, joined}
use Rattle.pj_pattern.proofs.Rows.{matches-append, wilds-match, wilds-length}
use Rattle.pj_join_laws.proofs.Results.{AreInOrder, order-within}

abbrev pub HaveLengths : List ℕ → List TupleAt → Type 0
HaveLengths [] [] = Unit {0}
HaveLengths [] (x ∷ c) = ⊥
HaveLengths (a ∷ lens) [] = ⊥
HaveLengths (a ∷ lens) (x ∷ c) = (length x.row ≡ a) × HaveLengths lens c

pub lengths-from : (k : ℕ) (lens : List ℕ) (c : List TupleAt) → AreInOrder k c → length c ≡ length lens → (f : ℕ → ℕ) → ((j : ℕ) → get_or lens j 0 ≡ f (k + j))
    → ((y : TupleAt) → In y c → length y.row ≡ f y.input) → HaveLengths lens c
lengths-from k [] [] o l f e g = tt
lengths-from k [] (x ∷ c) o l f e g = absurd (omega arith)
lengths-from k (a ∷ lens) [] o l f e g = absurd (omega arith)
lengths-from k (a ∷ lens) (x ∷ c) o l f e g =
    let z : k + 0 ≡ k = omega arith in (
      g x (inl refl) ∙ ap f (o.0 ∙ sym z) ∙ sym (e 0),
      lengths-from (k + 1) lens c o.1 (omega arith) f (λ j. let q : k + suc j ≡ k + 1 + j = omega arith in e (suc j) ∙ ap f q) (λ y h. g y (inr h)),
    )

pub joined-length : (lens : List ℕ) (c : List TupleAt) → HaveLengths lens c → length (joined c) ≡ sum lens
joined-length [] [] h = refl
joined-length [] (x ∷ c) h = absurd h
joined-length (a ∷ lens) [] h = absurd h
joined-length (a ∷ lens) (x ∷ c) h = omega (arith, length-append x.row (joined c), h.0, joined-length lens c h.1, sum_by-cons (λ (n : ℕ). n) a lens)

pub widen-matches : (k : ℕ) (lens : List ℕ) (c : List TupleAt) (i : ℕ) (z : TupleAt) (ps : List Pattern) → AreInOrder k c → HaveLengths lens c → In z c → z.input ≡ k + i → length ps ≡ length z.row
    → matches_row (all_wild (sum (take i lens)) ++ ps ++ all_wild (sum (drop (suc i) lens))) (joined c) ≡ matches_row ps z.row
widen-matches k [] [] i z ps o h hz e l = absurd hz
widen-matches k [] (x ∷ c) i z ps o h hz e l = absurd h
widen-matches k (a ∷ lens) [] i z ps o h hz e l = absurd h
widen-matches k (a ∷ lens) (x ∷ c) zero z ps o h (inr m) e l = absurd (let r = order-within (k + 1) c o.1 z m in omega (arith, r.0, e))
widen-matches k (a ∷ lens) (x ∷ c) zero z ps o h (inl q) e l =
    matches-append ps (all_wild (sum lens)) x.row (joined c) (l ∙ ap (λ (y : TupleAt). length y.row) (sym q))
    ∙ ap (λ b. matches_row ps x.row && b) (wilds-match (joined c) (sum lens) (joined-length lens c h.1))
    ∙ and-true (matches_row ps x.row) ∙ ap (λ (y : TupleAt). matches_row ps y.row) q
widen-matches k (a ∷ lens) (x ∷ c) (suc i) z ps o h (inl q) e l = absurd (omega (arith, o.0, e, ap (λ (y : TupleAt). y.input) q))
widen-matches k (a ∷ lens) (x ∷ c) (suc i) z ps o h (inr m) e l =
    ap (λ qs. matches_row qs (x.row ++ joined c)) shape
    ∙ matches-append (all_wild a) rest x.row (joined c) (long ∙ sym h.0)
    ∙ ap (λ b. b && matches_row rest (joined c)) (wilds-match x.row a h.0)
    ∙ widen-matches (k + 1) lens c i z ps o.1 h.1 m (omega arith) l
  where
    n : ℕ
    n = sum (take i lens)

    tail : List Pattern
    tail = all_wild (sum (drop (suc i) lens))

    rest : List Pattern
    rest = all_wild n ++ ps ++ tail

    long : length (all_wild a) ≡ a
    long = wilds-length a

    shape : all_wild (sum (a ∷ take i lens)) ++ ps ++ tail ≡ all_wild a ++ rest
    shape =
        ap (λ (m : ℕ). all_wild m ++ ps ++ tail) (sum_by-cons (λ (m : ℕ). m) a (take i lens))
        ∙ ap (λ (qs : List Pattern). qs ++ ps ++ tail) (sym (replicate-append-replicate a n wild))
        ∙ ap (λ (qs : List Pattern). qs ++ tail) (append_assoc (all_wild a) (all_wild n) ps)
        ∙ append_assoc (all_wild a) (all_wild n ++ ps) tail
