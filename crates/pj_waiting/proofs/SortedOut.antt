-- Lists that are gone through one element after the other.
use Rattle.std.proofs.Common.{ℕ, zero, suc, ◌+◌, ◌<◌, List, [], ◌∷◌, ◌++◌, ◌≡◌, map, take, drop, length, get_or, sum, refl, sym, ap, ◌∙◌, arith, append_assoc}
use Rattle.std.proofs.lemmas.List.{map-append, take_more, take-map, replicate-append-replicate}
use Rattle.std.proofs.lemmas.List.Sums.{sum_by-cons}
use Rattle.pj_shape.specs.declared.columns.Column.{Column}
use Rattle.pj_shape.specs.Sound.{arities_of}
use Rattle.pj_events.specs.Patterns.{Pattern, all_wild, wild}
use Rattle.pj_events.specs.Join.{PunctAt}
use Rattle.pj_waiting.specs.Letting.{widened_among}

-- ---- copies

-- ---- wildcards

pub wilds_more : (schemas : List (List Column)) (i : ℕ) (s : List Column) (first patterns patterns' : List Pattern) → i < length schemas → s ≡ get_or schemas i s
    → patterns ≡ first ++ all_wild (sum (arities_of (take i schemas))) → patterns' ≡ patterns ++ all_wild (length s) → patterns' ≡ first ++ all_wild (sum (arities_of (take (i + 1) schemas)))
wilds_more schemas i s first patterns patterns' lt at p e =
    e ∙ ap (λ (ps : List Pattern). ps ++ all_wild (length s)) p
    ∙ append_assoc first (all_wild (sum (arities_of (take i schemas)))) (all_wild (length s))
    ∙ ap (λ (ps : List Pattern). first ++ ps) (replicate-append-replicate (sum (arities_of (take i schemas))) (length s) wild)
    ∙ ap (λ (n : ℕ). first ++ all_wild n) (sym count)
  where
    sum-last : (ns : List ℕ) (n : ℕ) → sum (ns ++ n ∷ []) ≡ sum ns + n
    sum-last [] n = omega arith
    sum-last (m ∷ ns) n = sum_by-cons (λ (k : ℕ). k) m (ns ++ n ∷ []) ∙ ap (λ k. m + k) (sum-last ns n) ∙ sym (ap (λ k. k + n) (sum_by-cons (λ (k : ℕ). k) m ns) ∙ omega arith)

    count : sum (arities_of (take (i + 1) schemas)) ≡ sum (arities_of (take i schemas)) + length s
    count =
        ap (λ (ss : List (List Column)). sum (arities_of ss)) (take_more schemas i s lt)
        ∙ ap (λ (ss : List Column). sum (arities_of (take i schemas ++ ss ∷ []))) (sym at)
        ∙ ap sum (map-append (λ (ss : List Column). length ss) (take i schemas) (s ∷ []))
        ∙ sum-last (arities_of (take i schemas)) (length s)

drop-map : {A B : Type 0} (f : A → B) (n : ℕ) (xs : List A) → drop n (map f xs) ≡ map f (drop n xs)
drop-map f zero xs = refl
drop-map f (suc n) [] = refl
drop-map f (suc n) (x ∷ xs) = drop-map f n xs

pub widened_is : (schemas before from behind : List (List Column)) (p : PunctAt) (first second third : List Pattern) → before ≡ take p.input schemas → from ≡ drop p.input schemas → behind ≡ drop 1 from
    → first ≡ all_wild (sum (arities_of before)) → second ≡ first ++ p.patterns → third ≡ second ++ all_wild (sum (arities_of behind)) → third ≡ widened_among schemas p
widened_is schemas before from behind p first second third b f h e g k =
    k ∙ ap (λ (ps : List Pattern). ps ++ all_wild (sum (arities_of behind))) (g ∙ ap (λ (ps : List Pattern). ps ++ p.patterns) (e ∙ ap (λ (ss : List (List Column)). all_wild (sum (arities_of ss))) b ∙ ap (λ (ns : List ℕ). all_wild (sum ns)) (sym (take-map (λ (s : List Column). length s) p.input schemas))))
    ∙ ap (λ (ns : List ℕ). all_wild (sum (take p.input (arities_of schemas))) ++ p.patterns ++ all_wild (sum ns))
    (ap arities_of (h ∙ ap (drop 1) f ∙ drop-drop p.input schemas) ∙ sym (drop-map (λ (s : List Column). length s) (p.input + 1) schemas))
  where
    drop-drop : (n : ℕ) (xs : List (List Column)) → drop 1 (drop n xs) ≡ drop (n + 1) xs
    drop-drop zero xs = refl
    drop-drop (suc n) [] = sym (drop-nil (suc n + 1))
      where
        drop-nil : (m : ℕ) → drop {A = List Column} m [] ≡ []
        drop-nil zero = refl
        drop-nil (suc m) = refl
    drop-drop (suc n) (x ∷ xs) = drop-drop n xs ∙ ap (λ m. drop m (x ∷ xs)) (more n)
      where
        more : (k : ℕ) → suc (k + 1) ≡ suc k + 1
        more k = omega arith
