-- The choices of a tuple give all its results.
use Rattle.std.proofs.Common.{ℕ, zero, suc, ◌<◌, List, [], ◌∷◌, ◌≡◌, map, filter, flat_map, length, get_or, refl, sym, ap, ◌∙◌, inl, inr, arith, append-nil}
use Rattle.std.proofs.lemmas.List.{length-map}
use Rattle.pj_events.specs.Join.{In, JoinData, TupleAt, agree, product, joined, upto_from, candidates, combinations, results}
use Rattle.pj_probe.specs.Choices.{choices}
use Rattle.pj_join.specs.Insides.{IsOrdered}
use Rattle.pj_join.proofs.Orders.{only-of}
use Rattle.pj_probe.proofs.Finding.{choices-combinations}

-- what a tuple's choices give is the results of its ticket
pub choices-results : (spec : JoinData) (limit next done : ℕ) (log : List TupleAt) (sides : List (List TupleAt)) (taken : List ℕ) (d : TupleAt) → IsOrdered spec limit next done log sides taken → done < length log
    → map joined (filter (agree spec.shape.classes) (product (choices spec.shape.classes (get_or log done d) sides))) ≡ map joined (results spec log log (get_or log done d).ticket)
choices-results spec limit next done log sides taken d o lt =
    ap (map joined) (
    choices-combinations spec (get_or log done d) log sides (o.placed (get_or log done d) (get_or-in log done d lt)) o.by_input
    ∙ ap (λ m. filter (agree spec.shape.classes) (product (map (candidates (get_or log done d) log) (upto_from 0 m)))) (sym (length-map spec.shape.inputs (λ (schema : List _). length schema)))
    ∙ sym (append-nil (combinations spec log (get_or log done d)))
    ∙ ap (flat_map (combinations spec log)) (sym (only-of 0 log next done d o.rising lt))
    )
  where
    get_or-in : (xs : List TupleAt) (i : ℕ) (e : TupleAt) → i < length xs → In (get_or xs i e) xs
    get_or-in [] i e l = absurd (omega (arith, l))
    get_or-in (x ∷ xs) zero e l = inl refl
    get_or-in (x ∷ xs) (suc i) e l = inr (get_or-in xs i e (omega (arith, l)))
