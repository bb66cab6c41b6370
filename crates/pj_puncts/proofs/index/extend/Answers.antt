use Rattle.std.proofs.Common.{◌≡◌, ◌-◌, ℕ, List, true, get_or, length, slice_get, ap, sym, ◌∙◌, subst, arith}
use Rattle.pj_value.specs.Lists.{In}
use Rattle.pj_puncts.specs.Indexed.{covered_in, covers_in}
use Rattle.pj_puncts.proofs.Filing.{IsLast, chain_pushes, chain_stays, in_last, own_is}
use Rattle.pj_puncts.proofs.index.extend.Goals as goal
use Rattle.pj_puncts.proofs.index.extend.Goals.{then-count-gt0+else-covers_there+else-not-is_covered_there, else-count-gt0}

pub returns-then-covers_there-clause-ok : goal.returns-then-covers_there-clause-ok
returns-then-covers_there-clause-ok c =
    let count = length c.as_slice-count.result.now in
    let last = get_or c.args.chain.now (count - 1) 0 in
    let here : In last c.args.chain.now = in_last c.args.chain.now (count - 1) (omega (arith, c.if-count-gt0.true, ap (λ (xs : List ℕ). length xs) c.as_slice-count.ensures)) in
    let covers : covers_in (slice_get c.args.kept.now last) (get_or c.args.kept.now c.args.at c.index-kept-at.result).punct ≡ true =
    subst (λ (ys : List ℕ). covers_in (slice_get c.args.kept.now (get_or ys (count - 1) 0)) (get_or c.args.kept.now c.args.at c.index-kept-at.result).punct ≡ true) c.as_slice.ensures (sym c.covers_there.ensures ∙ c.if-covers_there.true) in
    chain_stays c.args.kept.now c.args.at last (get_or c.args.kept.now c.args.at c.index-kept-at.result) c.args.chain.now (omega (arith, c.requires)) (own_is c.args.kept.now c.args.at c.index-kept-at.result (omega (arith, c.requires))) here covers

pub returns-clause-ok : goal.returns-clause-ok
returns-clause-ok c =
    let count = length c.as_slice-count.result.now in
    let ends : IsLast c.args.kept.now c.args.chain.now (get_or c.args.kept.now c.args.at c.index-kept-at.result).punct = λ i e.
    elim c.if-count-gt0.branch [
      | then-count-gt0+else-covers_there+else-not-is_covered_there w ↦
          let at : i ≡ count - 1 = omega (arith, e, ap (λ (xs : List ℕ). length xs) c.as_slice-count.ensures) in
          ap (λ n. covered_in (slice_get c.args.kept.now (get_or c.args.chain.now n 0)) (get_or c.args.kept.now c.args.at c.index-kept-at.result).punct) at
          ∙ subst (λ (ys : List ℕ). covered_in (slice_get c.args.kept.now (get_or ys (count - 1) 0)) (get_or c.args.kept.now c.args.at c.index-kept-at.result).punct ≡ true) w.as_slice.ensures (sym w.is_covered_there.ensures ∙ w.if-not-is_covered_there.false)
      | else-count-gt0 w ↦ absurd (omega (arith, e, ap (λ (xs : List ℕ). length xs) c.as_slice-count.ensures, w.if-count-gt0.false))
    ] in
    chain_pushes c.args.kept.now c.args.at (get_or c.args.kept.now c.args.at c.index-kept-at.result) c.args.chain.now c.push.new.self c.requires (own_is c.args.kept.now c.args.at c.index-kept-at.result (omega (arith, c.requires))) c.in_ok-push.ensures.ok ends
