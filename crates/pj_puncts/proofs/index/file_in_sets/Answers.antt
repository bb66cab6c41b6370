use Rattle.std.proofs.Common.{◌≡◌, ◌<◌, ℕ, List, length, get_or, map, eqb, ap, sym, ◌∙◌, subst, arith}
use Rattle.std.specs.Map.{lookup}
use Rattle.pj_events.specs.Patterns.{Pattern}
use Rattle.pj_puncts.specs.Indexed.{SetsTake, is_constant}
use Rattle.pj_puncts.specs.Numbers.{numbers_in}
use Rattle.pj_puncts.specs.declared.index.ShapeSet.{ShapeSet}
use Rattle.pj_puncts.proofs.Filing.{fits_here, own_is, sets_more, sets_stay_on, sets_take_on}
use Rattle.pj_puncts.proofs.index.file_in_sets.Goals as goal

sized : {A : Type 0} {i : ℕ} {xs ys : List A} → i < length ys → ys ≡ xs → i < length xs
sized {A} {i} lt e = subst (λ (zs : List A). i < length zs) e lt

pub file-requires-in-None-set_for-clause-fits : goal.file-requires-in-None-set_for-clause-fits
file-requires-in-None-set_for-clause-fits c =
    fits_here c.args.kept.now c.args.at (get_or c.args.kept.now c.args.at c.index-kept-at.result) c.in_ok-marks_of-in-None-set_for.field-0 (omega (arith, c.requires)) (own_is c.args.kept.now c.args.at c.index-kept-at.result (omega (arith, c.requires)))
    (c.in_ok-marks_of-in-None-set_for.ensures ∙ ap (λ (ps : List Pattern). map is_constant ps) c.as_slice-patterns.ensures)

pub returns-in-Some-set_for-clause-ok : goal.returns-in-Some-set_for-clause-ok
returns-in-Some-set_for-clause-ok c =
    sets_take_on c.args.kept.now c.args.at c.args.sets.now.items c.in-Some-set_for.place c.index_mut.result.now c.file.new.self c.file.result (sized c.in-Some-set_for.ensures.within c.as_slice.ensures.value) c.index_mut.ensures.value c.file.ensures.ok

pub returns-in-Some-set_for-clause-err : goal.returns-in-Some-set_for-clause-err
returns-in-Some-set_for-clause-err c =
    sets_stay_on c.args.sets.now.items c.in-Some-set_for.place c.index_mut.result.now c.file.new.self c.file.result (sized c.in-Some-set_for.ensures.within c.as_slice.ensures.value) c.index_mut.ensures.value c.file.ensures.err

pub returns-in_ok-push-in-None-set_for-clause-ok : goal.returns-in_ok-push-in-None-set_for-clause-ok
returns-in_ok-push-in-None-set_for-clause-ok c =
    let fresh : ShapeSet = record { marks = c.in_ok-marks_of-in-None-set_for.field-0; bound = c.in-Some.bound; chains = c.new.result } in
    subst (λ (xs : List ShapeSet). SetsTake c.args.kept.now c.args.at c.args.sets.now.items xs c.in_ok-filed-in-None-set_for.filed) (sym c.in_ok-push-in-None-set_for.ensures.items)
    (sets_more c.args.kept.now c.args.at c.args.sets.now.items fresh c.file-in-None-set_for.new.self c.in_ok-filed-in-None-set_for.filed
    (λ n. ap (λ (es : List (ℕ × List ℕ)). numbers_in (lookup (eqb n) es)) c.new.ensures.empty) c.in_ok-filed-in-None-set_for.ensures.ok)
