use Rattle.std.proofs.Common.{List, get_or, length, refl, sym, subst}
use Rattle.pj_intervals.specs.Intervals.{Entry}
use Rattle.pj_puncts.specs.declared.index.ColumnIndex.{ColumnIndex}
use Rattle.pj_puncts.specs.Indexed.{ColumnsGrew}
use Rattle.pj_puncts.proofs.Columns.{HasEntry, HasNoMore, IsNew, columns_more, columns_stayed, columns_took, found_for, is_new}
use Rattle.pj_puncts.proofs.Filing.{on_err, own_is}
use Rattle.pj_puncts.proofs.index.file_in_columns.Goals as goal

pub returns-in_err-insert-in-Some-column_for-clause-err : goal.returns-in_err-insert-in-Some-column_for-clause-err
returns-in_err-insert-in-Some-column_for-clause-err c =
    let old = c.index_mut.result.now in
    let new : ColumnIndex = record { arity = old.arity; column = old.column; patterns = c.insert.new.self } in
    let same : HasNoMore old new = record { arity_is = refl; column_is = refl; answers = c.in_err-insert-in-Some-column_for.ensures.err } in
    on_err c.from_residual.result _ (columns_stayed c.args.columns.now.items c.in-Some-column_for.place old new c.index_mut.ensures.value same)

pub returns-in_ok-insert-in-Some-column_for-clause-ok : goal.returns-in_ok-insert-in-Some-column_for-clause-ok
returns-in_ok-insert-in-Some-column_for-clause-ok c =
    let cs = c.args.columns.now.items in
    let old = c.index_mut.result.now in
    let new : ColumnIndex = record { arity = old.arity; column = old.column; patterns = c.insert.new.self } in
    let patterns = c.as_slice-patterns.result.now in
    let e : Entry = record { pattern = c.index-patterns-column.result; place = c.args.at } in
    let punct = get_or c.args.kept.now c.args.at c.index-kept-at.result in
    let found = found_for cs c.as_slice.result.now (length patterns) c.in-Some.column c.in-Some-column_for.place old c.as_slice.ensures.value c.in-Some-column_for.ensures c.index_mut.ensures.value in
    let fresh : IsNew c.args.kept.now old.arity c.in-Some.column e =
    is_new c.args.kept.now c.args.at punct patterns old.arity c.in-Some.column c.index-patterns-column.result c.requires (own_is c.args.kept.now c.args.at c.index-kept-at.result c.requires) c.as_slice-patterns.ensures c.in-Some.ensures c.index-patterns-column.is found.1 in
    let more : HasEntry old new e = record { arity_is = refl; column_is = refl; answers = c.in_ok-insert-in-Some-column_for.ensures.ok } in
    columns_took c.args.kept.now c.args.at cs c.in-Some-column_for.place old new e found.0 c.index_mut.ensures.value more (subst (λ n. IsNew c.args.kept.now old.arity n e) (sym found.2) fresh) refl

pub returns-in_ok-push-in-None-column_for-clause-ok : goal.returns-in_ok-push-in-None-column_for-clause-ok
returns-in_ok-push-in-None-column_for-clause-ok c =
    let cs = c.args.columns.now.items in
    let patterns = c.as_slice-patterns.result.now in
    let old : ColumnIndex = record { arity = length patterns; column = c.in-Some.column; patterns = c.new-index.result } in
    let new : ColumnIndex = record { arity = length patterns; column = c.in-Some.column; patterns = c.insert-in-None-column_for.new.self } in
    let e : Entry = record { pattern = c.index-patterns-column-in-None-column_for.result; place = c.args.at } in
    let punct = get_or c.args.kept.now c.args.at c.index-kept-at.result in
    let fresh : IsNew c.args.kept.now (length patterns) c.in-Some.column e =
    is_new c.args.kept.now c.args.at punct patterns (length patterns) c.in-Some.column c.index-patterns-column-in-None-column_for.result c.requires (own_is c.args.kept.now c.args.at c.index-kept-at.result c.requires) c.as_slice-patterns.ensures c.in-Some.ensures c.index-patterns-column-in-None-column_for.is refl in
    let more : HasEntry old new e = record { arity_is = refl; column_is = refl; answers = c.in_ok-insert-in-None-column_for.ensures.ok } in
    subst (λ (xs : List ColumnIndex). ColumnsGrew c.args.kept.now c.args.at cs xs) (sym c.in_ok-push-in-None-column_for.ensures.items) (columns_more c.args.kept.now c.args.at cs old new e c.new-index.ensures more fresh refl)
