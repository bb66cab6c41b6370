use Rattle.std.proofs.Common.{◌≡◌, true, false, refl, subst}
use Rattle.pj_puncts.specs.declared.index.Index.{Index}
use Rattle.pj_puncts.specs.Indexed.{ColumnsTake, IsUnfiled, SetsTake}
use Rattle.pj_puncts.proofs.Filing.{columns_stay, filed_in_columns, filed_in_rest, filed_in_sets, on_err, unfiled}
use Rattle.pj_puncts.proofs.index.Index.file.Goals as goal

pub returns-in_err-file_in_sets-clause-err : goal.returns-in_err-file_in_sets-clause-err
returns-in_err-file_in_sets-clause-err c =
    let old = c.args.self.now in
    let new : Index = record { sets = c.file_in_sets.new.sets; columns = old.columns; rest = old.rest } in
    on_err c.from_residual.result (IsUnfiled old new) (unfiled old new c.in_err-file_in_sets.ensures.err (columns_stay old.columns.items old.columns.items refl) refl)

pub returns-then-branch-clause-ok : goal.returns-then-branch-clause-ok
returns-then-branch-clause-ok c =
    let old = c.args.self.now in
    let new : Index = record { sets = c.file_in_sets.new.sets; columns = old.columns; rest = old.rest } in
    let took : SetsTake c.args.kept.now c.args.at old.sets.items c.file_in_sets.new.sets.items true =
    subst (SetsTake c.args.kept.now c.args.at old.sets.items c.file_in_sets.new.sets.items) c.if-branch.true c.in_ok-file_in_sets.ensures.ok in
    filed_in_sets c.args.kept.now c.args.at old new c.requires took refl refl

pub returns-in_err-file_in_columns-clause-err : goal.returns-in_err-file_in_columns-clause-err
returns-in_err-file_in_columns-clause-err c =
    let old = c.args.self.now in
    let new : Index = record { sets = c.file_in_sets.new.sets; columns = c.file_in_columns.new.columns; rest = old.rest } in
    let same : SetsTake c.args.kept.now c.args.at old.sets.items c.file_in_sets.new.sets.items false =
    subst (SetsTake c.args.kept.now c.args.at old.sets.items c.file_in_sets.new.sets.items) c.if-branch.false c.in_ok-file_in_sets.ensures.ok in
    on_err c.from_residual-in_err-file_in_columns.result (IsUnfiled old new) (unfiled old new same c.in_err-file_in_columns.ensures.err refl)

pub returns-then-branch-2-clause-ok : goal.returns-then-branch-2-clause-ok
returns-then-branch-2-clause-ok c =
    let old = c.args.self.now in
    let new : Index = record { sets = c.file_in_sets.new.sets; columns = c.file_in_columns.new.columns; rest = old.rest } in
    let same : SetsTake c.args.kept.now c.args.at old.sets.items c.file_in_sets.new.sets.items false =
    subst (SetsTake c.args.kept.now c.args.at old.sets.items c.file_in_sets.new.sets.items) c.if-branch.false c.in_ok-file_in_sets.ensures.ok in
    let took : ColumnsTake c.args.kept.now c.args.at old.columns.items c.file_in_columns.new.columns.items true =
    subst (ColumnsTake c.args.kept.now c.args.at old.columns.items c.file_in_columns.new.columns.items) c.if-branch-2.true c.in_ok-file_in_columns.ensures.ok in
    filed_in_columns c.args.kept.now c.args.at old new c.requires same took refl

pub returns-in_err-push-clause-err : goal.returns-in_err-push-clause-err
returns-in_err-push-clause-err c =
    let old = c.args.self.now in
    let new : Index = record { sets = c.file_in_sets.new.sets; columns = c.file_in_columns.new.columns; rest = c.push.new.self } in
    let same : SetsTake c.args.kept.now c.args.at old.sets.items c.file_in_sets.new.sets.items false =
    subst (SetsTake c.args.kept.now c.args.at old.sets.items c.file_in_sets.new.sets.items) c.if-branch.false c.in_ok-file_in_sets.ensures.ok in
    let columns : c.file_in_columns.new.columns.items ≡ old.columns.items =
    subst (ColumnsTake c.args.kept.now c.args.at old.columns.items c.file_in_columns.new.columns.items) c.if-branch-2.false c.in_ok-file_in_columns.ensures.ok in
    on_err c.from_residual-in_err-push.result (IsUnfiled old new) (unfiled old new same (columns_stay old.columns.items c.file_in_columns.new.columns.items columns) c.in_err-push.ensures.err)

pub returns-clause-ok : goal.returns-clause-ok
returns-clause-ok c =
    let old = c.args.self.now in
    let new : Index = record { sets = c.file_in_sets.new.sets; columns = c.file_in_columns.new.columns; rest = c.push.new.self } in
    let same : SetsTake c.args.kept.now c.args.at old.sets.items c.file_in_sets.new.sets.items false =
    subst (SetsTake c.args.kept.now c.args.at old.sets.items c.file_in_sets.new.sets.items) c.if-branch.false c.in_ok-file_in_sets.ensures.ok in
    let columns : c.file_in_columns.new.columns.items ≡ old.columns.items =
    subst (ColumnsTake c.args.kept.now c.args.at old.columns.items c.file_in_columns.new.columns.items) c.if-branch-2.false c.in_ok-file_in_columns.ensures.ok in
    filed_in_rest c.args.kept.now c.args.at old new c.requires same columns c.in_ok-push.ensures.ok
