use Rattle.std.proofs.Common.{sym, subst}
use Rattle.pj_value.specs.Lists.{In}
use Rattle.pj_puncts.specs.Alone.{AreAmong, AreSame}
use Rattle.pj_puncts.proofs.Filing.{on_err}
use Rattle.pj_puncts.proofs.numbers.NumberLists.add.Goals as goal

pub returns-in_err-enter-clause-err : goal.returns-in_err-enter-clause-err
returns-in_err-enter-clause-err c =
    on_err c.from_residual-in_err-enter.result (AreSame c.args.self.now c.enter.new.self) (record {
      entries = c.in_err-enter.ensures.err;
      columns = subst (AreAmong c.args.self.now.columns) (sym c.in_err-enter.ensures.columns) c.in_ok-note.ensures.others;
    })

pub returns-clause-ok : goal.returns-clause-ok
returns-clause-ok c = record {
  tells = c.in_ok-enter.ensures.tells;
  more = c.in_ok-enter.ensures.more;
  here = subst (In c.args.key.column) (sym c.in_ok-enter.ensures.columns) c.in_ok-note.ensures.here;
  columns = subst (AreAmong c.args.self.now.columns) (sym c.in_ok-enter.ensures.columns) c.in_ok-note.ensures.others;
}
