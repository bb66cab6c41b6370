use Rattle.std.proofs.Common.{sym, subst, List, Option}
use Rattle.std.specs.Option.{IfSome}
use Rattle.pj_events.specs.Patterns.{Pattern}
use Rattle.pj_recheck.specs.Added.{IsBeside}
use Rattle.pj_recheck.proofs.Adding.{added_nothing, added_part}
use Rattle.pj_recheck.proofs.added.added_by.Goals as goal

pub returns-then-covers : goal.returns-then-covers
returns-then-covers c = added_nothing c.args.came.now.kept c.args.punct.now c.in-Some.last.now c.in-Some.ensures (sym c.if-covers.ensures)

pub returns-in-Some-2 : goal.returns-in-Some-2
returns-in-Some-2 c =
    added_part c.args.came.now.kept c.args.punct.now c.in-Some.last.now c.in-Some-2.rest c.in-Some.ensures
    (subst (λ (told : Option (List Pattern)). IfSome told (IsBeside c.args.punct.now c.in-Some.last.now)) c.in-Some-2.is c.in_ok-beside-in-Some.ensures)
