use Rattle.std.proofs.Common.{ℕ, ◌+◌, List, arith, get_or, refl, subst, sym}
use Rattle.pj_waiting.proofs.Listed.{ListsUnder, freed_more, lists_end, lists_more, lists_skip}
use Rattle.pj_waiting.proofs.waiting.Waiting.blocked_by.Goals as goal
use Rattle.pj_waiting.proofs.waiting.Waiting.blocked_by.Goals.{then-blocker-next+in_ok-append_under+in-Some, else-blocker-next}

pub returns-in-None-clause-all : goal.returns-in-None-clause-all
returns-in-None-clause-all c =
    let at = c.loop-blocker.blocker-index in
    lists_end c.args.self.now c.args.blockers.now at c.loop-blocker.next (get_or c.args.blockers.now at 0) 0 c.loop-blocker.listed c.loop-blocker-test.true refl c.loop-blocker.invariant
    c.append_under.new.listed c.requires c.in_ok-append_under.ensures.found c.in_ok-append_under.field-0 c.in-None.is c.in_ok-append_under.ensures.none

pub returns-in-None-clause-those : goal.returns-in-None-clause-those
returns-in-None-clause-those c =
    let at = c.loop-blocker.blocker-index in
    freed_more c.args.self.now c.args.blockers.now at c.loop-blocker.next (get_or c.args.blockers.now at 0) 0 c.loop-blocker.listed c.loop-blocker-test.true refl c.loop-blocker.invariant c.append_under.new.listed c.requires c.in_ok-append_under.ensures.found

pub loop-blocker-preserved : goal.loop-blocker-preserved
loop-blocker-preserved c =
    let w = c.args.self.now in
    let blockers = c.args.blockers.now in
    let at = c.loop-blocker.blocker-index in
    let blocker = get_or blockers at 0 in
    let next = c.loop-blocker.next in
    let listed = c.loop-blocker.listed in
    elim c.if-blocker-next.branch [
      | then-blocker-next+in_ok-append_under+in-Some v ↦
          subst (λ (l : List (ℕ × ℕ)). ListsUnder w blockers (at + 1) c.if-blocker-next.next l) (sym v.listed-is)
          (subst (λ n. ListsUnder w blockers (at + 1) n v.append_under.new.listed) (sym v.next-is)
          (lists_more w blockers at next blocker 0 listed c.loop-blocker-test.true refl c.loop-blocker.invariant v.append_under.new.listed c.requires v.in_ok-append_under.ensures.found v.in-Some.first v.in_ok-append_under.field-0 v.in-Some.is v.in_ok-append_under.ensures.some))
      | else-blocker-next v ↦
          subst (λ (l : List (ℕ × ℕ)). ListsUnder w blockers (at + 1) c.if-blocker-next.next l) (sym v.listed-is)
          (subst (λ n. ListsUnder w blockers (at + 1) n listed) (sym v.next-is)
          (lists_skip w blockers at next blocker 0 listed c.loop-blocker-test.true refl c.loop-blocker.invariant (omega (arith, v.if-blocker-next.false))))
    ]
