use Rattle.std.proofs.Common.{List, ℕ, ◌++◌, ◌∙◌, ap, subst, sym}
use Rattle.std.specs.BTreeSet.{contains}
use Rattle.std.specs.Ordering.{nat_cmp}
use Rattle.std.proofs.lemmas.Bool.{not-false}
use Rattle.pj_value.specs.Lists.{In}
use Rattle.pj_value.proofs.Members.{in_at}
use Rattle.pj_recheck.specs.Watching.{AreWhole}
use Rattle.pj_recheck.proofs.Appended.{once_more, once_there}
use Rattle.pj_recheck.proofs.reaching.append_once.Goals as goal

pub returns-in_ok-append-in-Some-clause-whole : goal.returns-in_ok-append-in-Some-clause-whole
returns-in_ok-append-in-Some-clause-whole c =
    subst (λ (found : List ℕ). AreWhole c.args.state.now.rows c.args.column c.insert.new.self found)
    (sym (c.in_ok-append-in-Some.ensures.ok ∙ ap (λ (ts : List ℕ). c.args.found.now ++ ts) c.tickets-tickets.ensures.tickets))
    (once_more c.args.state.now c.args.column c.args.value.now c.args.seen.now c.insert.new.self c.args.found.now c.in-Some.first.now c.requires.wide c.requires.indexed c.tickets-tickets.ensures.rising c.requires.whole
    (subst (λ (ts : List ℕ). In c.in-Some.first.now ts) c.tickets-tickets.ensures.tickets (in_at c.tickets-tickets.result.now 0 c.in-Some.first.now (sym c.in-Some.ensures.value)))
    c.in_ok-insert-in-Some.ensures.updates)

pub returns-else-branch-clause-all : goal.returns-else-branch-clause-all
returns-else-branch-clause-all c =
    once_there c.args.state.now c.args.column c.args.value.now c.args.seen.now c.args.found.now c.in-Some.first.now c.requires.wide c.requires.indexed c.requires.whole
    (subst (λ (ts : List ℕ). In c.in-Some.first.now ts) c.tickets-tickets.ensures.tickets (in_at c.tickets-tickets.result.now 0 c.in-Some.first.now (sym c.in-Some.ensures.value)))
    (not-false (contains nat_cmp c.args.seen.now c.in-Some.first.now) (sym c.in_ok-insert-in-Some.ensures.added ∙ c.if-branch.false))
