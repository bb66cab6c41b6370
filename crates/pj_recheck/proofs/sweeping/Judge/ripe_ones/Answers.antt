use Rattle.std.proofs.Common.{◌≡◌, ◌∙◌, ◌++◌, ℕ, List, get_or, length, ap, map, subst, sym}
use Rattle.pj_state.specs.declared.shared.Stored.{Stored}
use Rattle.pj_state.specs.Rising.{IsRising, itself}
use Rattle.pj_state.specs.States.{StateView, ticket_of, tickets_of}
use Rattle.pj_recheck.specs.Judging.{JudgeView, ripe_at, row_in, rows_at}
use Rattle.pj_rows.specs.Tuples.{state_at}
use Rattle.pj_recheck.specs.Watching.{HaveDue}
use Rattle.pj_rows.proofs.Halved.{some_rise}
use Rattle.pj_rows.proofs.States.{state_is}
use Rattle.pj_recheck.proofs.Picked.{all_looked, all_ripe}
use Rattle.pj_recheck.proofs.sweeping.Judge.ripe_ones.Goals as goal

pub returns-clause-gone : goal.returns-clause-gone
returns-clause-gone c =
    let state : get_or c.self.inside.row_states.now c.self.inside.input c.index-self-self.result ≡ state_at c.args.self.now.row_states c.args.self.now.input = sym c.index-self-self.is ∙ state_is c.self.inside.row_states.now c.self.inside.input c.index-self-self.result (length c.self.inside.spec.now.inputs) c.self.invariant.count c.self.invariant.there c.index-self-self.is ∙ ap (λ (j : JudgeView). state_at j.row_states j.input) c.self.view_is in
    let order : IsRising ticket_of (rows_at c.args.self.now) = subst (λ (s : StateView). IsRising ticket_of s.rows) state c.in_ok-tickets.ensures.order in
    let low : c.self.inside.low ≡ c.args.self.now.low = ap (λ (j : JudgeView). j.low) c.self.view_is in
    let all = subst (λ (n : ℕ). HaveDue (rows_at c.args.self.now) c.args.due.now n c.in_ok-tickets.tickets.items) low (subst (λ (s : StateView). HaveDue s.rows c.args.due.now c.self.inside.low c.in_ok-tickets.tickets.items) state c.in_ok-tickets.ensures.all) in
    (rw (c.as_slice.ensures.value) at c.in_ok-judged.ensures.judged.gone) ∙ ap tickets_of (all_ripe c.args.self.now c.args.due.now c.in_ok-tickets.tickets.items order c.in_ok-tickets.ensures.rising c.requires.passed all)

pub returns-clause-rising : goal.returns-clause-rising
returns-clause-rising c =
    let state : get_or c.self.inside.row_states.now c.self.inside.input c.index-self-self.result ≡ state_at c.args.self.now.row_states c.args.self.now.input = sym c.index-self-self.is ∙ state_is c.self.inside.row_states.now c.self.inside.input c.index-self-self.result (length c.self.inside.spec.now.inputs) c.self.invariant.count c.self.invariant.there c.index-self-self.is ∙ ap (λ (j : JudgeView). state_at j.row_states j.input) c.self.view_is in
    let order : IsRising ticket_of (rows_at c.args.self.now) = subst (λ (s : StateView). IsRising ticket_of s.rows) state c.in_ok-tickets.ensures.order in
    subst (λ (ns : List ℕ). IsRising itself ns) (sym (returns-clause-gone c)) (some_rise (ripe_at c.args.self.now) (rows_at c.args.self.now) order)

pub returns-clause-left : goal.returns-clause-left
returns-clause-left c =
    let state : get_or c.self.inside.row_states.now c.self.inside.input c.index-self-self.result ≡ state_at c.args.self.now.row_states c.args.self.now.input = sym c.index-self-self.is ∙ state_is c.self.inside.row_states.now c.self.inside.input c.index-self-self.result (length c.self.inside.spec.now.inputs) c.self.invariant.count c.self.invariant.there c.index-self-self.is ∙ ap (λ (j : JudgeView). state_at j.row_states j.input) c.self.view_is in
    let order : IsRising ticket_of (rows_at c.args.self.now) = subst (λ (s : StateView). IsRising ticket_of s.rows) state c.in_ok-tickets.ensures.order in
    let low : c.self.inside.low ≡ c.args.self.now.low = ap (λ (j : JudgeView). j.low) c.self.view_is in
    let all = subst (λ (n : ℕ). HaveDue (rows_at c.args.self.now) c.args.due.now n c.in_ok-tickets.tickets.items) low (subst (λ (s : StateView). HaveDue s.rows c.args.due.now c.self.inside.low c.in_ok-tickets.tickets.items) state c.in_ok-tickets.ensures.all) in
    all_looked c.args.self.now c.args.due.now c.in_ok-tickets.tickets.items c.in_ok-judged.judged order all (rw (← c.as_slice.ensures.value) c.in_ok-judged.ensures.judged)

pub returns-clause-removed : goal.returns-clause-removed
returns-clause-removed c =
    let state : get_or c.self.inside.row_states.now c.self.inside.input c.index-self-self.result ≡ state_at c.args.self.now.row_states c.args.self.now.input = sym c.index-self-self.is ∙ state_is c.self.inside.row_states.now c.self.inside.input c.index-self-self.result (length c.self.inside.spec.now.inputs) c.self.invariant.count c.self.invariant.there c.index-self-self.is ∙ ap (λ (j : JudgeView). state_at j.row_states j.input) c.self.view_is in
    let order : IsRising ticket_of (rows_at c.args.self.now) = subst (λ (s : StateView). IsRising ticket_of s.rows) state c.in_ok-tickets.ensures.order in
    let low : c.self.inside.low ≡ c.args.self.now.low = ap (λ (j : JudgeView). j.low) c.self.view_is in
    let all = subst (λ (n : ℕ). HaveDue (rows_at c.args.self.now) c.args.due.now n c.in_ok-tickets.tickets.items) low (subst (λ (s : StateView). HaveDue s.rows c.args.due.now c.self.inside.low c.in_ok-tickets.tickets.items) state c.in_ok-tickets.ensures.all) in
    (rw (c.as_slice.ensures.value) at c.in_ok-judged.ensures.removed) ∙ ap (λ (rows : List Stored). c.args.removed.now ++ map row_in rows) (all_ripe c.args.self.now c.args.due.now c.in_ok-tickets.tickets.items order c.in_ok-tickets.ensures.rising c.requires.passed all)
