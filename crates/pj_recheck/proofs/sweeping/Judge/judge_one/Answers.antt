use Rattle.std.proofs.Common.{◌≡◌, ◌∙◌, length, ap, sym}
use Rattle.pj_state.specs.States.{StateView, row_under}
use Rattle.pj_recheck.specs.Judging.{JudgeView, rows_at}
use Rattle.pj_rows.specs.Tuples.{state_at}
use Rattle.pj_rows.proofs.States.{state_is}
use Rattle.pj_recheck.proofs.Picked.{judged_none, judged_row, under_at}
use Rattle.pj_recheck.proofs.sweeping.Judge.judge_one.Goals as goal

pub verdict-verdict-requires : goal.verdict-verdict-requires
verdict-verdict-requires c =
    let state : c.index-self-self.result ≡ state_at c.args.self.now.row_states c.args.self.now.input = state_is c.self.inside.row_states.now c.self.inside.input c.index-self-self.result (length c.self.inside.spec.now.inputs) c.self.invariant.count c.self.invariant.there c.index-self-self.is ∙ ap (λ (j : JudgeView). state_at j.row_states j.input) c.self.view_is in
    under_at (rows_at c.args.self.now) c.args.ticket c.in-Some.row.now (c.in-Some.ensures ∙ ap (λ (s : StateView). row_under c.args.ticket s.rows) (sym c.index-self-self.is ∙ state))

pub returns-in-None-clause-ok : goal.returns-in-None-clause-ok
returns-in-None-clause-ok c =
    let state : c.index-self-self.result ≡ state_at c.args.self.now.row_states c.args.self.now.input = state_is c.self.inside.row_states.now c.self.inside.input c.index-self-self.result (length c.self.inside.spec.now.inputs) c.self.invariant.count c.self.invariant.there c.index-self-self.is ∙ ap (λ (j : JudgeView). state_at j.row_states j.input) c.self.view_is in
    judged_none c.args.self.now c.args.ticket c.args.judged.now (c.in-None.ensures ∙ ap (λ (s : StateView). row_under c.args.ticket s.rows) (sym c.index-self-self.is ∙ state))

pub returns-in_ok-sort_out-in-Some-clause-ok : goal.returns-in_ok-sort_out-in-Some-clause-ok
returns-in_ok-sort_out-in-Some-clause-ok c =
    let state : c.index-self-self.result ≡ state_at c.args.self.now.row_states c.args.self.now.input = state_is c.self.inside.row_states.now c.self.inside.input c.index-self-self.result (length c.self.inside.spec.now.inputs) c.self.invariant.count c.self.invariant.there c.index-self-self.is ∙ ap (λ (j : JudgeView). state_at j.row_states j.input) c.self.view_is in
    judged_row c.args.self.now c.args.ticket c.in-Some.row.now c.verdict-verdict.result c.args.judged.now (record { gone = c.sort_out.new.gone; marked = c.keep_marked.new.marked }) (c.in-Some.ensures ∙ ap (λ (s : StateView). row_under c.args.ticket s.rows) (sym c.index-self-self.is ∙ state)) c.verdict-verdict.ensures
    (rw (← c.is_ripe.ensures) c.in_ok-sort_out-in-Some.ensures.ok.0) c.in_ok-keep_marked-in-Some.ensures
