use Rattle.std.proofs.Common.{◌≡◌, ◌<◌, [], ◌∷◌, ap, arith, subst}
use Rattle.pj_state.specs.States.{stored}
use Rattle.pj_cover.specs.Asking.{IsJudged, TellsRipe, entries, known_of, tuple_of}
use Rattle.pj_recheck.specs.Judging.{JudgeView}
use Rattle.pj_rows.specs.Tuples.{row_pairs}
use Rattle.pj_recheck.proofs.Looped.{row_fits}
use Rattle.pj_recheck.proofs.Picked.{verdict_is}
use Rattle.pj_recheck.proofs.sweeping.Judge.verdict.Goals as goal

pub judge_row-requires-clause-fits : goal.judge_row-requires-clause-fits
judge_row-requires-clause-fits c =
    row_fits c.self.inside.spec.now c.self.inside.schemes.now c.self.inside.route.now c.self.inside.input c.self.inside.row_states.now c.self.inside.punct_stores.now c.args.ticket c.args.row.now c.self.invariant (rw (← c.self.view_is) at c.requires)

pub returns : goal.returns
returns c =
    let lt : c.args.ticket < c.args.self.now.low = let low : c.self.inside.low ≡ c.args.self.now.low = ap (λ (j : JudgeView). j.low) c.self.view_is in omega (arith, c.if-self-ticket.false, low) in
    let v = c.judge_row.result in
    verdict_is c.args.self.now (stored c.args.ticket c.args.row.now) v lt
    (subst (λ (j : JudgeView). TellsRipe (known_of j.spec (row_pairs j.row_states) j.punct_stores j.low) (entries j.schemes j.cert) j.input c.args.row.now v) c.self.view_is c.judge_row.ensures.ripe)
    (subst (λ (j : JudgeView). IsJudged (known_of j.spec (row_pairs j.row_states) j.punct_stores j.low) (entries j.schemes j.cert) (tuple_of j.input (c.args.ticket, c.args.row.now) ∷ []) v) c.self.view_is (c.judge_row.ensures.asks c.args.ticket))
