use Rattle.std.proofs.Common.{ap, sym, ◌∙◌, IfSome, Some, ℕ, ◌≡◌, arith}
use Rattle.pj_recheck.specs.declared.routes.BackRoute.{BackRoute}
use Rattle.pj_recheck.specs.Recheck.{WayFits}
use Rattle.pj_recheck.specs.Watching.{PathView, asker}
use Rattle.pj_recheck.proofs.Backward.{input_step}
use Rattle.pj_recheck.proofs.Compiled.{all_more, backs_next, backs_past, kept_more}
use Rattle.pj_recheck.proofs.compiling.Path.add_back.Goals as goal

same : (a b : ℕ) → Some a ≡ Some b → a ≡ b
same a b e = cc

pub returns-then-at-other-clause-backs : goal.returns-then-at-other-clause-backs
returns-then-at-other-clause-backs c =
    backs_past (asker c.args.self.now) c.args.at c.args.other c.args.backs.now
    (λ here. c.if-at-other.true (same c.at.result.now.input c.args.other (input_step c.args.self.now c.self.inside.schemes.now c.self.inside.cert.now c.args.at c.at.result.now (ap (λ (p : PathView). p.cert) (sym c.self.view_is)) (λ e. let lt = c.requires.within.0 in omega (arith, lt, e)) c.at.ensures ∙ here)))

pub returns-clause-backs : goal.returns-clause-backs
returns-clause-backs c =
    backs_next (asker c.args.self.now) c.args.at c.args.other c.args.backs.now c.push.new.self (record { owner = c.self.inside.input; way = c.in_ok-way.way }) c.in_ok-push.ensures.ok (ap (λ (p : PathView). p.input) c.self.view_is) c.in_ok-way.ensures.way

pub returns-clause-fit : goal.returns-clause-fit
returns-clause-fit c = λ all. all_more (λ (b : BackRoute). IfSome b.way (WayFits c.args.self.now.row_states)) c.args.backs.now c.push.new.self (record { owner = c.self.inside.input; way = c.in_ok-way.way }) c.in_ok-push.ensures.ok all c.in_ok-way.ensures.fits

pub returns-clause-keeps : goal.returns-clause-keeps
returns-clause-keeps c = kept_more c.args.backs.now c.push.new.self (record { owner = c.self.inside.input; way = c.in_ok-way.way }) c.in_ok-push.ensures.ok
