use Rattle.std.proofs.Common.{◌∙◌, ℕ, Bool, arith, refl, drop, get_or, subst, sym, ◌+◌}
use Rattle.pj_core.specs.Plans.{RunPlan}
use Rattle.pj_feed.proofs.AllFeeds.{all_same, all_same_then}
use Rattle.pj_script.specs.declared.step.ScriptStep.{ScriptStep}
use Rattle.pj_script.specs.declared.step.ScriptStep.TheVariants.{Arrive}
use Rattle.pj_script.specs.Reading.{IsStepOf}
use Rattle.pj_replay.specs.Playing.{AnswersPlay, Stage, stage}
use Rattle.pj_replay.proofs.Ended.{ends_plan, skips_plan}
use Rattle.pj_replay.proofs.Plays.{any-stops, playing-at, playing-done, playing-more, step-fits, step-refused}
use Rattle.pj_replay.proofs.script.play_steps.Given.{Over}
use Rattle.pj_replay.proofs.script.play_steps.Goals.{After-make_step, After-steps}
use Rattle.pj_replay.proofs.script.play_steps.Goals as goal

abbrev none : ℕ × ScriptStep
none = (0, Arrive 0)

abbrev here : (g : Over) → After-steps g → Stage
here g c = stage c.steps.hand c.steps.feeds.feeds.items c.steps.gathered (g.K.Sink.state c.steps.out)

abbrev then : (g : Over) → After-make_step g → Stage
then g c = stage c.make_step.new.hand c.make_step.new.feeds.feeds.items c.make_step.new.gathered (g.K.Sink.state c.make_step.new.out)

pub make_step-requires-clause-fits : goal.make_step-requires-clause-fits
make_step-requires-clause-fits g c =
    subst (λ (p : RunPlan). IsStepOf p.nodes (get_or c.args.steps.now c.steps.item-index none).1) (sym c.steps.invariant.plan)
    (step-fits c.args.hand.now.core.plan.nodes c.args.steps.now c.steps.item-index none c.requires.fits c.steps-test.true)

pub returns-in-Ok-false-clause-err : goal.returns-in-Ok-false-clause-err
returns-in-Ok-false-clause-err g c = λ run history p.
    let a = (goal.at.returns-in-Ok-false-clause-err g c).After-make_step in
    let now = c.steps.invariant.goes run history p in
    let item = get_or c.args.steps.now c.steps.item-index none in
    step-refused run now.0 (stage c.steps.hand c.steps.feeds.feeds.items c.steps.gathered (g.K.Sink.state c.steps.out)) item.0 item.1 (drop (c.steps.item-index + 1) c.args.steps.now)
    (playing-at run now.0 _ c.args.steps.now c.steps.item-index none c.steps-test.true now.1) c.steps.invariant.ready (then g a)
    (subst (λ (b : Bool). AnswersPlay b (stage c.steps.hand c.steps.feeds.feeds.items c.steps.gathered (g.K.Sink.state c.steps.out)) (then g a) item.1) c.in-Ok-false.field-0-test c.in-Ok-false.ensures.ok)

pub returns-in-Err-clause-err : goal.returns-in-Err-clause-err
returns-in-Err-clause-err g c = λ run history p.
    let a = (goal.at.returns-in-Err-clause-err g c).After-make_step in
    let now = c.steps.invariant.goes run history p in
    let item = get_or c.args.steps.now c.steps.item-index none in
    any-stops run now.0 (stage c.steps.hand c.steps.feeds.feeds.items c.steps.gathered (g.K.Sink.state c.steps.out)) item.0 item.1 (drop (c.steps.item-index + 1) c.args.steps.now)
    (playing-at run now.0 _ c.args.steps.now c.steps.item-index none c.steps-test.true now.1) c.steps.invariant.ready (then g a) c.in-Err.stop c.in-Err.ensures.err

pub steps-preserved : goal.steps-preserved
steps-preserved g c =
    let a = (goal.at.steps-preserved g c).After-make_step in
    let item = get_or c.args.steps.now c.steps.item-index none in
    let made = subst (λ (b : Bool). AnswersPlay b (stage c.steps.hand c.steps.feeds.feeds.items c.steps.gathered (g.K.Sink.state c.steps.out)) (then g a) item.1) c.in-Ok-true.field-0-test c.in-Ok-true.ensures.ok in
    record {
      ready = made.ready;
      plan = made.plan ∙ c.steps.invariant.plan;
      at = c.in-Ok-true.ensures.at ∙ c.steps.invariant.at;
      same = all_same_then c.args.feeds.now.feeds.items c.steps.feeds.feeds.items c.make_step.new.feeds.feeds.items c.steps.invariant.same c.in-Ok-true.ensures.same;
      told = λ t. c.steps.invariant.told (c.in-Ok-true.ensures.told t);
      later = omega (arith, c.steps.invariant.later, c.in-Ok-true.ensures.later);
      goes = λ run history p.
          let now = c.steps.invariant.goes run history p in
          playing-more run now.0 (stage c.steps.hand c.steps.feeds.feeds.items c.steps.gathered (g.K.Sink.state c.steps.out)) item.0 item.1 (drop (c.steps.item-index + 1) c.args.steps.now)
          (playing-at run now.0 _ c.args.steps.now c.steps.item-index none c.steps-test.true now.1) c.steps.invariant.ready (then g a) made;
    }

pub returns-clause-ok : goal.returns-clause-ok
returns-clause-ok g c = record {
  ready = c.steps.invariant.ready;
  plan = c.steps.invariant.plan;
  goes = λ run history p.
      let now = c.steps.invariant.goes run history p in
      (now.0, playing-done run now.0 (stage c.steps.hand c.steps.feeds.feeds.items c.steps.gathered (g.K.Sink.state c.steps.out)) c.args.steps.now c.steps.item-index c.steps-test.false now.1);
}

pub returns-in-Ok-false-clause-same : goal.returns-in-Ok-false-clause-same
returns-in-Ok-false-clause-same g c = all_same_then c.args.feeds.now.feeds.items c.steps.feeds.feeds.items c.make_step.new.feeds.feeds.items c.steps.invariant.same c.in-Ok-false.ensures.same

pub returns-in-Err-clause-same : goal.returns-in-Err-clause-same
returns-in-Err-clause-same g c = all_same_then c.args.feeds.now.feeds.items c.steps.feeds.feeds.items c.make_step.new.feeds.feeds.items c.steps.invariant.same c.in-Err.ensures.same

pub steps-init : goal.steps-init
steps-init g c = record { ready = c.requires.ready; plan = refl; at = refl; same = all_same c.args.feeds.now.feeds.items; told = λ t. t; later = omega arith; goes = λ run history p. (history, p) }

pub returns-in-Ok-false-clause-plan : goal.returns-in-Ok-false-clause-plan
returns-in-Ok-false-clause-plan g c =
    let a = (goal.at.returns-in-Ok-false-clause-plan g c).After-make_step in
    let item = get_or c.args.steps.now c.steps.item-index none in
    skips_plan (stage c.steps.hand c.steps.feeds.feeds.items c.steps.gathered (g.K.Sink.state c.steps.out)) (then g a) item.1
    (subst (λ (b : Bool). AnswersPlay b (stage c.steps.hand c.steps.feeds.feeds.items c.steps.gathered (g.K.Sink.state c.steps.out)) (then g a) item.1) c.in-Ok-false.field-0-test c.in-Ok-false.ensures.ok)
    ∙ c.steps.invariant.plan

pub returns-in-Err-clause-plan : goal.returns-in-Err-clause-plan
returns-in-Err-clause-plan g c =
    let a = (goal.at.returns-in-Err-clause-plan g c).After-make_step in
    let item = get_or c.args.steps.now c.steps.item-index none in
    ends_plan c.in-Err.stop (stage c.steps.hand c.steps.feeds.feeds.items c.steps.gathered (g.K.Sink.state c.steps.out)) (then g a) item.1 c.in-Err.ensures.err
    ∙ c.steps.invariant.plan
