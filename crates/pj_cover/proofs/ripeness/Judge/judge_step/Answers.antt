use Rattle.std.proofs.Common.{[], refl}
use Rattle.pj_events.specs.Join.{instance_from}
use Rattle.pj_puncts.specs.Stores.{Store}
use Rattle.pj_cover.specs.Asking.{known_of, marks_of}
use Rattle.pj_cover.proofs.Below.{told_late, told_none, told_ripe}
use Rattle.pj_cover.proofs.ripeness.Judge.judge_step.Goals as goal

abbrev none : Store
none = record { arity = 0; kept = [] }

pub returns-in-None : goal.returns-in-None
returns-in-None g c =
    told_none c.args.self.now.punct_stores.now c.args.self.now.low c.args.step.step.input (instance_from c.args.self.now.spec.now.classes c.args.step.step.input 0 (marks_of c.args.self.now.schemes.now c.args.step.step) c.args.parts.now) none (known_of c.args.self.now.spec.now (g.R.StoredRows.rows c.args.self.now.rows.now) c.args.self.now.punct_stores.now c.args.self.now.low) c.requires.step.store refl refl
    (c.in-None.ensures none)

pub returns-then-number-self : goal.returns-then-number-self
returns-then-number-self g c =
    told_ripe c.args.self.now.punct_stores.now c.args.self.now.low c.args.step.step.input (instance_from c.args.self.now.spec.now.classes c.args.step.step.input 0 (marks_of c.args.self.now.schemes.now c.args.step.step) c.args.parts.now) none (known_of c.args.self.now.spec.now (g.R.StoredRows.rows c.args.self.now.rows.now) c.args.self.now.punct_stores.now c.args.self.now.low) c.requires.step.store refl refl c.in-Some.number c.if-number-self.true
    (c.in-Some.ensures none)

pub returns-else-number-self : goal.returns-else-number-self
returns-else-number-self g c =
    told_late c.args.self.now.punct_stores.now c.args.self.now.low c.args.step.step.input (instance_from c.args.self.now.spec.now.classes c.args.step.step.input 0 (marks_of c.args.self.now.schemes.now c.args.step.step) c.args.parts.now) none (known_of c.args.self.now.spec.now (g.R.StoredRows.rows c.args.self.now.rows.now) c.args.self.now.punct_stores.now c.args.self.now.low) c.requires.step.store refl refl c.in-Some.number c.if-number-self.false
    (c.in-Some.ensures none)
