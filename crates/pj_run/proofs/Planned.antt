-- What the laws of histories ask of the nodes of a sound plan's run, and of the steps of a script.
use Rattle.std.specs.Prelude.{⊤, slice_index_or}
use Rattle.std.proofs.Common.{◌<◌, ℕ, List, [], ◌∷◌, length, Option, Some, None, sym, subst, arith}
use Rattle.pj_run.specs.Jobs.{Job}
use Rattle.pj_plan.specs.Canonical.{no_node}
use Rattle.pj_plan.specs.Sound.{IsSoundPlan}
use Rattle.pj_scheme.specs.Derived.{schemes_of}
use Rattle.pj_laws.specs.Climb.{IsTree}
use Rattle.pj_laws.specs.Seats.{HasInput}
use Rattle.pj_events.specs.Join.{inputs}
use Rattle.pj_events.specs.Plan.{ArePlanned, Node, Operator, Stream, Select, Project, Union, Join, Group, operator_at}
use Rattle.pj_events.specs.History.{data_in}
use Rattle.pj_laws.specs.HistoryLaws.{AllAreCertified}
use Rattle.pj_core.proofs.Frames.{certs_at, operator-is}
use Rattle.pj_core.proofs.Planned.{nodes-long, not-empty, planned, tree as is_tree}
use Rattle.pj_core.specs.Cores.{CoreState}
use Rattle.pj_core_laws.proofs.Allowed.{input-of}
use Rattle.pj_feed.proofs.StreamNodes.{count_numbers}
use Rattle.pj_script.specs.declared.step.ScriptStep.{ScriptStep}
use Rattle.pj_script.specs.declared.step.ScriptStep.TheVariants.{Arrive, Take, Give, Sweep, Drain}
use Rattle.pj_script.specs.Playing.{AllFit, FitsPlan}
use Rattle.pj_script.specs.Reading.{AreStepsOf, IsStepOf}
use Rattle.pj_run.specs.declared.run.Writing.{Writing}
use Rattle.pj_run.specs.Runs.{IsNewCore, IsScriptOf, job_by, plan_in, plan_run, run_nodes}
use Rattle.pj_run.proofs.Accepting.{count-streams}

-- ---- steps that fit

has-inputs : (o : Operator) (input : ℕ) → HasInput o input → input < inputs (data_in o)
has-inputs (Stream schema sent) input h = absurd h
has-inputs (Select test) input h = absurd h
has-inputs (Project columns) input h = absurd h
has-inputs (Union n u) input h = absurd h
has-inputs (Join spec s) input h = h
has-inputs (Group spec rows) input h = absurd h

step-of : (job : Job) → IsSoundPlan job.nodes → (step : ScriptStep) → IsStepOf job.nodes step → FitsPlan (run_nodes job) step
step-of job sound (Arrive stream) fit = let a = count_numbers job.nodes in let b = count-streams job in omega (arith, fit, a, b)
step-of job sound Take fit = tt
step-of job sound (Give join ticket) fit = let a = nodes-long (plan_run job) in let b = fit.there in omega (arith, a, b)
step-of job sound (Sweep join input) fit =
    let lt : join < length job.nodes = fit.0.there in
    let node = slice_index_or job.nodes join no_node in (
      (let a = nodes-long (plan_run job) in omega (arith, a, lt)),
      has-inputs (operator_at (run_nodes job) join) input
          (subst (λ (o : Operator). HasInput o input) (sym (operator-is (schemes_of job.nodes) (plan_run job).certs job.nodes join lt))
          (input-of job.nodes (schemes_of job.nodes) (certs_at job.nodes (plan_run job).certs join) node.schema node.node input (sound.each join lt).operator fit.0.joins fit.1)),
    )
step-of job sound Drain fit = tt

-- steps over the nodes of a sound plan fit the plan as it is run
pub steps-of : (job : Job) → IsSoundPlan job.nodes → (steps : List (ℕ × ScriptStep)) → AreStepsOf job.nodes steps → AllFit (run_nodes job) steps
steps-of job sound [] fit = tt
steps-of job sound ((line, step) ∷ steps) fit = (step-of job sound step fit.0, steps-of job sound steps fit.1)

-- the steps of a script fit these nodes, if there is one
abbrev pub FitsBy : Option (List (ℕ × ScriptStep)) → List Node → Type 0
FitsBy None nodes = ⊤
FitsBy (Some steps) nodes = AllFit nodes steps

abbrev pub FitsScript : Job → Type 0
FitsScript job = FitsBy job.script (run_nodes job)

fits-by : (job : Job) → IsSoundPlan job.nodes → (script : Option (List (ℕ × ScriptStep))) → IsScriptOf job.nodes script → FitsBy script (run_nodes job)
fits-by job sound None of = tt
fits-by job sound (Some steps) of = steps-of job sound steps of

-- ---- what the laws ask

pub record IsPlanned (job : Job) : Type 0 where
  pub sound : IsSoundPlan job.nodes
  pub well_made : ArePlanned [] (run_nodes job)
  pub tree : IsTree (run_nodes job)
  pub some : 0 < length (run_nodes job)
  pub certified : AllAreCertified (run_nodes job)
  pub fit : FitsScript job

-- the plan of a new core, and the steps of a script over it
pub new_planned : (script : Option (List (ℕ × ScriptStep))) (writing : Writing) (core : CoreState) → IsNewCore core → IsScriptOf core.plan.nodes script → IsPlanned (job_by script writing core)
new_planned script writing core new of = record {
  sound = new.sound;
  well_made = planned (plan_in core) new.sound;
  tree = is_tree (plan_in core) new.sound;
  some = not-empty (plan_in core) new.sound;
  certified = new.certified;
  fit = fits-by (job_by script writing core) new.sound script of;
}
