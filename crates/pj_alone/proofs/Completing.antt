-- A call that nothing hinders is run to its end.
use Rattle.std.proofs.Common.{◌≡◌, ◌<◌, ◌+◌, ℕ, zero, suc, ◌⊎◌, inl, inr, List, [], ◌∷◌, length, Option, Some, None, IsTrue, refl, ap, sym, ◌∙◌, subst, arith, true, false}
use Rattle.std.specs.Prelude.{slice_index_or}
use Rattle.std.proofs.lemmas.Bool.{false≢true}
use Rattle.std.proofs.lemmas.List.{get_or-map, length-map}
use Rattle.pj_io.specs.States.{FolderState, SinkState}
use Rattle.pj_report.specs.declared.status.Status.{Status}
use Rattle.pj_report.specs.declared.status.Status.TheVariants.{Done, Usage, OpenFault, ReadFault, PlanRefused, FileCount, Unsafe, ScriptRefused, WriteFault, NoMemory, Limit}
use Rattle.pj_report.specs.declared.status.LimitOf.TheVariants.{Plan, Script, Node, File}
use Rattle.pj_prepare.specs.Calls.{nothing, running, checking, making, is_nothing, leading, takes_plan, Task, Call, fault_by, file_names, first_file, job_if, job_of, job_with, operand, script_fault, steps_by, stream_files, IsTold, IsToldIn}
use Rattle.pj_feed.specs.Named.{AreTold}
use Rattle.pj_run.specs.Jobs.{Job}
use Rattle.pj_script.specs.declared.step.ScriptStep.{ScriptStep}
use Rattle.pj_plan.specs.Nodes.{streams_in}
use Rattle.pj_feed.specs.Feeds.{accepted_of}
use Rattle.pj_run.specs.Runs.{elements_to, refused_by, refused_line, run_nodes}
use Rattle.pj_algebra.specs.Answers.{IsCounted}
use Rattle.pj_alone.specs.Completeness.{Completes, NoneRose, RoomFor}
use Rattle.pj_prepare.specs.Refusals.{IsRefused}
use Rattle.pj_alone.specs.Top.{BeyondLimit, HasFault, IsBuilt, IsFit, IsLineRefused, IsPlayable, CanPlay, IsScriptTooLong, IsTooLarge, IsUnopened, WriteFails}
use Rattle.pj_alone.proofs.EarlyLaws.{IsOfPlan, fit_never}
use Rattle.pj_prepare.proofs.Operands.{count_leading, operand_at}

-- there is something to run, and to this node, a join or a group, more elements come in all than may
pub record ComesOver (call : Call) (node : ℕ) : Type 0 where
  pub built : IsBuilt call
  pub beyond : IsTold call → (job : Job) × (job_of call ≡ Some job) × IsCounted job.nodes node × (job.limit < elements_to job (stream_files call) node)

pub comes_over : (call : Call) (node : ℕ) → BeyondLimit call node → ComesOver call node
comes_over call node b = record {
  built = b.built;
  beyond = λ all. let over = b.beyond all in (over.0, over.1, over.2.counted, over.2.many);
}

-- when each status comes that is neither done nor want of memory
pub record HasCauses (answer : Status) (call : Call) (after : FolderState) (old new : SinkState) : Type 0 where
  pub usage : answer ≡ Usage → is_nothing call.task ≡ true
  pub refused : (status : Status) → answer ≡ status → IsOfPlan status → IsRefused call status
  pub script_limit : answer ≡ Limit Script → IsScriptTooLong call
  pub line_refused : (line : ℕ) → answer ≡ ScriptRefused line → IsLineRefused call line
  pub open_fault : (n : ℕ) → answer ≡ OpenFault n → IsUnopened call after n
  pub read_fault : (n : ℕ) → answer ≡ ReadFault n → HasFault call after n
  pub write_fault : answer ≡ WriteFault → WriteFails call old new
  pub limit : (node : ℕ) → answer ≡ Limit (Node node) → ComesOver call node
  pub file_limit : (stream : ℕ) → answer ≡ Limit (File stream) → IsTooLarge call stream

-- nothing hinders a call: it asks for something that is not refused, and its run meets no limit
record GoesOn (call : Call) : Type 0 where
  something : is_nothing call.task ≡ false
  unrefused : (status : Status) → IsRefused call status → ⊥
  unlimited : IsScriptTooLong call → ⊥
  stepped : (line : ℕ) → IsLineRefused call line → ⊥
  within : (node : ℕ) → ComesOver call node → ⊥
  fits : (stream : ℕ) → IsTooLarge call stream → ⊥

done_or_memory : (answer : Status) (call : Call) (after : FolderState) (old new : SinkState) → GoesOn call → NoneRose call after old new → HasCauses answer call after old new → (answer ≡ Done) ⊎ (answer ≡ NoMemory)
done_or_memory Done call after old new g none c = inl refl
done_or_memory Usage call after old new g none c = absurd (false≢true (sym g.something ∙ c.usage refl))
done_or_memory (PlanRefused line why) call after old new g none c = absurd (g.unrefused (PlanRefused line why) (c.refused (PlanRefused line why) refl tt))
done_or_memory (FileCount want got) call after old new g none c = absurd (g.unrefused (FileCount want got) (c.refused (FileCount want got) refl tt))
done_or_memory (Unsafe node risk) call after old new g none c = absurd (g.unrefused (Unsafe node risk) (c.refused (Unsafe node risk) refl tt))
done_or_memory (ScriptRefused line) call after old new g none c = absurd (g.stepped line (c.line_refused line refl))
done_or_memory (OpenFault n) call after old new g none c = let f = (c.open_fault n refl).fault in absurd (none.files n f.first f.last f.rose)
done_or_memory (ReadFault n) call after old new g none c = let f = c.read_fault n refl in absurd (none.files n f.first f.last f.rose)
done_or_memory WriteFault call after old new g none c = absurd (none.sink (c.write_fault refl).0)
done_or_memory NoMemory call after old new g none c = inr refl
done_or_memory (Limit Plan) call after old new g none c = absurd (g.unrefused (Limit Plan) (c.refused (Limit Plan) refl tt))
done_or_memory (Limit Script) call after old new g none c = absurd (g.unlimited (c.script_limit refl))
done_or_memory (Limit (Node node)) call after old new g none c = absurd (g.within node (c.limit node refl))
done_or_memory (Limit (File stream)) call after old new g none c = absurd (g.fits stream (c.file_limit stream refl))

-- ---- a run

told_there : (names : List (List ℕ)) (folder : FolderState) (k : ℕ) → AreTold names folder → k < length names → IsTrue (folder.told (slice_index_or names k []))
told_there [] folder k told lt = absurd (omega (arith, lt))
told_there (name ∷ names) folder zero told lt = told.0
told_there (name ∷ names) folder (suc k) told lt = told_there names folder k told.1 (omega (arith, lt))

module _ (call : Call) (told : IsTold call) (built : IsBuilt call) (room : RoomFor running call) where
  at_stream : (stream : ℕ) → operand call.names (first_file call + stream) ≡ slice_index_or (file_names call) stream []
  at_stream stream =
      let lead = leading (operand call.names 1) call.script in
      let many = count_leading (operand call.names 1) call.script in
      ap (λ (names : List (List ℕ)). operand names (first_file call + stream)) built.named ∙ operand_at lead (file_names call) (first_file call + stream) stream (omega (arith, many))

  never_beyond : (node : ℕ) → ComesOver call node → ⊥
  never_beyond node limit =
      let b = limit.beyond told in
      let few = (room b.0 b.1).elements node b.2 in
      let many = b.3 in
      omega (arith, few, many)

  never_large : (stream : ℕ) → IsTooLarge call stream → ⊥
  never_large stream large =
      let names : List (List ℕ) = file_names call in
      let at = at_stream stream in
      let plan = (built.plan told.plan).1 in
      let long : stream < length (stream_files call) = let same = length-map names call.folder.contents in let there = large.there in omega (arith, same, there) in
      let job : Job = job_with call.options (steps_by call.script call.folder.contents plan.0.nodes) plan.0.nodes in
      let few = (room job (ap (job_if call) plan.1)).bytes stream long in
      let same = get_or-map call.folder.contents names stream [] [] large.there in
      let many = large.bytes (subst (λ (name : List ℕ). IsTrue (call.folder.told name)) (sym at) (told_there names call.folder stream told.files large.there)) in
      let is = ap length (same ∙ ap call.folder.contents (sym at)) in
      omega (arith, few, many, is)

  -- a script whose steps are all enabled is not refused
  same_job : (one other : Job) → job_of call ≡ Some one → job_of call ≡ Some other → one ≡ other
  same_job one other a b = let e : Some one ≡ Some other = sym a ∙ b in cc e

  never_line : (script : Option (List ℕ)) → call.script ≡ script → CanPlay script call → (line : ℕ) → IsLineRefused call line → ⊥
  never_line None is played line refused = let e : None ≡ Some refused.name = sym is ∙ refused.scripted in cc e
  never_line (Some name) is played line refused =
      let r = refused.refuses (told.plan, told.script) in
      let p = (played (told.plan, told.script)).1 in
      let same : r.0 ≡ p.0 = same_job r.0 p.0 r.1 p.1 in
      elim r.2 [
        | inl fault ↦ let e : None ≡ Some line = sym p.2 ∙ (ap (λ (j : Job). script_fault call j.nodes) (sym same) ∙ fault) in cc e
        | inr stepped ↦ let e : None ≡ Some line = sym (p.3 told.files) ∙ (ap (λ (j : Job). refused_line j (stream_files call)) (sym same) ∙ stepped.1 told.files) in cc e
      ]

  never_long : (script : Option (List ℕ)) → call.script ≡ script → CanPlay script call → IsScriptTooLong call → ⊥
  never_long None is played long = let e : None ≡ Some long.name = sym is ∙ long.scripted in cc e
  never_long (Some name) is played long =
      let e : Some name ≡ Some long.name = sym is ∙ long.scripted in
      let same : name ≡ long.name = cc e in
      let few = (played (told.plan, told.script)).0 in
      let seen = subst (λ (s : Option (List ℕ)). IsToldIn s call.folder) long.scripted told.script in
      let many = long.long seen in
      let is = ap (λ (n : List ℕ). length (call.folder.contents n)) same in
      omega (arith, few, many, is)

  goes_on : IsPlayable call → GoesOn call
  goes_on playable = record {
    something = ap is_nothing built.form;
    unrefused = λ status refused. fit_never running call status built.form built told.plan (refused.1 told.plan);
    unlimited = never_long call.script refl playable;
    stepped = never_line call.script refl playable;
    within = never_beyond;
    fits = never_large;
  }

-- ---- a check, and a made input

-- a call that is no run meets nothing of what a run may meet
never_runs : (call : Call) (task : Task) → call.task ≡ task → (running ≡ task → ⊥) → is_nothing task ≡ false → ((status : Status) → IsRefused call status → ⊥) → GoesOn call
never_runs call task is other some unrefused =
    let none : IsBuilt call → ⊥ = λ built. other (sym built.form ∙ is) in
    record {
      something = ap is_nothing is ∙ some;
      unrefused = unrefused;
      unlimited = λ long. none long.built;
      stepped = λ line refused. none refused.built;
      within = λ node beyond. none beyond.built;
      fits = λ stream large. none large.built;
    }

-- where each other status has its cause, the call is done or memory was wanting
pub completes_by : (answer : Status) (call : Call) (after : FolderState) (old new : SinkState) → HasCauses answer call after old new → Completes answer call after old new
completes_by answer call after old new causes told fit playable none room = done_or_memory answer call after old new (go call.task refl fit room) none causes
  where
    go : (task : Task) → call.task ≡ task → IsFit task call → RoomFor task call → GoesOn call
    go nothing is fit room = absurd fit
    go running is fit room = goes_on call told fit room playable
    go (checking print) is fit room = never_runs call (checking print) is (λ e. cc e) refl (λ status refused. fit_never (checking print) call status is fit told.plan (refused.1 told.plan))
    go (making seed count) is fit room = never_runs call (making seed count) is (λ e. cc e) refl (λ status refused. false≢true (sym (ap takes_plan is) ∙ refused.0))
