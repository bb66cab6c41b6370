use Rattle.std.proofs.Common.{◌≡◌, ◌++◌, ℕ, List, [], Result, None, inl, refl, ap, subst, sym, ◌∙◌, length, arith}
use Rattle.std.specs.Prelude.{IfErr, OnOk}
use Rattle.pj_run.specs.declared.stops.FilesStop.{FilesStop}
use Rattle.pj_io.specs.Steady.{steady_folder_of}
use Rattle.pj_feed.specs.Named.{files_named, AreTold}
use Rattle.pj_report.specs.Written.{flat, Leaves}
use Rattle.pj_run.specs.Cuts.{files_cut}
use Rattle.pj_run.specs.Jobs.{Job}
use Rattle.pj_run.specs.RunEnds.{FilesCause, FilesWrite}
use Rattle.pj_run.specs.Runs.{job_in, run_lines}
use Rattle.pj_run.proofs.Planned.{new_planned, IsPlanned}
use Rattle.pj_alone.specs.Made.{made_files, made_job, IsMadeSource}
use Rattle.pj_alone.specs.declared.made.MadeSource.{MadeSource}
use Rattle.pj_alone.proofs.MadeLaws.{made_runs, made_stopped}
use Rattle.pj_alone.proofs.made.run_made.Goals as goal

-- each file is told
told : (seed count : ℕ) (made : MadeSource) (names : List (List ℕ)) → IsMadeSource seed count made → names ≡ made.names → AreTold names (steady_folder_of made.folder)
told seed count made names is same = subst (λ (ns : List (List ℕ)). AreTold ns (steady_folder_of made.folder)) (sym (same ∙ is.names)) (refl, (refl, tt))

files : (seed count : ℕ) (made : MadeSource) (names : List (List ℕ)) → IsMadeSource seed count made → names ≡ made.names → files_named names (steady_folder_of made.folder) ≡ made_files seed count
files seed count made names is same = ap (λ (ns : List (List ℕ)). files_named ns (steady_folder_of made.folder)) same ∙ is.files

pub returns-in-Ok-clause-left : goal.returns-in-Ok-clause-left
returns-in-Ok-clause-left g c = λ t.
    let made = c.args.made in
    let first = g.K.Sink.state c.args.out.now in
    let now = g.K.Sink.state c.run_files-ended.new.out in
    let names = c.as_slice-files.result.now in
    let folder = steady_folder_of made.folder in
    subst (λ (fs : List (List ℕ)). now.written ≡ first.written ++ flat (run_lines made_job fs)) (files c.args.seed c.args.count made names c.requires.made c.as_slice-files.ensures)
    (subst (λ (job : Job). now.written ≡ first.written ++ flat (run_lines job (files_named names folder))) c.requires.made.ready.runs
    (subst (λ (e : Result (Unit {0}) FilesStop). FilesWrite (job_in made.ready.writing made.ready.core) names folder first now e) c.in-Ok.is c.run_files-ended.ensures.lines
    (told c.args.seed c.args.count made names c.requires.made c.as_slice-files.ensures) t))

pub returns-in-Ok-clause-runs : goal.returns-in-Ok-clause-runs
returns-in-Ok-clause-runs g c = λ _.
    made_runs c.args.seed c.args.count c.requires.makeable.count_most (subst IsPlanned c.requires.made.ready.runs (new_planned None c.args.made.ready.writing c.args.made.ready.core c.requires.made.ready.fresh tt))

pub returns-in-Ok-clause-handed_on : goal.returns-in-Ok-clause-handed_on
returns-in-Ok-clause-handed_on g c = inl (subst (λ (e : Result (Unit {0}) FilesStop). OnOk e ((g.K.Sink.state c.run_files-ended.new.out).held ≡ [])) c.in-Ok.is c.run_files-ended.ensures.handed_on)

pub returns-in-Ok-clause-all_handed_on : goal.returns-in-Ok-clause-all_handed_on
returns-in-Ok-clause-all_handed_on g c = λ _. subst (λ (e : Result (Unit {0}) FilesStop). OnOk e ((g.K.Sink.state c.run_files-ended.new.out).held ≡ [])) c.in-Ok.is c.run_files-ended.ensures.handed_on

pub returns-clause-left : goal.returns-clause-left
returns-clause-left g c =
    let made = c.args.made in
    let names = c.as_slice-files.result.now in
    let before = steady_folder_of made.folder in
    let after = steady_folder_of c.run_files-ended.new.folder in
    let first = g.K.Sink.state c.args.out.now in
    let now = g.K.Sink.state c.run_files-ended.new.out in
    let is = c.requires.made in
    let told = told c.args.seed c.args.count made names is c.as_slice-files.ensures in
    let job : Job = job_in made.ready.writing made.ready.core in
    rw c.status.ensures
    (made_stopped c.args.seed c.args.count c.requires.makeable names (ap length (c.as_slice-files.ensures ∙ is.names)) before after (λ name rose. omega (arith, rose)) told (λ name. refl)
    (files c.args.seed c.args.count made names is c.as_slice-files.ensures) c.in-Err.stop first now (g.K.Sink.state c.write_stop.new.out)
    (subst (λ (job : Job). FilesCause c.in-Err.stop job names before after first now) is.ready.runs
    (subst (λ (e : Result (Unit {0}) FilesStop). IfErr e (λ stop. FilesCause stop job names before after first now)) c.in-Err.is c.run_files-ended.ensures.causes))
    (λ t. subst (λ (job : Job). Leaves (files_cut c.in-Err.stop) (run_lines job (files_named names before)) first.written now.written) is.ready.runs
    (subst (λ (e : Result (Unit {0}) FilesStop). FilesWrite job names before first now e) c.in-Err.is c.run_files-ended.ensures.lines told (c.write_stop.ensures.told t)))
    c.run_files-ended.ensures.later c.write_stop.ensures.later c.write_stop.ensures.line)
