use Rattle.std.proofs.Common.{◌≡◌, ◌≤◌, ℕ, [], None, refl, ap, sym, subst, arith}
use Rattle.pj_feed.specs.declared.stops.OpeningStop.TheVariants.{NoMemory as OpeningMemory}
use Rattle.pj_feed.proofs.Outside.{tries_none}
use Rattle.pj_io.specs.States.{FolderState}
use Rattle.pj_prepare.specs.declared.calls.Prepared.{Prepared}
use Rattle.pj_prepare.specs.Scripts.{IsPrepared}
use Rattle.pj_prepare.specs.Calls.{call_for, file_names, first_by, first_file}
use Rattle.pj_report.specs.Written.{Delivered}
use Rattle.pj_run.specs.Stops.{stop_line}
use Rattle.pj_run.specs.declared.stops.FilesStop.TheVariants.{Opening}
use Rattle.pj_run.proofs.WholeLaws.{none_wrote}
use Rattle.pj_words.specs.declared.request.Request.{Request}
use Rattle.pj_words.specs.declared.request.Request.TheVariants.{Run as RunRequest, Replay, Check as CheckRequest, Make as MakeRequest}
use Rattle.pj_words.specs.Request.{IsRequest}
use Rattle.pj_together.specs.Requests.{workers_of}
use Rattle.pj_together.specs.Runs.{IsOver}
use Rattle.pj_together.proofs.Keeping.{keeps_stopped}
use Rattle.pj_together.proofs.run.write_run.Goals as goal

-- a request with workers has no script
bare : (request : Request) (folder : FolderState) → 1 ≤ workers_of request → (call_for request folder).script ≡ None
bare (RunRequest plan files workers sorted trace check limit) folder some = refl
bare (Replay plan script files trace limit) folder some = absurd (omega (arith, some))
bare (CheckRequest plan print) folder some = absurd (omega (arith, some))
bare (MakeRequest seed count) folder some = absurd (omega (arith, some))

few_workers : (request : Request) → IsRequest request → workers_of request ≤ 16
few_workers (RunRequest plan files workers sorted trace check limit) is = is.workers_most
few_workers (Replay plan script files trace limit) is = omega arith
few_workers (CheckRequest plan print) is = omega arith
few_workers (MakeRequest seed count) is = omega arith

over : (ready : Prepared) (request : Request) (first now : FolderState) → 1 ≤ workers_of request → IsPrepared ready (call_for request first) now → IsOver ready (call_for request first) now
over ready request first now some prepared = record { prepared = prepared; bare = bare request first some }

pub write_files-requires-clause-workers : goal.write_files-requires-clause-workers
write_files-requires-clause-workers g c κs within =
    let some = c.requires.workers in
    let few = few_workers c.args.request.now c.requires.request in
    let same = c.workers_in-workers.ensures in
    (omega (arith, some, same), omega (arith, few, same))

pub write_files-requires-clause-over : goal.write_files-requires-clause-over
write_files-requires-clause-over g c κs within =
    let first = c.requires.prepared.0 in
    (call_for c.args.request.now first, over c.args.ready c.args.request.now first (g.F.Folder.state c.args.folder.now) c.requires.workers c.requires.prepared.1, c.files_in.ensures first)

pub returns-in-Ok : goal.returns-in-Ok
returns-in-Ok g c = λ first p. c.write_files.ensures (call_for c.args.request.now first) (over c.args.ready c.args.request.now first (g.F.Folder.state c.args.folder.now) c.requires.workers p) (c.files_in.ensures first)

pub returns-in-Err : goal.returns-in-Err
returns-in-Err g c = λ first p.
    let call = call_for c.args.request.now first in
    let mid = g.F.Folder.state c.args.folder.now in
    let now = g.K.Sink.state c.args.out.now in
    let after = g.K.Sink.state c.write_stop.new.out in
    let o = over c.args.ready c.args.request.now first mid c.requires.workers p in
    let number : 2 ≡ first_file call = sym (ap first_by o.bare) in
    keeps_stopped call c.args.ready mid mid o (file_names call) refl (Opening OpeningMemory) [] now now after refl tt (λ t told. refl) (λ told. none_wrote now.written) (λ opening of. refl) (tries_none (file_names call) mid)
    (record { faults = λ name other. refl; last = λ name other. refl }) (omega arith) c.write_stop.ensures.told
    (subst (λ (n : ℕ). Delivered (stop_line n (Opening OpeningMemory) []) now after) number c.write_stop.ensures.line) c.write_stop.ensures.handed_on c.write_stop.ensures.later
