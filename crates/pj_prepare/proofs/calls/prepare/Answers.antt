use Rattle.std.proofs.Common.{◌∷◌, ap, List, ℕ, subst, sym}
use Rattle.pj_words.specs.declared.request.Request.{Request}
use Rattle.pj_feed.specs.Opened.{OpensAtMost}
use Rattle.pj_feed.proofs.Opening.{opens_most_of}
use Rattle.pj_prepare.specs.Calls.{call_for, Call}
use Rattle.pj_prepare.proofs.calls.prepare.Goals as goal

pub returns-in_err-ready-in-Run-clause-some_opened : goal.returns-in_err-ready-in-Run-clause-some_opened
returns-in_err-ready-in-Run-clause-some_opened g c =
    let old = g.F.Folder.state c.args.folder.now in
    let new = g.F.Folder.state c.prepare_run.new.folder in
    let files = c.in-Run.files in
    subst (λ (call : Call). OpensAtMost 1 call.names old new) (sym (ap (λ (request : Request). call_for request old) c.in-Run.is))
    (opens_most_of c.as_slice.result.now files (c.in-Run.plan ∷ files) old new (ap (λ (name : List ℕ). name ∷ files) (sym c.as_slice.ensures)) c.prepare_run.ensures.some_opened)

pub returns-in_ok-ready-in-Run-clause-some_opened : goal.returns-in_ok-ready-in-Run-clause-some_opened
returns-in_ok-ready-in-Run-clause-some_opened g c =
    let old = g.F.Folder.state c.args.folder.now in
    let new = g.F.Folder.state c.prepare_run.new.folder in
    let files = c.in-Run.files in
    subst (λ (call : Call). OpensAtMost 1 call.names old new) (sym (ap (λ (request : Request). call_for request old) c.in-Run.is))
    (opens_most_of c.as_slice.result.now files (c.in-Run.plan ∷ files) old new (ap (λ (name : List ℕ). name ∷ files) (sym c.as_slice.ensures)) c.prepare_run.ensures.some_opened)

pub returns-in_err-ready-in-Replay-clause-some_opened : goal.returns-in_err-ready-in-Replay-clause-some_opened
returns-in_err-ready-in-Replay-clause-some_opened g c =
    let old = g.F.Folder.state c.args.folder.now in
    let new = g.F.Folder.state c.prepare_run-in-Replay.new.folder in
    let files = c.in-Replay.files in
    subst (λ (call : Call). OpensAtMost 1 call.names old new) (sym (ap (λ (request : Request). call_for request old) c.in-Replay.is))
    (opens_most_of c.as_slice-in-Replay.result.now (c.in-Replay.script ∷ files) (c.in-Replay.plan ∷ c.in-Replay.script ∷ files) old new (ap (λ (name : List ℕ). name ∷ c.in-Replay.script ∷ files) (sym c.as_slice-in-Replay.ensures)) c.prepare_run-in-Replay.ensures.some_opened)

pub returns-in_ok-ready-in-Replay-clause-some_opened : goal.returns-in_ok-ready-in-Replay-clause-some_opened
returns-in_ok-ready-in-Replay-clause-some_opened g c =
    let old = g.F.Folder.state c.args.folder.now in
    let new = g.F.Folder.state c.prepare_run-in-Replay.new.folder in
    let files = c.in-Replay.files in
    subst (λ (call : Call). OpensAtMost 1 call.names old new) (sym (ap (λ (request : Request). call_for request old) c.in-Replay.is))
    (opens_most_of c.as_slice-in-Replay.result.now (c.in-Replay.script ∷ files) (c.in-Replay.plan ∷ c.in-Replay.script ∷ files) old new (ap (λ (name : List ℕ). name ∷ c.in-Replay.script ∷ files) (sym c.as_slice-in-Replay.ensures)) c.prepare_run-in-Replay.ensures.some_opened)
