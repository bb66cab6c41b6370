use Rattle.std.proofs.Common.{ap, subst, [], ◌∷◌, Err}
use Rattle.pj_report.specs.declared.stops.WriteStop.{WriteStop}
use Rattle.pj_report.specs.Report.{make_line}
use Rattle.pj_report.specs.Written.{write_cut, Leaves}
use Rattle.pj_run.specs.Runs.{run_lines}
use Rattle.pj_alone.specs.Made.{made_files, made_job}
use Rattle.pj_alone.proofs.MadeLaws.{fault_among, left_first, memory_among}
use Rattle.pj_alone.proofs.made.write_run.Goals as goal

pub returns-in-Ok-clause-left : goal.returns-in-Ok-clause-left
returns-in-Ok-clause-left g c =
    left_first c.run_made.result (make_line c.args.seed c.args.count ∷ []) (run_lines made_job (made_files c.args.seed c.args.count)) (g.K.Sink.state c.args.out.now) (g.K.Sink.state c.write_make.new.out) (g.K.Sink.state c.run_made.new.out)
    (λ t. c.in-Ok.ensures.lines (c.run_made.ensures.told t)) c.in-Ok.ensures.later c.run_made.ensures.left

pub returns-in-Err-Failed-clause-left : goal.returns-in-Err-Failed-clause-left
returns-in-Err-Failed-clause-left g c =
    let old = g.K.Sink.state c.args.out.now in
    let new = g.K.Sink.state c.write_make.new.out in
    fault_among (make_line c.args.seed c.args.count ∷ []) (run_lines made_job (made_files c.args.seed c.args.count)) old new (c.in-Err-Failed.ensures.fault (ap Err c.in-Err-Failed.field-0-is))
    (λ t. subst (λ (stop : WriteStop). Leaves (write_cut stop) (make_line c.args.seed c.args.count ∷ []) old.written new.written) c.in-Err-Failed.field-0-is (c.in-Err-Failed.ensures.lines t))

pub returns-clause-left : goal.returns-clause-left
returns-clause-left g c =
    let old = g.K.Sink.state c.args.out.now in
    let mid = g.K.Sink.state c.write_make.new.out in
    memory_among (make_line c.args.seed c.args.count ∷ []) (run_lines made_job (made_files c.args.seed c.args.count)) old mid (g.K.Sink.state c.write_status.new.out)
    (λ t. subst (λ (stop : WriteStop). Leaves (write_cut stop) (make_line c.args.seed c.args.count ∷ []) old.written mid.written) c.in-Err-NoMemory.field-0-is (c.in-Err-NoMemory.ensures.lines (c.write_status.ensures.told t)))
    c.in-Err-NoMemory.ensures.later c.write_status.ensures.line
