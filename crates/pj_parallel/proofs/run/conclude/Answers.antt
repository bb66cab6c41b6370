use Rattle.std.proofs.Common.{Option, Ok, refl, sym, ap, subst, ◌∙◌}
use Rattle.pj_run.specs.declared.stops.RunStop.{RunStop}
use Rattle.pj_parallel.specs.Closing.{Closes, first_of, run_state}
use Rattle.pj_parallel.proofs.run.conclude.Goals as goal

pub close_run-requires-clause-on : goal.close_run-requires-clause-on
close_run-requires-clause-on g c = λ none. c.requires.on (sym (c.first_stop-first.ensures.first ∙ ap first_of c.dismiss-feeds.ensures.causes) ∙ none)

pub returns-in-Ok-clause-concludes : goal.returns-in-Ok-clause-concludes
returns-in-Ok-clause-concludes g c = record {
  closes =
      subst (λ (first : Option RunStop). Closes first c.args.ended.end (run_state c.args.ended.core c.args.ended.results (g.K.Sink.state c.args.out.now)) (run_state c.close_run.new.core c.close_run.new.results (g.K.Sink.state c.close_run.new.out)) (Ok tt))
      (c.first_stop-first.ensures.first ∙ ap first_of c.dismiss-feeds.ensures.causes) c.in-Ok.ensures.closes;
  asked = refl;
  rows = c.dismiss-feeds.ensures.rows;
}
