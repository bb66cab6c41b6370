use Rattle.std.proofs.Common.{◌∷◌, [], ap, sym, subst}
use Rattle.pj_events.specs.Join.{TupleAt, part_of}
use Rattle.pj_cover.specs.Asking.{IsOnWalk, entries, inputs_of, known_of, tuple_of}
use Rattle.pj_cover.specs.Routes.{AreSteps, steps_in}
use Rattle.pj_cover.proofs.Judged.{judged_ripe}
use Rattle.pj_cover.proofs.Tickets.{any_ticket}
use Rattle.pj_cover.proofs.Steps.{walk_starts}
use Rattle.pj_cover.proofs.ripeness.judge_row.Goals as goal

pub judge-requires-clause-walk : goal.judge-requires-clause-walk
judge-requires-clause-walk g c =
    subst (λ (x : TupleAt). IsOnWalk c.args.spec.now c.args.schemes.now (steps_in c.args.route.now) (x ∷ [])) (sym c.of.ensures)
    (walk_starts c.args.spec.now c.args.schemes.now (g.R.StoredRows.rows c.args.rows.now) c.args.punct_stores.now (steps_in c.args.route.now) (tuple_of c.args.input (0, c.args.row.now)) c.requires.parts c.requires.input c.requires.schemes c.requires.certified c.requires.fits)

pub returns-clause-asks : goal.returns-clause-asks
returns-clause-asks g c ticket =
    any_ticket (known_of c.args.spec.now (g.R.StoredRows.rows c.args.rows.now) c.args.punct_stores.now c.args.low) (entries c.args.schemes.now (steps_in c.args.route.now)) c.of.result (tuple_of c.args.input (ticket, c.args.row.now)) c.judge.result
    (ap (λ (x : TupleAt). part_of x) c.of.ensures) c.judge.ensures

pub returns-clause-ripe : goal.returns-clause-ripe
returns-clause-ripe g c ticket =
    judged_ripe (known_of c.args.spec.now (g.R.StoredRows.rows c.args.rows.now) c.args.punct_stores.now c.args.low) (entries c.args.schemes.now (steps_in c.args.route.now)) (tuple_of c.args.input (ticket, c.args.row.now) ∷ []) c.judge.result (returns-clause-asks g c ticket)

pub judge-requires-clause-route : goal.judge-requires-clause-route
judge-requires-clause-route g c = subst (λ (x : TupleAt). AreSteps c.args.spec.now.classes c.args.schemes.now c.args.route.now.links (inputs_of (x ∷ [])) c.args.route.now.steps) (sym c.of.ensures) c.requires.route.leads
