use Rattle.std.proofs.Common.{[], ◌∷◌, ◌++◌, refl, ap, subst, inl, inr, ◌∙◌, Ok, Err}
use Rattle.std.specs.Bool.{⊤}
use Rattle.pj_events.specs.declared.events.Event.TheVariants.{Take as Taken, Give as Given, Halt, Idle}
use Rattle.pj_laws.specs.Seats.{made_by, seated, stop_of}
use Rattle.pj_seats.specs.Probes.{take_entry}
use Rattle.pj_seats.specs.Answers.{Goes, Turned, refused}
use Rattle.pj_workers.proofs.Rounds.{take-refused, two-added}
use Rattle.pj_workers.proofs.probing.probe_once.Goals as goal

pub returns-in-Ok-give-clause-probed : goal.returns-in-Ok-give-clause-probed
returns-in-Ok-give-clause-probed g c =
    let h = g.H.Hub in
    let n = h.number c.args.seat.now in
    let hub = h.plan c.args.hub.now in
    let probe = c.in-Ok-Some.probe in
    let event = Given probe.join probe.ticket in
    let before = h.seen c.args.seat.now in
    let mid = h.seen c.take.new.seat in
    let took-own = c.in-Ok-Some.ensures.turned.own ∙ ap (λ answer. made_by n before ++ take_entry n (Ok answer) c.in-Ok-Some.ensures.turned.history ∷ []) c.in-Ok-Some.field-0-is in
    let after = h.seen c.give.new.seat in
    let t = subst (λ k. Turned hub k mid after (λ history. seated k event 0) (Goes {A = ⊤} hub event (Ok tt))) c.take.ensures.same.1 c.in-Ok-give.ensures.turned in record {
      entries = seated n (Taken probe.join probe.ticket) 0 ∷ seated n event 0 ∷ [];
      own = two-added (made_by n before) (made_by n mid) (made_by n after) (seated n (Taken probe.join probe.ticket) 0) (seated n event 0) took-own t.own;
      is_part = inr (probe.join, probe.ticket, refl);
    }

pub returns-in-Err-give-clause-breaks : goal.returns-in-Err-give-clause-breaks
returns-in-Err-give-clause-breaks g c =
    let h = g.H.Hub in
    let n = h.number c.args.seat.now in
    let hub = h.plan c.args.hub.now in
    let probe = c.in-Ok-Some.probe in
    let stop = c.in-Err-give.stop in
    let event = Given probe.join probe.ticket in
    let took = seated n (Taken probe.join probe.ticket) 0 in
    let before = h.seen c.args.seat.now in
    let mid = h.seen c.take.new.seat in
    let took-own = c.in-Ok-Some.ensures.turned.own ∙ ap (λ answer. made_by n before ++ take_entry n (Ok answer) c.in-Ok-Some.ensures.turned.history ∷ []) c.in-Ok-Some.field-0-is in
    let after = h.seen c.give.new.seat in
    let t = subst (λ k. Turned hub k mid after (λ history. seated k (refused history stop) 0) (Goes {A = ⊤} hub event (Err stop))) c.take.ensures.same.1 c.in-Err-give.ensures.turned in
    let last = seated n (refused t.history stop) 0 in record {
      ending = record { history = t.history; front = took ∷ []; last = last };
      seen = t.seen;
      adds = two-added (made_by n before) (made_by n mid) (made_by n after) took last took-own t.own;
      is = record { event = event; mark = 0; rest = []; begins = inr (probe.join, probe.ticket, refl); may = tt; is_last = refl; cause = t.answers };
    }

pub returns-in-Err-work-clause-breaks : goal.returns-in-Err-work-clause-breaks
returns-in-Err-work-clause-breaks g c =
    let h = g.H.Hub in
    let n = h.number c.args.seat.now in
    let hub = h.plan c.args.hub.now in
    let probe = c.in-Ok-Some.probe in
    let took = seated n (Taken probe.join probe.ticket) 0 in
    let before = h.seen c.args.seat.now in
    let mid = h.seen c.take.new.seat in
    let took-own = c.in-Ok-Some.ensures.turned.own ∙ ap (λ answer. made_by n before ++ take_entry n (Ok answer) c.in-Ok-Some.ensures.turned.history ∷ []) c.in-Ok-Some.field-0-is in
    let after = h.seen c.halt.new.seat in
    let t = subst (λ k. Turned hub k mid after (λ history. seated k Halt 0) (λ history. Unit {0})) c.take.ensures.same.1 c.halt.ensures.turned in
    let last = seated n Halt 0 in record {
      ending = record { history = t.history; front = took ∷ []; last = last };
      seen = t.seen;
      adds = two-added (made_by n before) (made_by n mid) (made_by n after) took last took-own t.own;
      is = record { rest = seated n (Given probe.join probe.ticket) 0 ∷ []; begins = inr (probe.join, probe.ticket, refl); is_last = refl };
    }

pub returns-in-Err-clause-breaks : goal.returns-in-Err-clause-breaks
returns-in-Err-clause-breaks g c =
    let h = g.H.Hub in
    let n = h.number c.args.seat.now in
    let hub = h.plan c.args.hub.now in
    let stop = c.in-Err.stop in
    let t = c.in-Err.ensures.turned in record {
      ending = record { history = t.history; front = []; last = seated n (refused t.history stop) 0 };
      seen = t.seen;
      adds = t.own;
      is = record { event = Idle; mark = 0; rest = []; begins = inl refl; may = tt; is_last = refl; cause = take-refused hub t.history Idle (stop_of t.history) stop t.answers };
    }
