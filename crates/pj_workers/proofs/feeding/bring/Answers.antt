use Rattle.std.proofs.Common.{◌≡◌, ℕ, subst, sym, ◌∙◌, Ok, Err}
use Rattle.std.specs.Bool.{⊤}
use Rattle.pj_events.specs.declared.events.Event.TheVariants.{Arrive}
use Rattle.pj_events.specs.Outcomes.{elements_of}
use Rattle.pj_feed.specs.Feeds.{BringsOf, ComesBehind}
use Rattle.pj_intake.specs.declared.intake.IntakeStop.TheVariants.{NoMemory as LineMemory}
use Rattle.pj_laws.specs.Seats.{MayFeed, made_by, seated}
use Rattle.pj_seats.specs.Answers.{Goes, Turned, closing_of, refused}
use Rattle.pj_workers.specs.Feeds.{BringsNone}
use Rattle.pj_workers.proofs.Bare.{feeding-more, may-feed}
use Rattle.pj_workers.proofs.Brings.{closed-brings, closing-refused, element-refused, fault-brings}
use Rattle.pj_workers.proofs.feeding.bring.Goals as goal

pub returns-in-Err-keep_row-clause-ends : goal.returns-in-Err-keep_row-clause-ends
returns-in-Err-keep_row-clause-ends g c =
    let h = g.H.Hub in
    let n = h.number c.args.seat.now in
    let hub = h.plan c.args.hub.now in
    fault-brings hub n (h.seen c.args.seat.now) (h.seen c.halt.new.seat) c.args.from.now c.next_arrival.new.feed c.requires.feeding c.next_arrival.ensures.same LineMemory tt c.halt.ensures.turned

pub arrive-requires-clause-may : goal.arrive-requires-clause-may
arrive-requires-clause-may g c =
    let h = g.H.Hub in
    let n = h.number c.args.seat.now in
    let hub = h.plan c.args.hub.now in
    let old = c.args.from.now in
    let new = c.next_arrival.new.feed in
    let f = c.requires.feeding in
    let stream = c.in-Ok-Brought.stream in
    let e = c.in-Ok-Brought.element in
    let brings = subst (BringsOf old) c.in-Ok-Brought.field-0-is c.in-Ok-Brought.ensures.brings in
    let comes = subst (ComesBehind old new) c.in-Ok-Brought.field-0-is c.in-Ok-Brought.ensures.comes in
    let same : stream ≡ n = brings.0 ∙ f.number in
    subst (λ (s : ℕ). MayFeed hub.nodes s (made_by n (h.seen c.args.seat.now)) e) (sym same) (may-feed hub n (made_by n (h.seen c.args.seat.now)) old new f c.next_arrival.ensures.same stream e brings comes)

pub returns-in-Ok-arrive-clause-brings : goal.returns-in-Ok-arrive-clause-brings
returns-in-Ok-arrive-clause-brings g c =
    let h = g.H.Hub in
    let n = h.number c.args.seat.now in
    let hub = h.plan c.args.hub.now in
    let before = h.seen c.args.seat.now in
    let after = h.seen c.arrive.new.seat in
    let old = c.args.from.now in
    let new = c.next_arrival.new.feed in
    let f = c.requires.feeding in
    let stream = c.in-Ok-Brought.stream in
    let e = c.in-Ok-Brought.element in
    let brings = subst (BringsOf old) c.in-Ok-Brought.field-0-is c.in-Ok-Brought.ensures.brings in
    let comes = subst (ComesBehind old new) c.in-Ok-Brought.field-0-is c.in-Ok-Brought.ensures.comes in
    let same : stream ≡ n = brings.0 ∙ f.number in
    let t = subst (λ (s : ℕ). Turned hub n before after (λ history. seated n (Arrive s e) 0) (Goes {A = ⊤} hub (Arrive s e) (Ok tt))) same c.in-Ok-arrive.ensures.turned in record {
      element = e;
      adds = t.own;
      feeding = feeding-more hub n (made_by n before) old new f c.next_arrival.ensures.same stream e (made_by n after) comes t.own;
      keeps = c.in-Ok.ensures;
    }

pub returns-in-Err-arrive-clause-ends : goal.returns-in-Err-arrive-clause-ends
returns-in-Err-arrive-clause-ends g c =
    let h = g.H.Hub in
    let n = h.number c.args.seat.now in
    let hub = h.plan c.args.hub.now in
    let before = h.seen c.args.seat.now in
    let after = h.seen c.arrive.new.seat in
    let old = c.args.from.now in
    let new = c.next_arrival.new.feed in
    let f = c.requires.feeding in
    let stream = c.in-Ok-Brought.stream in
    let e = c.in-Ok-Brought.element in
    let stop = c.in-Err-arrive.stop in
    let brings = subst (BringsOf old) c.in-Ok-Brought.field-0-is c.in-Ok-Brought.ensures.brings in
    let comes = subst (ComesBehind old new) c.in-Ok-Brought.field-0-is c.in-Ok-Brought.ensures.comes in
    let same : stream ≡ n = brings.0 ∙ f.number in
    let t = subst (λ (s : ℕ). Turned hub n before after (λ history. seated n (refused history stop) 0) (Goes {A = ⊤} hub (Arrive s e) (Err stop))) same c.in-Err-arrive.ensures.turned in
    element-refused hub n before after old new f c.next_arrival.ensures.same stream e stop comes t

pub returns-in-Ok-close_stream-clause-ends : goal.returns-in-Ok-close_stream-clause-ends
returns-in-Ok-close_stream-clause-ends g c =
    let h = g.H.Hub in
    let n = h.number c.args.seat.now in
    let hub = h.plan c.args.hub.now in
    let before = h.seen c.args.seat.now in
    let after = h.seen c.close_stream.new.seat in
    let old = c.args.from.now in
    let new = c.next_arrival.new.feed in
    let f = c.requires.feeding in
    let stream = c.in-Ok-Closing.stream in
    let brings = subst (BringsOf old) c.in-Ok-Closing.field-0-is c.in-Ok-Closing.ensures.brings in
    let comes = subst (ComesBehind old new) c.in-Ok-Closing.field-0-is c.in-Ok-Closing.ensures.comes in
    let same : stream ≡ n = brings ∙ f.number in
    let t = subst (λ (s : ℕ). Turned hub n before after (λ history. seated n (Arrive s (closing_of hub s)) 1) (Goes {A = ⊤} hub (Arrive s (closing_of hub s)) (Ok tt))) same c.in-Ok-close_stream.ensures.turned in
    closed-brings hub n before after old new f c.next_arrival.ensures.same stream comes t

pub returns-in-Err-close_stream-clause-ends : goal.returns-in-Err-close_stream-clause-ends
returns-in-Err-close_stream-clause-ends g c =
    let h = g.H.Hub in
    let n = h.number c.args.seat.now in
    let hub = h.plan c.args.hub.now in
    let before = h.seen c.args.seat.now in
    let after = h.seen c.close_stream.new.seat in
    let old = c.args.from.now in
    let new = c.next_arrival.new.feed in
    let f = c.requires.feeding in
    let stream = c.in-Ok-Closing.stream in
    let stop = c.in-Err-close_stream.stop in
    let brings = subst (BringsOf old) c.in-Ok-Closing.field-0-is c.in-Ok-Closing.ensures.brings in
    let comes = subst (ComesBehind old new) c.in-Ok-Closing.field-0-is c.in-Ok-Closing.ensures.comes in
    let same : stream ≡ n = brings ∙ f.number in
    let t = subst (λ (s : ℕ). Turned hub n before after (λ history. seated n (refused history stop) 0) (Goes {A = ⊤} hub (Arrive s (closing_of hub s)) (Err stop))) same c.in-Err-close_stream.ensures.turned in
    closing-refused hub n before after old new f c.next_arrival.ensures.same stream stop comes t

pub returns-in-Err-clause-ends : goal.returns-in-Err-clause-ends
returns-in-Err-clause-ends g c =
    let h = g.H.Hub in
    let n = h.number c.args.seat.now in
    let hub = h.plan c.args.hub.now in
    let before = h.seen c.args.seat.now in
    let after = h.seen c.halt-in-Err.new.seat in
    let old = c.args.from.now in
    let new = c.next_arrival.new.feed in
    let f = c.requires.feeding in
    subst (BringsNone hub n before after old new) (sym c.fault_end_of.ensures)
    (fault-brings hub n before after old new f c.next_arrival.ensures.same c.in-Err.stop (c.in-Err.ensures.stops (elements_of n (made_by n before)) f.accepted) c.halt-in-Err.ensures.turned)
