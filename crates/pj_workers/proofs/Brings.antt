-- How a feeder ends where no element arrives.
use Rattle.std.proofs.Common.{ℕ, Bool, false, cond, List, [], ◌∷◌, ◌++◌, ◌≡◌, Err, Ok, refl, sym, ap, ap₂, ◌∙◌, subst, append-nil}
use Rattle.std.specs.Bool.{⊤}
use Rattle.std.proofs.lemmas.Bool.{eq-eqb}
use Rattle.pj_pattern.specs.declared.element.Element.{Element}
use Rattle.pj_events.specs.declared.events.Entry.{Entry}
use Rattle.pj_events.specs.declared.events.Event.TheVariants.{Arrive, Halt}
use Rattle.pj_events.specs.declared.events.Stop.{Stop}
use Rattle.pj_events.specs.Outcomes.{elements_of}
use Rattle.pj_intake.specs.declared.intake.IntakeStop.{IntakeStop}
use Rattle.pj_intake.specs.declared.intake.IntakeStop.TheVariants.{ReadFault as ReadFailed, ByteLimit as TooLong, NoMemory as LineMemory}
use Rattle.pj_feed.specs.declared.feeds.Arrival.TheVariants.{Brought, Closing}
use Rattle.pj_feed.specs.Feeds.{ComesBehind, FeedState, HasAccepted, IsSameFeed}
use Rattle.pj_laws.specs.Seats.{HubPlan, is_closed, made_by, seated}
use Rattle.pj_seats.specs.Answers.{Goes, Turned, closing_of, refused}
use Rattle.pj_workers.specs.declared.feeding.FeedEnd.TheVariants.{Ended, Stopped}
use Rattle.pj_workers.specs.Feeds.{BringsNone, FaultAt, HasGiven, IsFeeding, closing_given, fault_end}
use Rattle.pj_workers.proofs.Bare.{bare-behind, bare-halted, bare-refused, bare-unclosed, closed-more, elements-more}

module _ (hub : HubPlan) (n : ℕ) (before after : List Entry) (old new : FeedState) (f : IsFeeding hub n (made_by n before) old) (same : IsSameFeed old new) where
  -- the stream was closed
  pub closed-brings : (stream : ℕ) → ComesBehind old new (Closing stream) → Turned hub n before after (λ history. seated n (Arrive n (closing_of hub n)) 1) (Goes {A = ⊤} hub (Arrive n (closing_of hub n)) (Ok tt)) → BringsNone hub n before after old new Ended
  closed-brings stream comes t =
      let own = made_by n before in
      let es = elements_of n own in
      let last = seated n (Arrive n (closing_of hub n)) 1 in
      let all : elements_of n (made_by n after) ≡ es ++ closing_of hub n ∷ [] = ap (elements_of n) t.own ∙ elements-more n 1 own (closing_of hub n) in record {
        ended = record {
          ending = record { history = t.history; front = []; last = last };
          seen = t.seen;
          adds = t.own;
          is = record { whole = (closing_of hub n, 1, refl); is_last = refl };
        };
        given = (
          record {
            accepted = es;
            has = subst (HasAccepted new) (append-nil es) (comes.accepted es f.accepted);
            are = all ∙ ap₂ (λ (s : ℕ) (b : Bool). es ++ closing_given hub s b) (sym (same.stream ∙ f.number)) (sym comes.still);
          },
          comes.still,
        );
        arrived = all;
        closed = ap (is_closed n) t.own ∙ closed-more n own (closing_of hub n) f.unclosed;
      }

  -- an arrival was refused, of what the feed gave last
  refused-brings : (element : Element) (mark : ℕ) (stop : Stop) → HasGiven hub new (elements_of n (made_by n before) ++ element ∷ [])
      → Turned hub n before after (λ history. seated n (refused history stop) 0) (Goes {A = ⊤} hub (Arrive n element) (Err stop)) → BringsNone hub n before after old new (Stopped stop)
  refused-brings element mark stop given t =
      let own = made_by n before in
      let es = elements_of n own in
      let last = seated n (refused t.history stop) 0 in
      let bare = bare-refused n t.history stop in
      let none : elements_of n (made_by n after) ≡ es = ap (elements_of n) t.own ∙ bare-behind n own (last ∷ []) bare in record {
        ended = record {
          ending = record { history = t.history; front = []; last = last };
          seen = t.seen;
          adds = t.own;
          is = record {
            call = record { event = Arrive n element; mark = mark; rest = []; begins = (element, mark, refl); may = tt; is_last = refl; cause = t.answers };
            given = subst (HasGiven hub new)
                (ap₂ (λ (xs ys : List Element). xs ++ ys) (sym none ∙ ap (λ (es : List Entry). elements_of n (made_by n es)) t.seen) (sym (ap (λ (b : Bool). cond b (element ∷ []) []) (eq-eqb n n refl)))) given;
          };
        };
        given = tt;
        arrived = none ∙ sym (append-nil es);
        closed = ap (is_closed n) t.own ∙ bare-unclosed n own (last ∷ []) f.unclosed bare;
      }

  pub element-refused : (stream : ℕ) (element : Element) (stop : Stop) → ComesBehind old new (Brought stream element)
      → Turned hub n before after (λ history. seated n (refused history stop) 0) (Goes {A = ⊤} hub (Arrive n element) (Err stop)) → BringsNone hub n before after old new (Stopped stop)
  element-refused stream element stop comes t =
      let es = elements_of n (made_by n before) in
      refused-brings element 0 stop (record {
        accepted = es ++ element ∷ [];
        has = comes.accepted es f.accepted;
        are = sym (ap (λ (b : Bool). (es ++ element ∷ []) ++ closing_given hub new.stream b) comes.still ∙ append-nil (es ++ element ∷ []));
      }) t

  pub closing-refused : (stream : ℕ) (stop : Stop) → ComesBehind old new (Closing stream)
      → Turned hub n before after (λ history. seated n (refused history stop) 0) (Goes {A = ⊤} hub (Arrive n (closing_of hub n)) (Err stop)) → BringsNone hub n before after old new (Stopped stop)
  closing-refused stream stop comes t =
      let es = elements_of n (made_by n before) in
      refused-brings (closing_of hub n) 1 stop (record {
        accepted = es;
        has = subst (HasAccepted new) (append-nil es) (comes.accepted es f.accepted);
        are = ap₂ (λ (s : ℕ) (b : Bool). es ++ closing_given hub s b) (sym (same.stream ∙ f.number)) (sym comes.still);
      }) t

  -- the feed stopped, or memory was wanting: the run was halted
  pub fault-brings : (stop : IntakeStop) → FaultAt old new stop (elements_of n (made_by n before)) → Turned hub n before after (λ history. seated n Halt 0) (λ history. Unit {0}) → BringsNone hub n before after old new (fault_end stop)
  fault-brings stop fault t = go stop fault
    where
      none : elements_of n (made_by n after) ≡ elements_of n (made_by n before)
      none = ap (elements_of n) t.own ∙ bare-behind n (made_by n before) (seated n Halt 0 ∷ []) (bare-halted n)

      closed : is_closed n (made_by n after) ≡ false
      closed = ap (is_closed n) t.own ∙ bare-unclosed n (made_by n before) (seated n Halt 0 ∷ []) f.unclosed (bare-halted n)

      go : (stop : IntakeStop) → FaultAt old new stop (elements_of n (made_by n before)) → BringsNone hub n before after old new (fault_end stop)
      go ReadFailed fault = record {
        ended = record {
          ending = record { history = t.history; front = []; last = seated n Halt 0 };
          seen = t.seen;
          adds = t.own;
          is = record { rest = seated n (Arrive n (closing_of hub n)) 1 ∷ []; begins = (closing_of hub n, 1, refl); is_last = refl };
        };
        given = subst (FaultAt old new ReadFailed) (sym none) fault;
        arrived = none ∙ sym (append-nil (elements_of n (made_by n before)));
        closed = closed;
      }
      go TooLong fault = record {
        ended = record {
          ending = record { history = t.history; front = []; last = seated n Halt 0 };
          seen = t.seen;
          adds = t.own;
          is = record { rest = seated n (Arrive n (closing_of hub n)) 1 ∷ []; begins = (closing_of hub n, 1, refl); is_last = refl };
        };
        given = subst (FaultAt old new TooLong) (sym none) fault;
        arrived = none ∙ sym (append-nil (elements_of n (made_by n before)));
        closed = closed;
      }
      go LineMemory fault = record {
        ended = record {
          ending = record { history = t.history; front = []; last = seated n Halt 0 };
          seen = t.seen;
          adds = t.own;
          is = record { rest = seated n (Arrive n (closing_of hub n)) 1 ∷ []; begins = (closing_of hub n, 1, refl); is_last = refl };
        };
        given = tt;
        arrived = none ∙ sym (append-nil (elements_of n (made_by n before)));
        closed = closed;
      }
