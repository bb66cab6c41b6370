use Rattle.std.proofs.Common.{◌∙◌, refl, ap, subst, sym, true, ◌≡◌, Ok, arith}
use Rattle.pj_pattern.specs.declared.element.Element.TheVariants.{Tuple as TupleOf, Punct as PunctOf}
use Rattle.pj_intake.specs.declared.intake.Step.TheVariants.{Tuple, Punct, Rejected, End}
use Rattle.pj_feed.specs.Feeds.{FeedState, feed_of, IsFed}
use Rattle.pj_feed.proofs.Stepping.{Stepped, stepped_fed, element_gives, element_comes, element_works, end_comes, reject_accepts, reject_passes, reject_works, end_gives, end_fed, end_works, step_stops}
use Rattle.pj_feed.proofs.feeds.Feed.step.Given.{Over}
use Rattle.pj_feed.proofs.feeds.Feed.step.Goals.{After-next}
use Rattle.pj_feed.proofs.feeds.Feed.step.Goals as goal

-- the feed as its fields have it, before the step and behind it
abbrev before : (g : Over) → After-next g → FeedState
before g c = feed_of g.S.Source.state c.self.inside.stream c.self.inside.is_open c.self.inside.intake

abbrev behind : (g : Over) → After-next g → FeedState
behind g c = feed_of g.S.Source.state c.self.inside.stream c.self.inside.is_open c.next.new.self

-- what the step did
step : (g : Over) (c : After-next g) → Stepped (before g c) (behind g c) c.next.result
step g c = let e = c.next.ensures in record {
  stream = refl;
  still = refl;
  columns = e.columns;
  limit = e.limit;
  told = e.told;
  name = e.name;
  later = e.later;
  next = e.next;
  stops = e.stops;
  took = e.took;
  at_end = e.at_end;
  fits = e.fits;
}

fed : (g : Over) (c : After-next g) → IsFed (before g c)
fed g c = subst IsFed (sym c.self.view_is) c.requires.fed

still : (g : Over) (c : After-next g) → c.self.inside.is_open ≡ true
still g c = ap (λ (f : FeedState). f.is_open) c.self.view_is ∙ c.requires.open

pub returns-in-Ok-Tuple-clause-fed : goal.returns-in-Ok-Tuple-clause-fed
returns-in-Ok-Tuple-clause-fed g c =
    let a = (goal.at.returns-in-Ok-Tuple-clause-fed g c).After-next in
    stepped_fed _ _ (Tuple c.in-Ok-Tuple.row) (fed g a) (still g a) (subst (Stepped (before g a) (behind g a)) (c.in-Ok-Tuple.is ∙ ap Ok c.in-Ok-Tuple.field-0-is) (step g a))

pub returns-in-Ok-Tuple-clause-gives : goal.returns-in-Ok-Tuple-clause-gives
returns-in-Ok-Tuple-clause-gives g c =
    let a = (goal.at.returns-in-Ok-Tuple-clause-gives g c).After-next in
    let s = subst (Stepped (before g a) (behind g a)) (c.in-Ok-Tuple.is ∙ ap Ok c.in-Ok-Tuple.field-0-is) (step g a) in
    rw (← c.self.view_is) (element_gives _ _ (Tuple c.in-Ok-Tuple.row) (fed g a) (still g a) s (TupleOf c.in-Ok-Tuple.row) refl)

pub returns-in-Ok-Tuple-clause-works : goal.returns-in-Ok-Tuple-clause-works
returns-in-Ok-Tuple-clause-works g c =
    let a = (goal.at.returns-in-Ok-Tuple-clause-works g c).After-next in
    let s = subst (Stepped (before g a) (behind g a)) (c.in-Ok-Tuple.is ∙ ap Ok c.in-Ok-Tuple.field-0-is) (step g a) in
    rw (← c.self.view_is) (element_works _ _ (Tuple c.in-Ok-Tuple.row) (fed g a) (still g a) s (TupleOf c.in-Ok-Tuple.row) refl)

pub returns-in-Ok-Punct-clause-fed : goal.returns-in-Ok-Punct-clause-fed
returns-in-Ok-Punct-clause-fed g c =
    let a = (goal.at.returns-in-Ok-Punct-clause-fed g c).After-next in
    stepped_fed _ _ (Punct c.in-Ok-Punct.punct) (fed g a) (still g a) (subst (Stepped (before g a) (behind g a)) (c.in-Ok-Punct.is ∙ ap Ok c.in-Ok-Punct.field-0-is) (step g a))

pub returns-in-Ok-Punct-clause-gives : goal.returns-in-Ok-Punct-clause-gives
returns-in-Ok-Punct-clause-gives g c =
    let a = (goal.at.returns-in-Ok-Punct-clause-gives g c).After-next in
    let s = subst (Stepped (before g a) (behind g a)) (c.in-Ok-Punct.is ∙ ap Ok c.in-Ok-Punct.field-0-is) (step g a) in
    rw (← c.self.view_is) (element_gives _ _ (Punct c.in-Ok-Punct.punct) (fed g a) (still g a) s (PunctOf c.in-Ok-Punct.punct) refl)

pub returns-in-Ok-Punct-clause-works : goal.returns-in-Ok-Punct-clause-works
returns-in-Ok-Punct-clause-works g c =
    let a = (goal.at.returns-in-Ok-Punct-clause-works g c).After-next in
    let s = subst (Stepped (before g a) (behind g a)) (c.in-Ok-Punct.is ∙ ap Ok c.in-Ok-Punct.field-0-is) (step g a) in
    rw (← c.self.view_is) (element_works _ _ (Punct c.in-Ok-Punct.punct) (fed g a) (still g a) s (PunctOf c.in-Ok-Punct.punct) refl)

pub returns-in-Ok-Rejected-clause-fed : goal.returns-in-Ok-Rejected-clause-fed
returns-in-Ok-Rejected-clause-fed g c =
    let a = (goal.at.returns-in-Ok-Rejected-clause-fed g c).After-next in
    let s = subst (Stepped (before g a) (behind g a)) (c.in-Ok-Rejected.is ∙ ap Ok c.in-Ok-Rejected.field-0-is) (step g a) in
    stepped_fed _ _ (Rejected c.in-Ok-Rejected.field-0-0 c.in-Ok-Rejected.field-0-1) (fed g a) (still g a) s

pub returns-in-Ok-Rejected-clause-passed : goal.returns-in-Ok-Rejected-clause-passed
returns-in-Ok-Rejected-clause-passed g c =
    let a = (goal.at.returns-in-Ok-Rejected-clause-passed g c).After-next in
    let s = subst (Stepped (before g a) (behind g a)) (c.in-Ok-Rejected.is ∙ ap Ok c.in-Ok-Rejected.field-0-is) (step g a) in
    rw (← c.self.view_is) (reject_passes _ _ (Rejected c.in-Ok-Rejected.field-0-0 c.in-Ok-Rejected.field-0-1) (fed g a) (still g a) s refl)

pub returns-in-Ok-Rejected-clause-works : goal.returns-in-Ok-Rejected-clause-works
returns-in-Ok-Rejected-clause-works g c =
    let a = (goal.at.returns-in-Ok-Rejected-clause-works g c).After-next in
    let s = subst (Stepped (before g a) (behind g a)) (c.in-Ok-Rejected.is ∙ ap Ok c.in-Ok-Rejected.field-0-is) (step g a) in
    rw (← c.self.view_is) (reject_works _ _ (Rejected c.in-Ok-Rejected.field-0-0 c.in-Ok-Rejected.field-0-1) (fed g a) (still g a) s (omega arith))

pub returns-in-Ok-End-clause-fed : goal.returns-in-Ok-End-clause-fed
returns-in-Ok-End-clause-fed g c =
    let a = (goal.at.returns-in-Ok-End-clause-fed g c).After-next in
    let s = subst (Stepped (before g a) (behind g a)) (c.in-Ok-End.is ∙ ap Ok c.in-Ok-End.field-0-is) (step g a) in
    end_fed _ _ End (fed g a) (still g a) s refl

pub returns-in-Ok-End-clause-gives : goal.returns-in-Ok-End-clause-gives
returns-in-Ok-End-clause-gives g c =
    let a = (goal.at.returns-in-Ok-End-clause-gives g c).After-next in
    let s = subst (Stepped (before g a) (behind g a)) (c.in-Ok-End.is ∙ ap Ok c.in-Ok-End.field-0-is) (step g a) in
    rw (← c.self.view_is) (end_gives _ _ End (fed g a) (still g a) s refl)

pub returns-in-Ok-End-clause-works : goal.returns-in-Ok-End-clause-works
returns-in-Ok-End-clause-works g c =
    let a = (goal.at.returns-in-Ok-End-clause-works g c).After-next in
    let s = subst (Stepped (before g a) (behind g a)) (c.in-Ok-End.is ∙ ap Ok c.in-Ok-End.field-0-is) (step g a) in
    rw (← c.self.view_is) (end_works _ _ End (fed g a) (still g a) s)

pub returns-in-Err-clause-stops : goal.returns-in-Err-clause-stops
returns-in-Err-clause-stops g c =
    let a = (goal.at.returns-in-Err-clause-stops g c).After-next in
    rw (← c.self.view_is) (step_stops _ _ c.in-Err.stop (fed g a) (subst (Stepped (before g a) (behind g a)) c.in-Err.is (step g a)))

pub returns-in-Ok-Tuple-clause-comes : goal.returns-in-Ok-Tuple-clause-comes
returns-in-Ok-Tuple-clause-comes g c =
    let a = (goal.at.returns-in-Ok-Tuple-clause-comes g c).After-next in
    let s = subst (Stepped (before g a) (behind g a)) (c.in-Ok-Tuple.is ∙ ap Ok c.in-Ok-Tuple.field-0-is) (step g a) in
    rw (← c.self.view_is) (element_comes _ _ (Tuple c.in-Ok-Tuple.row) (still g a) s (TupleOf c.in-Ok-Tuple.row) refl)

pub returns-in-Ok-Punct-clause-comes : goal.returns-in-Ok-Punct-clause-comes
returns-in-Ok-Punct-clause-comes g c =
    let a = (goal.at.returns-in-Ok-Punct-clause-comes g c).After-next in
    let s = subst (Stepped (before g a) (behind g a)) (c.in-Ok-Punct.is ∙ ap Ok c.in-Ok-Punct.field-0-is) (step g a) in
    rw (← c.self.view_is) (element_comes _ _ (Punct c.in-Ok-Punct.punct) (still g a) s (PunctOf c.in-Ok-Punct.punct) refl)

pub returns-in-Ok-Rejected-clause-accepts : goal.returns-in-Ok-Rejected-clause-accepts
returns-in-Ok-Rejected-clause-accepts g c =
    let a = (goal.at.returns-in-Ok-Rejected-clause-accepts g c).After-next in
    let s = subst (Stepped (before g a) (behind g a)) (c.in-Ok-Rejected.is ∙ ap Ok c.in-Ok-Rejected.field-0-is) (step g a) in
    rw (← c.self.view_is) (reject_accepts _ _ (Rejected c.in-Ok-Rejected.field-0-0 c.in-Ok-Rejected.field-0-1) (still g a) s refl)

pub returns-in-Ok-End-clause-comes : goal.returns-in-Ok-End-clause-comes
returns-in-Ok-End-clause-comes g c =
    let a = (goal.at.returns-in-Ok-End-clause-comes g c).After-next in
    let s = subst (Stepped (before g a) (behind g a)) (c.in-Ok-End.is ∙ ap Ok c.in-Ok-End.field-0-is) (step g a) in
    rw (← c.self.view_is) (end_comes _ _ End (still g a) s refl)
