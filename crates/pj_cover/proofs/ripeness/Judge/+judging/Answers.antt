use Rattle.std.proofs.Common.{rules, ◌≡◌, drop, ◌<◌, ◌≤◌, ◌+◌, ◌∷◌, refl, sym, ap, ◌∙◌, subst, true, length, map, List, get_or, arith}
use Rattle.std.proofs.lemmas.Option.{slice_get-get_or}
use Rattle.pj_events.specs.Join.{TupleAt, entry_of}
use Rattle.pj_rows.specs.AgreesWith.{agrees_with}
use Rattle.pj_cover.specs.Asking.{AreDone, IsDone, IsJudgedThrough, IsOnWalk, all_covered, entries, inputs_of, known_of, tuple_of}
use Rattle.pj_cover.specs.Routes.{AreSteps, IsPurgeStep, step_of, steps_in}
use Rattle.pj_cover.proofs.Linked.{ready_here, step_here, steps_on, agrees_with_here}
use Rattle.pj_cover.proofs.Steps.{length-map}
use Rattle.pj_cover.proofs.Judged.{says_unripe, says_yes}
use Rattle.pj_cover.proofs.Searching.{found_here, goes_on, gone_through, has_room, in_here, last_step, map_here, not_older, not_suited, one_more, ready, went_on}
use Rattle.pj_cover.proofs.Determined.{determined_done}
use Rattle.pj_rows.proofs.Agreeing.{front_agree}
use Rattle.pj_cover.proofs.Partners.{found_in, no_row_under, one_more_under, said_under, row_under_decides, step_fits, whole_under}
use Rattle.pj_cover.proofs.ripeness.Judge.+judging.Goals as goal

pub seek-judge_step-first-requires-clause-step : goal.seek-judge_step-first-requires-clause-step
seek-judge_step-first-requires-clause-step g t c =
    ready c.args.self.now.spec.now c.args.self.now.schemes.now (g.R.StoredRows.rows c.args.self.now.rows.now) c.args.self.now.punct_stores.now (steps_in c.args.self.now.route.now) c.args.at c.at-step.result.step c.args.parts.now.items c.requires.parts c.requires.walk
    (map_here step_of c.args.self.now.route.now.steps c.args.at c.at-step.result c.at-step.ensures)

pub seek-judge_step-first-requires-clause-ready : goal.seek-judge_step-first-requires-clause-ready
seek-judge_step-first-requires-clause-ready g t c =
    ready_here c.args.self.now.spec.now c.args.self.now.schemes.now c.args.self.now.route.now.links c.args.self.now.route.now.steps c.args.at c.at-step.result c.args.parts.now.items c.as_slice.result.now c.requires.parts.sound c.requires.walk c.requires.route c.at-step.ensures c.as_slice.ensures.value

pub seek-returns-then-not-is_ripe-clause-judged : goal.seek-returns-then-not-is_ripe-clause-judged
seek-returns-then-not-is_ripe-clause-judged g t c =
    found_here (known_of c.args.self.now.spec.now (g.R.StoredRows.rows c.args.self.now.rows.now) c.args.self.now.punct_stores.now c.args.self.now.low) c.args.self.now.schemes.now (steps_in c.args.self.now.route.now) c.args.at c.at-step.result.step c.args.parts.now.items c.as_slice.result.now c.judge_step-first.result
    (map_here step_of c.args.self.now.route.now.steps c.args.at c.at-step.result c.at-step.ensures) c.as_slice.ensures.value c.judge_step-first.ensures (sym c.is_ripe.ensures ∙ c.if-not-is_ripe.true)

pub seek-returns-clause-judged : goal.seek-returns-clause-judged
seek-returns-clause-judged g t c =
    gone_through c.args.self.now.spec.now c.args.self.now.schemes.now (g.R.StoredRows.rows c.args.self.now.rows.now) c.args.self.now.punct_stores.now c.args.self.now.low (steps_in c.args.self.now.route.now) c.args.at c.at-step.result.step c.args.parts.now.items c.as_slice.result.now c.judge_step-first.result c.seek_through.result
    (map_here step_of c.args.self.now.route.now.steps c.args.at c.at-step.result c.at-step.ensures) c.as_slice.ensures.value c.judge_step-first.ensures (sym c.is_ripe.ensures ∙ c.if-not-is_ripe.false) c.seek_through.ensures.judged

pub seek_through-returns-then-len-at-clause-judged : goal.seek_through-returns-then-len-at-clause-judged
seek_through-returns-then-len-at-clause-judged g t c =
    let n : length (steps_in c.args.self.now.route.now) ≡ length c.args.self.now.route.now.steps = length-map step_of c.args.self.now.route.now.steps in
    let le : length (steps_in c.args.self.now.route.now) ≤ c.args.at + 1 = omega (arith, c.if-len-at.true, c.len.ensures, n) in
    last_step (known_of c.args.self.now.spec.now (g.R.StoredRows.rows c.args.self.now.rows.now) c.args.self.now.punct_stores.now c.args.self.now.low) c.args.self.now.schemes.now (steps_in c.args.self.now.route.now) c.args.at c.args.step.step c.args.parts.now.items (map (tuple_of c.args.step.step.input) (g.R.StoredRows.rows c.args.self.now.rows.now c.args.step.step.input)) (map_here step_of c.args.self.now.route.now.steps c.args.at c.args.step c.requires.step) le

pub seek_with-returns-then-not-match_all-clause-judged : goal.seek_with-returns-then-not-match_all-clause-judged
seek_with-returns-then-not-match_all-clause-judged g t c = not_suited (known_of c.args.self.now.spec.now (g.R.StoredRows.rows c.args.self.now.rows.now) c.args.self.now.punct_stores.now c.args.self.now.low) c.args.self.now.schemes.now (steps_in c.args.self.now.route.now) c.args.at c.args.step.step c.args.parts.now.items (tuple_of c.args.step.step.input (c.args.ticket, c.args.row.now)) (map_here step_of c.args.self.now.route.now.steps c.args.at c.args.step c.requires.step) (agrees_with_here c.args.self.now.spec.now c.args.self.now.schemes.now c.args.self.now.route.now.links c.args.self.now.route.now.steps c.args.at c.args.step c.args.parts.now.items (tuple_of c.args.step.step.input (c.args.ticket, c.args.row.now)) c.requires.parts.sound c.requires.walk c.requires.route c.requires.step refl
    ∙ rw (← c.links_of.ensures.is, ← c.as_slice.ensures.value, ← c.of-next.ensures) (sym c.match_all.ensures ∙ c.if-not-match_all.true))

pub seek_with-insert-requires : goal.seek_with-insert-requires
seek_with-insert-requires g t c =
    let room : length c.args.parts.now.items < 16 = has_room c.args.self.now.spec.now c.args.self.now.schemes.now (steps_in c.args.self.now.route.now) c.args.at c.args.step.step c.args.parts.now.items c.requires.walk (map_here step_of c.args.self.now.route.now.steps c.args.at c.args.step c.requires.step) in
    (search rules, (search rules, room))

pub seek_with-seek-through-requires : goal.seek_with-seek-through-requires
seek_with-seek-through-requires g t c κs l =
    let suited : agrees_with c.args.self.now.spec.now.classes c.args.parts.now.items (tuple_of c.args.step.step.input (c.args.ticket, c.args.row.now)) ≡ true = (agrees_with_here c.args.self.now.spec.now c.args.self.now.schemes.now c.args.self.now.route.now.links c.args.self.now.route.now.steps c.args.at c.args.step c.args.parts.now.items (tuple_of c.args.step.step.input (c.args.ticket, c.args.row.now)) c.requires.parts.sound c.requires.walk c.requires.route c.requires.step refl
    ∙ rw (← c.links_of.ensures.is, ← c.as_slice.ensures.value, ← c.of-next.ensures) (sym c.match_all.ensures ∙ c.if-not-match_all.false)) in
    let same : c.insert.new.self.items ≡ tuple_of c.args.step.step.input (c.args.ticket, c.args.row.now) ∷ c.args.parts.now.items = c.insert.ensures.items ∙ ap (λ (x : TupleAt). x ∷ c.args.parts.now.items) c.of-next.ensures in (
      search rules,
      (
        search rules,
        (
          c.requires.parts,
          (
            goes_on c.args.self.now.spec.now c.args.self.now.schemes.now (g.R.StoredRows.rows c.args.self.now.rows.now) c.args.self.now.punct_stores.now (steps_in c.args.self.now.route.now) c.args.at c.args.step.step c.args.parts.now.items c.insert.new.self.items (c.args.ticket, c.args.row.now)
                c.requires.parts c.requires.walk (map_here step_of c.args.self.now.route.now.steps c.args.at c.args.step c.requires.step) c.requires.stored suited same,
            steps_on c.args.self.now.spec.now.classes c.args.self.now.schemes.now c.args.self.now.route.now.links c.args.parts.now.items c.insert.new.self.items c.args.self.now.route.now.steps c.args.at c.args.step (c.args.ticket, c.args.row.now) c.requires.route c.requires.step same,
          ),
        ),
      ),
    )

pub seek_with-returns-then-ticket-self-clause-judged : goal.seek_with-returns-then-ticket-self-clause-judged
seek_with-returns-then-ticket-self-clause-judged g t c =
    not_older (known_of c.args.self.now.spec.now (g.R.StoredRows.rows c.args.self.now.rows.now) c.args.self.now.punct_stores.now c.args.self.now.low) c.args.self.now.schemes.now (steps_in c.args.self.now.route.now) c.args.at c.args.step.step c.args.parts.now.items (tuple_of c.args.step.step.input (c.args.ticket, c.args.row.now)) (map_here step_of c.args.self.now.route.now.steps c.args.at c.args.step c.requires.step) c.if-ticket-self.true

pub seek_through-partners-requires-clause-fit : goal.seek_through-partners-requires-clause-fit
seek_through-partners-requires-clause-fit g t c =
    step_fits c.args.self.now.spec.now c.args.self.now.schemes.now (g.R.StoredRows.rows c.args.self.now.rows.now) c.args.self.now.punct_stores.now (steps_in c.args.self.now.route.now) c.args.at c.args.step.step c.args.parts.now.items c.requires.parts c.requires.walk (map_here step_of c.args.self.now.route.now.steps c.args.at c.args.step c.requires.step)

pub seek_through-returns-in-Some-clause-judged : goal.seek_through-returns-in-Some-clause-judged
seek_through-returns-in-Some-clause-judged g t c =
    whole_under (known_of c.args.self.now.spec.now (g.R.StoredRows.rows c.args.self.now.rows.now) c.args.self.now.punct_stores.now c.args.self.now.low) (entries c.args.self.now.schemes.now (drop c.args.at (steps_in c.args.self.now.route.now))) c.args.parts.now.items c.as_slice.result.now (map (tuple_of c.args.step.step.input) (g.R.StoredRows.rows c.args.self.now.rows.now c.args.step.step.input)) c.in-Some.tickets.now c.seek_among.result c.as_slice.ensures.value c.in-Some.ensures.all c.seek_among.ensures.judged

pub seek_among-loop-ticket-init : goal.seek_among-loop-ticket-init
seek_among-loop-ticket-init g t c = (refl, λ y h n. absurd n)

pub seek_under-seek_with-requires : goal.seek_under-seek_with-requires
seek_under-seek_with-requires g t c κs l =
    (search rules, (search rules, (c.requires.parts, (c.requires.walk, (c.requires.route, (c.requires.step, (c.requires.fits, found_in c.args.ticket c.in-Some.row.now (g.R.StoredRows.rows c.args.self.now.rows.now c.args.step.step.input) (sym c.in-Some.ensures))))))))

pub seek_under-returns-in-None-clause-judged : goal.seek_under-returns-in-None-clause-judged
seek_under-returns-in-None-clause-judged g t c =
    no_row_under (known_of c.args.self.now.spec.now (g.R.StoredRows.rows c.args.self.now.rows.now) c.args.self.now.punct_stores.now c.args.self.now.low) (entries c.args.self.now.schemes.now (drop c.args.at (steps_in c.args.self.now.route.now))) c.args.parts.now.items c.args.step.step.input c.args.ticket (g.R.StoredRows.rows c.args.self.now.rows.now c.args.step.step.input) (sym c.in-None.ensures)

pub seek-seek_through-requires : goal.seek-seek_through-requires
seek-seek_through-requires g t c κs l = (search rules, (search rules, (c.requires.parts, (c.requires.walk, (c.requires.route, c.at-step.ensures)))))

pub seek_through-seek_each-requires : goal.seek_through-seek_each-requires
seek_through-seek_each-requires g t c κs l = (search rules, (search rules, (c.requires.parts, (c.requires.walk, (c.requires.route, (c.requires.step, search rules))))))

pub seek_through-seek_among-requires : goal.seek_through-seek_among-requires
seek_through-seek_among-requires g t c κs l =
    (search rules, (search rules, (c.requires.parts, (c.requires.walk, (c.requires.route, (c.requires.step, (search rules, c.in-Some.ensures.rising)))))))

pub seek_through-partners-requires-clause-links : goal.seek_through-partners-requires-clause-links
seek_through-partners-requires-clause-links g t c =
    subst (λ (xs : List TupleAt). IsPurgeStep c.args.self.now.spec.now.classes (entry_of c.args.self.now.schemes.now c.args.step.step) (inputs_of xs) c.args.self.now.route.now.links c.args.step) (sym c.as_slice.ensures.value)
    (step_here c.args.self.now.spec.now.classes c.args.self.now.schemes.now c.args.self.now.route.now.links (inputs_of c.args.parts.now.items) c.args.self.now.route.now.steps c.args.at c.args.step c.requires.route c.requires.step)

pub seek_with-links_of-requires : goal.seek_with-links_of-requires
seek_with-links_of-requires g t c =
    (step_here c.args.self.now.spec.now.classes c.args.self.now.schemes.now c.args.self.now.route.now.links (inputs_of c.args.parts.now.items) c.args.self.now.route.now.steps c.args.at c.args.step c.requires.route c.requires.step).within

pub seek_each-seek_with-requires : goal.seek_each-seek_with-requires
seek_each-seek_with-requires g t c κs l =
    let walk : IsOnWalk c.args.self.now.spec.now c.args.self.now.schemes.now (drop c.args.at (steps_in c.args.self.now.route.now)) c.loop-n.parts.items = subst (λ (xs : List TupleAt). IsOnWalk c.args.self.now.spec.now c.args.self.now.schemes.now (drop c.args.at (steps_in c.args.self.now.route.now)) xs) (sym c.loop-n.invariant.0) c.requires.walk in
    let route : AreSteps c.args.self.now.spec.now.classes c.args.self.now.schemes.now c.args.self.now.route.now.links (inputs_of c.loop-n.parts.items) (drop c.args.at c.args.self.now.route.now.steps) = subst (λ (xs : List TupleAt). AreSteps c.args.self.now.spec.now.classes c.args.self.now.schemes.now c.args.self.now.route.now.links (inputs_of xs) (drop c.args.at c.args.self.now.route.now.steps)) (sym c.loop-n.invariant.0) c.requires.route in
    (search rules, (search rules, (c.requires.parts, (walk, (route, (c.requires.step, (c.requires.fits, in_here (g.R.StoredRows.rows c.args.self.now.rows.now c.args.step.step.input) c.loop-n.n (c.nth-ticket.result.0, c.nth-ticket.result.1.now) c.nth-ticket.ensures)))))))

pub seek_each-loop-n-preserved : goal.seek_each-loop-n-preserved
seek_each-loop-n-preserved g t c = (
  c.in-None.ensures.same ∙ c.loop-n.invariant.0,
  one_more (known_of c.args.self.now.spec.now (g.R.StoredRows.rows c.args.self.now.rows.now) c.args.self.now.punct_stores.now c.args.self.now.low) (entries c.args.self.now.schemes.now (drop c.args.at (steps_in c.args.self.now.route.now))) c.args.step.step.input c.args.parts.now.items c.loop-n.parts.items (g.R.StoredRows.rows c.args.self.now.rows.now c.args.step.step.input) c.loop-n.n (c.nth-ticket.result.0, c.nth-ticket.result.1.now)
      c.nth-ticket.ensures c.loop-n.invariant.0 c.loop-n.invariant.1 c.in-None.ensures.judged,
)

pub seek_each-returns-in-Some-clause-judged : goal.seek_each-returns-in-Some-clause-judged
seek_each-returns-in-Some-clause-judged g t c =
    subst (λ (zs : List TupleAt). IsJudgedThrough (known_of c.args.self.now.spec.now (g.R.StoredRows.rows c.args.self.now.rows.now) c.args.self.now.punct_stores.now c.args.self.now.low) (entries c.args.self.now.schemes.now (drop c.args.at (steps_in c.args.self.now.route.now))) zs (map (tuple_of c.args.step.step.input) (g.R.StoredRows.rows c.args.self.now.rows.now c.args.step.step.input)) c.in-Some.through) c.loop-n.invariant.0 c.in-Some.ensures.judged

pub seek_with-returns-then-not-is_ripe-clause-judged : goal.seek_with-returns-then-not-is_ripe-clause-judged
seek_with-returns-then-not-is_ripe-clause-judged g t c =
    let suited : agrees_with c.args.self.now.spec.now.classes c.args.parts.now.items (tuple_of c.args.step.step.input (c.args.ticket, c.args.row.now)) ≡ true = (agrees_with_here c.args.self.now.spec.now c.args.self.now.schemes.now c.args.self.now.route.now.links c.args.self.now.route.now.steps c.args.at c.args.step c.args.parts.now.items (tuple_of c.args.step.step.input (c.args.ticket, c.args.row.now)) c.requires.parts.sound c.requires.walk c.requires.route c.requires.step refl
    ∙ rw (← c.links_of.ensures.is, ← c.as_slice.ensures.value, ← c.of-next.ensures) (sym c.match_all.ensures ∙ c.if-not-match_all.false)) in
    let same : c.insert.new.self.items ≡ tuple_of c.args.step.step.input (c.args.ticket, c.args.row.now) ∷ c.args.parts.now.items = c.insert.ensures.items ∙ ap (λ (x : TupleAt). x ∷ c.args.parts.now.items) c.of-next.ensures in
    says_unripe (IsDone (known_of c.args.self.now.spec.now (g.R.StoredRows.rows c.args.self.now.rows.now) c.args.self.now.punct_stores.now c.args.self.now.low) (entries c.args.self.now.schemes.now (drop c.args.at (steps_in c.args.self.now.route.now))) c.args.parts.now.items (tuple_of c.args.step.step.input (c.args.ticket, c.args.row.now))) (AreDone (known_of c.args.self.now.spec.now (g.R.StoredRows.rows c.args.self.now.rows.now) c.args.self.now.punct_stores.now c.args.self.now.low) (entries c.args.self.now.schemes.now (drop c.args.at (steps_in c.args.self.now.route.now))) c.args.parts.now.items (map (tuple_of c.args.step.step.input) (g.R.StoredRows.rows c.args.self.now.rows.now c.args.step.step.input))) (known_of c.args.self.now.spec.now (g.R.StoredRows.rows c.args.self.now.rows.now) c.args.self.now.punct_stores.now c.args.self.now.low) (entries c.args.self.now.schemes.now (drop c.args.at (steps_in c.args.self.now.route.now))) c.args.parts.now.items c.seek-through.result (sym c.is_ripe.ensures ∙ c.if-not-is_ripe.true)
    (went_on c.args.self.now.spec.now c.args.self.now.schemes.now (g.R.StoredRows.rows c.args.self.now.rows.now) c.args.self.now.punct_stores.now c.args.self.now.low (steps_in c.args.self.now.route.now) c.args.at c.args.step.step c.args.parts.now.items c.insert.new.self.items (c.args.ticket, c.args.row.now) c.seek-through.result
    c.requires.walk (map_here step_of c.args.self.now.route.now.steps c.args.at c.args.step c.requires.step) c.requires.stored c.if-ticket-self.false suited same c.seek-through.ensures.judged)

pub seek_with-returns-clause-judged : goal.seek_with-returns-clause-judged
seek_with-returns-clause-judged g t c =
    let suited : agrees_with c.args.self.now.spec.now.classes c.args.parts.now.items (tuple_of c.args.step.step.input (c.args.ticket, c.args.row.now)) ≡ true = (agrees_with_here c.args.self.now.spec.now c.args.self.now.schemes.now c.args.self.now.route.now.links c.args.self.now.route.now.steps c.args.at c.args.step c.args.parts.now.items (tuple_of c.args.step.step.input (c.args.ticket, c.args.row.now)) c.requires.parts.sound c.requires.walk c.requires.route c.requires.step refl
    ∙ rw (← c.links_of.ensures.is, ← c.as_slice.ensures.value, ← c.of-next.ensures) (sym c.match_all.ensures ∙ c.if-not-match_all.false)) in
    let same : c.insert.new.self.items ≡ tuple_of c.args.step.step.input (c.args.ticket, c.args.row.now) ∷ c.args.parts.now.items = c.insert.ensures.items ∙ ap (λ (x : TupleAt). x ∷ c.args.parts.now.items) c.of-next.ensures in
    says_yes (IsDone (known_of c.args.self.now.spec.now (g.R.StoredRows.rows c.args.self.now.rows.now) c.args.self.now.punct_stores.now c.args.self.now.low) (entries c.args.self.now.schemes.now (drop c.args.at (steps_in c.args.self.now.route.now))) c.args.parts.now.items (tuple_of c.args.step.step.input (c.args.ticket, c.args.row.now))) (known_of c.args.self.now.spec.now (g.R.StoredRows.rows c.args.self.now.rows.now) c.args.self.now.punct_stores.now c.args.self.now.low) (entries c.args.self.now.schemes.now (drop c.args.at (steps_in c.args.self.now.route.now))) c.args.parts.now.items c.seek-through.result (sym c.is_ripe.ensures ∙ c.if-not-is_ripe.false)
    (went_on c.args.self.now.spec.now c.args.self.now.schemes.now (g.R.StoredRows.rows c.args.self.now.rows.now) c.args.self.now.punct_stores.now c.args.self.now.low (steps_in c.args.self.now.route.now) c.args.at c.args.step.step c.args.parts.now.items c.insert.new.self.items (c.args.ticket, c.args.row.now) c.seek-through.result
    c.requires.walk (map_here step_of c.args.self.now.route.now.steps c.args.at c.args.step c.requires.step) c.requires.stored c.if-ticket-self.false suited same c.seek-through.ensures.judged)

pub seek_with-returns-then-step-clause-judged : goal.seek_with-returns-then-step-clause-judged
seek_with-returns-then-step-clause-judged g t c =
    let suited : agrees_with c.args.self.now.spec.now.classes c.args.parts.now.items (tuple_of c.args.step.step.input (c.args.ticket, c.args.row.now)) ≡ true = (agrees_with_here c.args.self.now.spec.now c.args.self.now.schemes.now c.args.self.now.route.now.links c.args.self.now.route.now.steps c.args.at c.args.step c.args.parts.now.items (tuple_of c.args.step.step.input (c.args.ticket, c.args.row.now)) c.requires.parts.sound c.requires.walk c.requires.route c.requires.step refl
    ∙ rw (← c.links_of.ensures.is, ← c.as_slice.ensures.value, ← c.of-next.ensures) (sym c.match_all.ensures ∙ c.if-not-match_all.false)) in
    let same : c.insert.new.self.items ≡ tuple_of c.args.step.step.input (c.args.ticket, c.args.row.now) ∷ c.args.parts.now.items = c.insert.ensures.items ∙ ap (λ (x : TupleAt). x ∷ c.args.parts.now.items) c.of-next.ensures in
    let is = step_here c.args.self.now.spec.now.classes c.args.self.now.schemes.now c.args.self.now.route.now.links (inputs_of c.args.parts.now.items) c.args.self.now.route.now.steps c.args.at c.args.step c.requires.route c.requires.step in
    determined_done (known_of c.args.self.now.spec.now (g.R.StoredRows.rows c.args.self.now.rows.now) c.args.self.now.punct_stores.now c.args.self.now.low) c.args.self.now.spec.now c.args.self.now.schemes.now (steps_in c.args.self.now.route.now) c.args.at c.args.step.step c.args.parts.now.items c.insert.new.self.items (map (tuple_of c.args.step.step.input) (g.R.StoredRows.rows c.args.self.now.rows.now c.args.step.step.input)) (tuple_of c.args.step.step.input (c.args.ticket, c.args.row.now)) refl
    c.requires.walk (map_here step_of c.args.self.now.route.now.steps c.args.at c.args.step c.requires.step) (is.determined c.if-step.true) refl (front_agree c.args.self.now.spec.now.classes c.args.parts.now.items (tuple_of c.args.step.step.input (c.args.ticket, c.args.row.now)) c.requires.walk.joined suited) same
    (says_yes (all_covered (known_of c.args.self.now.spec.now (g.R.StoredRows.rows c.args.self.now.rows.now) c.args.self.now.punct_stores.now c.args.self.now.low) (entries c.args.self.now.schemes.now (drop (c.args.at + 1) (steps_in c.args.self.now.route.now))) c.insert.new.self.items ≡ true) (known_of c.args.self.now.spec.now (g.R.StoredRows.rows c.args.self.now.rows.now) c.args.self.now.punct_stores.now c.args.self.now.low) (entries c.args.self.now.schemes.now (drop (c.args.at + 1) (steps_in c.args.self.now.route.now))) c.insert.new.self.items c.seek-through.result (sym c.is_ripe.ensures ∙ c.if-not-is_ripe.false) c.seek-through.ensures.judged)

pub seek_under-returns-in-Some-clause-judged : goal.seek_under-returns-in-Some-clause-judged
seek_under-returns-in-Some-clause-judged g t c =
    row_under_decides (known_of c.args.self.now.spec.now (g.R.StoredRows.rows c.args.self.now.rows.now) c.args.self.now.punct_stores.now c.args.self.now.low) (entries c.args.self.now.schemes.now (drop c.args.at (steps_in c.args.self.now.route.now))) c.args.parts.now.items c.args.step.step.input c.args.ticket c.in-Some.row.now (g.R.StoredRows.rows c.args.self.now.rows.now c.args.step.step.input) c.seek_with.result
    c.requires.rising (sym c.in-Some.ensures) c.seek_with.ensures.judged

pub seek_among-seek_under-requires : goal.seek_among-seek_under-requires
seek_among-seek_under-requires g t c κs l =
    let walk : IsOnWalk c.args.self.now.spec.now c.args.self.now.schemes.now (drop c.args.at (steps_in c.args.self.now.route.now)) c.loop-ticket.parts.items = subst (λ (xs : List TupleAt). IsOnWalk c.args.self.now.spec.now c.args.self.now.schemes.now (drop c.args.at (steps_in c.args.self.now.route.now)) xs) (sym c.loop-ticket.invariant.0) c.requires.walk in
    let route : AreSteps c.args.self.now.spec.now.classes c.args.self.now.schemes.now c.args.self.now.route.now.links (inputs_of c.loop-ticket.parts.items) (drop c.args.at c.args.self.now.route.now.steps) = subst (λ (xs : List TupleAt). AreSteps c.args.self.now.spec.now.classes c.args.self.now.schemes.now c.args.self.now.route.now.links (inputs_of xs) (drop c.args.at c.args.self.now.route.now.steps)) (sym c.loop-ticket.invariant.0) c.requires.route in
    (search rules, (search rules, (c.requires.parts, (walk, (route, (c.requires.step, (c.requires.fits, c.requires.rising)))))))

pub seek_among-loop-ticket-preserved : goal.seek_among-loop-ticket-preserved
seek_among-loop-ticket-preserved g t c = (
  c.in-None.ensures.same ∙ c.loop-ticket.invariant.0,
  one_more_under (known_of c.args.self.now.spec.now (g.R.StoredRows.rows c.args.self.now.rows.now) c.args.self.now.punct_stores.now c.args.self.now.low) (entries c.args.self.now.schemes.now (drop c.args.at (steps_in c.args.self.now.route.now))) c.args.parts.now.items c.loop-ticket.parts.items (map (tuple_of c.args.step.step.input) (g.R.StoredRows.rows c.args.self.now.rows.now c.args.step.step.input)) c.args.tickets.now c.loop-ticket.ticket-index (get_or c.args.tickets.now c.loop-ticket.ticket-index 0)
      (slice_get-get_or c.args.tickets.now c.loop-ticket.ticket-index 0 c.loop-ticket-test.true) c.loop-ticket.invariant.0 c.loop-ticket.invariant.1 c.in-None.ensures.judged,
)

pub seek_among-returns-in-Some-clause-judged : goal.seek_among-returns-in-Some-clause-judged
seek_among-returns-in-Some-clause-judged g t c =
    said_under (known_of c.args.self.now.spec.now (g.R.StoredRows.rows c.args.self.now.rows.now) c.args.self.now.punct_stores.now c.args.self.now.low) (entries c.args.self.now.schemes.now (drop c.args.at (steps_in c.args.self.now.route.now))) c.args.parts.now.items c.loop-ticket.parts.items (map (tuple_of c.args.step.step.input) (g.R.StoredRows.rows c.args.self.now.rows.now c.args.step.step.input)) c.args.tickets.now c.in-Some.through c.loop-ticket.invariant.0 c.in-Some.ensures.judged
