use Rattle.std.proofs.Common.{rules, arith, ◌≡◌, ◌<◌, ◌≤◌, ◌+◌, ◌++◌, ◌∷◌, [], ◌∙◌, true, false, ℕ, List, length, get_or, map, sym, ap}
use Rattle.pj_events.specs.Join.{Value, joins}
use Rattle.pj_probe.specs.Walks.{end_to_end, row_at}
use Rattle.pj_probe.specs.Walking.{walked, walked_upto}
use Rattle.pj_probe.proofs.Combining.{upto-all, upto-front, upto-more, walked-end, walked-none}
use Rattle.pj_probe.proofs.Growing.{front-more, grows-more, grows-none, grows-same}
use Rattle.pj_probe.proofs.Placing.{side-is, sides-full, sides-more}
use Rattle.pj_shape.specs.Joining.{parts_on}
use Rattle.pj_probe.proofs.walk.+walking.Goals as goal

pub walk-returns-then-len-sides-clause-ok : goal.walk-returns-then-len-sides-clause-ok
walk-returns-then-len-sides-clause-ok g t c =
    let sides = map g.S.Candidates.pairs c.args.sides.now in
    let full : length c.args.sides.now ≤ length c.args.rows.now.items = rw (← c.len.ensures.value) c.if-len-sides.true in
    let parts : c.of.result ≡ c.args.rows.now.items = c.of.ensures ∙ c.as_slice.ensures.value in
    grows-same (g.V.Visit.told c.joined.new.self) (g.V.Visit.list c.args.visit.now) (g.V.Visit.list c.joined.new.self) (end_to_end c.of.result ∷ []) (walked c.args.checks.now sides c.args.rows.now.items)
    (ap (λ (rows : List (List Value)). end_to_end rows ∷ []) parts ∙ sym (walked-end c.args.checks.now sides c.args.rows.now.items (sides-full g.S.Candidates.pairs c.args.sides.now (length c.args.rows.now.items) full) c.requires.joins))
    c.in_ok-joined.ensures.ok

pub walk_on-walk-requires : goal.walk_on-walk-requires
walk_on-walk-requires g t c κs within =
    let fits : joins c.args.checks.now (parts_on 0 (c.args.rows.now.items ++ c.args.row ∷ [])) ≡ true = search rules in
    let grown : joins c.args.checks.now (parts_on 0 c.push.new.self.items) ≡ true = rw (c.push.ensures.items) fits in
    (search rules, (search rules, (search rules, (c.requires.few, grown))))

pub walk_on-returns-then-not-fit-clause-ok : goal.walk_on-returns-then-not-fit-clause-ok
walk_on-returns-then-not-fit-clause-ok g t c =
    let sides = map g.S.Candidates.pairs c.args.sides.now in
    let fails : joins c.args.checks.now (parts_on 0 (c.args.rows.now.items ++ c.args.row ∷ [])) ≡ false = rw (← c.row.ensures, ← c.as_slice.ensures.value, ← c.fit.ensures) (search rules) in
    grows-none (g.V.Visit.told c.args.visit.now) (g.V.Visit.list c.args.visit.now) (walked c.args.checks.now sides (c.args.rows.now.items ++ c.args.row ∷ [])) (walked-none c.args.checks.now sides (c.args.rows.now.items ++ c.args.row ∷ []) fails)

pub walk-returns-in_err-walk_on-clause-err : goal.walk-returns-in_err-walk_on-clause-err
walk-returns-in_err-walk_on-clause-err g t c =
    let sides = map g.S.Candidates.pairs c.args.sides.now in
    let more : length c.args.rows.now.items < length c.args.sides.now = rw (← c.len.ensures.value) c.if-len-sides.false in
    let side = side-is g.S.Candidates.pairs c.args.sides.now (length c.args.rows.now.items) c.index-sides-len.result more (rw (← c.len-2.ensures.value) c.index-sides-len.is) in
    let below : c.loop-place.place < length (get_or sides (length c.args.rows.now.items) []) = rw (← side, ← c.count-place-end.ensures) c.loop-place-test.true in
    let row : c.lend.result ≡ row_at (get_or sides (length c.args.rows.now.items) []) c.loop-place.place = c.lend.ensures ∙ ap (λ (s : List (ℕ × List Value)). row_at s c.loop-place.place) side in
    let f = front-more (g.V.Visit.told c.loop-place.visit) (g.V.Visit.told c.walk_on.new.visit) (g.V.Visit.list c.args.visit.now) (g.V.Visit.list c.loop-place.visit) (g.V.Visit.list c.walk_on.new.visit)
    (walked_upto c.args.checks.now sides c.args.rows.now.items c.loop-place.place) (walked c.args.checks.now sides (c.args.rows.now.items ++ row_at (get_or sides (length c.args.rows.now.items) []) c.loop-place.place ∷ [])) (walked c.args.checks.now sides c.args.rows.now.items)
    c.in_err-walk_on.ensures.told c.loop-place.invariant.2 (rw (← row, ← c.loop-place.invariant.0) c.in_err-walk_on.ensures.err) (upto-front c.args.checks.now sides c.args.rows.now.items c.loop-place.place (sides-more g.S.Candidates.pairs c.args.sides.now (length c.args.rows.now.items) more) below) in
    search rules

pub walk-loop-place-preserved : goal.walk-loop-place-preserved
walk-loop-place-preserved g t c =
    let sides = map g.S.Candidates.pairs c.args.sides.now in
    let more : length c.args.rows.now.items < length c.args.sides.now = rw (← c.len.ensures.value) c.if-len-sides.false in
    let side = side-is g.S.Candidates.pairs c.args.sides.now (length c.args.rows.now.items) c.index-sides-len.result more (rw (← c.len-2.ensures.value) c.index-sides-len.is) in
    let row : c.lend.result ≡ row_at (get_or sides (length c.args.rows.now.items) []) c.loop-place.place = c.lend.ensures ∙ ap (λ (s : List (ℕ × List Value)). row_at s c.loop-place.place) side in
    let next : List (List Value) = walked c.args.checks.now sides (c.args.rows.now.items ++ row_at (get_or sides (length c.args.rows.now.items) []) c.loop-place.place ∷ []) in (
      c.in_ok-walk_on.ensures.rows ∙ c.loop-place.invariant.0,
      (λ h. c.loop-place.invariant.1 (c.in_ok-walk_on.ensures.told h)),
      grows-same (g.V.Visit.told c.walk_on.new.visit) (g.V.Visit.list c.args.visit.now) (g.V.Visit.list c.walk_on.new.visit)
          (walked_upto c.args.checks.now sides c.args.rows.now.items c.loop-place.place ++ next)
          (walked_upto c.args.checks.now sides c.args.rows.now.items (c.loop-place.place + 1))
          (sym (upto-more c.args.checks.now sides c.args.rows.now.items c.loop-place.place))
          (grows-more (g.V.Visit.told c.loop-place.visit) (g.V.Visit.told c.walk_on.new.visit) (g.V.Visit.list c.args.visit.now) (g.V.Visit.list c.loop-place.visit) (g.V.Visit.list c.walk_on.new.visit)
          (walked_upto c.args.checks.now sides c.args.rows.now.items c.loop-place.place) next
          c.in_ok-walk_on.ensures.told c.loop-place.invariant.2 (rw (← row, ← c.loop-place.invariant.0) c.in_ok-walk_on.ensures.ok)),
    )

pub walk-returns-clause-ok : goal.walk-returns-clause-ok
walk-returns-clause-ok g t c =
    let sides = map g.S.Candidates.pairs c.args.sides.now in
    let more : length c.args.rows.now.items < length c.args.sides.now = rw (← c.len.ensures.value) c.if-len-sides.false in
    let side = side-is g.S.Candidates.pairs c.args.sides.now (length c.args.rows.now.items) c.index-sides-len.result more (rw (← c.len-2.ensures.value) c.index-sides-len.is) in
    let end : c.loop-place.place ≡ length (get_or sides (length c.args.rows.now.items) []) = rw (← side, ← c.count-place-end.ensures) (omega (arith, c.loop-place-test.false, c.loop-place.auto.place-end)) in
    grows-same (g.V.Visit.told c.loop-place.visit) (g.V.Visit.list c.args.visit.now) (g.V.Visit.list c.loop-place.visit)
    (walked_upto c.args.checks.now sides c.args.rows.now.items c.loop-place.place) (walked c.args.checks.now sides c.args.rows.now.items)
    (upto-all c.args.checks.now sides c.args.rows.now.items c.loop-place.place (sides-more g.S.Candidates.pairs c.args.sides.now (length c.args.rows.now.items) more) end) c.loop-place.invariant.2
