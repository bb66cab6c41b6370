use Rattle.std.proofs.Common.{rules, ◌+◌, slice_get, sym, ap, ◌∙◌, subst, ⊎_elim, ◌<◌}
use Rattle.pj_turn.proofs.Joins.{splits_as, get_snoc}
use Rattle.pj_turn.proofs.turn.Turn.deal.Goals as goal

pub split_seat-seat-requires : goal.split_seat-seat-requires
split_seat-seat-requires g c =
    (search rules, search rules, splits_as _ _ _ _ c.loop-number.number _ (ap (λ m. m.0) c.loop-number.invariant.1) (subst (λ n. c.loop-number.number < n) (sym c.args.self.now.sized.2) c.loop-number-test.true))

pub loop-number-preserved : goal.loop-number-preserved
loop-number-preserved g c =
    let i = c.loop-number.invariant in
    let split = c.split_seat-seat.ensures in
    let items = c.in_ok-push.ensures.items in (
      search rules,
      search rules,
      search rules,
      λ k s e. ⊎_elim
          (λ old. i.3 k s old)
          (λ new. (
            ap (λ t. t.seat.table_id) (sym new.1) ∙ (split.3 ∙ i.0),
            ap (λ t. t.number) (sym new.1) ∙ (sym i.2 ∙ ap (λ n. n + 1) (sym new.0)),
            ap (λ t. t.seat.me.0.seen) (sym new.1) ∙ (ap (λ m. m.0.seen) split.4 ∙ ap (λ m. m.0.seen) i.1),
            ap (λ t. t.seat.me.0.fixed) (sym new.1) ∙ (ap (λ m. m.0.fixed) split.4 ∙ ap (λ m. m.0.fixed) i.1),
          ))
          (get_snoc _ _ s k (ap (λ l. slice_get l k) (sym items) ∙ e)),
    )
