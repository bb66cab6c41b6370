use Rattle.std.proofs.Common.{rules, sym, ap, ◌∙◌, subst, Some, IsSome, ◌<◌, ◌≡◌, ℕ}
use mathlib.Core.Option.{some, some-injective}
use lib.ListN.{get_elem?}
use Rattle.pj_turn.specs.History.{Closed}
use Rattle.pj_turn.specs.Rule.{all_pairs}
use Rattle.pj_turn.proofs.Steps.{same_inside}
use Rattle.pj_turn.proofs.Joins.{ends, closes}
use Rattle.pj_turn.proofs.turn.Turn.end.Goals as goal

pub unwrap-requires : goal.unwrap-requires
unwrap-requires g c =
    let m = g.T.Kept.meaning in
    let f = c.requires.first in
    let key = c.args.self.table.shared.key in
    let v = c.close_with-closed.ensures.values.2 in
    let over = ends m (m.fixed key.state.value) key.seats c.args.first.id c.args.first.me.0 f.0 f.1 f.2 (λ n lt. c.requires.pairs n (subst (λ k. n < k) c.args.self.sized.2 lt)) v.0 v.1.0 v.1.1 in
    let is = some-injective _ _ (sym (v.4 0 (Some over.state) (ap (λ h. get_elem? h 0) over.at_home)) ∙ c.take-state.ensures.value) in
    let k : IsSome (Some over.state) = search rules in
    subst IsSome is k

pub returns : goal.returns
returns g c =
    let m = g.T.Kept.meaning in
    let f = c.requires.first in
    let key = c.args.self.table.shared.key in
    let v = c.close_with-closed.ensures.values.2 in
    let over = ends m (m.fixed key.state.value) key.seats c.args.first.id c.args.first.me.0 f.0 f.1 f.2 (λ n lt. c.requires.pairs n (subst (λ k. n < k) c.args.self.sized.2 lt)) v.0 v.1.0 v.1.1 in
    let is = some-injective _ _ (sym (v.4 0 (Some over.state) (ap (λ h. get_elem? h 0) over.at_home)) ∙ c.take-state.ensures.value) in
    let same = same_inside over.state c.unwrap.result (is ∙ c.unwrap.ensures) in
    let closed = closes m (m.fixed key.state.value) key.seats (all_pairs c.args.first.me.0) v.0.homes c.unwrap.result over same in
    subst (λ n. Closed m (m.fixed key.state.value) n (λ q seen. (k : ℕ) × (get_elem? (all_pairs c.args.first.me.0) k ≡ some (q, seen))) c.unwrap.result) c.args.self.sized.2 closed
