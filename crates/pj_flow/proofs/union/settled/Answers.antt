use Rattle.std.proofs.Common.{ℕ, ◌<◌, ◌∙◌, filter, length}
use Rattle.std.proofs.lemmas.List.Elements.{All-same}
use Rattle.pj_flow.specs.Insides.{is_ready, with_newest}
use Rattle.pj_flow.proofs.Holding.{go_within}
use Rattle.pj_flow.proofs.union.settled.Goals as goal

pub hand_out-requires : goal.hand_out-requires
hand_out-requires c =
    All-same (λ (at : ℕ). at < length c.args.came.now) c.as_slice.result.now (filter (is_ready c.args.inputs c.args.came.now) (with_newest c.args.came.now c.args.waiting.now))
    (c.as_slice.ensures.value ∙ c.in_ok-places.ensures.go) (go_within c.args.inputs c.args.came.now c.args.waiting.now c.requires.asked c.requires.some)
