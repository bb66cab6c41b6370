use Rattle.std.proofs.Common.{Some, ap, ◌≡◌, ◌∙◌}
use Rattle.pj_hand.specs.Hands.{HandState}
use Rattle.pj_hand.specs.Held.{first_place}
use Rattle.pj_hand.proofs.Standing.{gives-first, stops-first}
use Rattle.pj_hand.proofs.hand.Hand.give_first.Goals as goal

pub returns-in-Ok-clause-ok : goal.returns-in-Ok-clause-ok
returns-in-Ok-clause-ok c =
    let mid : HandState = record { core = c.self.inside.core; taken = c.first.new.self.probes } in
    let same : mid ≡ c.args.self.now = (λ i. record { core = c.self.inside.core; taken = c.first.ensures.same i }) ∙ c.self.view_is in
    let first : Some (c.in-Ok-Some.join, c.in-Ok-Some.ticket) ≡ first_place c.self.inside.taken.probes = rw c.in-Ok-Some.field-0-is at c.in-Ok-Some.ensures.ok in
    gives-first c.in-Ok.more c.args.self.now mid c.give_one.new.self (c.in-Ok-Some.join, c.in-Ok-Some.ticket) same (first ∙ ap (λ (h : HandState). first_place h.taken) c.self.view_is) c.in-Ok.ensures.ok

pub returns-in-Err-give_one-clause-err : goal.returns-in-Err-give_one-clause-err
returns-in-Err-give_one-clause-err c =
    let mid : HandState = record { core = c.self.inside.core; taken = c.first.new.self.probes } in
    let same : mid ≡ c.args.self.now = (λ i. record { core = c.self.inside.core; taken = c.first.ensures.same i }) ∙ c.self.view_is in
    let first : Some (c.in-Ok-Some.join, c.in-Ok-Some.ticket) ≡ first_place c.self.inside.taken.probes = rw c.in-Ok-Some.field-0-is at c.in-Ok-Some.ensures.ok in
    stops-first c.args.self.now mid c.give_one.new.self (c.in-Ok-Some.join, c.in-Ok-Some.ticket) c.in-Err-give_one.stop same (first ∙ ap (λ (h : HandState). first_place h.taken) c.self.view_is) c.in-Err-give_one.ensures.err
