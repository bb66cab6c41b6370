use Rattle.std.proofs.Common.{◌≡◌, ◌+◌, ◌-◌, List, None, ap, ◌∙◌, subst, arith}
use Rattle.pj_state.specs.Nears.{places_from}
use Rattle.pj_state.specs.Rising.{first_with}
use Rattle.pj_state.specs.Stores.{place_ticket}
use Rattle.pj_state.specs.declared.places.Place.{Place}
use Rattle.pj_state.proofs.Near.{near-before, near-found, near-lost, near-within}
use Rattle.pj_state.proofs.places.Block.position.Goals as goal

pub returns-then-ticket-self-clause-missing : goal.returns-then-ticket-self-clause-missing
returns-then-ticket-self-clause-missing c = λ rising.
    subst (λ (ps : List Place). first_with place_ticket c.args.ticket ps ≡ None) c.self.view_is
    (near-before c.self.inside.base c.args.ticket c.self.inside.nears c.if-ticket-self.true)

pub returns-clause-within : goal.returns-clause-within
returns-clause-within c =
    near-within c.self.inside.base c.as_slice.result.now c.args.self.now c.position.result (ap (places_from c.self.inside.base) c.as_slice.ensures ∙ c.self.view_is) c.position.ensures.within

pub returns-clause-found : goal.returns-clause-found
returns-clause-found c =
    let base = c.self.inside.base in
    let past : base + (c.args.ticket - base) ≡ c.args.ticket = omega (arith, c.if-ticket-self.false) in
    near-found base c.args.ticket (c.args.ticket - base) c.as_slice.result.now c.args.self.now c.position.result (ap (places_from base) c.as_slice.ensures ∙ c.self.view_is) past
    c.position.ensures.within c.position.ensures.found

pub returns-clause-missing : goal.returns-clause-missing
returns-clause-missing c =
    let base = c.self.inside.base in
    let past : base + (c.args.ticket - base) ≡ c.args.ticket = omega (arith, c.if-ticket-self.false) in
    near-lost base c.args.ticket (c.args.ticket - base) c.as_slice.result.now c.args.self.now c.position.result (ap (places_from base) c.as_slice.ensures ∙ c.self.view_is) past
    c.position.ensures.missing
