use Rattle.std.proofs.Common.{ℕ, ◌≡◌, ◌∙◌, ◌++◌, ◌⊎◌, List, [], map, refl, sym, subst, take, ap, arith, inl, inr}
use Rattle.std.proofs.lemmas.List.{take_all}
use Rattle.pj_events.specs.Join.{In, PunctAt}
use Rattle.pj_state.specs.Rising.{IsRising, itself}
use Rattle.pj_waiting.specs.Holding.{tickets_where, held_at, goes_up}
use Rattle.pj_waiting.specs.Letting.{letting_go}
use Rattle.pj_waiting.proofs.Holding.{AreLetGo, AreListed, all_let_go, all_listed, let_go_next, let_go_none, listed_next, no_items, none_let_go}
use Rattle.pj_waiting.proofs.widening.Swept.let_go.Goals as goal
use Rattle.pj_waiting.proofs.widening.Swept.let_go.Goals.{then-len-eq0-via-then-len-eq0, then-len-eq0-via-else-len-eq0+then-self-eq0}

nothing : (c : goal.After-new-then-len-eq0) → (c.args.waiting.now.puncts ≡ []) ⊎ (c.args.self.now.gone.now ≡ [])
nothing c = elim c.then-len-eq0.branch [
  | then-len-eq0-via-then-len-eq0 w ↦ inl (no_items c.args.waiting.now.puncts (omega (arith, w.if-len-eq0.true, c.len.ensures.len)))
  | then-len-eq0-via-else-len-eq0+then-self-eq0 w ↦ inr (no_items c.args.self.now.gone.now (omega (arith, w.if-self-eq0.true)))
]

pub returns-then-len-eq0-clause-goes : goal.returns-then-len-eq0-clause-goes
returns-then-len-eq0-clause-goes c = c.new.ensures ∙ (none_let_go c.args.self.now c.args.waiting.now c.args.out.now c.requires.held (nothing c)).0

pub returns-then-len-eq0-clause-ok : goal.returns-then-len-eq0-clause-ok
returns-then-len-eq0-clause-ok c = (none_let_go c.args.self.now c.args.waiting.now c.args.out.now c.requires.held (nothing c)).1

pub returns-then-len-eq0-clause-held : goal.returns-then-len-eq0-clause-held
returns-then-len-eq0-clause-held c = (none_let_go c.args.self.now c.args.waiting.now c.args.out.now c.requires.held (nothing c)).2

pub let_one_go-requires-clause-rising : goal.let_one_go-requires-clause-rising
let_one_go-requires-clause-rising c = subst (λ (ps : List PunctAt). IsRising held_at ps) (sym c.loop-ticket.invariant.puncts) c.len.ensures.rising

pub loop-ticket-init : goal.loop-ticket-init
loop-ticket-init c = record {
  goes = let_go_none c.args.self.now c.args.waiting.now.puncts c.new-goes.result c.args.out.now c.new-goes.ensures;
  listed = λ p h k. absurd k;
  puncts = refl;
  keeps = λ q t. t;
}

pub loop-ticket-preserved : goal.loop-ticket-preserved
loop-ticket-preserved c =
    let rising : IsRising itself c.as_slice-ticket-items.result.now = subst (λ (ns : List ℕ). IsRising itself ns) (sym c.as_slice-ticket-items.ensures.value) c.in_order-tickets.ensures.rising in
    record {
      goes = let_go_next c.args.self.now c.let_one_go.new.waiting c.args.waiting.now.puncts c.as_slice-ticket-items.result.now c.loop-ticket.goes c.let_one_go.new.goes c.args.out.now c.loop-ticket.out c.let_one_go.new.out c.loop-ticket.ticket-index c.loop-ticket-test.true
          (c.let_one_go.ensures.puncts ∙ c.loop-ticket.invariant.puncts) c.len.ensures.rising rising c.loop-ticket.invariant.goes c.in_ok-let_one_go.ensures.ok;
      listed = listed_next c.args.self.now c.loop-ticket.waiting c.let_one_go.new.waiting c.as_slice-ticket-items.result.now c.loop-ticket.goes c.let_one_go.new.goes c.loop-ticket.out c.let_one_go.new.out c.loop-ticket.ticket-index c.loop-ticket-test.true
          c.let_one_go.ensures.puncts c.let_one_go.ensures.keeps (subst (λ (ps : List PunctAt). IsRising held_at ps) (sym c.loop-ticket.invariant.puncts) c.len.ensures.rising) c.in_ok-let_one_go.ensures.ok c.loop-ticket.invariant.listed;
      puncts = c.let_one_go.ensures.puncts ∙ c.loop-ticket.invariant.puncts;
      keeps = λ q t. c.let_one_go.ensures.keeps q (c.loop-ticket.invariant.keeps q t);
    }

more : (c : goal.After-drop-tickets-2) → (n : ℕ) → In n (map (λ q. q.1) c.in_ok-freed.freed) → In n c.as_slice-ticket-items.result.now
more c n h =
    subst (λ (ns : List ℕ). In n ns) (sym c.as_slice-ticket-items.ensures.value)
    (c.in_order-tickets.ensures.all n (subst (λ (ns : List ℕ). In n ns) (sym (c.in_ok-punct_tickets.ensures ∙ ap (map (λ (q : ℕ × ℕ). q.1)) c.as_slice.ensures)) h))

looked : (c : goal.After-drop-tickets-2) → take c.loop-ticket.ticket-index c.as_slice-ticket-items.result.now ≡ c.as_slice-ticket-items.result.now
looked c = take_all c.loop-ticket.ticket-index c.as_slice-ticket-items.result.now c.loop-ticket-test.false

let_go : (c : goal.After-drop-tickets-2) → (c.loop-ticket.goes ≡ tickets_where (goes_up c.args.self.now) c.args.waiting.now.puncts) × (c.loop-ticket.out ≡ c.args.out.now ++ letting_go c.args.self.now.schemas.now c.args.self.now.state.now.rows c.args.self.now.gone.now c.args.self.now.input c.args.waiting.now.puncts)
let_go c =
    all_let_go c.args.self.now c.args.waiting.now c.in_ok-freed.freed c.as_slice-ticket-items.result.now c.loop-ticket.goes c.args.out.now c.loop-ticket.out c.requires.held c.len.ensures.rising c.in_ok-freed.ensures.all (more c)
    (subst (λ (ns : List ℕ). AreLetGo c.args.self.now c.args.waiting.now.puncts ns c.loop-ticket.goes c.args.out.now c.loop-ticket.out) (looked c) c.loop-ticket.invariant.goes)

pub returns-clause-goes : goal.returns-clause-goes
returns-clause-goes c = (let_go c).0

pub returns-clause-ok : goal.returns-clause-ok
returns-clause-ok c = (let_go c).1

pub returns-clause-held : goal.returns-clause-held
returns-clause-held c =
    all_listed c.args.self.now c.args.waiting.now c.loop-ticket.waiting c.in_ok-freed.freed c.as_slice-ticket-items.result.now c.requires.held c.loop-ticket.invariant.puncts c.loop-ticket.invariant.keeps c.in_ok-freed.ensures.all (more c)
    (subst (λ (ns : List ℕ). AreListed c.args.self.now c.loop-ticket.waiting ns) (looked c) c.loop-ticket.invariant.listed)
