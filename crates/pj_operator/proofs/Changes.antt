-- One node of a core changes.
use Rattle.std.proofs.Common.{ℕ, zero, suc, ◌+◌, ◌<◌, ◌++◌, Bool, true, false, cond, List, [], ◌∷◌, ◌≡◌, Option, Some, None, Result, Ok, Err, IfOk, OnOk, length, map, sum, get_or, set, eqb, refl, sym, ap, ◌∙◌, subst, inl, inr, arith}
use Rattle.std.proofs.lemmas.Bool.{cases_eq, eq-eqb, false≢true}
use Rattle.std.proofs.lemmas.List.{get_or_default, get_or-set_other, get_or-set_same, length-map}
use Rattle.std.proofs.Math.Seq.{map-set_same}
use Rattle.pj_probe.specs.declared.probe.Found.{Found}
use Rattle.pj_operator.specs.declared.operator.RunningOperator.{RunningOperator}
use Rattle.pj_operator.specs.declared.operator.OperatorState.{OperatorState}
use Rattle.pj_value.specs.declared.values.Value.{Value}
use Rattle.pj_pattern.specs.Patterns.{Pattern}
use Rattle.pj_pattern.specs.declared.element.Element.TheVariants.{Punct, Tuple}
use Rattle.pj_events.specs.Join.{In, arities}
use Rattle.pj_events.specs.declared.events.Stop.{Stop}
use Rattle.pj_events.specs.declared.events.Stop.TheVariants.{Limit, NoMemory}
use Rattle.pj_events.specs.declared.events.Out.{Out}
use Rattle.pj_events.specs.Outcomes.{elements_out}
use Rattle.pj_join.specs.Joins.{JoinView, found_of}
use Rattle.pj_operator.specs.declared.act.Swept.{Swept}
use Rattle.pj_operator.specs.declared.operator.OperatorState.TheVariants.{Join as RunningJoin}
use Rattle.pj_operator.specs.Acts.{OperatorSwept, HasGivenAt, HasProbed, IsGiveStop, IsProbeStop, JoinProbed, JoinTook, TakesFirst, StateTakes, first_pending, found_outs, with_state}
use Rattle.pj_operator.specs.Operators.{AreLinked, Frame, HasOwnWidth, IsOrderly, IsOrderlyJoin, Kind, KeepsOpen, running_at, frame_of, frames_in, kept_seen, kind_of, no_operator, pending_kept}
use Rattle.pj_operator.specs.Emitting.{AreOrderly, Emits, GoBeyond, IsEmitStop, MayEmit, StayOpen, StaysAs, state_at}
use Rattle.pj_operator.proofs.Emits.{emits-rows-out, frame-at, long-frames, opens-set, same-frame, stays-none}
use Rattle.pj_operator.proofs.Firsts.{first_from}
use Rattle.pj_operator.proofs.Joins.{probed-fewer}
use Rattle.pj_operator.proofs.Widths.{found-wide, swept-wide}

-- the operator in another state
abbrev pub in_state : RunningOperator → OperatorState → RunningOperator
in_state operator state = record operator { state = state }

pub frames-state : (operators : List RunningOperator) (n : ℕ) (d : RunningOperator) (state : OperatorState) → kind_of state ≡ kind_of (get_or operators n d).state → frames_in (set operators n (in_state (get_or operators n d) state)) ≡ frames_in operators
frames-state operators n d state e =
    map-set_same frame_of operators n (in_state (get_or operators n d) state) d
    (ap (λ (k : Kind). record { kind = k; above = (get_or operators n d).above; width = (get_or operators n d).width }) e)

pub frames-operator : (operators : List RunningOperator) (n : ℕ) (d operator : RunningOperator) → frame_of operator ≡ frame_of (get_or operators n d) → frames_in (set operators n operator) ≡ frames_in operators
frames-operator operators n d operator e = map-set_same frame_of operators n operator d e

pub opens-state : (operators : List RunningOperator) (n : ℕ) (d : RunningOperator) (state : OperatorState) → n < length operators → KeepsOpen (get_or operators n d).state state → StayOpen operators (set operators n (in_state (get_or operators n d) state))
opens-state operators n d state lt k = opens-set operators n (in_state (get_or operators n d) state) lt (subst (λ (x : RunningOperator). KeepsOpen x.state state) (get_or_default operators n d no_operator lt) k)

pub opens-operator : (operators : List RunningOperator) (n : ℕ) (d operator : RunningOperator) → n < length operators → KeepsOpen (get_or operators n d).state operator.state → StayOpen operators (set operators n operator)
opens-operator operators n d operator lt k = opens-set operators n operator lt (subst (λ (x : RunningOperator). KeepsOpen x.state operator.state) (get_or_default operators n d no_operator lt) k)

pub opens-then : (old mid new : List RunningOperator) → StayOpen old mid → StayOpen mid new → StayOpen old new
opens-then old mid new a b = λ o. let p = a o in let q = b p.0 in (q.0, λ n t h. q.1 n t (p.1 n t h))

pub orderly-set : (operators : List RunningOperator) (n : ℕ) (operator : RunningOperator) → n < length operators → AreOrderly operators → IsOrderly operator.state → AreOrderly (set operators n operator)
orderly-set operators n operator lt orderly here m = elim (cases_eq m n) [
  | inl q ↦
      subst (λ (k : ℕ). IsOrderly (state_at (set operators n operator) k)) (sym q)
      (subst (λ (x : RunningOperator). IsOrderly x.state) (sym (get_or-set_same operators n operator no_operator lt)) here)
  | inr ne ↦ subst (λ (x : RunningOperator). IsOrderly x.state) (sym (get_or-set_other operators n m operator no_operator ne)) (orderly m)
]

-- a join hands up as many columns as its inputs have
pub own-width : (operators : List RunningOperator) (n : ℕ) (join : JoinView) → AreLinked (frames_in operators) → n < length operators → (running_at operators n).state ≡ RunningJoin join → (running_at operators n).width ≡ sum (arities join.spec)
own-width operators n join linked lt is =
    subst (λ (w : OperatorState). HasOwnWidth (kind_of w) (running_at operators n).width) is
    (subst (λ (f : Frame). HasOwnWidth f.kind f.width) (frame-at operators n) (linked n (omega (arith, lt, length-map operators frame_of))).1)

-- ---- what may climb

pub may-gave : (operators mid : List RunningOperator) (probe : Found) (rows : List (List Value)) (from : ℕ) → MayEmit operators probe.join (map Tuple rows) → frames_in mid ≡ frames_in operators → (AreOrderly operators → AreOrderly mid) → from ≡ probe.join
    → MayEmit mid from (map Tuple rows)
may-gave operators mid probe rows from may frames orderly e = record {
  linked = subst AreLinked (sym frames) may.linked;
  orderly = orderly may.orderly;
  wide = λ x h. may.wide x h ∙ ap (λ (f : Frame). f.width) (sym (same-frame operators mid probe.join frames)) ∙ ap (λ (n : ℕ). (running_at mid n).width) (sym e);
}

pub may-swept : (operators : List RunningOperator) (n : ℕ) (d operator : RunningOperator) (input : ℕ) (swept : Swept) → n < length operators → OperatorSwept (get_or operators n d) operator input swept → frame_of operator ≡ frame_of (get_or operators n d)
    → KeepsOpen (get_or operators n d).state operator.state → AreLinked (frames_in operators) → AreOrderly operators → MayEmit (set operators n operator) n (map Punct swept.puncts)
may-swept operators n d operator input swept lt S frame keeps linked orderly = record {
  linked = subst AreLinked (sym frames) linked;
  orderly = (opens-operator operators n d operator lt keeps orderly).0;
  wide = λ x h. swept-wide S.join input inside x (subst (λ (ps : List (List Pattern)). In x (map Punct ps)) S.puncts h)
      ∙ sym (ap (λ (f : Frame). f.width) (same-frame operators (set operators n operator) n frames) ∙ own-width operators n S.join linked lt was);
}
  where
    frames : frames_in (set operators n operator) ≡ frames_in operators
    frames = frames-operator operators n d operator frame

    was : (running_at operators n).state ≡ RunningJoin S.join
    was = ap (λ (x : RunningOperator). x.state) (sym (get_or_default operators n d no_operator lt)) ∙ S.was

    inside : IsOrderlyJoin S.join
    inside = subst IsOrderly was (orderly n)

-- at the first node that has a ticket pending there is one
first-some : (k : ℕ) (operators : List RunningOperator) (n : ℕ) → first_pending k operators ≡ Some n → (i : ℕ) → n ≡ k + i → pending_kept (kept_seen (running_at operators i).state) ≡ 0 → ⊥
first-some k [] n e i at z = cc
first-some k (operator ∷ operators) n e i at z = go (eqb (pending_kept (kept_seen operator.state)) 0) refl e i at z (λ j f p y. first-some (k + 1) operators n f j p y)
  where
    go : (b : Bool) → eqb (pending_kept (kept_seen operator.state)) 0 ≡ b → cond b (first_pending (k + 1) operators) (Some k) ≡ Some n → (j : ℕ) → n ≡ k + j → pending_kept (kept_seen (running_at (operator ∷ operators) j).state) ≡ 0
        → ((j : ℕ) → first_pending (k + 1) operators ≡ Some n → n ≡ k + 1 + j → pending_kept (kept_seen (running_at operators j).state) ≡ 0 → ⊥) → ⊥
    go true q f zero p y ih = absurd (let l = first_from (k + 1) operators n f in omega (arith, l, p))
    go true q f (suc j) p y ih = ih j f (omega (arith, p)) y
    go false q f zero p y ih = absurd (false≢true (sym q ∙ eq-eqb (pending_kept (kept_seen operator.state)) 0 y))
    go false q f (suc j) p y ih = let s : k ≡ n = cc in absurd (omega (arith, s, p))

takes-one : (operators : List RunningOperator) (n : ℕ) (d : RunningOperator) (state : OperatorState) (answer : Option Found) → n < length operators → first_pending 0 operators ≡ Some n → StateTakes (get_or operators n d).state state answer
    → TakesFirst operators (set operators n (in_state (get_or operators n d) state)) answer
takes-one operators n d state None lt e t =
    absurd (first-some 0 operators n e n (let z : n ≡ 0 + n = omega arith in z) (ap (λ (x : RunningOperator). pending_kept (kept_seen x.state)) (sym (get_or_default operators n d no_operator lt)) ∙ t.1))
takes-one operators n d state (Some found) lt e t = record {
  place = n;
  there = lt;
  first = e;
  state = state;
  took = subst (λ (x : RunningOperator). JoinTook x.state state found) (get_or_default operators n d no_operator lt) t;
  changes = ap (λ (x : RunningOperator). set operators n (in_state x state)) (get_or_default operators n d no_operator lt);
}

pub takes-first : {E : Type 0} → (operators : List RunningOperator) (n : ℕ) (d : RunningOperator) (state : OperatorState) (result : Result (Option Found) E) → n < length operators → first_pending 0 operators ≡ Some n
    → IfOk result (λ answer. StateTakes (get_or operators n d).state state answer) → IfOk result (λ answer. TakesFirst operators (set operators n (in_state (get_or operators n d) state)) answer)
takes-first operators n d state (Ok answer) lt e t = takes-one operators n d state answer lt e t
takes-first operators n d state (Err x) lt e t = t

pub opens-take : {E : Type 0} → (operators : List RunningOperator) (n : ℕ) (d : RunningOperator) (state : OperatorState) (result : Result (Option Found) E) → n < length operators → OnOk result (KeepsOpen (get_or operators n d).state state)
    → OnOk result (StayOpen operators (set operators n (in_state (get_or operators n d) state)))
opens-take operators n d state (Ok answer) lt k = opens-state operators n d state lt k
opens-take operators n d state (Err x) lt k = k

-- ---- gives

pub give_stop : (operators mid : List RunningOperator) (probe : Found) (rows : List (List Value)) (from : ℕ) (stop : Stop) → HasGivenAt operators mid probe → from ≡ probe.join → IsEmitStop mid from (map Tuple rows) stop → IsGiveStop operators probe rows stop
give_stop operators mid probe rows from (Limit at) g e s = record {
  state = g.state;
  acts = g.acts;
  beyond = subst (λ (xs : List RunningOperator). GoBeyond xs probe.join (map Tuple rows) (Some at)) g.changes (subst (λ (n : ℕ). GoBeyond mid n (map Tuple rows) (Some at)) e s);
}
give_stop operators mid probe rows from NoMemory g e s = tt

-- ---- probes

-- fewer tickets are pending at the node behind the probe
fewer-at : (operators new : List RunningOperator) (n : ℕ) (d : RunningOperator) (state : OperatorState) (before behind : List Out) (ticket : ℕ) → n < length operators → JoinProbed (get_or operators n d).state state before behind ticket
    → running_at new n ≡ running_at (set operators n (in_state (get_or operators n d) state)) n → pending_kept (kept_seen (running_at new n).state) < pending_kept (kept_seen (running_at operators n).state)
fewer-at operators new n d state before behind ticket lt P is =
    let less = probed-fewer (get_or operators n d).state state before behind ticket P in
    let now : pending_kept (kept_seen (running_at new n).state) ≡ pending_kept (kept_seen state) =
    ap (λ (x : RunningOperator). pending_kept (kept_seen x.state)) (is ∙ get_or-set_same operators n (in_state (get_or operators n d) state) no_operator lt) in
    let was = ap (λ (x : RunningOperator). pending_kept (kept_seen x.state)) (get_or_default operators n d no_operator lt) in
    omega (arith, less, now, was)

module _ (operators : List RunningOperator) (n : ℕ) (d : RunningOperator) (state : OperatorState) (before behind : List Out) (ticket : ℕ) (lt : n < length operators) (none : before ≡ []) (P : JoinProbed (get_or operators n d).state state before behind ticket) where
  same : get_or operators n d ≡ running_at operators n
  same = get_or_default operators n d no_operator lt

  found : behind ≡ found_outs (running_at operators n).state ticket
  found =
      P.hands ∙ ap (λ (os : List Out). os ++ map Out.Tuple (found_of P.join ticket).rows) none
      ∙ ap (λ (w : OperatorState). found_outs w ticket) (sym P.was) ∙ ap (λ (x : RunningOperator). found_outs x.state ticket) same

  probed : JoinProbed (running_at operators n).state state [] (found_outs (running_at operators n).state ticket) ticket
  probed = record {
    join = P.join;
    was = ap (λ (x : RunningOperator). x.state) (sym same) ∙ P.was;
    takes = P.takes;
    finds = P.finds;
    is = P.is;
    hands = sym found ∙ P.hands ∙ ap (λ (os : List Out). os ++ map Out.Tuple (found_of P.join ticket).rows) none;
  }

  moved : set operators n (in_state (get_or operators n d) state) ≡ with_state operators n state (running_at operators n).peak
  moved = ap (λ (x : RunningOperator). set operators n (in_state x state)) same

  pub may-found : kind_of state ≡ kind_of (get_or operators n d).state → AreLinked (frames_in operators) → AreOrderly operators → (IsOrderly (get_or operators n d).state → IsOrderly state)
      → MayEmit (set operators n (in_state (get_or operators n d) state)) n (elements_out behind)
  may-found kind linked orderly still = record {
    linked = subst AreLinked (sym frames) linked;
    orderly = orderly-set operators n (in_state (get_or operators n d) state) lt orderly (still (subst (λ (x : RunningOperator). IsOrderly x.state) (sym same) (orderly n)));
    wide = λ x h.
        found-wide P.join ticket (subst IsOrderly was (orderly n)) x
        (subst (λ (os : List Out). In x (elements_out os)) (P.hands ∙ ap (λ (os : List Out). os ++ map Out.Tuple (found_of P.join ticket).rows) none) h)
        ∙ sym (ap (λ (f : Frame). f.width) (same-frame operators (set operators n (in_state (get_or operators n d) state)) n frames) ∙ own-width operators n P.join linked lt was);
  }
    where
      frames : frames_in (set operators n (in_state (get_or operators n d) state)) ≡ frames_in operators
      frames = frames-state operators n d state kind

      was : (running_at operators n).state ≡ RunningJoin P.join
      was = ap (λ (x : RunningOperator). x.state) (sym same) ∙ P.was

  pub has-probed : (u u' : List Out) (new : List RunningOperator) → Emits (record { operators = set operators n (in_state (get_or operators n d) state); outs = u }) (record { operators = new; outs = u' }) n (elements_out behind)
      → StaysAs (set operators n (in_state (get_or operators n d) state)) new → HasProbed (record { operators = operators; outs = u }) (record { operators = new; outs = u' }) n
  has-probed u u' new C stays = record {
    there = lt;
    ticket = ticket;
    state = state;
    probed = probed;
    emits =
        subst (λ (xs : List RunningOperator). Emits (record { operators = xs; outs = u }) (record { operators = new; outs = u' }) n (elements_out (found_outs (running_at operators n).state ticket))) moved
        (subst (λ (os : List Out). Emits (record { operators = set operators n (in_state (get_or operators n d) state); outs = u }) (record { operators = new; outs = u' }) n (elements_out os)) found C);
    stays = subst (λ (xs : List RunningOperator). StaysAs xs new) moved stays;
    fewer = fewer-at operators new n d state before behind ticket lt P (C.below n (omega arith));
  }

  pub probe-stop : (stop : Stop) → IsEmitStop (set operators n (in_state (get_or operators n d) state)) n (elements_out behind) stop → 0 < pending_kept (kept_seen (running_at operators n).state) → IsProbeStop operators n stop
  probe-stop (Limit node) g p = record {
    there = lt;
    ticket = ticket;
    state = state;
    probed = probed;
    beyond = subst (λ (xs : List RunningOperator). GoBeyond xs n (elements_out (found_outs (running_at operators n).state ticket)) (Some node)) moved (subst (λ (os : List Out). GoBeyond (set operators n (in_state (get_or operators n d) state)) n (elements_out os) (Some node)) found g);
  }
  probe-stop NoMemory g p = (lt, p)

-- a probe of the last node hands out what it finds
module _ (operators : List RunningOperator) (n : ℕ) (d : RunningOperator) (state : OperatorState) (u u' : List Out) (ticket : ℕ) (lt : n < length operators) (P : JoinProbed (get_or operators n d).state state u u' ticket) where
  here : get_or operators n d ≡ running_at operators n
  here = get_or_default operators n d no_operator lt

  abbrev rows : List (List Value)
  rows = (found_of P.join ticket).rows

  found-rows : map Out.Tuple rows ≡ found_outs (running_at operators n).state ticket
  found-rows = ap (λ (w : OperatorState). found_outs w ticket) (sym P.was) ∙ ap (λ (x : RunningOperator). found_outs x.state ticket) here

  abbrev pub after-probe : List RunningOperator
  after-probe = set operators n (in_state (get_or operators n d) state)

  as-with : after-probe ≡ with_state operators n state (running_at operators n).peak
  as-with = ap (λ (x : RunningOperator). set operators n (in_state x state)) here

  pub has-probed-out : (running_at operators n).above ≡ None → kind_of state ≡ kind_of (get_or operators n d).state → HasProbed (record { operators = operators; outs = u }) (record { operators = after-probe; outs = u' }) n
  has-probed-out top kind = record {
    there = lt;
    ticket = ticket;
    state = state;
    probed = record {
      join = P.join;
      was = ap (λ (x : RunningOperator). x.state) (sym here) ∙ P.was;
      takes = P.takes;
      finds = P.finds;
      is = P.is;
      hands = sym found-rows;
    };
    emits =
        subst (λ (xs : List RunningOperator). Emits (record { operators = xs; outs = u }) (record { operators = after-probe; outs = u' }) n (elements_out (found_outs (running_at operators n).state ticket))) as-with
        (subst (λ (os : List Out). Emits (record { operators = after-probe; outs = u }) (record { operators = after-probe; outs = u' }) n (elements_out os)) found-rows
        (subst (λ (os : List Out). Emits (record { operators = after-probe; outs = u }) (record { operators = after-probe; outs = os }) n (elements_out (map Out.Tuple rows))) (sym P.hands)
        (emits-rows-out after-probe rows u n (subst (λ (m : ℕ). n < m) (sym long) lt) (still-top frames top))));
    stays = subst (λ (xs : List RunningOperator). StaysAs xs after-probe) as-with (stays-none after-probe);
    fewer = fewer-at operators after-probe n d state u u' ticket lt P refl;
  }
    where
      frames : frames_in after-probe ≡ frames_in operators
      frames = frames-state operators n d state kind

      long : length after-probe ≡ length operators
      long = long-frames operators after-probe frames

      still-top : frames_in after-probe ≡ frames_in operators → (running_at operators n).above ≡ None → (running_at after-probe n).above ≡ None
      still-top e none = ap (λ (f : Frame). f.above) (same-frame operators after-probe n e) ∙ none
