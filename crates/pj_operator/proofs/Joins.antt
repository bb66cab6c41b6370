-- What a join does of its own, as a node of a core.
use Rattle.std.proofs.Common.{ℕ, ◌<◌, Bool, true, false, cond, not, ◌&&◌, ◌||◌, List, [], ◌∷◌, ◌++◌, ◌≡◌, Option, Some, None, map, length, eqb, refl, sym, ap, ◌∙◌, subst, arith, append-nil}
use Rattle.std.proofs.lemmas.Bool.{false≢true}
use Rattle.pj_events.specs.declared.events.Out.{Out}
use Rattle.pj_events.specs.Join.{Give, PunctAt, Step, Sweep, Take, TupleAt, has, is_held, joined, results, run, start}
use Rattle.pj_events.specs.KeptState.{kept_ripe, swept, without}
use Rattle.pj_probe.specs.declared.probe.Found.{Found}
use Rattle.pj_join.specs.Handed.{JoinProbes, StandsProbed, rows_probed}
use Rattle.pj_join.specs.Joins.{IsTaken, JoinTakes, JoinView, StandsFor as JoinStandsFor, StandsTaken, after}
use Rattle.pj_operator.specs.declared.operator.OperatorState.{OperatorState}
use Rattle.pj_operator.specs.declared.operator.OperatorState.TheVariants.{Stream as RunningStream, Select as RunningSelect, Project as RunningProject, Union as RunningUnion, Join as RunningJoin, Group as RunningGroup}
use Rattle.pj_operator.specs.declared.act.Swept.{Swept}
use Rattle.pj_operator.specs.Acts.{HasJoinInput, JoinActs, JoinProbed, JoinSwept, StateProbes, StateTakes}
use Rattle.pj_operator.specs.Lent.{HasNoJoin}
use Rattle.pj_operator.specs.Operators.{IsOrderly, IsOrderlyJoin, IsTakenIn, KeepsOpen, kept_seen, pending_kept}
use Rattle.pj_value.proofs.Members.{In-filter, filter_few}

-- ---- lists

without-has : (ts : List ℕ) (u t : ℕ) → has (without ts u) t ≡ true → has ts t ≡ true
without-has [] u t h = h
without-has (v ∷ ts) u t h = go (eqb v u) h (without-has ts u t)
  where
    go : (b : Bool) → has (cond (not b) (v ∷ without ts u) (without ts u)) t ≡ true → (has (without ts u) t ≡ true → has ts t ≡ true) → (eqb v t || has ts t) ≡ true
    go true q ih = later (eqb v t) (ih q)
      where
        later : (b : Bool) → has ts t ≡ true → (b || has ts t) ≡ true
        later true e = refl
        later false e = e
    go false q ih = both (eqb v t) q
      where
        both : (b : Bool) → (b || has (without ts u) t) ≡ true → (b || has ts t) ≡ true
        both true e = refl
        both false e = ih e

without-none : (ts : List ℕ) (u t : ℕ) → has ts t ≡ false → has (without ts u) t ≡ false
without-none ts u t h = go (has (without ts u) t) refl
  where
    go : (b : Bool) → has (without ts u) t ≡ b → b ≡ false
    go true e = absurd (false≢true (sym h ∙ without-has ts u t e))
    go false e = refl

pub fewer-without : (ts : List ℕ) (t : ℕ) → has ts t ≡ true → length (without ts t) < length ts
fewer-without [] t h = absurd (false≢true h)
fewer-without (v ∷ ts) t h = go (eqb v t) h (fewer-without ts t)
  where
    go : (b : Bool) → (b || has ts t) ≡ true → (has ts t ≡ true → length (without ts t) < length ts) → length (cond (not b) (v ∷ without ts t) (without ts t)) < length (v ∷ ts)
    go true e ih = let l = filter_few (λ (u : ℕ). not (eqb u t)) ts in omega (arith, l)
    go false e ih = let l = ih e in omega (arith, l)

-- fewer tickets are pending behind a probe
pub probed-fewer : (old new : OperatorState) (before behind : List Out) (ticket : ℕ) → JoinProbed old new before behind ticket → pending_kept (kept_seen new) < pending_kept (kept_seen old)
probed-fewer old new before behind ticket P =
    subst (λ (w : OperatorState). pending_kept (kept_seen w) < pending_kept (kept_seen old)) (sym P.is)
    (subst (λ (w : OperatorState). length (without P.join.kept.pending ticket) < pending_kept (kept_seen w)) (sym P.was) (fewer-without P.join.kept.pending ticket P.takes.pending))

-- ---- an orderly join stays so

orderly-take : (join : JoinView) (u : ℕ) → IsOrderlyJoin join → IsOrderlyJoin (after join (Take u))
orderly-take join u o = record {
  below = o.below;
  next = o.next;
  limit = o.limit;
  pending = (let l = filter_few (λ t. not (eqb t u)) join.kept.pending in omega (arith, l, o.pending));
  opened = o.opened;
  stored = o.stored;
  waiting = o.waiting;
  rows_fit = o.rows_fit;
  puncts_fit = o.puncts_fit;
}

orderly-give : (join : JoinView) (u : ℕ) → IsOrderlyJoin join → IsOrderlyJoin (after join (Give u))
orderly-give join u o = record {
  below = λ t h. o.below t (without-has join.kept.opened u t h);
  next = o.next;
  limit = o.limit;
  pending = o.pending;
  opened = (let l = filter_few (λ t. not (eqb t u)) join.kept.opened in omega (arith, l, o.opened));
  stored = o.stored;
  waiting = o.waiting;
  rows_fit = o.rows_fit;
  puncts_fit = o.puncts_fit;
}

orderly-sweep : (join : JoinView) (input : ℕ) → IsOrderlyJoin join → IsOrderlyJoin (after join (Sweep input))
orderly-sweep join input o = record {
  below = o.below;
  next = o.next;
  limit = o.limit;
  pending = o.pending;
  opened = o.opened;
  stored = (let l = filter_few (λ (x : TupleAt). not (eqb x.input input && kept_ripe join.spec join.kept x)) join.kept.stored in omega (arith, l, o.stored));
  waiting = (let l = filter_few (λ (p : PunctAt). not (eqb p.input input) || is_held (swept join.spec join.kept input) p) join.kept.waiting in omega (arith, l, o.waiting));
  rows_fit = λ x h. o.rows_fit x (In-filter (λ (y : TupleAt). not (eqb y.input input && kept_ripe join.spec join.kept y)) x join.kept.stored h).0;
  puncts_fit = λ p h. o.puncts_fit p (In-filter (λ (q : PunctAt). not (eqb q.input input) || is_held (swept join.spec join.kept input) q) p join.kept.waiting h).0;
}

pub took_keeps : (answer : Option Found) (old new : JoinView) → JoinTakes old new answer → KeepsOpen (RunningJoin old) (RunningJoin new)
took_keeps None old new t = subst (λ (j : JoinView). KeepsOpen (RunningJoin old) (RunningJoin j)) (sym t.1) (λ o. (o, λ u h. h))
took_keeps (Some found) old new t =
    subst (λ (j : JoinView). KeepsOpen (RunningJoin old) (RunningJoin j)) (sym t.changes) (λ o. (orderly-take old found.ticket o, λ u h. (h.0, without-none old.kept.pending found.ticket u h.1)))

pub gave_orderly : (old new : JoinView) (u : ℕ) → new ≡ after old (Give u) → IsOrderly (RunningJoin old) → IsOrderly (RunningJoin new)
gave_orderly old new u e o = subst (λ (j : JoinView). IsOrderlyJoin j) (sym e) (orderly-give old u o)

pub swept_keeps : (old new : JoinView) (input : ℕ) → new ≡ after old (Sweep input) → KeepsOpen (RunningJoin old) (RunningJoin new)
swept_keeps old new input e = subst (λ (j : JoinView). KeepsOpen (RunningJoin old) (RunningJoin j)) (sym e) (λ o. (orderly-sweep old input o, λ u h. h))

pub probed_orderly : (answer : Option ℕ) (old new : JoinView) → JoinProbes old new answer → IsOrderly (RunningJoin old) → IsOrderly (RunningJoin new)
probed_orderly None old new p o = subst (λ (j : JoinView). IsOrderlyJoin j) (sym p.1) o
probed_orderly (Some u) old new p o = subst (λ (j : JoinView). IsOrderlyJoin j) (sym p.1) (orderly-give (after old (Take u)) u (orderly-take old u o))

-- ---- takes and probes

pub state_takes : (answer : Option Found) (old new : JoinView) → JoinTakes old new answer → ((steps : List Step) → JoinStandsFor old steps → StandsTaken new steps answer) → StateTakes (RunningJoin old) (RunningJoin new) answer
state_takes None old new t s = (ap RunningJoin t.1, ap length t.0)
state_takes (Some found) old new t s = record {
  join = old;
  was = refl;
  takes = record { pending = t.pending; least = t.least; finds = t.finds; changes = refl; taken = subst (λ (j : JoinView). IsTaken j.kept found.ticket) t.changes t.taken };
  finds = λ steps st. subst (λ (j : JoinView). found.rows ≡ map joined (results j.spec (run j.spec start steps).tuples (run j.spec start steps).tuples found.ticket)) t.changes (s steps st).1;
  is = ap RunningJoin t.changes;
}

pub state_probes : (answer : Option ℕ) (old new : JoinView) (before behind : List Out) → JoinProbes old new answer → behind ≡ before ++ map Out.Tuple (rows_probed old answer) → ((steps : List Step) → JoinStandsFor old steps → StandsProbed old new steps answer)
    → StateProbes (RunningJoin old) (RunningJoin new) before behind answer
state_probes None old new before behind p h s = (ap RunningJoin p.1, h ∙ append-nil before, ap length p.0)
state_probes (Some u) old new before behind p h s = record {
  join = old;
  was = refl;
  takes = p.0;
  finds = λ steps st. (s steps st).1;
  is = ap RunningJoin p.1;
  hands = h;
}

-- ---- a node that is no join

pub keeps_same : (old new : OperatorState) → new ≡ old → KeepsOpen old new
keeps_same old new e = subst (KeepsOpen old) (sym e) (λ o. (o, λ u h. h))

pending-none : (state : OperatorState) → HasNoJoin state → pending_kept (kept_seen state) ≡ 0
pending-none (RunningJoin join) none = absurd none
pending-none RunningStream none = refl
pending-none (RunningSelect test) none = refl
pending-none (RunningProject columns) none = refl
pending-none (RunningUnion union) none = refl
pending-none (RunningGroup group) none = refl

pub takes_none : (old new : OperatorState) → HasNoJoin old → new ≡ old → StateTakes old new None
takes_none old new none e = (e, pending-none old none)

pub probes_none : (old new : OperatorState) (before behind : List Out) → HasNoJoin old → new ≡ old → behind ≡ before → StateProbes old new before behind None
probes_none old new before behind none e same = (e, same, pending-none old none)

pub gives_none : (old new : OperatorState) (ticket : ℕ) → HasNoJoin old → IsTakenIn (kept_seen old) ticket → JoinActs old new (Give ticket)
gives_none (RunningJoin join) new ticket none taken = absurd none
gives_none RunningStream new ticket none taken = absurd taken
gives_none (RunningSelect test) new ticket none taken = absurd taken
gives_none (RunningProject columns) new ticket none taken = absurd taken
gives_none (RunningUnion union) new ticket none taken = absurd taken
gives_none (RunningGroup group) new ticket none taken = absurd taken

pub sweeps_none : (old new : OperatorState) (input : ℕ) (swept : Swept) → HasNoJoin old → HasJoinInput old input → JoinSwept old new input swept
sweeps_none (RunningJoin join) new input swept none inside = absurd none
sweeps_none RunningStream new input swept none inside = absurd inside
sweeps_none (RunningSelect test) new input swept none inside = absurd inside
sweeps_none (RunningProject columns) new input swept none inside = absurd inside
sweeps_none (RunningUnion union) new input swept none inside = absurd inside
sweeps_none (RunningGroup group) new input swept none inside = absurd inside
