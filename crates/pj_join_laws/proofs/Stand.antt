-- Steps on what is kept.
use Rattle.std.proofs.Common.{ℕ, ◌+◌, ◌<◌, min, Bool, true, false, cond, ◌&&◌, ◌||◌, not, List, [], ◌∷◌, ◌++◌, ◌≡◌, map, filter, refl, sym, ap, ◌∙◌, eqb, ltb}
use Rattle.std.specs.List.{list_all}
use Rattle.std.proofs.lemmas.Bool.{false≢true}
use Rattle.std.proofs.lemmas.List.{map-append}
use Rattle.std.proofs.lemmas.List.Elements.{filter-append}
use Rattle.pj_events.specs.Join.{need_of, TupleAt, JoinData, JoinState, Step, TupleComes, PunctComes, Take, Give, Sweep, start, inputs, older, older_puncts, covered, has, least_open, low, kept, is_held, new_tuple, step, run, ripe}
use Rattle.pj_events.specs.Plan.{IsOwn}
use Rattle.pj_events.specs.KeptState.{KeptState, lacking, kept_of, least, kept_low, swept, without, kept_step, kept_ripe}
use Rattle.pj_join_laws.specs.Laws.{StepsStand}
use Rattle.pj_join_laws.proofs.Sound.{sound-start, run-append}
use Rattle.pj_join_laws.proofs.Complete.{IsCounted, counted-start, counted-run, eqb-sym}
use Rattle.pj_value.proofs.Numbers.{has-new}

pub least-lacking : (given : List ℕ) (next : ℕ) (xs : List TupleAt) → least next (lacking given xs) ≡ least_open given next xs
least-lacking given next [] = refl
least-lacking given next (x ∷ xs) = go (has given x.ticket) (least-lacking given next xs)
  where
    go : (b : Bool) → least next (lacking given xs) ≡ least_open given next xs → least next (map (λ z. z.ticket) (cond (not b) (x ∷ filter (λ z. not (has given z.ticket)) xs) (filter (λ z. not (has given z.ticket)) xs))) ≡ cond b (least_open given next xs) (min x.ticket (least_open given next xs))
    go true e = e
    go false e = ap (min x.ticket) e

pub low-kept : (s : JoinState) → kept_low (kept_of s) ≡ low s
low-kept s = least-lacking s.given s.next s.tuples

without-skip : (t u : ℕ) (ts : List ℕ) → eqb t u ≡ true → without (t ∷ ts) u ≡ without ts u
without-skip t u ts e = ap (λ b. cond (not b) (t ∷ without ts u) (without ts u)) e

without-keep : (t u : ℕ) (ts : List ℕ) → eqb t u ≡ false → without (t ∷ ts) u ≡ t ∷ without ts u
without-keep t u ts e = ap (λ b. cond (not b) (t ∷ without ts u) (without ts u)) e

pub without-all : (ns : List ℕ) (u : ℕ) → has ns u ≡ false → without ns u ≡ ns
without-all [] u h = refl
without-all (n ∷ ns) u h = go (eqb n u) h (without-all ns u)
  where
    go : (b : Bool) → (b || has ns u) ≡ false → (has ns u ≡ false → without ns u ≡ ns) → cond (not b) (n ∷ without ns u) (without ns u) ≡ n ∷ ns
    go true h f = absurd (false≢true (sym h))
    go false h f = ap (λ (ms : List ℕ). n ∷ ms) (f h)

pub lacking-cons : (u : ℕ) (ns : List ℕ) (xs : List TupleAt) → lacking (u ∷ ns) xs ≡ without (lacking ns xs) u
lacking-cons u ns [] = refl
lacking-cons u ns (x ∷ xs) = go (eqb u x.ticket) (eqb x.ticket u) (has ns x.ticket) (eqb-sym u x.ticket) refl (lacking-cons u ns xs)
  where
    go : (a b h : Bool) → a ≡ b → eqb x.ticket u ≡ b → lacking (u ∷ ns) xs ≡ without (lacking ns xs) u
        → map (λ z. z.ticket) (cond (not (a || h)) (x ∷ filter (λ z. not (has (u ∷ ns) z.ticket)) xs) (filter (λ z. not (has (u ∷ ns) z.ticket)) xs))
        ≡ without (map (λ z. z.ticket) (cond (not h) (x ∷ filter (λ z. not (has ns z.ticket)) xs) (filter (λ z. not (has ns z.ticket)) xs))) u
    go true b true e t ih = ih
    go true b false e t ih = ih ∙ sym (without-skip x.ticket u (lacking ns xs) (t ∙ sym e))
    go false b true e t ih = ih
    go false b false e t ih = ap (λ ts. x.ticket ∷ ts) ih ∙ sym (without-keep x.ticket u (lacking ns xs) (t ∙ sym e))

pub lacking-more : (ns : List ℕ) (xs : List TupleAt) (x : TupleAt) → has ns x.ticket ≡ false → lacking ns (xs ++ x ∷ []) ≡ lacking ns xs ++ x.ticket ∷ []
lacking-more ns xs x h =
    ap (map (λ z. z.ticket)) (filter-append (λ z. not (has ns z.ticket)) xs (x ∷ []) ∙ ap (λ b. filter (λ z. not (has ns z.ticket)) xs ++ cond (not b) (x ∷ []) []) h)
    ∙ map-append (λ z. z.ticket) (filter (λ z. not (has ns z.ticket)) xs) (x ∷ [])

pub ripe-same : (spec : JoinData) (s : JoinState) (x : TupleAt) → kept_ripe spec (kept_of s) x ≡ ripe spec s x
ripe-same spec s x = ap (λ l. ltb x.ticket l && list_all (covered (older_puncts l s.puncts)) (need_of spec (older l s.stored) x)) (low-kept s)

pub swept-same : (spec : JoinData) (s : JoinState) (input : ℕ) → swept spec (kept_of s) input ≡ kept spec s input
swept-same spec s input = ap (λ l. filter (λ x. not (eqb x.input input && (ltb x.ticket l && list_all (covered (older_puncts l s.puncts)) (need_of spec (older l s.stored) x)))) s.stored) (low-kept s)

-- a step of its own needs no count
pub kept-own : (spec : JoinData) (s : JoinState) (e : Step) → IsOwn e → kept_step spec (kept_of s) e ≡ kept_of (step spec s e)
kept-own spec s (TupleComes input row) o = absurd o
kept-own spec s (PunctComes input patterns) o = absurd o
kept-own spec s (Take u) o =
    λ i. record { next = s.next; stored = s.stored; puncts = s.puncts; pending = sym (lacking-cons u s.taken s.tuples) i; opened = lacking s.given s.tuples; waiting = s.waiting }
kept-own spec s (Give u) o =
    λ i. record { next = s.next; stored = s.stored; puncts = s.puncts; pending = lacking s.taken s.tuples; opened = sym (lacking-cons u s.given s.tuples) i; waiting = s.waiting }
kept-own spec s (Sweep input) o =
    ap (λ (xs : List TupleAt). record {
      next = s.next;
      stored = xs;
      puncts = s.puncts;
      pending = lacking s.taken s.tuples;
      opened = lacking s.given s.tuples;
      waiting = filter (λ p. not (eqb p.input input) || is_held xs p) s.waiting;
    }) (swept-same spec s input)

pub kept-step : (spec : JoinData) (s : JoinState) (e : Step) → IsCounted spec s → kept_step spec (kept_of s) e ≡ kept_of (step spec s e)
kept-step spec s (TupleComes input row) k =
    λ i. record {
      next = s.next + 1;
      stored = s.stored ++ new_tuple s input row ∷ [];
      puncts = s.puncts;
      pending = sym (lacking-more s.taken s.tuples (new_tuple s input row) (has-new s.taken s.next k.taken_below)) i;
      opened = sym (lacking-more s.given s.tuples (new_tuple s input row) (has-new s.given s.next (λ u h. k.taken_below u (k.given_taken u h)))) i;
      waiting = s.waiting;
    }
kept-step spec s (PunctComes input patterns) k = refl
kept-step spec s (Take u) k = kept-own spec s (Take u) tt
kept-step spec s (Give u) k = kept-own spec s (Give u) tt
kept-step spec s (Sweep input) k = kept-own spec s (Sweep input) tt

pub steps-stand : (spec : JoinData) → 0 < inputs spec → StepsStand spec
steps-stand spec lt steps e k legal allowed st =
    ap (λ (m : KeptState). kept_step spec m e) st
    ∙ kept-step spec (run spec start steps) e (counted-run spec start steps (sound-start spec) (counted-start spec lt) legal)
    ∙ ap kept_of (sym (run-append spec start steps (e ∷ [])))
