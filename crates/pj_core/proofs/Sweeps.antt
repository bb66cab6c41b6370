-- Sweeps at a core.
use Rattle.std.proofs.Common.{ℕ, suc, ◌+◌, ◌<◌, Bool, true, false, cond, not, ◌&&◌, List, [], ◌∷◌, ◌++◌, ◌≡◌, Option, Some, None, map, filter, length, set, eqb, refl, sym, ap, ap₂, ◌∙◌, subst, inr, arith}
use Rattle.pj_value.specs.declared.values.Value.{Value}
use Rattle.pj_pattern.specs.Patterns.{Pattern}
use Rattle.pj_pattern.specs.declared.element.Element.{Element}
use Rattle.pj_pattern.specs.declared.element.Element.TheVariants.{Punct}
use Rattle.pj_events.specs.declared.events.Entry.{Entry}
use Rattle.pj_events.specs.declared.events.Event.TheVariants.{Sweep as Swept}
use Rattle.pj_events.specs.declared.events.Out.{Out}
use Rattle.pj_events.specs.declared.events.Out.TheVariants.{Purged}
use Rattle.pj_events.specs.declared.events.Stop.{Stop}
use Rattle.pj_events.specs.declared.events.Stop.TheVariants.{Limit, NoMemory}
use Rattle.pj_events.specs.Join.{JoinData, JoinState, PunctAt, Sweep, TupleAt, hands_up, inputs, is_held, kept, removed, ripe, widened}
use Rattle.pj_events.specs.KeptState.{KeptState, kept_of, kept_ripe, swept}
use Rattle.pj_events.specs.Plan.{Node, Operator, Own, after as after_local, hands, operator_at}
use Rattle.pj_events.specs.History.{data_in, nodes_by, nodes_from, notes_of, state_in}
use Rattle.pj_events.specs.Outcomes.{goes_beyond, stored_at}
use Rattle.pj_events.specs.OneThread.{plain}
use Rattle.pj_laws.proofs.ClimbingEvents.{events-climb, leaves-nodes}
use Rattle.pj_join_laws.proofs.Stand.{swept-same, ripe-same}
use Rattle.pj_join.specs.Joins.{JoinView, after}
use Rattle.pj_join.specs.Sweeping.{puncts_up, rows_off, swept_off}
use Rattle.pj_operator.specs.declared.act.Swept.{Swept as SweptOff}
use Rattle.pj_operator.specs.declared.operator.RunningOperator.{RunningOperator}
use Rattle.pj_operator.specs.declared.operator.OperatorState.TheVariants.{Join as RunningJoin}
use Rattle.pj_operator.specs.Acts.{OperatorSwept, HasSweptAt, IsSweepStop, with_state}
use Rattle.pj_core.specs.Calls.{HasSwept, IsCause}
use Rattle.pj_operator.specs.Operators.{AreAs, running_at, peak_seen}
use Rattle.pj_operator.specs.Emitting.{Emits, GoBeyond, Scene, StaysAs}
use Rattle.pj_core.specs.Cores.{StandsFor}
use Rattle.pj_operator.specs.Handed.{notes_out}
use Rattle.pj_core.specs.Parts.{IsMadeOf, core_of}
use Rattle.pj_core.specs.Plans.{RunPlan, nodes_of}
use Rattle.pj_core.proofs.Events.{Steps, beyond-is, note}
use Rattle.pj_core.proofs.Own as own
use Rattle.pj_core.proofs.Own.{IsJoinWith}

-- ---- what a sweep removes and leaves, on what is kept

filter-same : {A : Type 0} (p q : A → Bool) (xs : List A) → ((x : A) → p x ≡ q x) → filter p xs ≡ filter q xs
filter-same p q [] f = refl
filter-same {A} p q (x ∷ xs) f = ap₂ (λ (b : Bool) (ys : List A). cond b (x ∷ ys) ys) (f x) (filter-same p q xs f)

-- the tuples that a sweep removes
abbrev off : JoinData → KeptState → ℕ → List TupleAt
off spec k input = filter (λ x. eqb x.input input && kept_ripe spec k x) k.stored

off-same : (spec : JoinData) (s : JoinState) (input : ℕ) → off spec (kept_of s) input ≡ removed spec s input
off-same spec s input =
    filter-same (λ x. eqb x.input input && kept_ripe spec (kept_of s) x) (λ x. eqb x.input input && ripe spec s x) s.stored (λ x. ap (λ (b : Bool). eqb x.input input && b) (ripe-same spec s x))

-- what passes a test and what does not are all
halves : {A : Type 0} (p : A → Bool) (xs : List A) → length (filter p xs) + length (filter (λ x. not (p x)) xs) ≡ length xs
halves p [] = omega arith
halves {A} p (x ∷ xs) = go (p x) (halves p xs)
  where
    go : (b : Bool) → length (filter p xs) + length (filter (λ y. not (p y)) xs) ≡ length xs
        → length (cond b (x ∷ filter p xs) (filter p xs)) + length (cond (not b) (x ∷ filter (λ y. not (p y)) xs) (filter (λ y. not (p y)) xs)) ≡ suc (length xs)
    go true e = omega (arith, e)
    go false e = omega (arith, e)

notes-same : (n input : ℕ) (xs : List TupleAt) → map (λ (x : TupleAt). Purged n input x.row) xs ≡ map (Purged n input) (map (λ (x : TupleAt). x.row) xs)
notes-same n input [] = refl
notes-same n input (x ∷ xs) = ap (λ (outs : List Out). Purged n input x.row ∷ outs) (notes-same n input xs)

puncts-mapped : (spec : JoinData) (ps : List PunctAt) → map (λ (p : PunctAt). Punct (widened spec p)) ps ≡ map Punct (map (widened spec) ps)
puncts-mapped spec [] = refl
puncts-mapped spec (p ∷ ps) = ap (λ (es : List Element). Punct (widened spec p) ∷ es) (puncts-mapped spec ps)

up-same : (join : JoinView) (s : JoinState) (input : ℕ) → join.kept ≡ kept_of s → hands_up join.spec s (Sweep input) ≡ map Punct (puncts_up join (Sweep input))
up-same join s input k =
    puncts-mapped join.spec (filter (λ p. eqb p.input input && not (is_held (kept join.spec s input) p)) s.waiting)
    ∙ ap (λ (xs : List TupleAt). map Punct (map (widened join.spec) (filter (λ p. eqb p.input input && not (is_held xs p)) s.waiting))) (sym (swept-same join.spec s input))
    ∙ ap (λ (q : KeptState). map Punct (map (widened join.spec) (filter (λ p. eqb p.input input && not (is_held (swept join.spec q input) p)) q.waiting))) (sym k)

-- ---- behind a history

module _ (plan : RunPlan) (limit : ℕ) (operators : List RunningOperator) (made : IsMadeOf plan limit operators) (c : List ℕ) (halt : Bool) (u : List Out) (history : List Entry) (S : StandsFor (core_of plan limit operators c halt u None) history)
    (place : ℕ) (there : place < length operators) (join : JoinView) (at : (running_at operators place).state ≡ RunningJoin join) (input : ℕ) (lt : input < inputs join.spec) where
  abbrev nodes : List Node
  nodes = nodes_from (nodes_of plan) history

  abbrev mid : List RunningOperator
  mid = with_state operators place (RunningJoin (after join (Sweep input))) (peak_seen (running_at operators place))

  abbrev state-of : IsJoinWith join (operator_at nodes place)
  state-of = own.J plan limit operators made c halt u history S place there join at

  sweep-steps : Steps operators mid nodes place (Own (Sweep input))
  sweep-steps =
      own.own-steps plan limit operators made c halt u history S place there join at (Swept place input) (Sweep input) (peak_seen (running_at operators place)) refl refl tt
      (own.sweep-allowed plan limit operators made c halt u history S place there join at input lt) (inr refl)

  handed : hands (operator_at nodes place) (Own (Sweep input)) ≡ map Punct (puncts_up join (Sweep input))
  handed = own.handed-own plan limit operators made c halt u history S place there join at (Sweep input) ∙ up-same join state-of.state input state-of.kept

  noted-rows : notes_of nodes (Swept place input) ≡ map (Purged place input) (rows_off join input)
  noted-rows =
      ap₂ (λ (d : JoinData) (s : JoinState). map (λ (x : TupleAt). Purged place input x.row) (removed d s input)) (ap data_in state-of.is) (ap state_in state-of.is)
      ∙ notes-same place input (removed join.spec state-of.state input)
      ∙ ap (λ (xs : List TupleAt). map (Purged place input) (map (λ (x : TupleAt). x.row) xs))
      (sym (off-same join.spec state-of.state input) ∙ ap (λ (q : KeptState). off join.spec q input) (sym state-of.kept))

  pub sweeps : (new : List RunningOperator) (u' : List Out) → Emits (record { operators = mid; outs = u ++ notes_out plan.trace place input (rows_off join input) }) (record { operators = new; outs = u' }) place (map Punct (puncts_up join (Sweep input)))
      → StaysAs mid new → StandsFor (core_of plan limit new c halt u' None) (history ++ plain (Swept place input) ∷ [])
  sweeps new u' C stays =
      note plan limit operators made c halt u history S (Swept place input) place (Own (Sweep input)) refl refl mid sweep-steps new c (u ++ notes_out plan.trace place input (rows_off join input)) u' 0
      (own.sweep-allowed plan limit operators made c halt u history S place there join at input lt) (ap (λ (outs : List Out). u ++ outs) (traced plan.trace))
      (subst (λ (es : List Element). Emits (record { operators = mid; outs = u ++ notes_out plan.trace place input (rows_off join input) }) (record { operators = new; outs = u' }) place es) (sym handed) C)
      stays refl (λ old more. refl) refl refl
    where
      traced : (trace : Bool) → notes_out trace place input (rows_off join input) ≡ cond trace (notes_of nodes (Swept place input)) []
      traced true = sym noted-rows
      traced false = refl

  pub sweep-beyond : (o : Option ℕ) → GoBeyond mid place (map Punct (puncts_up join (Sweep input))) o → goes_beyond limit (nodes_of plan) history (Swept place input) ≡ o
  sweep-beyond o G =
      beyond-is plan limit operators made c halt u history S (Swept place input) place (Own (Sweep input)) refl refl mid sweep-steps o
      (subst (λ (es : List Element). GoBeyond mid place es o) (sym handed) G)

  pub removes : length (swept_off join input) + stored_at (nodes_by nodes (Swept place input)) place ≡ stored_at nodes place
  removes =
      let h = halves (λ (x : TupleAt). eqb x.input input && kept_ripe join.spec join.kept x) join.kept.stored in
      let before = ap (λ (o : Operator). length (state_in o).stored) state-of.is ∙ ap (λ (q : KeptState). length q.stored) (sym state-of.kept) in
      let behind = ap (λ (ns : List Node). stored_at ns place) (events-climb nodes A.tree (Swept place input)).moves
      ∙ ap (λ (o : Operator). length (state_in o).stored) ((leaves-nodes nodes A.tree place (Own (Sweep input))).first (let a = A.long in omega (arith, there, a)))
      ∙ ap (λ (o : Operator). length (state_in (after_local o (Own (Sweep input)))).stored) state-of.is
      ∙ ap length (sym (swept-same join.spec state-of.state input)) ∙ ap (λ (q : KeptState). length (swept join.spec q input)) (sym state-of.kept) in
      omega (arith, h, before, behind)
    where
      A : AreAs operators nodes
      A = own.A plan limit operators made c halt u history S place there join at

-- ---- calls

module _ (plan : RunPlan) (limit : ℕ) (operators : List RunningOperator) (c : List ℕ) (halt : Bool) (u : List Out) (place input : ℕ) (made : IsMadeOf plan limit operators) (there : place < length operators)
    (lt : (join : JoinView) → (running_at operators place).state ≡ RunningJoin join → input < inputs join.spec) where
  abbrev scene : List RunningOperator → List Out → Scene
  scene xs outs = record { operators = xs; outs = outs }

  at-place : (operator : RunningOperator) (off : SweptOff) → (W : OperatorSwept (running_at operators place) operator input off) → set operators place operator ≡ with_state operators place (RunningJoin (after W.join (Sweep input))) (peak_seen (running_at operators place))
  at-place operator off W = ap (set operators place) W.is

  pub has-swept : (new : List RunningOperator) (u' : List Out) (count : ℕ) → HasSweptAt plan.trace (scene operators u) (scene new u') place input count
      → HasSwept (core_of plan limit operators c halt u None) (core_of plan limit new c halt u' None) place input count
  has-swept new u' count H = record {
    on = (refl, refl);
    notes = record {
      plan = refl;
      limit = refl;
      stands = λ history S.
          sweeps plan limit operators made c halt u history S place there W.join W.was input (lt W.join W.was) new u' emits (subst (λ (xs : List RunningOperator). StaysAs xs new) mid-is H.stays);
    };
    within = λ history S.
        sweep-beyond plan limit operators made c halt u history S place there W.join W.was input (lt W.join W.was) None emits.within;
    removes = λ history S.
        let r = removes plan limit operators made c halt u history S place there W.join W.was input (lt W.join W.was) in
        let e = H.counts ∙ W.count in
        omega (arith, r, e);
  }
    where
      W : OperatorSwept (running_at operators place) H.operator input H.swept
      W = H.sweeps

      mid-is : set operators place H.operator ≡ with_state operators place (RunningJoin (after W.join (Sweep input))) (peak_seen (running_at operators place))
      mid-is = at-place H.operator H.swept W

      emits : Emits (scene (with_state operators place (RunningJoin (after W.join (Sweep input))) (peak_seen (running_at operators place))) (u ++ notes_out plan.trace place input (rows_off W.join input))) (scene new u') place (map Punct (puncts_up W.join (Sweep input)))
      emits =
          subst (λ (ps : List (List Pattern)). Emits (scene (with_state operators place (RunningJoin (after W.join (Sweep input))) (peak_seen (running_at operators place))) (u ++ notes_out plan.trace place input (rows_off W.join input))) (scene new u') place (map Punct ps)) W.puncts
          (subst (λ (rows : List (List Value)). Emits (scene (with_state operators place (RunningJoin (after W.join (Sweep input))) (peak_seen (running_at operators place))) (u ++ notes_out plan.trace place input rows)) (scene new u') place (map Punct H.swept.puncts)) W.removed
          (subst (λ (xs : List RunningOperator). Emits (scene xs (u ++ notes_out plan.trace place input H.swept.removed)) (scene new u') place (map Punct H.swept.puncts)) mid-is H.emits))

  pub sweep-stop : (stop : Stop) → IsSweepStop plan.trace (scene operators u) place input stop → IsCause (core_of plan limit operators c halt u None) (Swept place input) stop
  sweep-stop (Limit node) b = λ history S.
      sweep-beyond plan limit operators made c halt u history S place there b.sweeps.join b.sweeps.was input (lt b.sweeps.join b.sweeps.was) (Some node)
      (subst (λ (ps : List (List Pattern)). GoBeyond (with_state operators place (RunningJoin (after b.sweeps.join (Sweep input))) (peak_seen (running_at operators place))) place (map Punct ps) (Some node)) b.sweeps.puncts
      (subst (λ (xs : List RunningOperator). GoBeyond xs place (map Punct b.swept.puncts) (Some node)) (at-place b.operator b.swept b.sweeps) b.beyond))
  sweep-stop NoMemory b = tt
