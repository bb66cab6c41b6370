-- One turn: what its steps give together.
use Rattle.std.proofs.Common.{◌≡◌, ℕ, true, false, List, [], ◌∷◌, ◌++◌, Option, Some, None, sym, ap, ◌∙◌, subst}
use Rattle.atomic_table.specs.Table.{Me}
use Rattle.pj_turn.specs.declared.views.SeatView.{SeatView}
use Rattle.pj_turn.specs.Meanings.{KeptMeaning, ActMeaning}
use Rattle.pj_turn.specs.History.{own, HasSeen, MayAct, Ready, Did, Turned}
use Rattle.pj_turn.specs.Rule.{now, SeatTakes}
use Rattle.pj_turn.proofs.Lists.{own_same, own-append, own_seen}
use Rattle.pj_turn.proofs.Steps.{same_inside}

abbrev inner : {T : Type 0} → T → Option T → T
inner d None = d
inner d (Some x) = x

-- the value of the slot that was taken last
abbrev top : {T : Type 0} → T → List (ℕ × Option T) → T
top d [] = d
top d (p ∷ ps) = inner d p.1

module _ {T E F : Type 0} (kept : KeptMeaning T E F) where
  abbrev M : Type 0
  M = Me (Option T) (SeatView F E)

  -- the state x is out, and stands for the log, which begins with what the seat m0 had seen
  pub record InTurn (m0 m : M) (t : ℕ) (x : T) (fixed : F) : Type 0 where
    pub log : List E
    pub view : m.0 ≡ now m0.0 true t true log
    pub standing : kept.stands x log
    pub keeps : kept.keeps log
    pub seen_so_far : HasSeen kept.number m0.0.number m0.0.seen log
    pub fixed_is : kept.fixed x ≡ fixed

  pub in_turn : (m0 m1 m2 m3 : M) (t : ℕ) (x : T) (fixed : F) → m1 ≡ (now m0.0 true t false m0.0.seen, m0.1) → SeatTakes kept m1 m2 → m2.1 ≡ (0, Some x) ∷ [] → m3 ≡ (m2.0, (0, None) ∷ []) → m0.0.fixed ≡ Some fixed
      → InTurn m0 m3 t x fixed
  in_turn m0 m1 m2 m3 t x fixed e1 took e2 e3 is =
      let same : took.state ≡ x = ap (top took.state) (sym (ap (λ (m : M). m.1) took.seat) ∙ e2) in
      let first : took.fixed ≡ fixed = same_inside took.fixed fixed (sym took.known ∙ (ap (λ (m : M). m.0.fixed) e1 ∙ is)) in
      record {
        log = took.log;
        view = ap (λ (m : M). m.0) e3 ∙ (ap (λ (m : M). m.0) took.seat ∙ ap (λ (m : M). now m.0 true m.0.ticket true took.log) e1);
        standing = subst (λ y. kept.stands y took.log) same took.standing;
        keeps = took.keeps;
        seen_so_far = subst (λ (m : M). HasSeen kept.number m.0.number m.0.seen took.log) e1 took.seen_so_far;
        fixed_is = subst (λ y. kept.fixed y ≡ took.fixed) same took.fixed_is ∙ first;
      }

  module _ {A : Type 0} (act : ActMeaning T E F A) where
    pub ready : (m0 m : M) (t : ℕ) (x : T) (fixed : F) → MayAct kept act fixed m0.0.number m0.0.seen → (i : InTurn m0 m t x fixed) → Ready kept act fixed x m0.0.number m0.0.seen i.log
    ready m0 m t x fixed may i = record {
      standing = i.standing;
      fixed_is = i.fixed_is;
      keeps = i.keeps;
      seen_so_far = i.seen_so_far;
      may = may;
    }

    pub turned : (answer : A) (m0 m3 m4 m5 m6 : M) (t : ℕ) (x y : T) (fixed : F) (e : E) → (i : InTurn m0 m3 t x fixed) → e ≡ act.entry m0.0.number i.log answer
        → m4 ≡ (now m3.0 true m3.0.ticket true (m3.0.seen ++ e ∷ []), m3.1) → m5 ≡ (m4.0, (0, Some y) ∷ []) → m6 ≡ (now m5.0 false m5.0.ticket false m5.0.seen, [])
        → Did kept act m0.0.number i.log x answer y → kept.fixed y ≡ kept.fixed x
        → Turned kept act answer fixed m0.0.number m0.0.seen m6.0.seen
    turned answer m0 m3 m4 m5 m6 t x y fixed e i e_is e4 e5 e6 did same =
        let n = m0.0.number in
        let entry = act.entry n i.log answer in
        let seen_is : m6.0.seen ≡ i.log ++ entry ∷ [] =
        ap (λ (m : M). m.0.seen) e6 ∙ (ap (λ (m : M). m.0.seen) e5 ∙ (ap (λ (m : M). m.0.seen) e4 ∙ (ap (λ (v : SeatView F E). v.seen ++ e ∷ []) i.view ∙ ap (λ z. i.log ++ z ∷ []) e_is))) in
        record {
          log = i.log;
          before = x;
          after = y;
          fixed_is = (i.fixed_is, same ∙ i.fixed_is);
          seen_so_far = i.seen_so_far;
          keeps_before = i.keeps;
          stands_before = i.standing;
          given = did.given;
          seen_is = seen_is;
          by_seat = did.by_seat;
          own_is = ap (own kept.number n) seen_is ∙ (own-append kept.number n i.log (entry ∷ []) ∙ (ap (λ l. l ++ own kept.number n (entry ∷ [])) (own_seen kept.number n m0.0.seen i.log i.seen_so_far)
              ∙ ap (λ l. own kept.number n m0.0.seen ++ l) (own_same kept.number n entry did.by_seat)));
          stands_after = subst (kept.stands y) (sym seen_is) did.standing;
          keeps_after = subst kept.keeps (sym seen_is) did.keeps;
        }

  -- the state is laid back, and the seat has seen the log with the new entry
  pub laid : (m0 m3 m4 m5 : M) (t : ℕ) (x y : T) (fixed : F) (e e' : E) → m0.0.fixed ≡ Some fixed → (i : InTurn m0 m3 t x fixed) → e ≡ e'
      → m4 ≡ (now m3.0 true m3.0.ticket true (m3.0.seen ++ e ∷ []), m3.1) → m5 ≡ (m4.0, (0, Some y) ∷ []) → kept.fixed y ≡ kept.fixed x
      → (m5.1 ≡ (0, Some y) ∷ []) × (m5.0.seen ≡ i.log ++ e' ∷ []) × (m5.0.fixed ≡ Some (kept.fixed y))
  laid m0 m3 m4 m5 t x y fixed e e' is i same e4 e5 keeps = (
    ap (λ (m : M). m.1) e5,
    ap (λ (m : M). m.0.seen) e5 ∙ (ap (λ (m : M). m.0.seen) e4 ∙ (λ k. ap (λ (v : SeatView F E). v.seen) i.view k ++ same k ∷ [])),
    ap (λ (m : M). m.0.fixed) e5 ∙ (ap (λ (m : M). m.0.fixed) e4 ∙ (ap (λ (v : SeatView F E). v.fixed) i.view ∙ (is ∙ ap Some (sym (keeps ∙ i.fixed_is))))),
  )
