-- Groups in memory: what clearing away, closing and renewing make of the open ones.
use Rattle.std.proofs.Common.{ℕ, Bool, true, false, cond, not, ◌&&◌, List, [], ◌∷◌, Option, Some, None, is_some, ◌≡◌, map, filter, length, refl, sym, ap, ◌∙◌, subst}
use Rattle.std.specs.List.{AllByRecursion, IsDistinct}
use Rattle.std.specs.Map.{keys_of, lookup, set_value}
use Rattle.std.specs.Option.{IfSome}
use Rattle.std.proofs.lemmas.List.Elements.{All-cons, All-filter, All-head, All-tail}
use Rattle.indexmap.specs.IndexMap.{insert_entry}
use Rattle.pj_value.specs.declared.values.Value.{Value}
use Rattle.pj_value.specs.Values.{row_eq}
use Rattle.pj_value.proofs.Orders.{row_same_if_equal}
use Rattle.pj_events.specs.Patterns.{Pattern, matches_row}
use Rattle.pj_events.specs.Operators.{GroupSpec}
use Rattle.pj_events.specs.Tables.{GroupEntry, GroupTable, Tally}
use Rattle.pj_group.specs.Renewing.{IsLeft}
use Rattle.pj_group.specs.Slots.{GroupSlot, IsReady, MatchesOnly, is_open, open_groups, state_rows, states_in, with_open}
use Rattle.pj_group.specs.Steps.{closed_rows, row_tuple}
use Rattle.pj_group.specs.Insides.{AllStates, AreStates}

-- ---- clearing away

-- those that are open and whose keys do not pass
pub open_left : (p : List Value → Bool) (slots : List GroupSlot) → open_groups (filter (λ s. is_open s && not (p s.0)) slots) ≡ filter (λ e. not (p e.0)) (open_groups slots)
open_left p [] = refl
open_left p (s ∷ slots) = go s.0 s.1 (open_left p slots)
  where
    R : List GroupSlot
    R = filter (λ s. is_open s && not (p s.0)) slots

    T : GroupTable
    T = open_groups slots

    go : (k : List Value) (o : Option (List Tally)) → open_groups R ≡ filter (λ (e : GroupEntry). not (p e.0)) T
        → open_groups (cond (is_some o && not (p k)) ((k, o) ∷ R) R) ≡ filter (λ (e : GroupEntry). not (p e.0)) (with_open k o T)
    go k None ih = ih
    go k (Some ts) ih = at (p k)
      where
        at : (b : Bool) → open_groups (cond (not b) ((k, Some ts) ∷ R) R) ≡ cond (not b) ((k, ts) ∷ filter (λ (e : GroupEntry). not (p e.0)) T) (filter (λ (e : GroupEntry). not (p e.0)) T)
        at true = ih
        at false = ap (λ (es : GroupTable). (k, ts) ∷ es) ih

pub open_filter : (slots : List GroupSlot) → open_groups (filter is_open slots) ≡ open_groups slots
open_filter [] = refl
open_filter (s ∷ slots) = go s.0 s.1 (open_filter slots)
  where
    go : (k : List Value) (o : Option (List Tally)) → open_groups (filter is_open slots) ≡ open_groups slots
        → open_groups (cond (is_some o) ((k, o) ∷ filter is_open slots) (filter is_open slots)) ≡ with_open k o (open_groups slots)
    go k None ih = ih
    go k (Some ts) ih = ap (λ (es : GroupTable). (k, ts) ∷ es) ih

pub states_filter : (count : ℕ) (spec : GroupSpec) (p : GroupSlot → Bool) (slots : List GroupSlot) → AllStates count spec slots → AllStates count spec (filter p slots)
states_filter count spec p slots h = All-filter p (λ (s : GroupSlot). IfSome s.1 (AreStates count (length spec.aggs))) slots h

-- ---- the group of one key

-- what was looked up
pub open_found : (key : List Value) (slots : List GroupSlot) → IsReady (lookup (row_eq key) slots) → lookup (row_eq key) (open_groups slots) ≡ states_in (lookup (row_eq key) slots)
open_found key [] r = refl
open_found key (s ∷ slots) r = go s.0 s.1 (row_eq key s.0) refl r (open_found key slots)
  where
    L : Option (Option (List Tally))
    L = lookup (row_eq key) slots

    go : (k : List Value) (o : Option (List Tally)) (b : Bool) → row_eq key k ≡ b → IsReady (cond b (Some o) L) → (IsReady L → lookup (row_eq key) (open_groups slots) ≡ states_in L)
        → lookup (row_eq key) (with_open k o (open_groups slots)) ≡ states_in (cond b (Some o) L)
    go k None true e r ih = absurd r
    go k None false e r ih = ih r
    go k (Some ts) true e r ih = ap (λ (b : Bool). cond b (Some ts) (lookup (row_eq key) (open_groups slots))) e
    go k (Some ts) false e r ih = ap (λ (b : Bool). cond b (Some ts) (lookup (row_eq key) (open_groups slots))) e ∙ ih r

-- the states of a key that is new or open
pub open_put : (key : List Value) (ts : List Tally) (slots : List GroupSlot) → IsReady (lookup (row_eq key) slots) → open_groups (insert_entry row_eq slots key (Some ts)) ≡ insert_entry row_eq (open_groups slots) key ts
open_put key ts [] r = refl
open_put key ts (s ∷ slots) r = go s.0 s.1 (row_eq key s.0) refl r (open_put key ts slots)
  where
    L : Option (Option (List Tally))
    L = lookup (row_eq key) slots

    more : List GroupSlot
    more = insert_entry row_eq slots key (Some ts)

    T : GroupTable
    T = open_groups slots

    go : (k : List Value) (o : Option (List Tally)) (b : Bool) → row_eq key k ≡ b → IsReady (cond b (Some o) L) → (IsReady L → open_groups more ≡ insert_entry row_eq T key ts)
        → open_groups (cond b ((k, Some ts) ∷ slots) ((k, o) ∷ more)) ≡ insert_entry row_eq (with_open k o T) key ts
    go k None true e r ih = absurd r
    go k None false e r ih = ih r
    go k (Some old) true e r ih = ap (λ (b : Bool). cond b ((k, ts) ∷ T) ((k, old) ∷ insert_entry row_eq T key ts)) (sym e)
    go k (Some old) false e r ih = ap (λ (es : GroupTable). (k, old) ∷ es) (ih r) ∙ ap (λ (b : Bool). cond b ((k, ts) ∷ T) ((k, old) ∷ insert_entry row_eq T key ts)) (sym e)

-- to write what was found is to put it in
pub set_put : (key : List Value) (o w : Option (List Tally)) (slots : List GroupSlot) → lookup (row_eq key) slots ≡ Some o → set_value (row_eq key) slots w ≡ insert_entry row_eq slots key w
set_put key o w [] e = cc
set_put key o w (s ∷ slots) e = go (row_eq key s.0) e (set_put key o w slots)
  where
    go : (b : Bool) → cond b (Some s.1) (lookup (row_eq key) slots) ≡ Some o → (lookup (row_eq key) slots ≡ Some o → set_value (row_eq key) slots w ≡ insert_entry row_eq slots key w)
        → cond b ((s.0, w) ∷ slots) (s ∷ set_value (row_eq key) slots w) ≡ cond b ((s.0, w) ∷ slots) (s ∷ insert_entry row_eq slots key w)
    go true e f = refl
    go false e f = ap (λ (ss : List GroupSlot). s ∷ ss) (f e)

pub set_none : (key : List Value) (w : Option (List Tally)) (slots : List GroupSlot) → lookup (row_eq key) slots ≡ None → set_value (row_eq key) slots w ≡ slots
set_none key w [] e = refl
set_none key w (s ∷ slots) e = go (row_eq key s.0) e (set_none key w slots)
  where
    go : (b : Bool) → cond b (Some s.1) (lookup (row_eq key) slots) ≡ None → (lookup (row_eq key) slots ≡ None → set_value (row_eq key) slots w ≡ slots)
        → cond b ((s.0, w) ∷ slots) (s ∷ set_value (row_eq key) slots w) ≡ s ∷ slots
    go true e f = cc
    go false e f = ap (λ (ss : List GroupSlot). s ∷ ss) (f e)

pub states_set : (count : ℕ) (spec : GroupSpec) (test : List Value → Bool) (w : Option (List Tally)) (slots : List GroupSlot) → IfSome w (AreStates count (length spec.aggs)) → AllStates count spec slots → AllStates count spec (set_value test slots w)
states_set count spec test w [] s h = h
states_set count spec test w (e ∷ slots) s h = go (test e.0) (states_set count spec test w slots s (All-tail P e slots h))
  where
    P : GroupSlot → Type 0
    P k = IfSome k.1 (AreStates count (length spec.aggs))

    go : (b : Bool) → AllStates count spec (set_value test slots w) → AllStates count spec (cond b ((e.0, w) ∷ slots) (e ∷ set_value test slots w))
    go true ih = All-cons P (e.0, w) slots s (All-tail P e slots h)
    go false ih = All-cons P e (set_value test slots w) (All-head P e slots h) ih

-- ---- patterns that match one key alone

-- where the key is none of these, no group matches
none_match : (patterns : List Pattern) (key k : List Value) (slots : List GroupSlot) → MatchesOnly patterns key → key ≡ k → AllByRecursion (λ y. row_eq k y ≡ false) (keys_of slots)
    → (filter (λ (e : GroupEntry). matches_row patterns e.0) (open_groups slots) ≡ []) × (filter (λ (e : GroupEntry). not (matches_row patterns e.0)) (open_groups slots) ≡ open_groups slots)
none_match patterns key k [] only q a = (refl, refl)
none_match patterns key k (s ∷ slots) only q a = go s.0 s.1 (only s.0 ∙ ap (λ (j : List Value). row_eq j s.0) q ∙ a.0) (none_match patterns key k slots only q a.1)
  where
    T : GroupTable
    T = open_groups slots

    go : (j : List Value) (o : Option (List Tally)) → matches_row patterns j ≡ false
        → (filter (λ (e : GroupEntry). matches_row patterns e.0) T ≡ []) × (filter (λ (e : GroupEntry). not (matches_row patterns e.0)) T ≡ T)
        → (filter (λ (e : GroupEntry). matches_row patterns e.0) (with_open j o T) ≡ []) × (filter (λ (e : GroupEntry). not (matches_row patterns e.0)) (with_open j o T) ≡ with_open j o T)
    go j None f ih = ih
    go j (Some ts) f ih = (
      ap (λ (b : Bool). cond b ((j, ts) ∷ filter (λ (e : GroupEntry). matches_row patterns e.0) T) (filter (λ (e : GroupEntry). matches_row patterns e.0) T)) f ∙ ih.0,
      ap (λ (b : Bool). cond (not b) ((j, ts) ∷ filter (λ (e : GroupEntry). not (matches_row patterns e.0)) T) (filter (λ (e : GroupEntry). not (matches_row patterns e.0)) T)) f ∙ ap (λ (es : GroupTable). (j, ts) ∷ es) ih.1,
    )

pub only_closed : (patterns : List Pattern) (key : List Value) (slots : List GroupSlot) → MatchesOnly patterns key → IsDistinct row_eq (keys_of slots)
    → (closed_rows patterns (open_groups slots) ≡ state_rows key (states_in (lookup (row_eq key) slots)))
    × (open_groups (set_value (row_eq key) slots None) ≡ filter (λ (e : GroupEntry). not (matches_row patterns e.0)) (open_groups slots))
unfolding IsDistinct
only_closed patterns key [] only d = (refl, refl)
only_closed patterns key (s ∷ slots) only d = go s.0 s.1 (row_eq key s.0) refl (only s.0) d.0 (only_closed patterns key slots only d.1)
  where
    T : GroupTable
    T = open_groups slots

    L : Option (Option (List Tally))
    L = lookup (row_eq key) slots

    left : GroupTable → GroupTable
    left es = filter (λ (e : GroupEntry). not (matches_row patterns e.0)) es

    go : (k : List Value) (o : Option (List Tally)) (b : Bool) → row_eq key k ≡ b → matches_row patterns k ≡ row_eq key k → AllByRecursion (λ y. row_eq k y ≡ false) (keys_of slots)
        → (closed_rows patterns T ≡ state_rows key (states_in L)) × (open_groups (set_value (row_eq key) slots None) ≡ left T)
        → (closed_rows patterns (with_open k o T) ≡ state_rows key (states_in (cond b (Some o) L)))
        × (open_groups (cond b ((k, None) ∷ slots) ((k, o) ∷ set_value (row_eq key) slots None)) ≡ left (with_open k o T))
    go k None true e m a ih =
        let n = none_match patterns key k slots only (row_same_if_equal key k e) a in
        (ap (λ (es : GroupTable). map row_tuple es) n.0, sym n.1)
    go k None false e m a ih = ih
    go k (Some ts) true e m a ih =
        let q = row_same_if_equal key k e in
        let n = none_match patterns key k slots only q a in (
          ap (λ (b : Bool). map row_tuple (cond b ((k, ts) ∷ filter (λ (e : GroupEntry). matches_row patterns e.0) T) (filter (λ (e : GroupEntry). matches_row patterns e.0) T))) (m ∙ e)
              ∙ ap (λ (es : GroupTable). map row_tuple ((k, ts) ∷ es)) n.0 ∙ ap (λ (j : List Value). state_rows j (Some ts)) (sym q),
          sym (ap (λ (b : Bool). cond (not b) ((k, ts) ∷ left T) (left T)) (m ∙ e) ∙ n.1),
        )
    go k (Some ts) false e m a ih = (
      ap (λ (b : Bool). map row_tuple (cond b ((k, ts) ∷ filter (λ (e : GroupEntry). matches_row patterns e.0) T) (filter (λ (e : GroupEntry). matches_row patterns e.0) T))) (m ∙ e) ∙ ih.0,
      ap (λ (es : GroupTable). (k, ts) ∷ es) ih.1 ∙ sym (ap (λ (b : Bool). cond (not b) ((k, ts) ∷ left T) (left T)) (m ∙ e)),
    )

-- ---- a key whose group was closed

none_there : (key k : List Value) (slots : List GroupSlot) → key ≡ k → AllByRecursion (λ y. row_eq k y ≡ false) (keys_of slots) → lookup (row_eq key) (filter is_open slots) ≡ None
none_there key k [] q a = refl
none_there key k (s ∷ slots) q a = go s.1 (ap (λ (j : List Value). row_eq j s.0) q ∙ a.0) (none_there key k slots q a.1)
  where
    R : List GroupSlot
    R = filter is_open slots

    go : (o : Option (List Tally)) → row_eq key s.0 ≡ false → lookup (row_eq key) R ≡ None → lookup (row_eq key) (cond (is_some o) ((s.0, o) ∷ R) R) ≡ None
    go None f ih = ih
    go (Some ts) f ih = ap (λ (b : Bool). cond b (Some (Some ts)) (lookup (row_eq key) R)) f ∙ ih

-- it is new once such groups are cleared away
pub new_after_clearing : (key : List Value) (slots : List GroupSlot) → IsDistinct row_eq (keys_of slots) → lookup (row_eq key) slots ≡ Some None → lookup (row_eq key) (filter is_open slots) ≡ None
unfolding IsDistinct
new_after_clearing key [] d e = cc
new_after_clearing key (s ∷ slots) d e = go s.1 (row_eq key s.0) refl e (new_after_clearing key slots d.1)
  where
    R : List GroupSlot
    R = filter is_open slots

    L : Option (Option (List Tally))
    L = lookup (row_eq key) slots

    go : (o : Option (List Tally)) (b : Bool) → row_eq key s.0 ≡ b → cond b (Some o) L ≡ Some None → (L ≡ Some None → lookup (row_eq key) R ≡ None) → lookup (row_eq key) (cond (is_some o) ((s.0, o) ∷ R) R) ≡ None
    go None true t e ih = none_there key s.0 slots (row_same_if_equal key s.0 t) d.0
    go None false t e ih = ih e
    go (Some ts) true t e ih = absurd (cc)
    go (Some ts) false t e ih = ap (λ (b : Bool). cond b (Some (Some ts)) (lookup (row_eq key) R)) t ∙ ih e

-- ---- where closed groups are cleared away after they were looked for

pub new_cleared : (old slots new : List GroupSlot) (key : List Value) → IsLeft (filter is_open old) old key slots → new ≡ filter is_open slots → lookup (row_eq key) new ≡ None
new_cleared old slots new key is n = ap (lookup (row_eq key)) (n ∙ ap (filter is_open) is.same) ∙ is.none

pub open_cleared : (old slots new : List GroupSlot) (key : List Value) → IsLeft (filter is_open old) old key slots → new ≡ filter is_open slots → open_groups new ≡ open_groups old
open_cleared old slots new key is n = ap open_groups (n ∙ ap (filter is_open) is.same) ∙ open_filter old

pub states_cleared : (count : ℕ) (spec : GroupSpec) (old slots new : List GroupSlot) (key : List Value) → IsLeft (filter is_open old) old key slots → new ≡ filter is_open slots → AllStates count spec old → AllStates count spec new
states_cleared count spec old slots new key is n h = subst (AllStates count spec) (sym (n ∙ ap (filter is_open) is.same)) (states_filter count spec is_open old h)
