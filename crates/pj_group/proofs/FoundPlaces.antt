-- Groups at places that pass over none that matches: their rows are those of all groups that match, and closing them closes
-- all that do.
use Rattle.std.proofs.Common.{ℕ, zero, suc, ◌+◌, ◌<◌, ◌≤◌, ◌||◌, subst, Bool, true, false, cond, not, ◌&&◌, List, [], ◌∷◌, ◌++◌, Option, Some, None, ◌≡◌, map, filter, length, take, get_or, refl, sym, ap, ap₂, ◌∙◌, arith, append_assoc, append-nil, length-append}
use Rattle.std.specs.Bool.{MatchBool}
use Rattle.std.specs.Cmp.{nat_eq_equiv}
use Rattle.std.specs.List.{Contains, flat_map, list_any, slice_get}
use Rattle.std.specs.List.Sorted.{IsStrictlyIncreasing}
use Rattle.std.specs.Map.{keys_of}
use Rattle.std.specs.Option.{IfSome}
use Rattle.std.specs.Prelude.{Result, Ok, Err, OnOk, is_some, nat_eq}
use Rattle.std.proofs.lemmas.Bool.{and_parts, eq-eqb, eqb-false, eqb-true, false_from_ne_true, false≢true}
use Rattle.std.proofs.lemmas.List.{take_more}
use Rattle.std.proofs.lemmas.List.Concat.{flat_map-append}
use Rattle.std.proofs.lemmas.List.Elements.{All-cons, All-head, All-tail}
use Rattle.std.proofs.lemmas.Map.Views.{list_any-from_Contains}
use Rattle.indexmap.specs.IndexMap.{set_value_at}
use Rattle.pj_value.specs.declared.values.Value.{Value}
use Rattle.pj_value.specs.Values.{value_eq}
use Rattle.pj_value.proofs.Orders.{equal_if_same, same_if_equal}
use Rattle.pj_pattern.specs.declared.element.Element.{Element}
use Rattle.pj_pattern.specs.declared.pattern.Form.TheVariants.{Constant}
use Rattle.pj_pattern.specs.Patterns.{matches_value}
use Rattle.pj_events.specs.Patterns.{Pattern, matches_row}
use Rattle.pj_events.specs.Operators.{GroupSpec}
use Rattle.pj_events.specs.Tables.{GroupEntry, GroupTable, Tally}
use Rattle.pj_group.specs.Indexes.{AreFound, AreFrom, NeedsValue, PassNone, closed_over, has_value, is_closed_by, matches_slot, places_from, shut_at, shut_over}
use Rattle.pj_group.specs.Insides.{AllStates, AreStates}
use Rattle.pj_group.specs.Orders.{FindsAll, NeedsInteger}
use Rattle.pj_group.specs.Slots.{GroupSlot, OpensNone, is_open, key_while_open, open_at, open_groups, open_key, with_open}
use Rattle.pj_group.specs.declared.order_index.Integers.{Integers}
use Rattle.pj_group.specs.Steps.{closed_at, closed_rows, row_tuple}
use Rattle.pj_group.proofs.Shutting.{closed_append}

-- ---- what a constant needs

pub needs_constant : (patterns : List Pattern) (column : ℕ) (p : Pattern) (v w : Value) → slice_get patterns column ≡ Some p → p ≡ Constant v → w ≡ v → NeedsValue patterns column w
needs_constant [] column p v w e c s key m = absurd (cc)
needs_constant (q ∷ patterns) column p v w e c s [] m = absurd (false≢true m)
needs_constant (q ∷ patterns) zero p v w e c s (x ∷ key) m =
    let is : q ≡ Constant v = cc in
    let same : value_eq v x ≡ true = ap (λ (r : Pattern). matches_value r x) (sym is) ∙ (and_parts (matches_value q x) (matches_row patterns key) m).0 in
    equal_if_same x w (sym (same_if_equal v x same) ∙ sym s)
needs_constant (q ∷ patterns) (suc column) p v w e c s (x ∷ key) m =
    needs_constant patterns column p v w e c s key (and_parts (matches_value q x) (matches_row patterns key) m).1

unmatched : (patterns : List Pattern) (column : ℕ) (value : Value) (key : List Value) → NeedsValue patterns column value → has_value column value key ≡ false → matches_row patterns key ≡ false
unmatched patterns column value key needed h = false_from_ne_true (matches_row patterns key) (λ t. false≢true (sym h ∙ needed key t))

-- ---- places that pass over none

from_weaker : (at : ℕ) (places : List ℕ) → AreFrom (at + 1) places → AreFrom at places
from_weaker at [] h = tt
from_weaker at (place ∷ places) h = (omega (arith, h.0), from_weaker at places h.1)

places_are_from : (at column : ℕ) (value : Value) (keys : List (List Value)) → AreFrom at (places_from at column value keys)
places_are_from at column value [] = tt
places_are_from at column value (key ∷ keys) = go (has_value column value key) (from_weaker at (places_from (at + 1) column value keys) (places_are_from (at + 1) column value keys))
  where
    go : (b : Bool) → AreFrom at (places_from (at + 1) column value keys) → AreFrom at (cond b (at ∷ places_from (at + 1) column value keys) (places_from (at + 1) column value keys))
    go true h = (omega arith, h)
    go false h = h

-- one group more that is not closed
passes : (patterns : List Pattern) (at : ℕ) (slot : GroupSlot) (slots : List GroupSlot) (places : List ℕ) → is_closed_by patterns slot ≡ false → AreFrom (at + 1) places → PassNone patterns (at + 1) slots places
    → PassNone patterns at (slot ∷ slots) places
passes patterns at slot slots [] m f h = (m, h)
passes patterns at slot slots (place ∷ places) m f h = go (nat_eq at place) refl
  where
    go : (b : Bool) → nat_eq at place ≡ b → MatchBool b (PassNone patterns (at + 1) slots places) ((is_closed_by patterns slot ≡ false) × PassNone patterns (at + 1) slots (place ∷ places))
    go true t = let e = eqb-true at place t in absurd (omega (arith, e, f.0))
    go false t = (m, h)

-- one group more, at this place
stops : (patterns : List Pattern) (at place : ℕ) (slot : GroupSlot) (slots : List GroupSlot) (places : List ℕ) → at ≡ place → PassNone patterns (at + 1) slots places → PassNone patterns at (slot ∷ slots) (place ∷ places)
stops patterns at place slot slots places e h = go (nat_eq at place) (eq-eqb at place e)
  where
    go : (b : Bool) → b ≡ true → MatchBool b (PassNone patterns (at + 1) slots places) ((is_closed_by patterns slot ≡ false) × PassNone patterns (at + 1) slots (place ∷ places))
    go true t = h
    go false t = absurd (false≢true t)

stays_open : (patterns : List Pattern) (slot : GroupSlot) → matches_row patterns slot.0 ≡ false → is_closed_by patterns slot ≡ false
stays_open patterns slot m = ap (λ (b : Bool). is_open slot && b) m ∙ go (is_open slot)
  where
    go : (b : Bool) → (b && false) ≡ false
    go true = refl
    go false = refl

value_passes : (patterns : List Pattern) (column : ℕ) (value : Value) → NeedsValue patterns column value → (at : ℕ) (slots : List GroupSlot) → PassNone patterns at slots (places_from at column value (keys_of slots))
value_passes patterns column value needed at [] = tt
value_passes patterns column value needed at (slot ∷ slots) = go (has_value column value slot.0) refl (value_passes patterns column value needed (at + 1) slots)
  where
    P : List ℕ
    P = places_from (at + 1) column value (keys_of slots)

    go : (b : Bool) → has_value column value slot.0 ≡ b → PassNone patterns (at + 1) slots P → PassNone patterns at (slot ∷ slots) (cond b (at ∷ P) P)
    go true t h = stops patterns at at slot slots P refl h
    go false t h = passes patterns at slot slots P (stays_open patterns slot (unmatched patterns column value slot.0 needed t)) (places_are_from (at + 1) column value (keys_of slots)) h

pub found_pass : (patterns : List Pattern) (column : ℕ) (value : Value) (slots : List GroupSlot) (places : List ℕ) → AreFound patterns column value slots places → PassNone patterns 0 slots places
found_pass patterns column value slots places found = subst (PassNone patterns 0 slots) (sym found.all) (value_passes patterns column value found.needed 0 slots)

-- ---- places that rise

-- each is above the one before, the first at this number or above
abbrev AreRising : ℕ → List ℕ → Type 0
AreRising at [] = Unit {0}
AreRising at (place ∷ places) = (at ≤ place) × AreRising (place + 1) places

rising_from : (at : ℕ) (places : List ℕ) → AreRising at places → AreFrom at places
rising_from at [] h = tt
rising_from at (place ∷ places) h = (h.0, lower (place + 1) places (omega (arith, h.0)) (rising_from (place + 1) places h.1))
  where
    lower : (n : ℕ) (ps : List ℕ) → at ≤ n → AreFrom n ps → AreFrom at ps
    lower n [] le k = tt
    lower n (p ∷ ps) le k = (omega (arith, le, k.0), lower n ps le k.1)

none_below : (at : ℕ) (places : List ℕ) → AreFrom (at + 1) places → list_any (nat_eq at) places ≡ false
none_below at [] h = refl
none_below at (place ∷ places) h = go (nat_eq at place) refl (none_below at places h.1)
  where
    go : (b : Bool) → nat_eq at place ≡ b → list_any (nat_eq at) places ≡ false → (b || list_any (nat_eq at) places) ≡ false
    go true t ih = let e = eqb-true at place t in absurd (omega (arith, e, h.0))
    go false t ih = ih

-- these are places of all groups that are closed
abbrev HaveAll : List Pattern → ℕ → List GroupSlot → List ℕ → Type 0
HaveAll patterns at slots places = (i : ℕ) (slot : GroupSlot) → slice_get slots i ≡ Some slot → is_closed_by patterns slot ≡ true → list_any (nat_eq (at + i)) places ≡ true

all_behind : (patterns : List Pattern) (at : ℕ) (slot : GroupSlot) (slots : List GroupSlot) (places : List ℕ) → HaveAll patterns at (slot ∷ slots) places → HaveAll patterns (at + 1) slots places
all_behind patterns at slot slots places all i k e m = let n : at + suc i ≡ at + 1 + i = omega arith in subst (λ j. list_any (nat_eq j) places ≡ true) n (all (suc i) k e m)

-- without the first place, which is none of theirs
all_without : (patterns : List Pattern) (at place : ℕ) (slots : List GroupSlot) (places : List ℕ) → at ≡ place → HaveAll patterns (at + 1) slots (place ∷ places) → HaveAll patterns (at + 1) slots places
all_without patterns at place slots places e all i k s m = go (nat_eq (at + 1 + i) place) refl (all i k s m)
  where
    go : (b : Bool) → nat_eq (at + 1 + i) place ≡ b → (b || list_any (nat_eq (at + 1 + i)) places) ≡ true → list_any (nat_eq (at + 1 + i)) places ≡ true
    go true t h = let f = eqb-true (at + 1 + i) place t in absurd (omega (arith, e, f))
    go false t h = h

-- a list that rises and has the places of all groups that are closed
rising_passes : (patterns : List Pattern) (at : ℕ) (slots : List GroupSlot) (places : List ℕ) → AreRising at places → HaveAll patterns at slots places → PassNone patterns at slots places
rising_passes patterns at [] places r all = rising_from at places r
rising_passes patterns at (slot ∷ slots) [] r all = (
  false_from_ne_true (is_closed_by patterns slot) (λ t. false≢true (all 0 slot refl t)),
  rising_passes patterns (at + 1) slots [] tt (all_behind patterns at slot slots [] all),
)
rising_passes patterns at (slot ∷ slots) (place ∷ places) r all =
    go (nat_eq at place) refl
    (λ s. rising_passes patterns (at + 1) slots places s)
    (λ s. rising_passes patterns (at + 1) slots (place ∷ places) s (all_behind patterns at slot slots (place ∷ places) all))
  where
    go : (b : Bool) → nat_eq at place ≡ b → (AreRising (at + 1) places → HaveAll patterns (at + 1) slots places → PassNone patterns (at + 1) slots places)
        → (AreRising (at + 1) (place ∷ places) → PassNone patterns (at + 1) slots (place ∷ places)) → PassNone patterns at (slot ∷ slots) (place ∷ places)
    go true t f g =
        let e = eqb-true at place t in
        stops patterns at place slot slots places e
        (f (subst (λ n. AreRising (n + 1) places) (sym e) r.1) (all_without patterns at place slots places e (all_behind patterns at slot slots (place ∷ places) all)))
    go false t f g =
        let above : at + 1 ≤ place = omega (arith, r.0, eqb-false at place t) in
        let rises : AreRising (at + 1) (place ∷ places) = (above, r.1) in
        let n : at + 0 ≡ at = omega arith in
        passes patterns at slot slots (place ∷ places)
        (false_from_ne_true (is_closed_by patterns slot) (λ m. false≢true (sym (none_below at (place ∷ places) (rising_from (at + 1) (place ∷ places) rises)) ∙ subst (λ k. list_any (nat_eq k) (place ∷ places) ≡ true) n (all 0 slot refl m))))
        (rising_from (at + 1) (place ∷ places) rises) (g rises)

rising_if_increasing : (at : ℕ) (places : List ℕ) → IsStrictlyIncreasing places → (0 < length places → at ≤ get_or places 0 0) → AreRising at places
rising_if_increasing at [] up first = tt
rising_if_increasing at (place ∷ places) up first = (
  first (omega arith),
  rising_if_increasing (place + 1) places
      (λ k lt. let n : suc k + 1 ≡ suc (k + 1) = omega arith in subst (λ j. get_or (place ∷ places) (suc k) 0 < get_or (place ∷ places) j 0) n (up (suc k) (omega (arith, lt))))
      (λ lt. omega (arith, up 0 (omega (arith, lt)))),
)

-- what is found for a range, in order and each once
pub range_passes : (patterns : List Pattern) (column : ℕ) (range : Integers) (slots : List GroupSlot) (found places : List ℕ) → NeedsInteger patterns column range → FindsAll column slots range found → IsStrictlyIncreasing places
    → ((at : ℕ) → Contains found at → Contains places at) → PassNone patterns 0 slots places
range_passes patterns column range slots found places needed all up keeps =
    rising_passes patterns 0 slots places (rising_if_increasing 0 places up (λ lt. omega arith))
    (λ i slot e m. let n : i ≡ 0 + i = omega arith in
    let parts = and_parts (is_open slot) (matches_row patterns slot.0) m in
    subst (λ j. list_any (nat_eq j) places ≡ true) n (list_any-from_Contains nat_eq_equiv i places (keeps i (all i slot.0 (ap open_key e ∙ is_there slot.0 slot.1 parts.0) (needed slot.0 parts.1)))))
  where
    is_there : (key : List Value) (states : Option (List Tally)) → is_some states ≡ true → key_while_open key states ≡ Some key
    is_there key None o = absurd (false≢true o)
    is_there key (Some ts) o = refl

-- ---- a group behind others

there : (pre : List GroupSlot) (s : GroupSlot) (ss : List GroupSlot) (at : ℕ) → at ≡ length pre → slice_get (pre ++ s ∷ ss) at ≡ Some s
there [] s ss zero e = refl
there [] s ss (suc at) e = absurd (omega (arith, e))
there (p ∷ pre) s ss zero e = absurd (omega (arith, e))
there (p ∷ pre) s ss (suc at) e = there pre s ss at (omega (arith, e))

set_there : (pre : List GroupSlot) (s : GroupSlot) (ss : List GroupSlot) (at : ℕ) (w : Option (List Tally)) → at ≡ length pre → set_value_at (pre ++ s ∷ ss) at w ≡ pre ++ (s.0, w) ∷ ss
set_there [] s ss zero w e = refl
set_there [] s ss (suc at) w e = absurd (omega (arith, e))
set_there (p ∷ pre) s ss zero w e = absurd (omega (arith, e))
set_there (p ∷ pre) s ss (suc at) w e = ap (λ (es : List GroupSlot). p ∷ es) (set_there pre s ss at w (omega (arith, e)))

-- ---- their rows

none_closed : (patterns : List Pattern) (s : GroupSlot) → is_closed_by patterns s ≡ false → closed_rows patterns (open_groups (s ∷ [])) ≡ []
none_closed patterns s f = go s.1 f
  where
    go : (o : Option (List Tally)) → (is_some o && matches_row patterns s.0) ≡ false → closed_rows patterns (with_open s.0 o []) ≡ []
    go None g = refl
    go (Some ts) g = ap (λ (b : Bool). map row_tuple (cond b ((s.0, ts) ∷ []) [])) g

beyond : (slots : List GroupSlot) (at : ℕ) → length slots ≤ at → slice_get slots at ≡ None
beyond [] at le = refl
beyond (s ∷ slots) zero le = absurd (omega (arith, le))
beyond (s ∷ slots) (suc at) le = beyond slots at (omega (arith, le))

hands_beyond : (patterns : List Pattern) (slots : List GroupSlot) (at : ℕ) (places : List ℕ) → length slots ≤ at → AreFrom at places → closed_over patterns slots places ≡ []
hands_beyond patterns slots at [] le h = refl
hands_beyond patterns slots at (place ∷ places) le h =
    ap₂ (λ (xs ys : List Element). xs ++ ys) (ap (closed_at patterns) (beyond slots place (omega (arith, le, h.0)))) (hands_beyond patterns slots at places le h.1)

hands_behind : (patterns : List Pattern) (pre ss : List GroupSlot) (at : ℕ) (places : List ℕ) → at ≡ length pre → PassNone patterns at ss places → closed_over patterns (pre ++ ss) places ≡ closed_rows patterns (open_groups ss)
hands_behind patterns pre [] at places e h = ap (λ (es : List GroupSlot). closed_over patterns es places) (append-nil pre) ∙ hands_beyond patterns pre at places (omega (arith, e)) h
hands_behind patterns pre (s ∷ ss) at [] e h =
    hands_behind patterns (pre ++ s ∷ []) ss (at + 1) [] (omega (arith, e, length-append pre (s ∷ []))) h.1
    ∙ (ap (λ (xs : List Element). xs ++ closed_rows patterns (open_groups ss)) (sym (none_closed patterns s h.0)) ∙ sym (closed_append patterns (s ∷ []) ss))
hands_behind patterns pre (s ∷ ss) at (place ∷ places) e h =
    go (nat_eq at place) refl
    (λ ps k. ap (λ (es : List GroupSlot). closed_over patterns es ps) (sym (append_assoc pre (s ∷ []) ss)) ∙ hands_behind patterns (pre ++ s ∷ []) ss (at + 1) ps (omega (arith, e, length-append pre (s ∷ []))) k)
    h
  where
    C : List Element
    C = closed_rows patterns (open_groups ss)

    go : (b : Bool) → nat_eq at place ≡ b → ((ps : List ℕ) → PassNone patterns (at + 1) ss ps → closed_over patterns (pre ++ s ∷ ss) ps ≡ C)
        → MatchBool b (PassNone patterns (at + 1) ss places) ((is_closed_by patterns s ≡ false) × PassNone patterns (at + 1) ss (place ∷ places))
        → closed_over patterns (pre ++ s ∷ ss) (place ∷ places) ≡ closed_rows patterns (open_groups (s ∷ ss))
    go true t rest k =
        ap₂ (λ (xs ys : List Element). xs ++ ys) (ap (closed_at patterns) (there pre s ss place (sym (eqb-true at place t) ∙ e))) (rest places k) ∙ sym (closed_append patterns (s ∷ []) ss)
    go false t rest k = rest (place ∷ places) k.1 ∙ (ap (λ (xs : List Element). xs ++ C) (sym (none_closed patterns s k.0)) ∙ sym (closed_append patterns (s ∷ []) ss))

pub found_hands : (patterns : List Pattern) (slots : List GroupSlot) (places : List ℕ) → PassNone patterns 0 slots places → closed_over patterns slots places ≡ closed_rows patterns (open_groups slots)
found_hands patterns slots places h = hands_behind patterns [] slots 0 places refl h

-- ---- what closing them leaves

abbrev left : List Pattern → GroupSlot → GroupSlot
left patterns s = (s.0, cond (matches_row patterns s.0) None s.1)

left_states : (b : Bool) (o : Option (List Tally)) → (is_some o && b) ≡ false → o ≡ cond b None o
left_states true None m = refl
left_states true (Some ts) m = absurd (false≢true (sym m))
left_states false o m = refl

shut_there : (patterns : List Pattern) (pre : List GroupSlot) (s : GroupSlot) (ss : List GroupSlot) (at : ℕ) → at ≡ length pre → shut_at patterns (pre ++ s ∷ ss) at ≡ pre ++ left patterns s ∷ ss
shut_there patterns pre s ss at e =
    ap (λ (o : Option GroupSlot). cond (matches_slot patterns o) (set_value_at (pre ++ s ∷ ss) at None) (pre ++ s ∷ ss)) (there pre s ss at e) ∙ go (matches_row patterns s.0)
  where
    go : (b : Bool) → cond b (set_value_at (pre ++ s ∷ ss) at None) (pre ++ s ∷ ss) ≡ pre ++ (s.0, cond b None s.1) ∷ ss
    go true = set_there pre s ss at None e
    go false = refl

shut_beyond : (patterns : List Pattern) (slots : List GroupSlot) (at : ℕ) (places : List ℕ) → length slots ≤ at → AreFrom at places → shut_over patterns slots places ≡ slots
shut_beyond patterns slots at [] le h = refl
shut_beyond patterns slots at (place ∷ places) le h =
    ap (λ (es : List GroupSlot). shut_over patterns es places)
    (ap (λ (o : Option GroupSlot). cond (matches_slot patterns o) (set_value_at slots place None) slots) (beyond slots place (omega (arith, le, h.0))))
    ∙ shut_beyond patterns slots at places le h.1

shut_behind : (patterns : List Pattern) (pre ss : List GroupSlot) (at : ℕ) (places : List ℕ) → at ≡ length pre → PassNone patterns at ss places → shut_over patterns (pre ++ ss) places ≡ pre ++ map (left patterns) ss
shut_behind patterns pre [] at places e h =
    ap (λ (es : List GroupSlot). shut_over patterns es places) (append-nil pre) ∙ (shut_beyond patterns pre at places (omega (arith, e)) h ∙ sym (append-nil pre))
shut_behind patterns pre (s ∷ ss) at places e h =
    by_places places
    (λ t ps k. ap (λ (es : List GroupSlot). shut_over patterns es ps) (sym (append_assoc pre (t ∷ []) ss))
    ∙ (shut_behind patterns (pre ++ t ∷ []) ss (at + 1) ps (omega (arith, e, length-append pre (t ∷ []))) k ∙ append_assoc pre (t ∷ []) (map (left patterns) ss)))
    h
  where
    M : List GroupSlot
    M = map (left patterns) ss

    -- what shutting those behind leaves, whatever stands here
    Rest : Type 0
    Rest = (t : GroupSlot) (ps : List ℕ) → PassNone patterns (at + 1) ss ps → shut_over patterns (pre ++ t ∷ ss) ps ≡ pre ++ t ∷ M

    passed : (ps : List ℕ) → Rest → is_closed_by patterns s ≡ false → PassNone patterns (at + 1) ss ps → shut_over patterns (pre ++ s ∷ ss) ps ≡ pre ++ left patterns s ∷ M
    passed ps rest m k = rest s ps k ∙ ap (λ (o : Option (List Tally)). pre ++ (s.0, o) ∷ M) (left_states (matches_row patterns s.0) s.1 m)

    go : (place : ℕ) (ps : List ℕ) (b : Bool) → nat_eq at place ≡ b → Rest
        → MatchBool b (PassNone patterns (at + 1) ss ps) ((is_closed_by patterns s ≡ false) × PassNone patterns (at + 1) ss (place ∷ ps))
        → shut_over patterns (pre ++ s ∷ ss) (place ∷ ps) ≡ pre ++ left patterns s ∷ M
    go place ps true t rest k = ap (λ (es : List GroupSlot). shut_over patterns es ps) (shut_there patterns pre s ss place (sym (eqb-true at place t) ∙ e)) ∙ rest (left patterns s) ps k
    go place ps false t rest k = passed (place ∷ ps) rest k.0 k.1

    by_places : (ps : List ℕ) → Rest → PassNone patterns at (s ∷ ss) ps → shut_over patterns (pre ++ s ∷ ss) ps ≡ pre ++ left patterns s ∷ M
    by_places [] rest k = passed [] rest k.0 k.1
    by_places (place ∷ ps) rest k = go place ps (nat_eq at place) refl rest k

open_left_over : (patterns : List Pattern) (ss : List GroupSlot) → open_groups (map (left patterns) ss) ≡ filter (λ e. not (matches_row patterns e.0)) (open_groups ss)
open_left_over patterns [] = refl
open_left_over patterns (s ∷ ss) = go s.1 (open_left_over patterns ss)
  where
    L : GroupTable
    L = open_groups (map (left patterns) ss)

    F : GroupTable → GroupTable
    F es = filter (λ (e : GroupEntry). not (matches_row patterns e.0)) es

    go : (o : Option (List Tally)) → L ≡ F (open_groups ss) → with_open s.0 (cond (matches_row patterns s.0) None o) L ≡ F (with_open s.0 o (open_groups ss))
    go None ih = at (matches_row patterns s.0)
      where
        at : (b : Bool) → with_open s.0 (cond b None None) L ≡ F (open_groups ss)
        at true = ih
        at false = ih
    go (Some ts) ih = at (matches_row patterns s.0)
      where
        at : (b : Bool) → with_open s.0 (cond b None (Some ts)) L ≡ cond (not b) ((s.0, ts) ∷ F (open_groups ss)) (F (open_groups ss))
        at true = ih
        at false = ap (λ (es : GroupTable). (s.0, ts) ∷ es) ih

pub found_left : (patterns : List Pattern) (slots : List GroupSlot) (places : List ℕ) → PassNone patterns 0 slots places
    → open_groups (shut_over patterns slots places) ≡ filter (λ e. not (matches_row patterns e.0)) (open_groups slots)
found_left patterns slots places h = ap open_groups (shut_behind patterns [] slots 0 places refl h) ∙ open_left_over patterns slots

-- ---- keys and states

keys_set : (slots : List GroupSlot) (at : ℕ) (w : Option (List Tally)) → keys_of (set_value_at slots at w) ≡ keys_of slots
keys_set [] at w = refl
keys_set (s ∷ slots) zero w = refl
keys_set (s ∷ slots) (suc at) w = ap (λ (ks : List (List Value)). s.0 ∷ ks) (keys_set slots at w)

keys_shut : (patterns : List Pattern) (slots : List GroupSlot) (places : List ℕ) → keys_of (shut_over patterns slots places) ≡ keys_of slots
keys_shut patterns slots [] = refl
keys_shut patterns slots (at ∷ places) = keys_shut patterns (shut_at patterns slots at) places ∙ go (matches_slot patterns (slice_get slots at))
  where
    go : (b : Bool) → keys_of (cond b (set_value_at slots at None) slots) ≡ keys_of slots
    go true = keys_set slots at None
    go false = refl

set_none_open : (slots : List GroupSlot) (place at : ℕ) (k : List Value) → open_at (set_value_at slots place None) at ≡ Some k → open_at slots at ≡ Some k
set_none_open [] place at k h = h
set_none_open (s ∷ slots) zero zero k h = absurd (cc)
set_none_open (s ∷ slots) zero (suc at) k h = h
set_none_open (s ∷ slots) (suc place) zero k h = h
set_none_open (s ∷ slots) (suc place) (suc at) k h = set_none_open slots place at k h

shut_open : (patterns : List Pattern) (slots : List GroupSlot) (places : List ℕ) (at : ℕ) (k : List Value) → open_at (shut_over patterns slots places) at ≡ Some k → open_at slots at ≡ Some k
shut_open patterns slots [] at k h = h
shut_open patterns slots (place ∷ places) at k h = go (matches_slot patterns (slice_get slots place)) (shut_open patterns (shut_at patterns slots place) places at k h)
  where
    go : (b : Bool) → open_at (cond b (set_value_at slots place None) slots) at ≡ Some k → open_at slots at ≡ Some k
    go true f = set_none_open slots place at k f
    go false f = f

pub shut_opens_none : (patterns : List Pattern) (slots new : List GroupSlot) (places : List ℕ) → new ≡ shut_over patterns slots places → OpensNone slots new
shut_opens_none patterns slots new places e = record {
  keys = ap (λ (es : List GroupSlot). keys_of es) e ∙ keys_shut patterns slots places;
  was_open = λ at k h. shut_open patterns slots places at k (ap (λ (es : List GroupSlot). open_at es at) (sym e) ∙ h);
}

states_none : (count : ℕ) (spec : GroupSpec) (slots : List GroupSlot) (at : ℕ) → AllStates count spec slots → AllStates count spec (set_value_at slots at None)
states_none count spec [] at h = h
states_none count spec (s ∷ slots) zero h = All-cons (λ (e : GroupSlot). IfSome e.1 (AreStates count (length spec.aggs))) (s.0, None) slots tt (All-tail (λ (e : GroupSlot). IfSome e.1 (AreStates count (length spec.aggs))) s slots h)
states_none count spec (s ∷ slots) (suc at) h =
    All-cons (λ (e : GroupSlot). IfSome e.1 (AreStates count (length spec.aggs))) s (set_value_at slots at None) (All-head (λ (e : GroupSlot). IfSome e.1 (AreStates count (length spec.aggs))) s slots h)
    (states_none count spec slots at (All-tail (λ (e : GroupSlot). IfSome e.1 (AreStates count (length spec.aggs))) s slots h))

pub states_shut : (patterns : List Pattern) (slots : List GroupSlot) (places : List ℕ) (count : ℕ) (spec : GroupSpec) → AllStates count spec slots → AllStates count spec (shut_over patterns slots places)
states_shut patterns slots [] count spec h = h
states_shut patterns slots (at ∷ places) count spec h = states_shut patterns (shut_at patterns slots at) places count spec (go (matches_slot patterns (slice_get slots at)))
  where
    go : (b : Bool) → AllStates count spec (cond b (set_value_at slots at None) slots)
    go true = states_none count spec slots at h
    go false = h

-- what follows on success
pub ok_weaker : {A B : Type 0} (r : Result A B) (P Q : Type 0) → (P → Q) → OnOk r P → OnOk r Q
ok_weaker (Ok a) P Q f p = f p
ok_weaker (Err b) P Q f p = p
