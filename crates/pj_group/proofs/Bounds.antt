-- How large the states are after one row more.
use Rattle.std.proofs.Common.{ℕ, ◌+◌, ◌≤◌, Bool, true, false, cond, List, [], ◌∷◌, ◌≡◌, Option, Some, None, map, length, arith, ap, sym, ◌∙◌, subst}
use Rattle.std.proofs.lemmas.List.{length-map}
use Rattle.std.specs.Option.{IfSome}
use Rattle.std.specs.Prelude.{Result, Ok, Err, OnErr}
use Rattle.std.specs.Map.{lookup, set_value}
use Rattle.std.proofs.lemmas.Map.Entries.{All-lookup}
use Rattle.std.specs.List.{All}
use Rattle.std.proofs.lemmas.Int.{ints}
use Rattle.std.proofs.lemmas.List.Elements.{All-cons, All-head, All-nil, All-tail, All-weaker}
use Rattle.indexmap.specs.IndexMap.{insert_entry}
use Rattle.pj_value.specs.declared.values.Value.{Value}
use Rattle.pj_value.specs.Values.{row_eq}
use Rattle.pj_events.specs.Tables.{Greatest, Least, Rows, Tally, Total}
use Rattle.pj_group.specs.Slots.{GroupSlot}
use Rattle.pj_group.proofs.OpenGroups.{states_set}
use Rattle.pj_group.specs.Insides.{AllStates, AreStates, IsBounded}
use Rattle.pj_group.specs.Steps.{first_tally}
use Rattle.pj_events.specs.Operators.{Agg, GroupSpec}

bounded_weaker : (m n : ℕ) (t : Tally) → m ≤ n → IsBounded m t → IsBounded n t
bounded_weaker m n (Rows k) le h = omega (arith, le, h)
bounded_weaker m n (Total z) le h = (omega (arith, ints, le, h.0), omega (arith, ints, le, h.1))
bounded_weaker m n (Least v) le h = h
bounded_weaker m n (Greatest v) le h = h

pub all_weaker : (m n : ℕ) (ts : List Tally) → m ≤ n → All (IsBounded m) ts → All (IsBounded n) ts
all_weaker m n ts le h = All-weaker (IsBounded m) (IsBounded n) (λ t. bounded_weaker m n t le) ts h

pub states_weaker : (m n aggs : ℕ) (ts : List Tally) → m ≤ n → AreStates m aggs ts → AreStates n aggs ts
states_weaker m n aggs ts le h = record { each = h.each; bounded = all_weaker m n ts le h.bounded }

pub table_weaker : (m n : ℕ) (spec : GroupSpec) (slots : List GroupSlot) → m ≤ n → AllStates m spec slots → AllStates n spec slots
table_weaker m n spec slots le h = All-weaker (λ (s : GroupSlot). IfSome s.1 (AreStates m (length spec.aggs))) (λ (s : GroupSlot). IfSome s.1 (AreStates n (length spec.aggs))) (λ s. go s.1) slots h
  where
    go : (o : Option (List Tally)) → IfSome o (AreStates m (length spec.aggs)) → IfSome o (AreStates n (length spec.aggs))
    go None k = k
    go (Some ts) k = states_weaker m n (length spec.aggs) ts le k

put_states : (n : ℕ) (spec : GroupSpec) (slots : List GroupSlot) (key : List Value) (ts : List Tally) → AllStates n spec slots → AreStates n (length spec.aggs) ts → AllStates n spec (insert_entry row_eq slots key (Some ts))
put_states n spec [] key ts h s = All-cons (λ (e : GroupSlot). IfSome e.1 (AreStates n (length spec.aggs))) (key, Some ts) [] s (All-nil (λ (e : GroupSlot). IfSome e.1 (AreStates n (length spec.aggs))))
put_states n spec (e ∷ slots) key ts h s = go (row_eq key e.0) (put_states n spec slots key ts (All-tail P e slots h) s)
  where
    P : GroupSlot → Type 0
    P k = IfSome k.1 (AreStates n (length spec.aggs))

    go : (b : Bool) → AllStates n spec (insert_entry row_eq slots key (Some ts)) → AllStates n spec (cond b ((e.0, Some ts) ∷ slots) (e ∷ insert_entry row_eq slots key (Some ts)))
    go true ih = All-cons P (e.0, Some ts) slots s (All-tail P e slots h)
    go false ih = All-cons P e (insert_entry row_eq slots key (Some ts)) (All-head P e slots h) ih

-- after a row of a new key
pub put_states_by : (n : ℕ) (spec : GroupSpec) (slots new : List GroupSlot) (key : List Value) (ts : List Tally) (aggs : List Agg) → AllStates n spec slots → aggs ≡ spec.aggs → AreStates (n + 1) (length aggs) ts
    → new ≡ insert_entry row_eq slots key (Some ts) → AllStates (n + 1) spec new
put_states_by n spec slots new key ts aggs h a s e =
    subst (AllStates (n + 1) spec) (sym e) (put_states (n + 1) spec slots key ts (table_weaker n (n + 1) spec slots (omega arith) h) (subst (λ (l : List Agg). AreStates (n + 1) (length l) ts) a s))

-- after a row of a key that is there
pub set_states_by : (n : ℕ) (spec : GroupSpec) (slots new : List GroupSlot) (test : List Value → Bool) (w : Option (List Tally)) (aggs : List Agg) → AllStates n spec slots → aggs ≡ spec.aggs → IfSome w (AreStates (n + 1) (length aggs))
    → new ≡ set_value test slots w → AllStates (n + 1) spec new
set_states_by n spec slots new test w aggs h a s e =
    subst (AllStates (n + 1) spec) (sym e) (states_set (n + 1) spec test w slots (subst (λ (l : List Agg). IfSome w (AreStates (n + 1) (length l))) a s) (table_weaker n (n + 1) spec slots (omega arith) h))

-- what stands for a key
pub found_states : (n : ℕ) (spec : GroupSpec) (slots : List GroupSlot) (test : List Value → Bool) (states : Option (List Tally)) (aggs : List Agg) → AllStates n spec slots → Some states ≡ lookup test slots → aggs ≡ spec.aggs
    → IfSome states (AreStates n (length aggs))
found_states n spec slots test states aggs h f a =
    subst (λ (l : List Agg). IfSome states (AreStates n (length l))) (sym a)
    (subst (λ (o : Option (Option (List Tally))). IfSome o (λ s. IfSome s (AreStates n (length spec.aggs)))) (sym f) (All-lookup (λ (s : Option (List Tally)). IfSome s (AreStates n (length spec.aggs))) test slots h))

pub first_states : (n : ℕ) (row : List Value) (aggs : List Agg) (ts : List Tally) → ts ≡ map (first_tally row) aggs → All (IsBounded 1) ts → AreStates (n + 1) (length aggs) ts
first_states n row aggs ts e h = record { each = ap length e ∙ length-map aggs (first_tally row); bounded = all_weaker 1 (n + 1) ts (omega arith) h }

pub on_err : {A B : Type 0} (r : Result A B) (P : Type 0) → P → OnErr r P
on_err (Ok a) P p = tt
on_err (Err b) P p = p
