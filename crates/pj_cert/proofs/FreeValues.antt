-- The free number and the free text are none of the values.
use Rattle.std.proofs.Common.{ℕ, zero, suc, ◌+◌, ◌<◌, ◌≤◌, ◌≡◌, ◌⊎◌, length, get_or, max, nat_lt, pos, negsuc, arith, Bool, true, false, cond, ◌||◌, List, [], ◌∷◌, ◌++◌, replicate, set, drop, get_or-set_other, get_or-set_same, refl, sym, ap, ◌∙◌, subst, inl, inr}
use Rattle.std.proofs.lemmas.Bool.{cases_eq, false_from_ne_true, false≢true, lt-ltb, ltb-true}
use Rattle.std.proofs.lemmas.List.{get_or-replicate, length-replicate}
use Rattle.std.proofs.Math.ListN.{length-set}
use Rattle.std.proofs.Math.Bool.{or_assoc}
use Rattle.pj_value.specs.Bags.{weigh}
use Rattle.pj_value.specs.declared.values.Value.{Value}
use Rattle.pj_value.specs.declared.values.Value.TheVariants.{Int, Text}
use Rattle.pj_value.specs.Lists.{In}
use Rattle.pj_value.specs.Values.{value_eq}
use Rattle.pj_value.proofs.Members.{any_at, any_from}
use Rattle.pj_value.proofs.Orders.{equal_if_same, same_if_equal}
use Rattle.pj_shape.specs.declared.columns.Instance.{Instance}
use Rattle.pj_graph.proofs.Steps.{drop_at}
use Rattle.pj_cert.specs.Instances.{constants_of}
use Rattle.pj_cert.specs.Fresh.{first_free, free_from, free_number, free_text, has_number, longest, text_length, with_mark, with_marks}
use Rattle.pj_cert.specs.Laws.{FindsLeastNumber, FindsText}

number_in : (values : List Value) (n : ℕ) → has_number values n ≡ true → In (Int (pos n)) values
number_in values n t =
    let r = any_at (value_eq (Int (pos n))) values t in
    subst (λ (v : Value). In v values) (sym (same_if_equal (Int (pos n)) r.0 r.2)) r.1

in_number : (values : List Value) (n : ℕ) → In (Int (pos n)) values → has_number values n ≡ true
in_number values n h = any_from (value_eq (Int (pos n))) values (Int (pos n)) h (equal_if_same (Int (pos n)) (Int (pos n)) refl)

-- ---- how many of the values are numbers from one on

abbrev is_from : ℕ → Value → ℕ
is_from n (Int (pos m)) = cond (nat_lt m n) 0 1
is_from n (Int (negsuc m)) = 0
is_from n (Text bytes) = 0

abbrev count_from : ℕ → List Value → ℕ
count_from n values = weigh (is_from n) values

one_at_most : (b : Bool) → cond b 0 1 ≤ 1
one_at_most true = omega arith
one_at_most false = omega arith

is_few : (n : ℕ) (v : Value) → is_from n v ≤ 1
is_few n (Int (pos m)) = one_at_most (nat_lt m n)
is_few n (Int (negsuc m)) = omega arith
is_few n (Text bytes) = omega arith

few_from : (n : ℕ) (values : List Value) → count_from n values ≤ length values
few_from n [] = omega arith
few_from n (v ∷ values) = omega (arith, is_few n v, few_from n values)

falls : (b c : Bool) → (b ≡ true → c ≡ true) → cond c 0 1 ≤ cond b 0 1
falls true true f = omega arith
falls true false f = absurd (false≢true (f refl))
falls false true f = omega arith
falls false false f = omega arith

fewer_one : (n : ℕ) (v : Value) → is_from (n + 1) v ≤ is_from n v
fewer_one n (Int (pos m)) =
    falls (nat_lt m n) (nat_lt m (n + 1)) (λ t. let lt : m < n = ltb-true m n t in lt-ltb m (n + 1) (omega (arith, lt)))
fewer_one n (Int (negsuc m)) = omega arith
fewer_one n (Text bytes) = omega arith

fewer_all : (n : ℕ) (values : List Value) → count_from (n + 1) values ≤ count_from n values
fewer_all n [] = omega arith
fewer_all n (v ∷ values) = omega (arith, fewer_one n v, fewer_all n values)

gone : (n : ℕ) → is_from (n + 1) (Int (pos n)) ≡ 0
gone n = ap (λ (b : Bool). cond b 0 1) (lt-ltb n (n + 1) (omega arith))

abbrev is_one : Bool → Type 0
is_one b = let n : ℕ = cond b 0 1 in n ≡ 1

here : (n : ℕ) → is_from n (Int (pos n)) ≡ 1
here n = go (nat_lt n n) refl
  where
    go : (b : Bool) → nat_lt n n ≡ b → is_one b
    go true t = absurd (let lt : n < n = ltb-true n n t in omega (arith, lt))
    go false t = refl

fewer : (n : ℕ) (values : List Value) → In (Int (pos n)) values → count_from (n + 1) values < count_from n values
fewer n [] h = absurd h
fewer n (v ∷ values) (inl e) = omega (arith, ap (is_from (n + 1)) e, ap (is_from n) e, gone n, here n, fewer_all n values)
fewer n (v ∷ values) (inr h) = omega (arith, fewer_one n v, fewer n values h)

-- ---- the free number

is_free : (values : List Value) (n more : ℕ) → count_from n values ≤ more → has_number values (free_from values n more) ≡ false
is_free values n zero few = go (has_number values n) refl
  where
    go : (b : Bool) → has_number values n ≡ b → b ≡ false
    go true t = absurd (omega (arith, few, fewer n values (number_in values n t)))
    go false t = refl
is_free values n (suc more) few = go (has_number values n) refl (is_free values (n + 1) more)
  where
    go : (b : Bool) → has_number values n ≡ b → (count_from (n + 1) values ≤ more → has_number values (free_from values (n + 1) more) ≡ false)
        → has_number values (cond b (free_from values (n + 1) more) n) ≡ false
    go true t ih = ih (omega (arith, few, fewer n values (number_in values n t)))
    go false t ih = t

taken_below : (values : List Value) (n more k : ℕ) → n ≤ k → k < free_from values n more → has_number values k ≡ true
taken_below values n zero k from lt = absurd (omega (arith, from, lt))
taken_below values n (suc more) k from lt = go (has_number values n) refl (taken_below values (n + 1) more k) lt
  where
    on : (k ≡ n) ⊎ (k ≡ n → ⊥) → has_number values n ≡ true → (n + 1 ≤ k → k < free_from values (n + 1) more → has_number values k ≡ true)
        → k < free_from values (n + 1) more → has_number values k ≡ true
    on (inl e) t ih below = ap (has_number values) e ∙ t
    on (inr ne) t ih below = ih (omega (arith, from, ne)) below

    go : (b : Bool) → has_number values n ≡ b → (n + 1 ≤ k → k < free_from values (n + 1) more → has_number values k ≡ true)
        → k < cond b (free_from values (n + 1) more) n → has_number values k ≡ true
    go true t ih below = on (cases_eq k n) t ih below
    go false t ih below = absurd (omega (arith, from, below))

pub number_is_free : (values : List Value) → In (Int (pos (free_number values))) values → ⊥
number_is_free values h =
    false≢true (sym (is_free values 0 (length values) (few_from 0 values)) ∙ in_number values (free_number values) h)

pub finds_least_number : FindsLeastNumber
finds_least_number values = (
  number_is_free values,
  λ n lt. number_in values n (taken_below values 0 (length values) n (omega arith) lt),
)

pub few_numbers : (values : List Value) (n more : ℕ) → free_from values n more ≤ n + more
few_numbers values n zero = omega arith
few_numbers values n (suc more) = go (has_number values n) (few_numbers values (n + 1) more)
  where
    go : (b : Bool) → free_from values (n + 1) more ≤ n + 1 + more → cond b (free_from values (n + 1) more) n ≤ n + suc more
    go true ih = omega (arith, ih)
    go false ih = omega arith

-- ---- the free text

no_longer : (values : List Value) (v : Value) → In v values → text_length v ≤ longest values
no_longer [] v h = absurd h
no_longer (w ∷ values) v (inl e) = omega (arith, ap text_length e)
no_longer (w ∷ values) v (inr h) = omega (arith, no_longer values v h)

pub text_is_free : FindsText
text_is_free values h = absurd (omega (arith, no_longer values (Text (free_text values)) h, length-replicate {A = ℕ} (longest values + 1) 97))

-- ---- the table of taken numbers

pub marks_both : (taken : List Bool) (vs ws : List Value) → with_marks taken (vs ++ ws) ≡ with_marks (with_marks taken vs) ws
marks_both taken [] ws = refl
marks_both taken (v ∷ vs) ws = marks_both (with_mark taken v) vs ws

-- the marks of one instance's constants more
pub marks_on : (taken more whole : List Bool) (listed : List Instance) (k : ℕ) (i : Instance) → with_marks taken (constants_of (drop k listed)) ≡ whole
    → k < length listed → i ≡ get_or listed k i → more ≡ with_marks taken i.constants → with_marks more (constants_of (drop (k + 1) listed)) ≡ whole
marks_on taken more whole listed k i e lt is f =
    ap (λ (t : List Bool). with_marks t (constants_of (drop (k + 1) listed))) f
    ∙ (sym (marks_both taken i.constants (constants_of (drop (k + 1) listed)))
    ∙ (sym (ap (λ (l : List Instance). with_marks taken (constants_of l)) (drop_at listed k i lt is))
    ∙ e))

pub longest_both : (vs ws : List Value) → longest (vs ++ ws) ≡ max (longest vs) (longest ws)
longest_both [] ws = omega arith
longest_both (v ∷ vs) ws = omega (arith, longest_both vs ws)

-- the longest text of one instance's constants more
pub longest_on : (most more whole : ℕ) (listed : List Instance) (k : ℕ) (i : Instance) → max most (longest (constants_of (drop k listed))) ≡ whole
    → k < length listed → i ≡ get_or listed k i → more ≡ max most (longest i.constants) → max more (longest (constants_of (drop (k + 1) listed))) ≡ whole
longest_on most more whole listed k i e lt is f =
    omega (arith, e, f, ap (λ (l : List Instance). longest (constants_of l)) (drop_at listed k i lt is), longest_both i.constants (constants_of (drop (k + 1) listed)))

mark_length : (taken : List Bool) (v : Value) → length (with_mark taken v) ≡ length taken
mark_length taken (Int (pos n)) = length-set taken n true
mark_length taken (Int (negsuc n)) = refl
mark_length taken (Text bytes) = refl

marks_length : (taken : List Bool) (vs : List Value) → length (with_marks taken vs) ≡ length taken
marks_length taken [] = refl
marks_length taken (v ∷ vs) = marks_length (with_mark taken v) vs ∙ mark_length taken v

or_nothing : (b : Bool) → b ≡ (b || false)
or_nothing true = refl
or_nothing false = refl

or_other : (b c : Bool) → c ≡ false → b ≡ (b || c)
or_other b c e = or_nothing b ∙ ap (λ (d : Bool). b || d) (sym e)

or_true : (b c : Bool) → c ≡ true → true ≡ (b || c)
or_true true c e = refl
or_true false c e = sym e

no_number : (k : ℕ) (v : Value) → (Int (pos k) ≡ v → ⊥) → value_eq (Int (pos k)) v ≡ false
no_number k v ne = false_from_ne_true (value_eq (Int (pos k)) v) (λ t. ne (same_if_equal (Int (pos k)) v t))

mark_at : (taken : List Bool) (v : Value) (k : ℕ) → k < length taken → get_or (with_mark taken v) k false ≡ (get_or taken k false || value_eq (Int (pos k)) v)
mark_at taken (Int (pos n)) k lt = go (cases_eq k n)
  where
    go : (k ≡ n) ⊎ (k ≡ n → ⊥) → get_or (set taken n true) k false ≡ (get_or taken k false || value_eq (Int (pos k)) (Int (pos n)))
    go (inl e) =
        sym (ap (λ (m : ℕ). get_or (set taken m true) k false) e)
        ∙ (get_or-set_same taken k true false lt
        ∙ or_true (get_or taken k false) (value_eq (Int (pos k)) (Int (pos n))) (equal_if_same (Int (pos k)) (Int (pos n)) (ap (λ (m : ℕ). let w : Value = Int (pos m) in w) e)))
    go (inr ne) =
        get_or-set_other taken n k true false ne
        ∙ or_other (get_or taken k false) (value_eq (Int (pos k)) (Int (pos n))) (no_number k (Int (pos n)) (λ q. ne cc))
mark_at taken (Int (negsuc n)) k lt = or_other (get_or taken k false) (value_eq (Int (pos k)) (Int (negsuc n))) (no_number k (Int (negsuc n)) (λ q. cc))
mark_at taken (Text bytes) k lt = or_nothing (get_or taken k false)

marks_at : (taken : List Bool) (vs : List Value) (k : ℕ) → k < length taken → get_or (with_marks taken vs) k false ≡ (get_or taken k false || has_number vs k)
marks_at taken [] k lt = or_nothing (get_or taken k false)
marks_at taken (v ∷ vs) k lt =
    marks_at (with_mark taken v) vs k (omega (arith, lt, mark_length taken v))
    ∙ (ap (λ (b : Bool). b || has_number vs k) (mark_at taken v k lt)
    ∙ or_assoc (get_or taken k false) (value_eq (Int (pos k)) v) (has_number vs k))

first_at : (marks : List Bool) (n : ℕ) (values : List Value) → ((k : ℕ) → k < length marks → get_or marks k false ≡ has_number values (n + k))
    → first_free n marks ≡ free_from values n (length marks)
first_at [] n values f = refl
first_at (m ∷ marks) n values f =
    ap (λ (b : Bool). cond b (first_free (n + 1) marks) n) (f 0 (omega arith) ∙ ap (has_number values) at)
    ∙ ap (λ (r : ℕ). cond (has_number values n) r n) (first_at marks (n + 1) values (λ k lt.
    let same : n + suc k ≡ n + 1 + k = omega arith in
    f (suc k) (omega (arith, lt)) ∙ ap (has_number values) same))
  where
    at : n + 0 ≡ n
    at = omega arith

-- the first number that is not marked in the table of all values is the least that is none of them
pub first_is_free : (values : List Value) → first_free 0 (with_marks (replicate (length values) false) values) ≡ free_number values
first_is_free values =
    first_at (with_marks (replicate (length values) false) values) 0 values each
    ∙ ap (free_from values 0) (marks_length (replicate (length values) false) values ∙ length-replicate {A = Bool} (length values) false)
  where
    each : (k : ℕ) → k < length (with_marks (replicate (length values) false) values) → get_or (with_marks (replicate (length values) false) values) k false ≡ has_number values (0 + k)
    each k lt =
        let within : k < length values = omega (arith, lt, marks_length (replicate (length values) false) values, length-replicate {A = Bool} (length values) false) in
        let at : k ≡ 0 + k = omega arith in
        marks_at (replicate (length values) false) values k (omega (arith, within, length-replicate {A = Bool} (length values) false))
        ∙ (ap (λ (b : Bool). b || has_number values k) (get_or-replicate (length values) k false false within)
        ∙ ap (has_number values) at)
