-- Turns in rounds: what each stream brings in them.
use Rattle.std.proofs.Common.{ℕ, zero, suc, ◌+◌, ◌<◌, ◌≤◌, Bool, cond, List, [], ◌∷◌, ◌++◌, ◌≡◌, map, filter, length, get_or, refl, sym, ap, ◌∙◌, inl, inr, eqb, arith}
use Rattle.std.proofs.lemmas.Bool.{eq-eqb, ne_eqb}
use Rattle.std.proofs.lemmas.List.Elements.{filter-append}
use Rattle.pj_shape.specs.declared.columns.Column.{Column}
use Rattle.pj_events.specs.Patterns.{all_wild}
use Rattle.pj_events.specs.Join.{In, Element, Punct}
use Rattle.pj_events.specs.Plan.{Node, operator_at}
use Rattle.pj_events.specs.OneThread.{Turn, turns_of, heads, tails, rounds, longest, in_rounds, schema_of, all_turns}
use Rattle.pj_value.proofs.Members.{In-append_cases, In-map}

-- the turns of one stream
abbrev pub mine : ℕ → List Turn → List Turn
mine s turns = filter (λ t. eqb t.stream s) turns

-- the lists are those of the streams from this number on
abbrev pub AreTagged : ℕ → List (List Turn) → Type 0
AreTagged k [] = Unit {0}
AreTagged k (xs ∷ lists) = ((t : Turn) → In t xs → t.stream ≡ k) × AreTagged (k + 1) lists

pub tails-tagged : (k : ℕ) (lists : List (List Turn)) → AreTagged k lists → AreTagged k (tails lists)
tails-tagged k [] a = tt
tails-tagged k ([] ∷ lists) a = (a.0, tails-tagged (k + 1) lists a.1)
tails-tagged k ((x ∷ xs) ∷ lists) a = (λ t h. a.0 t (inr h), tails-tagged (k + 1) lists a.1)

pub length-tails : (lists : List (List Turn)) → length (tails lists) ≡ length lists
length-tails [] = refl
length-tails ([] ∷ lists) = ap suc (length-tails lists)
length-tails ((x ∷ xs) ∷ lists) = ap suc (length-tails lists)

-- no first item is of a stream below
pub none-below : (k s : ℕ) (lists : List (List Turn)) → AreTagged k lists → s < k → mine s (heads lists) ≡ []
none-below k s [] a lt = refl
none-below k s ([] ∷ lists) a lt = none-below (k + 1) s lists a.1 (omega arith)
none-below k s ((x ∷ xs) ∷ lists) a lt =
    ap (λ (b : Bool). cond b (x ∷ mine s (heads lists)) (mine s (heads lists))) (ne_eqb x.stream s (λ e. omega (arith, e, a.0 x (inl refl))))
    ∙ none-below (k + 1) s lists a.1 (omega arith)

-- the first item of a stream and the others are its list
pub mine-heads : (k i : ℕ) (lists : List (List Turn)) → AreTagged k lists → i < length lists → mine (k + i) (heads lists) ++ get_or (tails lists) i [] ≡ get_or lists i []
mine-heads k i [] a lt = absurd (omega arith)
mine-heads k zero ([] ∷ lists) a lt = ap (λ (xs : List Turn). xs ++ []) (none-below (k + 1) (k + 0) lists a.1 (omega arith))
mine-heads k zero ((x ∷ xs) ∷ lists) a lt =
    ap (λ (b : Bool). cond b (x ∷ mine (k + 0) (heads lists)) (mine (k + 0) (heads lists)) ++ xs) (eq-eqb x.stream (k + 0) (let e = a.0 x (inl refl) in omega (arith, e)))
    ∙ ap (λ (ys : List Turn). (x ∷ ys) ++ xs) (none-below (k + 1) (k + 0) lists a.1 (omega arith))
mine-heads k (suc i) ([] ∷ lists) a lt =
    let z : k + suc i ≡ k + 1 + i = omega arith in
    ap (λ (s : ℕ). mine s (heads lists) ++ get_or (tails lists) i []) z ∙ mine-heads (k + 1) i lists a.1 (omega arith)
mine-heads k (suc i) ((x ∷ xs) ∷ lists) a lt =
    let z : k + suc i ≡ k + 1 + i = omega arith in
    ap (λ (b : Bool). cond b (x ∷ mine (k + suc i) (heads lists)) (mine (k + suc i) (heads lists)) ++ get_or (tails lists) i []) (ne_eqb x.stream (k + suc i) (λ e. omega (arith, e, a.0 x (inl refl))))
    ∙ ap (λ (s : ℕ). mine s (heads lists) ++ get_or (tails lists) i []) z ∙ mine-heads (k + 1) i lists a.1 (omega arith)

tails-shorter : (i n : ℕ) (lists : List (List Turn)) → length (get_or lists i []) ≤ suc n → length (get_or (tails lists) i []) ≤ n
tails-shorter i n [] le = omega arith
tails-shorter zero n ([] ∷ lists) le = omega arith
tails-shorter zero n ((x ∷ xs) ∷ lists) le = omega arith
tails-shorter (suc i) n ([] ∷ lists) le = tails-shorter i n lists le
tails-shorter (suc i) n ((x ∷ xs) ∷ lists) le = tails-shorter i n lists le

empty-if : {A : Type 0} (xs : List A) → length xs ≤ 0 → [] ≡ xs
empty-if [] le = refl
empty-if (x ∷ xs) le = absurd (omega arith)

mine-rounds : (n k i : ℕ) (lists : List (List Turn)) → AreTagged k lists → i < length lists → length (get_or lists i []) ≤ n → mine (k + i) (rounds n lists) ≡ get_or lists i []
mine-rounds zero k i lists a lt le = empty-if (get_or lists i []) le
mine-rounds (suc n) k i lists a lt le =
    filter-append (λ t. eqb t.stream (k + i)) (heads lists) (rounds n (tails lists))
    ∙ ap (λ (ys : List Turn). mine (k + i) (heads lists) ++ ys) (mine-rounds n k i (tails lists) (tails-tagged k lists a) (omega (arith, lt, length-tails lists)) (tails-shorter i n lists le))
    ∙ mine-heads k i lists a lt

longest-above : (i : ℕ) (lists : List (List Turn)) → length (get_or lists i []) ≤ longest lists
longest-above i [] = omega arith
longest-above zero (xs ∷ lists) = omega arith
longest-above (suc i) (xs ∷ lists) = let r = longest-above i lists in omega arith

-- the turns of each stream in rounds are its list
pub mine-in_rounds : (s : ℕ) (lists : List (List Turn)) → AreTagged 0 lists → s < length lists → mine s (in_rounds lists) ≡ get_or lists s []
mine-in_rounds s lists a lt =
    let z : s ≡ 0 + s = omega arith in
    ap (λ (n : ℕ). mine n (in_rounds lists)) z ∙ mine-rounds (longest lists) 0 s lists a lt (longest-above s lists)

-- ---- every turn is of a stream

abbrev AreBelow : ℕ → List Turn → Type 0
AreBelow n turns = (t : Turn) → In t turns → t.stream < n

heads-below : (k : ℕ) (lists : List (List Turn)) → AreTagged k lists → AreBelow (k + length lists) (heads lists)
heads-below k [] a t h = absurd h
heads-below k ([] ∷ lists) a t h = let r = heads-below (k + 1) lists a.1 t h in omega arith
heads-below k ((x ∷ xs) ∷ lists) a t (inl q) = omega (arith, a.0 x (inl refl), ap (λ (u : Turn). u.stream) q)
heads-below k ((x ∷ xs) ∷ lists) a t (inr h) = let r = heads-below (k + 1) lists a.1 t h in omega arith

rounds-below : (n k : ℕ) (lists : List (List Turn)) → AreTagged k lists → AreBelow (k + length lists) (rounds n lists)
rounds-below zero k lists a t h = absurd h
rounds-below (suc n) k lists a t h = elim (In-append_cases t (heads lists) (rounds n (tails lists)) h) [
  | inl m ↦ heads-below k lists a t m
  | inr m ↦ let r = rounds-below n k (tails lists) (tails-tagged k lists a) t m in omega (arith, r, length-tails lists)
]

pub in_rounds-below : (lists : List (List Turn)) → AreTagged 0 lists → (t : Turn) → In t (in_rounds lists) → t.stream < length lists
in_rounds-below lists a t h = let r = rounds-below (longest lists) 0 lists a t h in omega arith

-- ---- the turns of all streams

turns-tagged : (s : ℕ) (schema : List Column) (es : List Element) (t : Turn) → In t (turns_of s schema es) → t.stream ≡ s
turns-tagged s schema es t h = elim (In-append_cases t (map (turn 0) es) (last ∷ []) h) [
  | inl m ↦ let r = In-map (turn 0) t es m in ap (λ (u : Turn). u.stream) (sym r.2)
  | inr m ↦ elim m [ inl q ↦ ap (λ (u : Turn). u.stream) (sym q) | inr q ↦ absurd q ]
]
  where
    turn : ℕ → Element → Turn
    turn mark e = record { stream = s; element = e; closing = mark }

    last : Turn
    last = turn 1 (Punct (all_wild (length schema)))

pub all-tagged : (plan : List Node) (k : ℕ) (places : List ℕ) (lists : List (List Element)) → AreTagged k (all_turns plan k places lists)
all-tagged plan k [] lists = tt
all-tagged plan k (p ∷ places) [] = (turns-tagged k (schema_of (operator_at plan p)) [], all-tagged plan (k + 1) places [])
all-tagged plan k (p ∷ places) (es ∷ lists) = (turns-tagged k (schema_of (operator_at plan p)) es, all-tagged plan (k + 1) places lists)

pub length-all : (plan : List Node) (k : ℕ) (places : List ℕ) (lists : List (List Element)) → length (all_turns plan k places lists) ≡ length places
length-all plan k [] lists = refl
length-all plan k (p ∷ places) [] = ap suc (length-all plan (k + 1) places [])
length-all plan k (p ∷ places) (es ∷ lists) = ap suc (length-all plan (k + 1) places lists)

pub all-at : (plan : List Node) (k i d : ℕ) (places : List ℕ) (lists : List (List Element)) → i < length places
    → get_or (all_turns plan k places lists) i [] ≡ turns_of (k + i) (schema_of (operator_at plan (get_or places i d))) (get_or lists i [])
all-at plan k i d [] lists lt = absurd (omega arith)
all-at plan k zero d (p ∷ places) [] lt = let z : k ≡ k + 0 = omega arith in ap (λ (s : ℕ). turns_of s (schema_of (operator_at plan p)) []) z
all-at plan k zero d (p ∷ places) (es ∷ lists) lt = let z : k ≡ k + 0 = omega arith in ap (λ (s : ℕ). turns_of s (schema_of (operator_at plan p)) es) z
all-at plan k (suc i) d (p ∷ places) [] lt =
    let z : k + 1 + i ≡ k + suc i = omega arith in
    all-at plan (k + 1) i d places [] (omega arith) ∙ ap (λ (s : ℕ). turns_of s (schema_of (operator_at plan (get_or places i d))) []) z
all-at plan k (suc i) d (p ∷ places) (es ∷ lists) lt =
    let z : k + 1 + i ≡ k + suc i = omega arith in
    all-at plan (k + 1) i d places lists (omega arith) ∙ ap (λ (s : ℕ). turns_of s (schema_of (operator_at plan (get_or places i d))) (get_or lists i [])) z
