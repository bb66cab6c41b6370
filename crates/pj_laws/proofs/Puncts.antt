-- After a complete run each place has handed up its punctuations.
use Rattle.std.proofs.Common.{ℕ, zero, suc, ◌+◌, ◌<◌, ◌≤◌, Bool, true, false, cond, not, List, [], ◌∷◌, ◌++◌, ◌≡◌, map, filter, flat_map, length, get_or, refl, sym, ap, ap₂, ◌∙◌, subst, inl, inr, eqb, arith, append_assoc, append-nil, length-append}
use Rattle.pj_value.proofs.Bags.{weigh-append, weigh-map, weigh-split}
use Rattle.pj_value.proofs.Members.{In-filter, In-append_cases, in-place, map-at}
use Rattle.pj_pattern.specs.Columns.{others_wild, picked_patterns}
use Rattle.std.proofs.lemmas.Bool.{eq-eqb, ne_eqb, cases_eq, false≢true, not-true}
use Rattle.std.proofs.lemmas.List.{length-map, length_push, get_or_append_left, get_or_at}
use Rattle.pj_events.specs.Patterns.{Pattern, all_wild, matches_row}
use Rattle.pj_value.specs.Bags.{weigh, SameBag}
use Rattle.pj_events.specs.Join.{In, Value, PunctAt, JoinData, JoinState, Step, TupleComes, PunctComes, Take, Give, Sweep, start, step, run, inputs, arity, AreLegalSteps, Element, Tuple, Punct, widened, puncts_of}
use Rattle.pj_events.specs.Operators.{select_hands, project_hands, GroupSpec, group_rows, picked_cells, Sent, UnionState, all_sent_from, union_after}
use Rattle.pj_events.specs.Plan.{Operator, Stream, Select, Project, Union, Join, Group, Node, Local, Comes, Fed, Own, after_all, hands_all, IsOwn, PlanStep, plan_run, handed, fed_to, IsDone, IsClosedBy, IsCompleteRun, IsWellMade, node_width, ArePlanned, AreStepsLegal, nowhere}
use Rattle.pj_events.specs.Punctuations.{widened_at, join_puncts, project_puncts, group_punct, group_puncts, operator_puncts, puncts_in, puncts_from}
use Rattle.pj_laws.proofs.Glue.{from_input, locals_all, handed-is, handed-front, from-is, operator-is}
use Rattle.pj_laws.proofs.Operators.{AllFit, AreWithin, AreOwnAllowed, join_steps, join-hands, join-after, join-legal}
use Rattle.pj_join_laws.proofs.Complete.{hands_up-all_puncts}
use Rattle.pj_laws.proofs.UnionsAndGroups.{group_all, group-hands, from-first, from-tail}
use Rattle.pj_laws.proofs.Whole.{IsGood, AreLocalsAllowed, AreGood, locals-allowed, within-all, select-hands, project-hands, fed-join, node-good, front-good}
use Rattle.pj_laws.proofs.Answers.{bag-filter, bag-map}
use Rattle.pj_laws.proofs.WholeAnswers.{fed_in, fed-is, stream-hands, own-of, one-list}
use Rattle.pj_laws.proofs.Closing.{HasWild, all-sent, WillBeWild, will-on}
use Rattle.pj_laws.proofs.Settled.{AreWild, node-wild, front-wild}

-- ---- operators of one input

rows-silent : {A : Type 0} (g : A → List Value) (xs : List A) (es : List Element) → puncts_of (map (λ x. Tuple (g x)) xs ++ es) ≡ puncts_of es
rows-silent g [] es = refl
rows-silent g (x ∷ xs) es = rows-silent g xs es

select-puncts : (test : List Pattern) (es : List Element) → puncts_of (flat_map (select_hands test) es) ≡ puncts_of es
select-puncts test [] = refl
select-puncts test (Punct ps ∷ es) = ap (λ (list : List (List Pattern)). ps ∷ list) (select-puncts test es)
select-puncts test (Tuple row ∷ es) = go (matches_row test row) ∙ select-puncts test es
  where
    go : (b : Bool) → puncts_of (cond b (Tuple row ∷ []) [] ++ flat_map (select_hands test) es) ≡ puncts_of (flat_map (select_hands test) es)
    go true = refl
    go false = refl

project-puncts : (columns : List ℕ) (es : List Element) → puncts_of (flat_map (project_hands columns) es) ≡ project_puncts columns (puncts_of es)
project-puncts columns [] = refl
project-puncts columns (Tuple row ∷ es) = project-puncts columns es
project-puncts columns (Punct ps ∷ es) = go (others_wild columns 0 ps) (project-puncts columns es)
  where
    rest : List (List Pattern)
    rest = filter (others_wild columns 0) (puncts_of es)

    go : (b : Bool) → puncts_of (flat_map (project_hands columns) es) ≡ map (picked_patterns columns) rest
        → puncts_of (cond b (Punct (picked_patterns columns ps) ∷ []) [] ++ flat_map (project_hands columns) es) ≡ map (picked_patterns columns) (cond b (ps ∷ rest) rest)
    go true ih = ap (λ (list : List (List Pattern)). picked_patterns columns ps ∷ list) ih
    go false ih = ih

group-puncts : (spec : GroupSpec) (rows : List (List Value)) (es : List Element) → puncts_of (group_all spec rows es) ≡ group_puncts spec (puncts_of es)
group-puncts spec rows [] = refl
group-puncts spec rows (Tuple row ∷ es) = group-puncts spec (rows ++ row ∷ []) es
group-puncts spec rows (Punct ps ∷ es) = go (others_wild spec.keys 0 ps) (group-puncts spec rows es) (group-puncts spec left es)
  where
    left : List (List Value)
    left = filter (λ row. not (matches_row (picked_patterns spec.keys ps) (picked_cells spec.keys row))) rows

    due : List (List Value)
    due = group_rows spec (filter (λ row. matches_row (picked_patterns spec.keys ps) (picked_cells spec.keys row)) rows)

    rest : List (List Pattern)
    rest = filter (others_wild spec.keys 0) (puncts_of es)

    go : (b : Bool) → puncts_of (group_all spec rows es) ≡ map (group_punct spec) rest → puncts_of (group_all spec left es) ≡ map (group_punct spec) rest
        → puncts_of (cond b (map Tuple due ++ Punct (group_punct spec ps) ∷ []) [] ++ group_all spec (cond b left rows) es) ≡ map (group_punct spec) (cond b (ps ∷ rest) rest)
    go true f g =
        ap puncts_of (append_assoc (map Tuple due) (Punct (group_punct spec ps) ∷ []) (group_all spec left es))
        ∙ rows-silent (λ row. row) due (Punct (group_punct spec ps) ∷ group_all spec left es)
        ∙ ap (λ (list : List (List Pattern)). group_punct spec ps ∷ list) g
    go false f g = f

-- ---- what comes from several inputs

-- what the punctuations of the inputs from k on weigh, each by its input
abbrev inputs_weigh : (ℕ → List Pattern → ℕ) → ℕ → ℕ → List Local → ℕ
inputs_weigh f k zero ls = 0
inputs_weigh f k (suc n) ls = weigh (f k) (puncts_of (from_input k ls)) + inputs_weigh f (k + 1) n ls

none-weigh : (f : ℕ → List Pattern → ℕ) (k n : ℕ) → inputs_weigh f k n [] ≡ 0
none-weigh f k zero = refl
none-weigh f k (suc n) = omega (arith, none-weigh f (k + 1) n)

-- where a step brings no punctuation, the inputs weigh the same
weigh-skip : (f : ℕ → List Pattern → ℕ) (k n : ℕ) (l : Local) (ls : List Local) → ((j : ℕ) → puncts_of (from_input j (l ∷ ls)) ≡ puncts_of (from_input j ls)) → inputs_weigh f k n (l ∷ ls) ≡ inputs_weigh f k n ls
weigh-skip f k zero l ls e = refl
weigh-skip f k (suc n) l ls e = ap₂ (λ (a b : ℕ). a + b) (ap (weigh (f k)) (e k)) (weigh-skip f (k + 1) n l ls e)

row-silent : (i : ℕ) (row : List Value) (ls : List Local) (j : ℕ) → puncts_of (from_input j (Comes i (Tuple row) ∷ ls)) ≡ puncts_of (from_input j ls)
row-silent i row ls j = go (eqb i j)
  where
    go : (b : Bool) → puncts_of (cond b (Tuple row ∷ from_input j ls) (from_input j ls)) ≡ puncts_of (from_input j ls)
    go true = refl
    go false = refl

weigh-past : (f : ℕ → List Pattern → ℕ) (k n i : ℕ) (e : Element) (ls : List Local) → i < k → inputs_weigh f k n (Comes i e ∷ ls) ≡ inputs_weigh f k n ls
weigh-past f k zero i e ls lt = refl
weigh-past f k (suc n) i e ls lt =
    ap₂ (λ (a b : ℕ). a + b) (ap (λ b. weigh (f k) (puncts_of (cond b (e ∷ from_input k ls) (from_input k ls)))) (ne_eqb i k (λ q. let l : k < k = omega (arith, lt, q) in omega arith)))
    (weigh-past f (k + 1) n i e ls (omega arith))

weigh-punct : (f : ℕ → List Pattern → ℕ) (k n i : ℕ) (ps : List Pattern) (ls : List Local) → k ≤ i → i < k + n → inputs_weigh f k n (Comes i (Punct ps) ∷ ls) ≡ f i ps + inputs_weigh f k n ls
weigh-punct f k zero i ps ls a b = absurd (omega arith)
weigh-punct f k (suc n) i ps ls a b = elim (cases_eq i k) [
  | inl q ↦ omega (arith, ap (λ (b' : Bool). weigh (f k) (puncts_of (cond b' (Punct ps ∷ from_input k ls) (from_input k ls)))) (eq-eqb i k q), ap (λ (j : ℕ). f j ps) q, weigh-past f (k + 1) n i (Punct ps) ls (omega arith))
  | inr ne ↦ omega (arith, ap (λ (b' : Bool). weigh (f k) (puncts_of (cond b' (Punct ps ∷ from_input k ls) (from_input k ls)))) (ne_eqb i k ne), weigh-punct f (k + 1) n i ps ls (omega arith) (omega arith))
]

-- what these lists weigh, each by its place
abbrev lists_weigh : (ℕ → List Pattern → ℕ) → ℕ → List (List (List Pattern)) → ℕ
lists_weigh f k [] = 0
lists_weigh f k (l ∷ lists) = weigh (f k) l + lists_weigh f (k + 1) lists

inputs-lists : (f : ℕ → List Pattern → ℕ) (k : ℕ) (lists : List (List (List Pattern))) (ls : List Local) → ((j : ℕ) → j < length lists → SameBag (puncts_of (from_input (k + j) ls)) (get_or lists j []))
    → inputs_weigh f k (length lists) ls ≡ lists_weigh f k lists
inputs-lists f k [] ls same = refl
inputs-lists f k (l ∷ lists) ls same =
    let z : k + 0 ≡ k = omega arith in
    ap₂ (λ (a b : ℕ). a + b) (sym (ap (λ j. weigh (f k) (puncts_of (from_input j ls))) z) ∙ same 0 (omega arith) (f k))
    (inputs-lists f (k + 1) lists ls (λ j lt. let q : k + suc j ≡ k + 1 + j = omega arith in subst (λ (i : ℕ). SameBag (puncts_of (from_input i ls)) (get_or lists j [])) q (same (suc j) (omega arith))))

-- ---- a union

union-lists : (f : List Pattern → ℕ) (k : ℕ) (lists : List (List (List Pattern))) → lists_weigh (λ j. f) k lists ≡ weigh f (flat_map (λ l. l) lists)
union-lists f k [] = refl
union-lists f k (l ∷ lists) = omega (arith, union-lists f (k + 1) lists, weigh-append f l (flat_map (λ l. l) lists))

sent-puncts : (qs : List Sent) (es : List Element) → puncts_of (map (λ q. Punct q.patterns) qs ++ es) ≡ map (λ q. q.patterns) qs ++ puncts_of es
sent-puncts [] es = refl
sent-puncts (q ∷ qs) es = ap (λ (list : List (List Pattern)). q.patterns ∷ list) (sent-puncts qs es)

abbrev sent_weight : (List Pattern → ℕ) → Sent → ℕ
sent_weight f q = f q.patterns

-- where each input will have sent a punctuation of wildcards alone, all that comes and all that waits is handed up
union-puncts : (f : List Pattern → ℕ) (width n : ℕ) (u : UnionState) (ls : List Local) → AreWithin n ls → ((k : ℕ) → k < n → WillBeWild width u ls k)
    → ((k : ℕ) → k < n → AllFit width (from_input k ls))
    → ((q : Sent) → In q u.waiting → (all_sent_from 0 n u.came q ≡ false) × (length q.patterns ≡ width))
    → weigh f (puncts_of (hands_all (Union n u) ls)) ≡ inputs_weigh (λ j. f) 0 n ls + weigh (sent_weight f) u.waiting
union-puncts f width n u [] w will fit wait = omega (arith, none-weigh (λ j. f) 0 n, none u.waiting wait)
  where
    none : (qs : List Sent) → ((q : Sent) → In q qs → (all_sent_from 0 n u.came q ≡ false) × (length q.patterns ≡ width)) → weigh (sent_weight f) qs ≡ 0
    none [] h = refl
    none (q ∷ qs) h = absurd (false≢true (sym (h q (inl refl)).0 ∙ all-sent 0 n u.came q width (h q (inl refl)).1 (λ j a b. elim (will j (omega arith)) [ inl c ↦ c | inr m ↦ absurd m ])))
union-puncts f width n u (Fed e ∷ ls) w will fit wait = union-puncts f width n u ls w will fit wait ∙ ap (λ (m : ℕ). m + weigh (sent_weight f) u.waiting) (sym (weigh-skip (λ j. f) 0 n (Fed e) ls (λ j. refl)))
union-puncts f width n u (Own s ∷ ls) w will fit wait = union-puncts f width n u ls w will fit wait ∙ ap (λ (m : ℕ). m + weigh (sent_weight f) u.waiting) (sym (weigh-skip (λ j. f) 0 n (Own s) ls (λ j. refl)))
union-puncts f width n u (Comes i (Tuple row) ∷ ls) w will fit wait =
    union-puncts f width n u ls w.1 (λ k lt. elim (will k lt) [ inl c ↦ inl c | inr m ↦ inr (skip k m) ]) (λ k lt e h. fit k lt e (later k e h)) wait
    ∙ ap (λ (m : ℕ). m + weigh (sent_weight f) u.waiting) (sym (weigh-skip (λ j. f) 0 n (Comes i (Tuple row)) ls (row-silent i row ls)))
  where
    skip : (k : ℕ) → In (Punct (all_wild width)) (from_input k (Comes i (Tuple row) ∷ ls)) → HasWild width (from_input k ls)
    skip k m = go (eqb i k) m
      where
        go : (b : Bool) → In (Punct (all_wild width)) (cond b (Tuple row ∷ from_input k ls) (from_input k ls)) → HasWild width (from_input k ls)
        go false x = x
        go true (inl q) = cc
        go true (inr x) = x

    later : (k : ℕ) (e : Element) → In e (from_input k ls) → In e (from_input k (Comes i (Tuple row) ∷ ls))
    later k e h = from-tail k i (Tuple row) ls e h
union-puncts f width n u (Comes i (Punct ps) ∷ ls) w will fit wait =
    ap (weigh f) (sent-puncts (filter all (u.waiting ++ new ∷ [])) (hands_all (Union n next) ls))
    ∙ omega (
      arith,
      weigh-append f (map (λ (q : Sent). q.patterns) (filter all (u.waiting ++ new ∷ []))) (puncts_of (hands_all (Union n next) ls)),
      weigh-map f (λ (q : Sent). q.patterns) (filter all (u.waiting ++ new ∷ [])),
      weigh-split (sent_weight f) all (u.waiting ++ new ∷ []),
      weigh-append (sent_weight f) u.waiting (new ∷ []),
      weigh-punct (λ j. f) 0 n i ps ls (omega arith) (omega (arith, w.0)),
      union-puncts f width n next ls w.1 (λ k lt. will-on width n u i ps ls k (will k lt)) (λ k lt e h. fit k lt e (from-tail k i (Punct ps) ls e h)) still,
    )
  where
    new : Sent
    new = record { input = i; patterns = ps }

    next : UnionState
    next = union_after n u i (Punct ps)

    all : Sent → Bool
    all = all_sent_from 0 n (u.came ++ new ∷ [])

    long : (q : Sent) → In q (u.waiting ++ new ∷ []) → length q.patterns ≡ width
    long q h = elim (In-append_cases q u.waiting (new ∷ []) h) [ inl k ↦ (wait q k).1 | inr k ↦ mine k ]
      where
        mine : In q (new ∷ []) → length q.patterns ≡ width
        mine (inl e) = ap (λ (z : Sent). length z.patterns) (sym e) ∙ fit i w.0 (Punct ps) (subst (λ (es : List Element). In (Punct ps) es) (sym (from-first i (Punct ps) ls)) (inl refl))
        mine (inr e) = absurd e

    still : (q : Sent) → In q next.waiting → (all q ≡ false) × (length q.patterns ≡ width)
    still q h = let r = In-filter (λ p. not (all p)) q (u.waiting ++ new ∷ []) h in (not-true (all q) r.1, long q r.0)

-- ---- a join

join-lists : (spec : JoinData) (f : List Pattern → ℕ) (k : ℕ) (lists : List (List (List Pattern))) → lists_weigh (λ j ps. f (widened_at spec j ps)) k lists ≡ weigh f (join_puncts spec k lists)
join-lists spec f k [] = refl
join-lists spec f k (l ∷ lists) = omega (arith, join-lists spec f (k + 1) lists, weigh-append f (map (widened_at spec k) l) (join_puncts spec (k + 1) lists), weigh-map f (widened_at spec k) l)

abbrev widened_weight : JoinData → (List Pattern → ℕ) → PunctAt → ℕ
widened_weight spec f p = f (widened spec p)

abbrev input_weight : JoinData → (List Pattern → ℕ) → ℕ → List Pattern → ℕ
input_weight spec f input patterns = f (widened_at spec input patterns)

-- the punctuations that arrived are those that came from the inputs
arrived-puncts : (spec : JoinData) (f : List Pattern → ℕ) (s : JoinState) (ls : List Local) → AreWithin (inputs spec) ls → ((st : Step) → In (Own st) ls → IsOwn st)
    → weigh (widened_weight spec f) (run spec s (join_steps ls)).puncts ≡ inputs_weigh (input_weight spec f) 0 (inputs spec) ls + weigh (widened_weight spec f) s.puncts
arrived-puncts spec f s [] w o = omega (arith, none-weigh (input_weight spec f) 0 (inputs spec))
arrived-puncts spec f s (Fed e ∷ ls) w o =
    arrived-puncts spec f s ls w (λ st h. o st (inr h)) ∙ ap (λ (m : ℕ). m + weigh (widened_weight spec f) s.puncts) (sym (weigh-skip (input_weight spec f) 0 (inputs spec) (Fed e) ls (λ j. refl)))
arrived-puncts spec f s (Own (TupleComes i row) ∷ ls) w o = absurd (o (TupleComes i row) (inl refl))
arrived-puncts spec f s (Own (PunctComes i ps) ∷ ls) w o = absurd (o (PunctComes i ps) (inl refl))
arrived-puncts spec f s (Own (Take u) ∷ ls) w o =
    arrived-puncts spec f (step spec s (Take u)) ls w (λ st h. o st (inr h)) ∙ ap (λ (m : ℕ). m + weigh (widened_weight spec f) s.puncts) (sym (weigh-skip (input_weight spec f) 0 (inputs spec) (Own (Take u)) ls (λ j. refl)))
arrived-puncts spec f s (Own (Give u) ∷ ls) w o =
    arrived-puncts spec f (step spec s (Give u)) ls w (λ st h. o st (inr h)) ∙ ap (λ (m : ℕ). m + weigh (widened_weight spec f) s.puncts) (sym (weigh-skip (input_weight spec f) 0 (inputs spec) (Own (Give u)) ls (λ j. refl)))
arrived-puncts spec f s (Own (Sweep i) ∷ ls) w o =
    arrived-puncts spec f (step spec s (Sweep i)) ls w (λ st h. o st (inr h)) ∙ ap (λ (m : ℕ). m + weigh (widened_weight spec f) s.puncts) (sym (weigh-skip (input_weight spec f) 0 (inputs spec) (Own (Sweep i)) ls (λ j. refl)))
arrived-puncts spec f s (Comes i (Tuple row) ∷ ls) w o =
    arrived-puncts spec f (step spec s (TupleComes i row)) ls w.1 (λ st h. o st (inr h))
    ∙ ap (λ (m : ℕ). m + weigh (widened_weight spec f) s.puncts) (sym (weigh-skip (input_weight spec f) 0 (inputs spec) (Comes i (Tuple row)) ls (row-silent i row ls)))
arrived-puncts spec f s (Comes i (Punct ps) ∷ ls) w o =
    omega (
      arith,
      arrived-puncts spec f (step spec s (PunctComes i ps)) ls w.1 (λ st h. o st (inr h)),
      weigh-append (widened_weight spec f) s.puncts (record { ticket = s.next; input = i; patterns = ps } ∷ []),
      weigh-punct (input_weight spec f) 0 (inputs spec) i ps ls (omega arith) (omega (arith, w.0)),
    )

join-all_puncts : (spec : JoinData) (ls : List Local) (lists : List (List (List Pattern))) → length lists ≡ inputs spec → AreWithin (inputs spec) ls
    → AreLegalSteps spec start (join_steps ls) → ((st : Step) → In (Own st) ls → IsOwn st) → (run spec start (join_steps ls)).waiting ≡ []
    → ((k : ℕ) → k < inputs spec → SameBag (puncts_of (from_input k ls)) (get_or lists k []))
    → SameBag (puncts_of (hands_all (Join spec start) ls)) (join_puncts spec 0 lists)
join-all_puncts spec ls lists long w legal o done same f =
    ap (λ es. weigh f (puncts_of es)) (join-hands spec start ls)
    ∙ hands_up-all_puncts spec (join_steps ls) legal done f
    ∙ weigh-map f (widened spec) (run spec start (join_steps ls)).puncts
    ∙ arrived-puncts spec f start ls w o
    ∙ (let z : inputs_weigh (input_weight spec f) 0 (inputs spec) ls + 0 ≡ inputs_weigh (input_weight spec f) 0 (inputs spec) ls = omega arith in z)
    ∙ ap (λ (n : ℕ). inputs_weigh (input_weight spec f) 0 n ls) (sym long)
    ∙ inputs-lists (input_weight spec f) 0 lists ls (λ j lt. let z : j ≡ 0 + j = omega arith in subst (λ (i : ℕ). SameBag (puncts_of (from_input i ls)) (get_or lists j [])) z (same j (omega (arith, lt, long))))
    ∙ join-lists spec f 0 lists

-- ---- every operator

operator-all_puncts : (m : Operator) (ws : List ℕ) (ls : List Local) (lists : List (List (List Pattern))) → IsWellMade m ws → AreWithin (length ws) ls → AreLocalsAllowed m ls → IsDone (after_all m ls)
    → ((k : ℕ) → k < length ws → IsGood (get_or ws k 0) (from_input k ls) × HasWild (get_or ws k 0) (from_input k ls)) → length lists ≡ length ws
    → ((k : ℕ) → k < length ws → SameBag (puncts_of (from_input k ls)) (get_or lists k []))
    → SameBag (puncts_of (hands_all m ls)) (operator_puncts m (puncts_of (fed_in ls)) lists)
operator-all_puncts (Stream schema sent) ws ls lists made w a done flow long same g = ap (λ es. weigh g (puncts_of es)) (stream-hands schema sent ls)
operator-all_puncts (Select test) ws ls lists made w a done flow long same g =
    ap (λ es. weigh g (puncts_of es)) (select-hands test ls (subst (λ n. AreWithin n ls) made.0 w)) ∙ ap (weigh g) (select-puncts test (from_input 0 ls))
    ∙ same 0 (omega (arith, made.0)) g
    ∙ ap (weigh g) (sym (one-list lists (long ∙ made.0)))
operator-all_puncts (Project columns) ws ls lists made w a done flow long same g =
    ap (λ es. weigh g (puncts_of es)) (project-hands columns ls (subst (λ n. AreWithin n ls) made.0 w)) ∙ ap (weigh g) (project-puncts columns (from_input 0 ls))
    ∙ bag-map (picked_patterns columns) (filter test (puncts_of (from_input 0 ls))) (filter test (get_or lists 0 [])) (bag-filter test (puncts_of (from_input 0 ls)) (get_or lists 0 []) (same 0 (omega (arith, made.0)))) g
    ∙ ap (λ l. weigh g (project_puncts columns l)) (sym (one-list lists (long ∙ made.0)))
  where
    test : List Pattern → Bool
    test = others_wild columns 0
operator-all_puncts (Union n u) ws ls lists made w a done flow long same g =
    union-puncts g (get_or ws 0 0) n u ls (subst (λ n'. AreWithin n' ls) made.0 w) (λ k lt. inr (like k lt).1) (λ k lt. (like k lt).0.1)
    (λ q h. absurd (subst (λ (qs : List Sent). In q qs) made.3 h))
    ∙ ap (λ (qs : List Sent). inputs_weigh (λ j. g) 0 n ls + weigh (sent_weight g) qs) made.3
    ∙ (let z : inputs_weigh (λ j. g) 0 n ls + 0 ≡ inputs_weigh (λ j. g) 0 n ls = omega arith in z)
    ∙ ap (λ (n' : ℕ). inputs_weigh (λ j. g) 0 n' ls) (sym (long ∙ made.0))
    ∙ inputs-lists (λ j. g) 0 lists ls (λ j lt. let z : j ≡ 0 + j = omega arith in subst (λ (i : ℕ). SameBag (puncts_of (from_input i ls)) (get_or lists j [])) z (same j (omega (arith, lt, long))))
    ∙ union-lists g 0 lists
  where
    like : (k : ℕ) → k < n → IsGood (get_or ws 0 0) (from_input k ls) × HasWild (get_or ws 0 0) (from_input k ls)
    like k lt =
        let lt' : k < length ws = omega (arith, lt, made.0) in
        subst (λ (width : ℕ). IsGood width (from_input k ls) × HasWild width (from_input k ls)) (made.1 (get_or ws k 0) (in-place ws 0 k lt')) (flow k lt')
operator-all_puncts (Join spec s) ws ls lists made w a done flow long same h =
    subst (λ (z : JoinState). SameBag (puncts_of (hands_all (Join spec z) ls)) (join_puncts spec 0 lists)) (sym made.2)
    (join-all_puncts spec ls lists (long ∙ ap length made.0) within legal (own-of spec start ls mine) joined.1
    (λ k lt. same k (subst (λ (xs : List ℕ). k < length xs) (sym made.0) lt))) h
  where
    mine : AreOwnAllowed spec start ls
    mine = fed-join spec start ls (subst (λ (z : JoinState). AreLocalsAllowed (Join spec z) ls) made.2 a)

    within : AreWithin (inputs spec) ls
    within = subst (λ (xs : List ℕ). AreWithin (length xs) ls) made.0 w

    legal : AreLegalSteps spec start (join_steps ls)
    legal = join-legal spec start ls within mine
        (λ k lt. let g : IsGood (arity spec k) (from_input k ls) = subst (λ (xs : List ℕ). IsGood (get_or xs k 0) (from_input k ls)) made.0 (flow k (subst (λ (xs : List ℕ). k < length xs) (sym made.0) lt)).0 in
        record { clear = λ p hp q. absurd hp; lawful = g.0; fit = g.1 })

    joined : IsDone (Join spec (run spec start (join_steps ls)))
    joined = subst IsDone (join-after spec start ls) (subst (λ (z : JoinState). IsDone (after_all (Join spec z) ls)) made.2 done)
operator-all_puncts (Group spec rows) ws ls lists made w a done flow long same g =
    ap (λ es. weigh g (puncts_of es)) (group-hands spec rows ls (subst (λ n. AreWithin n ls) made.0 w)) ∙ ap (weigh g) (group-puncts spec rows (from_input 0 ls))
    ∙ bag-map (group_punct spec) (filter test (puncts_of (from_input 0 ls))) (filter test (get_or lists 0 [])) (bag-filter test (puncts_of (from_input 0 ls)) (get_or lists 0 []) (same 0 (omega (arith, made.0)))) g
    ∙ ap (λ l. weigh g (group_puncts spec l)) (sym (one-list lists (long ∙ made.0)))
  where
    test : List Pattern → Bool
    test = others_wild spec.keys 0

-- ---- the plan

-- each of these nodes hands up its punctuations
abbrev ArePuncts : List Node → List (List (List Pattern)) → List PlanStep → Type 0
ArePuncts front evs es = (n : ℕ) → n < length front → SameBag (puncts_of (handed n front es)) (get_or evs n [])

module _ (front : List Node) (ws : List ℕ) (evs : List (List (List Pattern))) (node : Node) (back : List Node) (es : List PlanStep) (long : length ws ≡ length front) (longe : length evs ≡ length front) where
  L : List Local
  L = locals_all front node es

  W : List ℕ
  W = map (λ m. get_or ws m 0) node.inputs

  pub node-puncts : ((m : ℕ) → In m node.inputs → m < length ws) → IsWellMade node.operator (map (λ m. get_or ws m 0) node.inputs) → AreStepsLegal (front ++ node ∷ back) es
      → IsDone (get_or (plan_run (front ++ node ∷ back) es) (length front) nowhere).operator → AreGood front ws es → AreWild front ws es → ArePuncts front evs es
      → SameBag (puncts_of (handed (length front) (front ++ node ∷ back) es)) (operator_puncts node.operator (puncts_of (fed_to (length evs) es)) (puncts_in node evs))
  unfolding L W
  node-puncts before made legal done good wilds same g =
      ap (λ xs. weigh g (puncts_of xs)) (handed-is front node back es)
      ∙ operator-all_puncts node.operator W L (puncts_in node evs) made
      (subst (λ (n : ℕ). AreWithin n L) (sym wide) (within-all front node es))
      (locals-allowed front node back es legal)
      (subst IsDone (operator-is front node back es nowhere) done)
      flow
      (length-map node.inputs (λ m. get_or evs m []) ∙ sym wide)
      (λ k lt. let lt' : k < length node.inputs = omega (arith, lt, wide) in λ h.
      ap (λ xs. weigh h (puncts_of xs)) (from-is front node es k lt') ∙ same (get_or node.inputs k 0) (there k lt') h
      ∙ ap (weigh h) (sym (map-at evs [] node.inputs k lt'))) g
      ∙ ap (λ (list : List (List Pattern)). weigh g (operator_puncts node.operator list (puncts_in node evs))) (ap puncts_of (fed-is front node es ∙ ap (λ n. fed_to n es) (sym longe)))
    where
      wide : length W ≡ length node.inputs
      wide = length-map node.inputs (λ m. get_or ws m 0)

      there : (k : ℕ) → k < length node.inputs → get_or node.inputs k 0 < length front
      there k lt = let b = before (get_or node.inputs k 0) (in-place node.inputs 0 k lt) in omega (arith, b, long)

      flow : (k : ℕ) → k < length W → IsGood (get_or W k 0) (from_input k L) × HasWild (get_or W k 0) (from_input k L)
      flow k lt =
          let lt' : k < length node.inputs = omega (arith, lt, wide) in
          subst (λ (xs : List Element). IsGood (get_or W k 0) xs × HasWild (get_or W k 0) xs) (sym (from-is front node es k lt'))
          (subst (λ (w : ℕ). IsGood w (handed (get_or node.inputs k 0) front es) × HasWild w (handed (get_or node.inputs k 0) front es)) (sym (map-at ws 0 node.inputs k lt'))
          (good (get_or node.inputs k 0) (there k lt'), wilds (get_or node.inputs k 0) (there k lt')))

front-puncts : (front : List Node) (evs : List (List (List Pattern))) (ev : List (List Pattern)) (node : Node) (back : List Node) (es : List PlanStep) → length evs ≡ length front → ArePuncts front evs es
    → SameBag (puncts_of (handed (length front) (front ++ node ∷ back) es)) ev → ArePuncts (front ++ node ∷ []) (evs ++ ev ∷ []) es
front-puncts front evs ev node back es long same here n lt = elim (cases_eq n (length front)) [
  | inl q ↦ subst (λ (k : ℕ). SameBag (puncts_of (handed k (front ++ node ∷ []) es)) (get_or (evs ++ ev ∷ []) k [])) (sym q)
      (λ g. ap (λ xs. weigh g (puncts_of xs)) (handed-is front node [] es ∙ sym (handed-is front node back es)) ∙ here g ∙ ap (weigh g) (sym (get_or_at evs ev [] [] (length front) long)))
  | inr ne ↦ let lt' : n < length front = omega (arith, ne, lt, length_push front node) in
      λ g. ap (λ xs. weigh g (puncts_of xs)) (handed-front front (node ∷ []) es n lt') ∙ same n lt' g ∙ ap (weigh g) (sym (get_or_append_left evs (ev ∷ []) [] n (omega (arith, lt', long))))
]

all-puncts : (front : List Node) (ws : List ℕ) (evs : List (List (List Pattern))) (back : List Node) (es : List PlanStep) → length ws ≡ length front → length evs ≡ length front
    → ArePlanned ws back → AreStepsLegal (front ++ back) es → IsCompleteRun (front ++ back) es → AreGood front ws es → AreWild front ws es → ArePuncts front evs es
    → ArePuncts (front ++ back) (puncts_from (λ n. puncts_of (fed_to n es)) evs back) es
all-puncts front ws evs [] es long longe planned legal complete good wilds same = subst (λ (nodes : List Node). ArePuncts nodes evs es) (sym (append-nil front)) same
all-puncts front ws evs (node ∷ back) es long longe planned legal complete good wilds same =
    subst (λ (nodes : List Node). ArePuncts nodes (puncts_from (λ n. puncts_of (fed_to n es)) (evs ++ ev ∷ []) back) es) (append_assoc front (node ∷ []) back)
    (all-puncts (front ++ node ∷ []) (ws ++ node_width ws node ∷ []) (evs ++ ev ∷ []) back es
    (omega (arith, long, length_push ws (node_width ws node), length_push front node)) (omega (arith, longe, length_push evs ev, length_push front node)) planned.2
    (subst (λ (nodes : List Node). AreStepsLegal nodes es) again legal) (subst (λ (nodes : List Node). IsCompleteRun nodes es) again complete)
    (front-good front ws node back es long good (node-good front ws node back es long planned.0 planned.1 legal good))
    (front-wild front ws node back es long wilds (node-wild front ws node back es long planned.0 planned.1 here good wilds))
    (front-puncts front evs ev node back es longe same (node-puncts front ws evs node back es long longe planned.0 planned.1 legal here.1 good wilds same)))
  where
    ev : List (List Pattern)
    ev = operator_puncts node.operator (puncts_of (fed_to (length evs) es)) (puncts_in node evs)

    again : front ++ node ∷ back ≡ (front ++ node ∷ []) ++ back
    again = sym (append_assoc front (node ∷ []) back)

    here : IsClosedBy (get_or (front ++ node ∷ back) (length front) nowhere).operator (fed_to (length front) es) × IsDone (get_or (plan_run (front ++ node ∷ back) es) (length front) nowhere).operator
    here = complete (length front) (omega (arith, length-append front (node ∷ back)))

-- after a complete run each node has handed up its punctuations over those that were fed to the streams
pub complete-puncts : (nodes : List Node) → ArePlanned [] nodes → (es : List PlanStep) → AreStepsLegal nodes es → IsCompleteRun nodes es → (n : ℕ) → n < length nodes
    → SameBag (puncts_of (handed n nodes es)) (get_or (puncts_from (λ k. puncts_of (fed_to k es)) [] nodes) n [])
complete-puncts nodes planned es legal complete = all-puncts [] [] [] nodes es refl refl planned legal complete (λ k l. absurd (omega arith)) (λ k l. absurd (omega arith)) (λ k l. absurd (omega arith))
