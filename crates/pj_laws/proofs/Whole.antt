-- No place of a plan hands up a row that matches_row a punctuation that it handed up before.
use Rattle.std.proofs.Common.{ℕ, ◌+◌, ◌<◌, ◌≤◌, Bool, true, false, cond, not, List, [], ◌∷◌, ◌++◌, ◌≡◌, map, filter, flat_map, length, get_or, sum, refl, sym, ap, ap₂, ◌∙◌, subst, inl, inr, eqb, arith, append_assoc, append-nil, length-append}
use Rattle.pj_pattern.proofs.Fitting.{row_length, punct_length}
use Rattle.pj_shape.proofs.DomainsOf.{domains_length}
use Rattle.pj_pattern.proofs.Lawful.{lawful_append}
use Rattle.pj_value.proofs.Members.{In-append_cases, In-filter, In-map, In-flat_map, in-place, map-at}
use Rattle.pj_shape.specs.Columns.{domains_of}
use Rattle.pj_pattern.specs.Fitting.{FitsDomains}
use Rattle.std.proofs.lemmas.Bool.{eqb-true, eq-eqb, cases_eq}
use Rattle.std.proofs.lemmas.List.{length-map, length_push, get_or_append_left, get_or_at}
use Rattle.pj_shape.specs.declared.columns.Column.{Column}
use Rattle.pj_events.specs.Patterns.{Pattern, wild, all_wild, matches_row}
use Rattle.pj_events.specs.Join.{In, Value, no_value, arities, JoinData, JoinState, Step, start, step, IsAllowed, Element, Tuple, Punct}
use Rattle.pj_pattern.specs.Elements.{IsLawful}
use Rattle.pj_events.specs.Operators.{picked_cells, GroupSpec, Sent, UnionState, keys_from, group_row, group_rows, aggregate, union_after, union_hands, all_sent_from, group_after, group_hands, select_hands, project_hands}
use Rattle.pj_events.specs.Plan.{Operator, Stream, Select, Project, Union, Join, Group, Node, Local, Comes, Fed, Own, join_step, after, after_all, hands_all, PlanStep, Feed, Act, Pass, own, brought_from, locals, handed_at, batches, moved, handed, IsOwn, Fits, IsClearOf, MayArrive, MayAct, nowhere, IsStepAllowed, AreStepsLegal, operator_width, IsWellMade, node_width, ArePlanned, PlanIsLawful}
use Rattle.pj_value.specs.Values.{row_eq}
use Rattle.pj_pattern.proofs.Rows.{wilds-length}
use Rattle.pj_pattern.specs.Columns.{others_wild, picked_patterns}
use Rattle.pj_laws.proofs.Glue.{from_input, locals_all, handed-is, handed-front, from-is, moved-append, length-batches, locals-inputs}
use Rattle.pj_laws.proofs.Operators.{AllFit, AreWithin, AreOwnAllowed, select-lawful, project-lawful, join-lawful}
use Rattle.pj_events.proofs.Keys.{key-from}
use Rattle.pj_laws.proofs.UnionsAndGroups.{union-lawful, group_all, group-hands, group-lawful, from-first, from-tail}

-- ---- what a operator may do by itself

abbrev pub IsLocalAllowed : Operator → Local → Type 0
IsLocalAllowed (Stream schema sent) (Fed e) = IsClearOf sent e × FitsDomains (domains_of schema) e
IsLocalAllowed (Stream schema sent) (Comes k e) = Unit {0}
IsLocalAllowed (Stream schema sent) (Own s) = Unit {0}
IsLocalAllowed (Select test) l = Unit {0}
IsLocalAllowed (Project columns) l = Unit {0}
IsLocalAllowed (Union n u) l = Unit {0}
IsLocalAllowed (Join spec s) (Own st) = IsOwn st × IsAllowed spec s st
IsLocalAllowed (Join spec s) (Comes k e) = Unit {0}
IsLocalAllowed (Join spec s) (Fed e) = Unit {0}
IsLocalAllowed (Group spec rows) l = Unit {0}

abbrev pub AreLocalsAllowed : Operator → List Local → Type 0
AreLocalsAllowed m [] = Unit {0}
AreLocalsAllowed m (l ∷ ls) = IsLocalAllowed m l × AreLocalsAllowed (after m l) ls

pub allowed-append : (m : Operator) (ls ks : List Local) → AreLocalsAllowed m ls → AreLocalsAllowed (after_all m ls) ks → AreLocalsAllowed m (ls ++ ks)
allowed-append m [] ks a b = b
allowed-append m (l ∷ ls) ks a b = (a.0, allowed-append (after m l) ls ks a.1 b)

comes-allowed : (m : Operator) (k : ℕ) (e : Element) → IsLocalAllowed m (Comes k e)
comes-allowed (Stream schema sent) k e = tt
comes-allowed (Select test) k e = tt
comes-allowed (Project columns) k e = tt
comes-allowed (Union n u) k e = tt
comes-allowed (Join spec s) k e = tt
comes-allowed (Group spec rows) k e = tt

all-come : (m : Operator) (k : ℕ) (xs : List Element) → AreLocalsAllowed m (map (Comes k) xs)
all-come m k [] = tt
all-come m k (x ∷ xs) = (comes-allowed m k x, all-come (after m (Comes k x)) k xs)

pub brought-allowed : (m : Operator) (k : ℕ) (ms : List ℕ) (done : List (List Element)) → AreLocalsAllowed m (brought_from k ms done)
brought-allowed m k [] done = tt
brought-allowed m k (i ∷ ms) done = allowed-append m (map (Comes k) (get_or done i [])) (brought_from (k + 1) ms done) (all-come m k (get_or done i [])) (brought-allowed (after_all m (map (Comes k) (get_or done i []))) (k + 1) ms done)

arrive-allowed : (m : Operator) (e : Element) → MayArrive m e → IsLocalAllowed m (Fed e)
arrive-allowed (Stream schema sent) e a = a
arrive-allowed (Select test) e a = tt
arrive-allowed (Project columns) e a = tt
arrive-allowed (Union n u) e a = tt
arrive-allowed (Join spec s) e a = tt
arrive-allowed (Group spec rows) e a = tt

act-allowed : (m : Operator) (s : Step) → MayAct m s → IsLocalAllowed m (Own s)
act-allowed (Stream schema sent) s a = tt
act-allowed (Select test) s a = tt
act-allowed (Project columns) s a = tt
act-allowed (Union n u) s a = tt
act-allowed (Join spec state) s a = a
act-allowed (Group spec rows) s a = tt

own-allowed : (front : List Node) (node : Node) (back : List Node) (e : PlanStep) → IsStepAllowed (front ++ node ∷ back) e → AreLocalsAllowed node.operator (own e (length front))
own-allowed front node back (Feed s x) a = go (eqb s (length front)) refl
  where
    go : (b : Bool) → eqb s (length front) ≡ b → AreLocalsAllowed node.operator (cond b (Fed x ∷ []) [])
    go false q = tt
    go true q =
        let z : get_or (front ++ node ∷ back) s nowhere ≡ node = ap (λ n. get_or (front ++ node ∷ back) n nowhere) (eqb-true s (length front) q) ∙ get_or_at front node back nowhere (length front) refl in
        (arrive-allowed node.operator x (subst (λ (t : Node). MayArrive t.operator x) z a.1), tt)
own-allowed front node back (Act j st) a = go (eqb j (length front)) refl
  where
    go : (b : Bool) → eqb j (length front) ≡ b → AreLocalsAllowed node.operator (cond b (Own st ∷ []) [])
    go false q = tt
    go true q =
        let z : get_or (front ++ node ∷ back) j nowhere ≡ node = ap (λ n. get_or (front ++ node ∷ back) n nowhere) (eqb-true j (length front) q) ∙ get_or_at front node back nowhere (length front) refl in
        (act-allowed node.operator st (subst (λ (t : Node). MayAct t.operator st) z a.1), tt)
own-allowed front node back Pass a = tt

-- the locals of a place in a legal run are allowed
pub locals-allowed : (front : List Node) (node : Node) (back : List Node) (es : List PlanStep) → AreStepsLegal (front ++ node ∷ back) es → AreLocalsAllowed node.operator (locals_all front node es)
locals-allowed front node back [] l = tt
locals-allowed front node back (e ∷ es) l =
    allowed-append node.operator (locals e (batches e [] front) node) (locals_all (moved e [] front) node es)
    (allowed-append node.operator (own e (length (batches e [] front))) (brought_from 0 node.inputs (batches e [] front))
    (subst (λ (n : ℕ). AreLocalsAllowed node.operator (own e n)) (sym (length-batches e [] front ∙ zero-plus (length front))) (own-allowed front node back e l.0))
    (brought-allowed (after_all node.operator (own e (length (batches e [] front)))) 0 node.inputs (batches e [] front)))
    (subst (AreLocalsAllowed next.operator) (locals-inputs (moved e [] front) next node es refl) (locals-allowed (moved e [] front) next (moved e (batches e [] front ++ handed_at e (batches e [] front) node ∷ []) back) es (subst (λ (nodes : List Node). AreStepsLegal nodes es) (moved-append e [] front (node ∷ back)) l.1)))
  where
    next : Node
    next = record { inputs = node.inputs; operator = after_all node.operator (locals e (batches e [] front) node) }

    zero-plus : (n : ℕ) → 0 + n ≡ n
    zero-plus n = omega arith

-- ---- what comes to a place

pub within-append : (n : ℕ) (ls ks : List Local) → AreWithin n ls → AreWithin n ks → AreWithin n (ls ++ ks)
within-append n [] ks a b = b
within-append n (Comes k e ∷ ls) ks a b = (a.0, within-append n ls ks a.1 b)
within-append n (Fed e ∷ ls) ks a b = within-append n ls ks a b
within-append n (Own s ∷ ls) ks a b = within-append n ls ks a b

pub within-brought : (n k : ℕ) (ms : List ℕ) (done : List (List Element)) → k + length ms ≤ n → AreWithin n (brought_from k ms done)
within-brought n k [] done l = tt
within-brought n k (m ∷ ms) done l = within-append n (map (Comes k) (get_or done m [])) (brought_from (k + 1) ms done) (same (get_or done m [])) (within-brought n (k + 1) ms done (omega arith))
  where
    same : (xs : List Element) → AreWithin n (map (Comes k) xs)
    same [] = tt
    same (x ∷ xs) = (omega arith, same xs)

within-own : (n : ℕ) (e : PlanStep) (place : ℕ) → AreWithin n (own e place)
within-own n (Feed s x) place = go (eqb s place)
  where
    go : (b : Bool) → AreWithin n (cond b (Fed x ∷ []) [])
    go true = tt
    go false = tt
within-own n (Act j st) place = go (eqb j place)
  where
    go : (b : Bool) → AreWithin n (cond b (Own st ∷ []) [])
    go true = tt
    go false = tt
within-own n Pass place = tt

pub within-all : (front : List Node) (node : Node) (es : List PlanStep) → AreWithin (length node.inputs) (locals_all front node es)
within-all front node [] = tt
within-all front node (e ∷ es) =
    within-append (length node.inputs) (locals e (batches e [] front) node) (locals_all (moved e [] front) node es)
    (within-append (length node.inputs) (own e (length (batches e [] front))) (brought_from 0 node.inputs (batches e [] front)) (within-own (length node.inputs) e (length (batches e [] front))) (within-brought (length node.inputs) 0 node.inputs (batches e [] front) (omega arith)))
    (within-all (moved e [] front) node es)

-- ---- each operator

abbrev pub IsGood : ℕ → List Element → Type 0
IsGood width es = IsLawful es × AllFit width es

-- what is clear of lawful elements is lawful behind them
pub clear-lawful : (sent : List Element) (e : Element) → IsLawful sent → IsClearOf sent e → IsLawful (sent ++ e ∷ [])
clear-lawful sent (Tuple row) l c = lawful_append sent (Tuple row ∷ []) l tt (λ ps h. (c ps h, tt))
clear-lawful sent (Punct patterns) l c = lawful_append sent (Punct patterns ∷ []) l (tt, tt) (λ ps h. tt)

pub fits-length : (schema : List Column) (e : Element) → FitsDomains (domains_of schema) e → Fits (length schema) e
fits-length schema (Tuple row) f = row_length (domains_of schema) row f ∙ domains_length schema
fits-length schema (Punct ps) f = punct_length (domains_of schema) ps f ∙ domains_length schema

stream-good : (schema : List Column) (sent : List Element) (ls : List Local) → IsLawful sent → AreLocalsAllowed (Stream schema sent) ls → IsLawful (sent ++ hands_all (Stream schema sent) ls) × AllFit (length schema) (hands_all (Stream schema sent) ls)
stream-good schema sent [] l a = (subst IsLawful (sym (append-nil sent)) l, λ e h. absurd h)
stream-good schema sent (Comes k e ∷ ls) l a = stream-good schema sent ls l a.1
stream-good schema sent (Own s ∷ ls) l a = stream-good schema sent ls l a.1
stream-good schema sent (Fed e ∷ ls) l a =
    let r = stream-good schema (sent ++ e ∷ []) ls (clear-lawful sent e l a.0.0) a.1 in (
      subst IsLawful (append_assoc sent (e ∷ []) (hands_all (Stream schema (sent ++ e ∷ [])) ls)) r.0,
      λ x h. elim h [ inl q ↦ subst (Fits (length schema)) q (fits-length schema e a.0.1) | inr k ↦ r.1 x k ],
    )

pub select-hands : (test : List Pattern) (ls : List Local) → AreWithin 1 ls → hands_all (Select test) ls ≡ flat_map (select_hands test) (from_input 0 ls)
select-hands test [] w = refl
select-hands test (Fed e ∷ ls) w = select-hands test ls w
select-hands test (Own s ∷ ls) w = select-hands test ls w
select-hands test (Comes i e ∷ ls) w =
    let z : i ≡ 0 = omega (arith, w.0) in
    ap (λ es. select_hands test e ++ es) (select-hands test ls w.1) ∙ sym (ap (λ b. flat_map (select_hands test) (cond b (e ∷ from_input 0 ls) (from_input 0 ls))) (eq-eqb i 0 z))

pub project-hands : (columns : List ℕ) (ls : List Local) → AreWithin 1 ls → hands_all (Project columns) ls ≡ flat_map (project_hands columns) (from_input 0 ls)
project-hands columns [] w = refl
project-hands columns (Fed e ∷ ls) w = project-hands columns ls w
project-hands columns (Own s ∷ ls) w = project-hands columns ls w
project-hands columns (Comes i e ∷ ls) w =
    let z : i ≡ 0 = omega (arith, w.0) in
    ap (λ es. project_hands columns e ++ es) (project-hands columns ls w.1) ∙ sym (ap (λ b. flat_map (project_hands columns) (cond b (e ∷ from_input 0 ls) (from_input 0 ls))) (eq-eqb i 0 z))

pub select-fit : (width : ℕ) (test : List Pattern) (e x : Element) → Fits width e → In x (select_hands test e) → Fits width x
select-fit width test (Tuple row) x f h = go (matches_row test row) h
  where
    go : (b : Bool) → In x (cond b (Tuple row ∷ []) []) → Fits width x
    go true (inl q) = subst (Fits width) q f
    go true (inr k) = absurd k
    go false k = absurd k
select-fit width test (Punct ps) x f (inl q) = subst (Fits width) q f
select-fit width test (Punct ps) x f (inr k) = absurd k

pub project-fit : (columns : List ℕ) (e x : Element) → In x (project_hands columns e) → Fits (length columns) x
project-fit columns (Tuple row) x (inl q) = subst (Fits (length columns)) q (length-map columns (λ c. get_or row c no_value))
project-fit columns (Tuple row) x (inr k) = absurd k
project-fit columns (Punct ps) x h = go (others_wild columns 0 ps) h
  where
    go : (b : Bool) → In x (cond b (Punct (picked_patterns columns ps) ∷ []) []) → Fits (length columns) x
    go true (inl q) = subst (Fits (length columns)) q (length-map columns (λ c. get_or ps c wild))
    go true (inr k) = absurd k
    go false k = absurd k

pub fed-join : (spec : JoinData) (s : JoinState) (ls : List Local) → AreLocalsAllowed (Join spec s) ls → AreOwnAllowed spec s ls
fed-join spec s [] a = tt
fed-join spec s (Comes k e ∷ ls) a = fed-join spec (step spec s (join_step k e)) ls a.1
fed-join spec s (Fed e ∷ ls) a = fed-join spec s ls a.1
fed-join spec s (Own st ∷ ls) a = (a.0.0, a.0.1, fed-join spec (step spec s st) ls a.1)

union-fit : (width n : ℕ) (u : UnionState) (ls : List Local) → AreWithin n ls → ((k : ℕ) → k < n → AllFit width (from_input k ls)) → ((q : Sent) → In q u.waiting → length q.patterns ≡ width) → AllFit width (hands_all (Union n u) ls)
union-fit width n u [] w f wait x h = absurd h
union-fit width n u (Fed e ∷ ls) w f wait x h = union-fit width n u ls w f wait x h
union-fit width n u (Own s ∷ ls) w f wait x h = union-fit width n u ls w f wait x h
union-fit width n u (Comes i (Tuple row) ∷ ls) w f wait x (inl q) = f i w.0 x (subst (λ (es : List Element). In x es) (sym (from-first i (Tuple row) ls)) (inl q))
union-fit width n u (Comes i (Tuple row) ∷ ls) w f wait x (inr h) = union-fit width n u ls w.1 (λ k lt y m. f k lt y (from-tail k i (Tuple row) ls y m)) wait x h
union-fit width n u (Comes i (Punct ps) ∷ ls) w f wait x h =
    elim (In-append_cases x (union_hands n u i (Punct ps)) (hands_all (Union n (union_after n u i (Punct ps))) ls) h) [
      | inl k ↦ let r = In-map (λ (p : Sent). Punct p.patterns) x (filter (all_sent_from 0 n (u.came ++ new ∷ [])) (u.waiting ++ new ∷ [])) k in
          subst (Fits width) r.2 (sent r.0 (In-filter (all_sent_from 0 n (u.came ++ new ∷ [])) r.0 (u.waiting ++ new ∷ []) r.1).0)
      | inr k ↦ union-fit width n (union_after n u i (Punct ps)) ls w.1 (λ j lt y m. f j lt y (from-tail j i (Punct ps) ls y m)) (λ q m. sent q (In-filter (λ p. not (all_sent_from 0 n (u.came ++ new ∷ []) p)) q (u.waiting ++ new ∷ []) m).0) x k
    ]
  where
    new : Sent
    new = record { input = i; patterns = ps }

    last : (q : Sent) → In q (new ∷ []) → length q.patterns ≡ width
    last q (inl e) = subst (λ (z : Sent). length z.patterns ≡ width) e (f i w.0 (Punct ps) (subst (λ (es : List Element). In (Punct ps) es) (sym (from-first i (Punct ps) ls)) (inl refl)))
    last q (inr e) = absurd e

    sent : (q : Sent) → In q (u.waiting ++ new ∷ []) → length q.patterns ≡ width
    sent q m = elim (In-append_cases q u.waiting (new ∷ []) m) [ inl k ↦ wait q k | inr k ↦ last q k ]

pub group-hands-fit : (spec : GroupSpec) (rows : List (List Value)) (e x : Element) → In x (group_hands spec rows e) → Fits (length spec.keys + length spec.aggs) x
group-hands-fit spec rows (Tuple row) x k = absurd k
group-hands-fit spec rows (Punct ps) x k = go (others_wild spec.keys 0 ps) k
  where
    W : ℕ
    W = length spec.keys + length spec.aggs

    due : List (List Value)
    due = filter (λ row. matches_row (picked_patterns spec.keys ps) (picked_cells spec.keys row)) rows

    shut : List Element
    shut = Punct (picked_patterns spec.keys ps ++ all_wild (length spec.aggs)) ∷ []

    go : (b : Bool) → In x (cond b (map Tuple (group_rows spec due) ++ shut) []) → Fits W x
    go false m = absurd m
    go true m = elim (In-append_cases x (map Tuple (group_rows spec due)) shut m) [
      | inl j ↦ let a = In-map Tuple x (group_rows spec due) j in
          let b = In-map (group_row spec due) a.0 (keys_from [] spec due) a.1 in
          let c = key-from [] spec due b.0 b.1 in
          let f : ℕ → Value = λ i. get_or c.0 i no_value in
          subst (Fits W) a.2 (ap length (sym b.2) ∙ length-append b.0 (map (aggregate (filter (λ row. row_eq b.0 (picked_cells spec.keys row)) due)) spec.aggs)
          ∙ ap₂ (λ (p q : ℕ). p + q) (ap length (sym c.2) ∙ length-map spec.keys f) (length-map spec.aggs (aggregate (filter (λ row. row_eq b.0 (picked_cells spec.keys row)) due))))
      | inr j ↦ elim j [
        | inl q ↦ subst (Fits W) q (length-append (picked_patterns spec.keys ps) (all_wild (length spec.aggs)) ∙ ap₂ (λ (p r : ℕ). p + r) (length-map spec.keys (λ c. get_or ps c wild)) (wilds-length (length spec.aggs)))
        | inr q ↦ absurd q
      ]
    ]

group-fit : (spec : GroupSpec) (rows : List (List Value)) (es : List Element) → AllFit (length spec.keys + length spec.aggs) (group_all spec rows es)
group-fit spec rows [] x h = absurd h
group-fit spec rows (e ∷ es) x h = elim (In-append_cases x (group_hands spec rows e) (group_all spec (group_after spec rows e) es) h) [
  | inl k ↦ group-hands-fit spec rows e x k
  | inr k ↦ group-fit spec (group_after spec rows e) es x k
]

pub operator-good : (m : Operator) (ws : List ℕ) (ls : List Local) → IsWellMade m ws → AreWithin (length ws) ls → AreLocalsAllowed m ls
    → ((k : ℕ) → k < length ws → IsGood (get_or ws k 0) (from_input k ls)) → IsGood (operator_width m ws) (hands_all m ls)
operator-good (Stream schema sent) ws ls made w a f =
    let r = stream-good schema sent ls (subst IsLawful (sym made.1) tt) a in
    (subst (λ (xs : List Element). IsLawful (xs ++ hands_all (Stream schema sent) ls)) made.1 r.0, r.1)
operator-good (Select test) ws ls made w a f =
    subst (IsGood (get_or ws 0 0)) (sym (select-hands test ls (subst (λ n. AreWithin n ls) made.0 w))) (
      select-lawful (get_or ws 0 0) test (from_input 0 ls) g.1 g.0,
      λ x h. let r = In-flat_map (select_hands test) x (from_input 0 ls) h in select-fit (get_or ws 0 0) test r.0 x (g.1 r.0 r.1) r.2,
    )
  where
    g : IsGood (get_or ws 0 0) (from_input 0 ls)
    g = f 0 (omega (arith, made.0))
operator-good (Project columns) ws ls made w a f =
    subst (IsGood (length columns)) (sym (project-hands columns ls (subst (λ n. AreWithin n ls) made.0 w))) (
      project-lawful (get_or ws 0 0) columns (from_input 0 ls) g.1 g.0,
      λ x h. let r = In-flat_map (project_hands columns) x (from_input 0 ls) h in project-fit columns r.0 x r.2,
    )
  where
    g : IsGood (get_or ws 0 0) (from_input 0 ls)
    g = f 0 (omega (arith, made.0))
operator-good (Union n u) ws ls made w a f = (
  union-lawful n u ls within (λ k lt. (flow k lt).0) (λ q h. absurd (subst (λ (xs : List Sent). In q xs) made.2 h)) (λ q h. absurd (subst (λ (xs : List Sent). In q xs) made.3 h)),
  union-fit (get_or ws 0 0) n u ls within (λ k lt. subst (λ (n' : ℕ). AllFit n' (from_input k ls)) (made.1 (get_or ws k 0) (in-place ws 0 k (omega (arith, lt, made.0)))) (flow k lt).1) (λ q h. absurd (subst (λ (xs : List Sent). In q xs) made.3 h)),
)
  where
    within : AreWithin n ls
    within = subst (λ (n' : ℕ). AreWithin n' ls) made.0 w

    flow : (k : ℕ) → k < n → IsGood (get_or ws k 0) (from_input k ls)
    flow k lt = f k (omega (arith, lt, made.0))
operator-good (Join spec s) ws ls made w a f =
    subst (λ (z : JoinState). IsGood (sum (arities spec)) (hands_all (Join spec z) ls)) (sym made.2)
    (join-lawful spec ls (subst (λ (xs : List ℕ). AreWithin (length xs) ls) made.0 w) (fed-join spec start ls (subst (λ (z : JoinState). AreLocalsAllowed (Join spec z) ls) made.2 a))
    (λ k lt. subst (λ (xs : List ℕ). IsGood (get_or xs k 0) (from_input k ls)) made.0 (f k (subst (λ (xs : List ℕ). k < length xs) (sym made.0) lt))))
operator-good (Group spec rows) ws ls made w a f =
    subst (IsGood (length spec.keys + length spec.aggs)) (sym (group-hands spec rows ls (subst (λ n. AreWithin n ls) made.0 w)))
    (group-lawful (get_or ws 0 0) spec rows (from_input 0 ls) (λ row h. absurd (subst (λ (xs : List (List Value)). In row xs) made.2 h)) g.1 g.0, group-fit spec rows (from_input 0 ls))
  where
    g : IsGood (get_or ws 0 0) (from_input 0 ls)
    g = f 0 (omega (arith, made.0))

-- ---- the plan, place after place

-- each of these nodes hands up what is lawful and fits its width
abbrev pub AreGood : List Node → List ℕ → List PlanStep → Type 0
AreGood front ws es = (n : ℕ) → n < length front → IsGood (get_or ws n 0) (handed n front es)

pub node-good : (front : List Node) (ws : List ℕ) (node : Node) (back : List Node) (es : List PlanStep) → length ws ≡ length front → ((m : ℕ) → In m node.inputs → m < length ws)
    → IsWellMade node.operator (map (λ m. get_or ws m 0) node.inputs) → AreStepsLegal (front ++ node ∷ back) es → AreGood front ws es
    → IsGood (node_width ws node) (handed (length front) (front ++ node ∷ back) es)
node-good front ws node back es long before made legal good =
    subst (IsGood (node_width ws node)) (sym (handed-is front node back es))
    (operator-good node.operator (map (λ m. get_or ws m 0) node.inputs) (locals_all front node es) made
    (subst (λ (n : ℕ). AreWithin n (locals_all front node es)) (sym (length-map node.inputs (λ m. get_or ws m 0))) (within-all front node es))
    (locals-allowed front node back es legal)
    (λ k lt. let lt' : k < length node.inputs = omega (arith, lt, length-map node.inputs (λ m. get_or ws m 0)) in
    subst (IsGood (get_or (map (λ m. get_or ws m 0) node.inputs) k 0)) (sym (from-is front node es k lt'))
    (subst (λ (w : ℕ). IsGood w (handed (get_or node.inputs k 0) front es)) (sym (map-at ws 0 node.inputs k lt')) (good (get_or node.inputs k 0) (let b = before (get_or node.inputs k 0) (in-place node.inputs 0 k lt') in omega (arith, b, long))))))

-- one place more
pub front-good : (front : List Node) (ws : List ℕ) (node : Node) (back : List Node) (es : List PlanStep) → length ws ≡ length front → AreGood front ws es
    → IsGood (node_width ws node) (handed (length front) (front ++ node ∷ back) es) → AreGood (front ++ node ∷ []) (ws ++ node_width ws node ∷ []) es
front-good front ws node back es long good here n lt = elim (cases_eq n (length front)) [
  | inl q ↦ subst (λ (k : ℕ). IsGood (get_or (ws ++ node_width ws node ∷ []) k 0) (handed k (front ++ node ∷ []) es)) (sym q)
      (subst (λ (w : ℕ). IsGood w (handed (length front) (front ++ node ∷ []) es)) (sym (get_or_at ws (node_width ws node) [] 0 (length front) long))
      (subst (IsGood (node_width ws node)) (handed-is front node back es ∙ sym (handed-is front node [] es)) here))
  | inr ne ↦ let lt' : n < length front = omega (arith, ne, lt, length_push front node) in
      subst (λ (w : ℕ). IsGood w (handed n (front ++ node ∷ []) es)) (sym (get_or_append_left ws (node_width ws node ∷ []) 0 n (omega (arith, lt', long))))
      (subst (IsGood (get_or ws n 0)) (sym (handed-front front (node ∷ []) es n lt')) (good n lt'))
]

pub all-good : (front : List Node) (ws : List ℕ) (back : List Node) (es : List PlanStep) → length ws ≡ length front → ArePlanned ws back → AreStepsLegal (front ++ back) es → AreGood front ws es
    → (n : ℕ) → n < length (front ++ back) → IsLawful (handed n (front ++ back) es)
all-good front ws [] es long planned legal good n lt =
    subst (λ (nodes : List Node). IsLawful (handed n nodes es)) (sym (append-nil front)) (good n (omega (arith, lt, ap length (append-nil front)))).0
all-good front ws (node ∷ back) es long planned legal good n lt =
    subst (λ (nodes : List Node). IsLawful (handed n nodes es)) (append_assoc front (node ∷ []) back)
    (all-good (front ++ node ∷ []) (ws ++ node_width ws node ∷ []) back es (omega (arith, long, length_push ws (node_width ws node), length_push front node)) planned.2
    (subst (λ (nodes : List Node). AreStepsLegal nodes es) (sym (append_assoc front (node ∷ []) back)) legal)
    (front-good front ws node back es long good (node-good front ws node back es long planned.0 planned.1 legal good))
    n (subst (λ (nodes : List Node). n < length nodes) (sym (append_assoc front (node ∷ []) back)) lt))

pub plan-lawful : (nodes : List Node) → ArePlanned [] nodes → PlanIsLawful nodes
plan-lawful nodes planned es legal n lt = all-good [] [] nodes es refl planned legal (λ k l. absurd (omega arith)) n lt
