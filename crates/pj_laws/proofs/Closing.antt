-- A punctuation of wildcards alone goes up from every place of a complete run.
use Rattle.std.proofs.Common.{ℕ, zero, suc, ◌+◌, ◌<◌, ◌≤◌, Bool, true, false, cond, ◌&&◌, ◌||◌, not, List, [], ◌∷◌, ◌++◌, ◌≡◌, ◌⊎◌, map, filter, length, get_or, take, drop, sum, refl, sym, ap, ap₂, ◌∙◌, subst, inl, inr, eqb, arith}
use Rattle.pj_value.proofs.Members.{In-append_left, In-append_right, In-append_cases, In-filter, In-filter_from, In-map_from, any_from}
use Rattle.pj_pattern.specs.Columns.{others_wild, picked_patterns}
use Rattle.std.specs.List.{list_any}
use Rattle.std.proofs.lemmas.Bool.{and_from, or_right, false≢true, eqb-true, eq-eqb, cases_Bool, not-true}
use Rattle.std.proofs.lemmas.List.{replicate-append-replicate, length-map}
use Rattle.std.proofs.lemmas.List.Sums.{sum_by-take-drop, sum_by-drop_more}
use Rattle.pj_events.specs.Patterns.{Pattern, wild, all_wild, matches_row, covers_punct}
use Rattle.pj_events.specs.Join.{In, Value, no_value, arities, PunctAt, JoinData, JoinState, Step, TupleComes, PunctComes, Take, Give, Sweep, start, step, run, inputs, arity, is_held, kept, new_punct, Element, Tuple, Punct, widened, hands_up, outputs}
use Rattle.pj_events.specs.Operators.{picked_cells, GroupSpec, group_rows, group_after, group_hands, Sent, UnionState, all_sent_from, union_after, union_hands}
use Rattle.pj_events.specs.Plan.{Union, Join, Local, Comes, Fed, Own, join_step, hands_all}
use Rattle.pj_pattern.proofs.Rows.{wilds-match, wilds-cover_punct}
use Rattle.pj_pattern.specs.Elements.{IsLawful}
use Rattle.pj_pattern.proofs.Lawful.{none_at as clear_at}
use Rattle.pj_laws.proofs.Glue.{from_input}
use Rattle.pj_laws.proofs.Operators.{AllFit, join_steps, join-hands}
use Rattle.pj_laws.proofs.UnionsAndGroups.{group_all}
use Rattle.pj_laws.proofs.Groups.{group_end}
use Rattle.pj_join_laws.proofs.Ripe.{puncts-on}

abbrev pub HasWild : ℕ → List Element → Type 0
HasWild width es = In (Punct (all_wild width)) es

wild-at : (n c : ℕ) → get_or (all_wild n) c wild ≡ wild
wild-at zero c = refl
wild-at (suc n) zero = refl
wild-at (suc n) (suc c) = wild-at n c

pub wild-picked : (columns : List ℕ) (n : ℕ) → picked_patterns columns (all_wild n) ≡ all_wild (length columns)
wild-picked [] n = refl
wild-picked (c ∷ columns) n = ap₂ (λ (p : Pattern) (ps : List Pattern). p ∷ ps) (wild-at n c) (wild-picked columns n)

pub wild-drops : (columns : List ℕ) (k n : ℕ) → others_wild columns k (all_wild n) ≡ true
wild-drops columns k zero = refl
wild-drops columns k (suc n) = and_from (list_any (λ c. eqb c k) columns || true) (others_wild columns (k + 1) (all_wild n)) (or_right (list_any (λ c. eqb c k) columns) true refl) (wild-drops columns (k + 1) n)

-- ---- groups

-- nothing is left behind a punctuation of wildcards alone
pub group-empty : (width : ℕ) (spec : GroupSpec) (rows : List (List Value)) (es : List Element) → ((row : List Value) → In row rows → length row ≡ width) → AllFit width es → IsLawful es → HasWild width es → group_end spec rows es ≡ []
group-empty width spec rows [] long fit l h = absurd h
group-empty width spec rows (Tuple x ∷ es) long fit l (inl q) = cc
group-empty width spec rows (Tuple x ∷ es) long fit l (inr h) =
    group-empty width spec (rows ++ x ∷ []) es (λ row m. elim (In-append_cases row rows (x ∷ []) m) [ inl k ↦ long row k | inr k ↦ last row k ]) (λ e m. fit e (inr m)) l h
  where
    last : (row : List Value) → In row (x ∷ []) → length row ≡ width
    last row (inl q) = subst (λ (z : List Value). length z ≡ width) q (fit (Tuple x) (inl refl))
    last row (inr q) = absurd q
group-empty width spec rows (Punct ps ∷ es) long fit l (inr h) = go (others_wild spec.keys 0 ps) (group-empty width spec rows es long (λ e m. fit e (inr m)) l.1 h) (group-empty width spec left es (λ row m. long row (In-filter (λ r. not (matches_row (picked_patterns spec.keys ps) (picked_cells spec.keys r))) row rows m).0) (λ e m. fit e (inr m)) l.1 h)
  where
    left : List (List Value)
    left = filter (λ r. not (matches_row (picked_patterns spec.keys ps) (picked_cells spec.keys r))) rows

    go : (b : Bool) → group_end spec rows es ≡ [] → group_end spec left es ≡ [] → group_end spec (cond b left rows) es ≡ []
    go true f g = g
    go false f g = f
group-empty width spec rows (Punct ps ∷ es) long fit l (inl q) =
    let p : ps ≡ all_wild width = cc q in
    ap (λ (b : Bool). group_end spec (cond b (left ps) rows) es) (ap (others_wild spec.keys 0) p ∙ wild-drops spec.keys 0 width)
    ∙ ap (λ (qs : List Pattern). group_end spec (left qs) es) p
    ∙ ap (λ (xs : List (List Value)). group_end spec xs es) (none rows) ∙ quiet es (λ r m. clear_at ps es l.0 r m) (λ e m. fit e (inr m)) p
  where
    left : List Pattern → List (List Value)
    left qs = filter (λ r. not (matches_row (picked_patterns spec.keys qs) (picked_cells spec.keys r))) rows

    none : (xs : List (List Value)) → filter (λ r. not (matches_row (picked_patterns spec.keys (all_wild width)) (picked_cells spec.keys r))) xs ≡ []
    none [] = refl
    none (x ∷ xs) = ap (λ (b : Bool). cond (not b) (x ∷ rest) rest) (ap (λ (qs : List Pattern). matches_row qs (picked_cells spec.keys x)) (wild-picked spec.keys width) ∙ wilds-match (picked_cells spec.keys x) (length spec.keys) (length-map spec.keys (λ c. get_or x c no_value))) ∙ none xs
      where
        rest : List (List Value)
        rest = filter (λ r. not (matches_row (picked_patterns spec.keys (all_wild width)) (picked_cells spec.keys r))) xs

    quiet : (ys : List Element) → ((r : List Value) → In (Tuple r) ys → matches_row ps r ≡ false) → AllFit width ys → ps ≡ all_wild width → group_end spec [] ys ≡ []
    quiet [] c f p = refl
    quiet (Tuple r ∷ ys) c f p = absurd (false≢true (sym (c r (inl refl)) ∙ ap (λ (qs : List Pattern). matches_row qs r) p ∙ wilds-match r width (f (Tuple r) (inl refl))))
    quiet (Punct qs ∷ ys) c f p = go (others_wild spec.keys 0 qs) (quiet ys (λ r m. c r (inr m)) (λ e m. f e (inr m)) p)
      where
        go : (b : Bool) → group_end spec [] ys ≡ [] → group_end spec (cond b [] []) ys ≡ []
        go true k = k
        go false k = k

pub group-wild : (width : ℕ) (spec : GroupSpec) (rows : List (List Value)) (es : List Element) → HasWild width es → HasWild (length spec.keys + length spec.aggs) (group_all spec rows es)
group-wild width spec rows [] h = absurd h
group-wild width spec rows (e ∷ es) (inr h) = In-append_right (Punct (all_wild (length spec.keys + length spec.aggs))) (group_hands spec rows e) (group_all spec (group_after spec rows e) es) (group-wild width spec (group_after spec rows e) es h)
group-wild width spec rows (Tuple r ∷ es) (inl q) = cc
group-wild width spec rows (Punct ps ∷ es) (inl q) =
    In-append_left (Punct (all_wild (length spec.keys + length spec.aggs))) (group_hands spec rows (Punct ps)) (group_all spec (group_after spec rows (Punct ps)) es)
    (subst (λ (b : Bool). In (Punct (all_wild (length spec.keys + length spec.aggs))) (cond b (out ps) [])) (sym (ap (others_wild spec.keys 0) p ∙ wild-drops spec.keys 0 width))
    (In-append_right (Punct (all_wild (length spec.keys + length spec.aggs))) (map Tuple (group_rows spec (due ps))) (Punct (picked_patterns spec.keys ps ++ all_wild (length spec.aggs)) ∷ [])
    (inl (ap Punct (ap (λ (qs : List Pattern). picked_patterns spec.keys qs ++ all_wild (length spec.aggs)) p ∙ ap (λ (qs : List Pattern). qs ++ all_wild (length spec.aggs)) (wild-picked spec.keys width) ∙ replicate-append-replicate (length spec.keys) (length spec.aggs) wild)))))
  where
    p : ps ≡ all_wild width
    p = cc q

    due : List Pattern → List (List Value)
    due qs = filter (λ row. matches_row (picked_patterns spec.keys qs) (picked_cells spec.keys row)) rows

    out : List Pattern → List Element
    out qs = map Tuple (group_rows spec (due qs)) ++ Punct (picked_patterns spec.keys qs ++ all_wild (length spec.aggs)) ∷ []

-- ---- agree

-- a punctuation that waits still waits, or is handed up
waits-out : (spec : JoinData) (s : JoinState) (sts : List Step) (p : PunctAt) → In p s.waiting → In p (run spec s sts).waiting ⊎ In (Punct (widened spec p)) (outputs spec s sts)
waits-out spec s [] p h = inl h
waits-out spec s (TupleComes i row ∷ sts) p h = waits-out spec (step spec s (TupleComes i row)) sts p h
waits-out spec s (PunctComes i ps ∷ sts) p h = elim (waits-out spec (step spec s (PunctComes i ps)) sts p (go (is_held s.stored (new_punct s i ps)))) [
  | inl k ↦ inl k
  | inr k ↦ inr (In-append_right (Punct (widened spec p)) (hands_up spec s (PunctComes i ps)) (outputs spec (step spec s (PunctComes i ps)) sts) k)
]
  where
    go : (b : Bool) → In p (cond b (s.waiting ++ new_punct s i ps ∷ []) s.waiting)
    go true = In-append_left p s.waiting (new_punct s i ps ∷ []) h
    go false = h
waits-out spec s (Take u ∷ sts) p h = waits-out spec (step spec s (Take u)) sts p h
waits-out spec s (Give u ∷ sts) p h = elim (waits-out spec (step spec s (Give u)) sts p h) [
  | inl k ↦ inl k
  | inr k ↦ inr (In-append_right (Punct (widened spec p)) (hands_up spec s (Give u)) (outputs spec (step spec s (Give u)) sts) k)
]
waits-out spec s (Sweep i ∷ sts) p h =
    elim (cases_Bool (stays p)) [
      | inl t ↦ elim (waits-out spec (step spec s (Sweep i)) sts p (In-filter_from stays p s.waiting h t)) [
        | inl k ↦ inl k
        | inr k ↦ inr (In-append_right (Punct (widened spec p)) (hands_up spec s (Sweep i)) (outputs spec (step spec s (Sweep i)) sts) k)
      ]
      | inr f ↦ inr (In-append_left (Punct (widened spec p)) (hands_up spec s (Sweep i)) (outputs spec (step spec s (Sweep i)) sts)
          (In-map_from (λ q. Punct (widened spec q)) p (filter ready s.waiting) (In-filter_from ready p s.waiting h (turn (eqb p.input i) (is_held (kept spec s i) p) f))))
    ]
  where
    stays : PunctAt → Bool
    stays q = not (eqb q.input i) || is_held (kept spec s i) q

    ready : PunctAt → Bool
    ready q = eqb q.input i && not (is_held (kept spec s i) q)

    turn : (a b : Bool) → (not a || b) ≡ false → (a && not b) ≡ true
    turn true true e = absurd (false≢true (sym e))
    turn true false e = refl
    turn false b e = absurd (false≢true (sym e))

-- a punctuation that came is from before, waits or is handed up
come-out : (spec : JoinData) (s : JoinState) (sts : List Step) (p : PunctAt) → In p (run spec s sts).puncts → In p s.puncts ⊎ (In p (run spec s sts).waiting ⊎ In (Punct (widened spec p)) (outputs spec s sts))
come-out spec s [] p h = inl h
come-out spec s (TupleComes i row ∷ sts) p h = come-out spec (step spec s (TupleComes i row)) sts p h
come-out spec s (PunctComes i ps ∷ sts) p h = go (come-out spec (step spec s (PunctComes i ps)) sts p h)
  where
    q : PunctAt
    q = new_punct s i ps

    s' : JoinState
    s' = step spec s (PunctComes i ps)

    W : Type 0
    W = In p (run spec s' sts).waiting ⊎ In (Punct (widened spec p)) (hands_up spec s (PunctComes i ps) ++ outputs spec s' sts)

    later : In p (run spec s' sts).waiting ⊎ In (Punct (widened spec p)) (outputs spec s' sts) → W
    later (inl k) = inl k
    later (inr k) = inr (In-append_right (Punct (widened spec p)) (hands_up spec s (PunctComes i ps)) (outputs spec s' sts) k)

    here : (b : Bool) → is_held s.stored q ≡ b → q ≡ p → W
    here true e r = later (waits-out spec s' sts p (subst (λ (b : Bool). In p (cond b (s.waiting ++ q ∷ []) s.waiting)) (sym e) (In-append_right p s.waiting (q ∷ []) (inl r))))
    here false e r = inr (In-append_left (Punct (widened spec p)) (hands_up spec s (PunctComes i ps)) (outputs spec s' sts)
        (subst (λ (b : Bool). In (Punct (widened spec p)) (cond b (Punct (widened spec q) ∷ []) [])) (sym (ap not e)) (inl (ap (λ (z : PunctAt). Punct (widened spec z)) r))))

    go : In p (s.puncts ++ q ∷ []) ⊎ (In p (run spec s' sts).waiting ⊎ In (Punct (widened spec p)) (outputs spec s' sts)) → In p s.puncts ⊎ W
    go (inr k) = inr (later k)
    go (inl k) = elim (In-append_cases p s.puncts (q ∷ []) k) [ inl m ↦ inl m | inr m ↦ inr (here (is_held s.stored q) refl (one m)) ]
      where
        one : In p (q ∷ []) → q ≡ p
        one (inl r) = r
        one (inr r) = absurd r
come-out spec s (Take u ∷ sts) p h = come-out spec (step spec s (Take u)) sts p h
come-out spec s (Give u ∷ sts) p h = elim (come-out spec (step spec s (Give u)) sts p h) [
  | inl k ↦ inl k
  | inr k ↦ inr (elim k [ inl m ↦ inl m | inr m ↦ inr (In-append_right (Punct (widened spec p)) (hands_up spec s (Give u)) (outputs spec (step spec s (Give u)) sts) m) ])
]
come-out spec s (Sweep i ∷ sts) p h = elim (come-out spec (step spec s (Sweep i)) sts p h) [
  | inl k ↦ inl k
  | inr k ↦ inr (elim k [ inl m ↦ inl m | inr m ↦ inr (In-append_right (Punct (widened spec p)) (hands_up spec s (Sweep i)) (outputs spec (step spec s (Sweep i)) sts) m) ])
]

-- what came from an input is among the punctuations
pub came-in : (spec : JoinData) (s : JoinState) (ls : List Local) (k : ℕ) (ps : List Pattern) → In (Punct ps) (from_input k ls) → (p : PunctAt) × In p (run spec s (join_steps ls)).puncts × (p.input ≡ k) × (p.patterns ≡ ps)
came-in spec s [] k ps h = absurd h
came-in spec s (Fed e ∷ ls) k ps h = came-in spec s ls k ps h
came-in spec s (Own st ∷ ls) k ps h = came-in spec (step spec s st) ls k ps h
came-in spec s (Comes i e ∷ ls) k ps h = go (eqb i k) (λ t. eqb-true i k t) h (came-in spec (step spec s (join_step i e)) ls k ps)
  where
    Found : Type 0
    Found = (p : PunctAt) × In p (run spec (step spec s (join_step i e)) (join_steps ls)).puncts × (p.input ≡ k) × (p.patterns ≡ ps)

    first : (e' : Element) → e' ≡ e → i ≡ k → e' ≡ Punct ps → Found
    first e' q j r = subst (λ (x : Element). (p : PunctAt) × In p (run spec (step spec s (join_step i x)) (join_steps ls)).puncts × (p.input ≡ k) × (p.patterns ≡ ps)) (sym r ∙ q)
        (new_punct s i ps, puncts-on spec (step spec s (PunctComes i ps)) (join_steps ls) (new_punct s i ps) (In-append_right (new_punct s i ps) s.puncts (new_punct s i ps ∷ []) (inl refl)), j, refl)

    go : (b : Bool) → (b ≡ true → i ≡ k) → In (Punct ps) (cond b (e ∷ from_input k ls) (from_input k ls)) → (In (Punct ps) (from_input k ls) → Found) → Found
    go false j m f = f m
    go true j (inl q) f = first e refl (j refl) q
    go true j (inr m) f = f m

wild-widened : (spec : JoinData) (p : PunctAt) → p.input < inputs spec → p.patterns ≡ all_wild (arity spec p.input) → widened spec p ≡ all_wild (sum (arities spec))
wild-widened spec p lt e =
    ap (λ (qs : List Pattern). all_wild before ++ qs ++ all_wild behind) e
    ∙ ap (λ (qs : List Pattern). qs ++ all_wild behind) (replicate-append-replicate before (arity spec p.input) wild)
    ∙ replicate-append-replicate (before + arity spec p.input) behind wild
    ∙ ap all_wild (let q : before + arity spec p.input + behind ≡ sum (arities spec) = omega (arith, sum_by-take-drop (λ (n : ℕ). n) (arities spec) p.input, sum_by-drop_more (λ (n : ℕ). n) (arities spec) p.input 0 lt) in q)
  where
    before : ℕ
    before = sum (take p.input (arities spec))

    behind : ℕ
    behind = sum (drop (p.input + 1) (arities spec))

pub join-wild : (spec : JoinData) (ls : List Local) → 0 < inputs spec → HasWild (arity spec 0) (from_input 0 ls) → (run spec start (join_steps ls)).waiting ≡ [] → HasWild (sum (arities spec)) (hands_all (Join spec start) ls)
join-wild spec ls lt h done =
    subst (HasWild (sum (arities spec))) (sym (join-hands spec start ls))
    (elim (come-out spec start (join_steps ls) c.0 c.1) [
      | inl k ↦ absurd k
      | inr k ↦ elim k [
        | inl m ↦ absurd (subst (λ (xs : List PunctAt). In c.0 xs) done m)
        | inr m ↦ subst (λ (qs : List Pattern). In (Punct qs) (outputs spec start (join_steps ls))) (wild-widened spec c.0 (subst (λ (n : ℕ). n < inputs spec) (sym c.2) lt) (c.3 ∙ ap (λ n. all_wild (arity spec n)) (sym c.2))) m
      ]
    ])
  where
    c : (p : PunctAt) × In p (run spec start (join_steps ls)).puncts × (p.input ≡ 0) × (p.patterns ≡ all_wild (arity spec 0))
    c = came-in spec start ls 0 (all_wild (arity spec 0)) h

-- ---- unions

pub all-sent : (k n : ℕ) (came : List Sent) (p : Sent) (width : ℕ) → length p.patterns ≡ width → ((j : ℕ) → k ≤ j → j < k + n → (q : Sent) × In q came × (q.input ≡ j) × (q.patterns ≡ all_wild width)) → all_sent_from k n came p ≡ true
all-sent k zero came p width l f = refl
all-sent k (suc n) came p width l f =
    and_from (eqb k p.input || list_any test came) (all_sent_from (k + 1) n came p)
    (or_right (eqb k p.input) (list_any test came) (any_from test came w.0 w.1 (and_from (eqb w.0.input k) (covers_punct w.0.patterns p.patterns) (eq-eqb w.0.input k w.2) (ap (λ (qs : List Pattern). covers_punct qs p.patterns) w.3 ∙ wilds-cover_punct width p.patterns l))))
    (all-sent (k + 1) n came p width l (λ j a b. f j (omega arith) (omega arith)))
  where
    test : Sent → Bool
    test q = eqb q.input k && covers_punct q.patterns p.patterns

    w : (q : Sent) × In q came × (q.input ≡ k) × (q.patterns ≡ all_wild width)
    w = f k (omega arith) (omega arith)

-- a all_wild one has come from this input, or will
abbrev pub WillBeWild : ℕ → UnionState → List Local → ℕ → Type 0
WillBeWild width u ls k = ((q : Sent) × In q u.came × (q.input ≡ k) × (q.patterns ≡ all_wild width)) ⊎ HasWild width (from_input k ls)

pub will-on : (width n : ℕ) (u : UnionState) (i : ℕ) (ps : List Pattern) (ls : List Local) (k : ℕ) → WillBeWild width u (Comes i (Punct ps) ∷ ls) k → WillBeWild width (union_after n u i (Punct ps)) ls k
will-on width n u i ps ls k (inl c) = inl (c.0, In-append_left c.0 u.came (record { input = i; patterns = ps } ∷ []) c.1, c.2, c.3)
will-on width n u i ps ls k (inr h) = go (eqb i k) (λ t. eqb-true i k t) h
  where
    go : (b : Bool) → (b ≡ true → i ≡ k) → In (Punct (all_wild width)) (cond b (Punct ps ∷ from_input k ls) (from_input k ls)) → WillBeWild width (union_after n u i (Punct ps)) ls k
    go false e m = inr m
    go true e (inr m) = inr m
    go true e (inl q) = inl (record { input = i; patterns = ps }, In-append_right (record { input = i; patterns = ps }) u.came (record { input = i; patterns = ps } ∷ []) (inl refl), e refl, (let r : ps ≡ all_wild width = cc q in r))

pub union-wild : (width n : ℕ) (u : UnionState) (ls : List Local) → ((k : ℕ) → k < n → WillBeWild width u ls k)
    → ((q : Sent) → In q u.waiting → all_sent_from 0 n u.came q ≡ false)
    → ((q : Sent) × In q u.waiting × (q.patterns ≡ all_wild width)) ⊎ ((k : ℕ) × HasWild width (from_input k ls)) → HasWild width (hands_all (Union n u) ls)
union-wild width n u [] will wait (inr h) = absurd h.1
union-wild width n u [] will wait (inl w) =
    absurd (false≢true (sym (wait w.0 w.1) ∙ all-sent 0 n u.came w.0 width (ap length w.2 ∙ wild-length width) (λ j a b. elim (will j (omega arith)) [ inl c ↦ c | inr h ↦ absurd h ])))
  where
    wild-length : (m : ℕ) → length (all_wild m) ≡ m
    wild-length zero = refl
    wild-length (suc m) = ap suc (wild-length m)
union-wild width n u (Fed e ∷ ls) will wait h = union-wild width n u ls will wait h
union-wild width n u (Own s ∷ ls) will wait h = union-wild width n u ls will wait h
union-wild width n u (Comes i (Tuple row) ∷ ls) will wait h =
    inr (union-wild width n u ls (λ k lt. elim (will k lt) [ inl c ↦ inl c | inr m ↦ inr (skip k m) ]) wait (elim h [ inl w ↦ inl w | inr m ↦ inr (m.0, skip m.0 m.1) ]))
  where
    skip : (k : ℕ) → In (Punct (all_wild width)) (from_input k (Comes i (Tuple row) ∷ ls)) → HasWild width (from_input k ls)
    skip k m = go (eqb i k) m
      where
        go : (b : Bool) → In (Punct (all_wild width)) (cond b (Tuple row ∷ from_input k ls) (from_input k ls)) → HasWild width (from_input k ls)
        go false x = x
        go true (inl q) = cc
        go true (inr x) = x
union-wild width n u (Comes i (Punct ps) ∷ ls) will wait h =
    go h (union-wild width n (union_after n u i (Punct ps)) ls (λ k lt. will-on width n u i ps ls k (will k lt)) (λ q m. not-true (all_sent_from 0 n came q) (In-filter (λ p. not (all_sent_from 0 n came p)) q (u.waiting ++ new ∷ []) m).1))
  where
    new : Sent
    new = record { input = i; patterns = ps }

    came : List Sent
    came = u.came ++ new ∷ []

    Rest : Type 0
    Rest = ((q : Sent) × In q (union_after n u i (Punct ps)).waiting × (q.patterns ≡ all_wild width)) ⊎ ((k : ℕ) × HasWild width (from_input k ls))

    Out : Type 0
    Out = In (Punct (all_wild width)) (union_hands n u i (Punct ps) ++ hands_all (Union n (union_after n u i (Punct ps))) ls)

    one : (q : Sent) → In q (u.waiting ++ new ∷ []) → q.patterns ≡ all_wild width → (Rest → HasWild width (hands_all (Union n (union_after n u i (Punct ps))) ls)) → Out
    one q m e f = elim (cases_Bool (all_sent_from 0 n came q)) [
      | inl t ↦ In-append_left (Punct (all_wild width)) (union_hands n u i (Punct ps)) (hands_all (Union n (union_after n u i (Punct ps))) ls)
          (subst (λ (qs : List Pattern). In (Punct qs) (union_hands n u i (Punct ps))) e (In-map_from (λ (p : Sent). Punct p.patterns) q (filter (all_sent_from 0 n came) (u.waiting ++ new ∷ [])) (In-filter_from (all_sent_from 0 n came) q (u.waiting ++ new ∷ []) m t)))
      | inr t ↦ In-append_right (Punct (all_wild width)) (union_hands n u i (Punct ps)) (hands_all (Union n (union_after n u i (Punct ps))) ls)
          (f (inl (q, In-filter_from (λ p. not (all_sent_from 0 n came p)) q (u.waiting ++ new ∷ []) m (ap not t), e)))
    ]

    go : ((q : Sent) × In q u.waiting × (q.patterns ≡ all_wild width)) ⊎ ((k : ℕ) × HasWild width (from_input k (Comes i (Punct ps) ∷ ls))) → (Rest → HasWild width (hands_all (Union n (union_after n u i (Punct ps))) ls)) → Out
    go (inl w) f = one w.0 (In-append_left w.0 u.waiting (new ∷ []) w.1) w.2 f
    go (inr m) f = at (eqb i m.0) m.1
      where
        at : (b : Bool) → In (Punct (all_wild width)) (cond b (Punct ps ∷ from_input m.0 ls) (from_input m.0 ls)) → Out
        at false x = In-append_right (Punct (all_wild width)) (union_hands n u i (Punct ps)) (hands_all (Union n (union_after n u i (Punct ps))) ls) (f (inr (m.0, x)))
        at true (inr x) = In-append_right (Punct (all_wild width)) (union_hands n u i (Punct ps)) (hands_all (Union n (union_after n u i (Punct ps))) ls) (f (inr (m.0, x)))
        at true (inl q) = one new (In-append_right new u.waiting (new ∷ []) (inl refl)) (let r : ps ≡ all_wild width = cc q in r) f
