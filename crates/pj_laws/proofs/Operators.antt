-- What each operator hands up matches_value, and is lawful where what comes from its inputs is.
use Rattle.std.proofs.Common.{ℕ, suc, ◌+◌, ◌<◌, Bool, true, false, cond, ◌&&◌, ◌||◌, not, List, [], ◌∷◌, ◌++◌, ◌≡◌, filter, flat_map, length, get_or, take, drop, sum, refl, sym, ap, ap₂, ◌∙◌, subst, inl, inr, eqb, arith, append_assoc, length-append}
use Rattle.pj_pattern.proofs.Lawful.{none_at as clear_at, none_from as clear_from, lawful_tail, lawful_append}
use Rattle.pj_value.proofs.Members.{In-append_cases, In-filter, In-map, In-flat_map, any_at}
use Rattle.pj_pattern.specs.Columns.{others_wild, picked_patterns}
use Rattle.std.specs.List.{list_any}
use Rattle.std.proofs.lemmas.Bool.{and_parts, and_from, or_cases, false≢true, eqb-true, eq-eqb, false_from_ne_true}
use Rattle.std.proofs.lemmas.List.Sums.{sum_by-take-drop, sum_by-drop_more}
use Rattle.pj_events.specs.Patterns.{Pattern, wild, all_wild, is_wild, matches_value, matches_row}
use Rattle.pj_events.specs.Join.{In, Value, no_value, arities, TupleAt, PunctAt, JoinData, JoinState, Step, TupleComes, PunctComes, Take, Give, Sweep, start, step, run, inputs, arity, is_held, kept, new_punct, IsAllowed, AreLegalSteps, results, Element, Tuple, Punct, joined, widened, hands_up, outputs}
use Rattle.pj_events.specs.Operators.{picked_cells, select_hands, project_hands}
use Rattle.pj_events.specs.Plan.{Join, Local, Comes, Fed, Own, join_step, join_local, after_all, hands_all, IsOwn, Fits}
use Rattle.pj_pattern.specs.Elements.{IsLawful}
use Rattle.pj_pattern.proofs.Covering.{wild_matches}
use Rattle.pj_pattern.proofs.Rows.{wilds-length}
use Rattle.pj_join_laws.proofs.Forget.{IsSound}
use Rattle.pj_join_laws.proofs.Sound.{sound-start, sound-step, run-append}
use Rattle.pj_join_laws.proofs.Widen.{joined-length}
use Rattle.pj_join_laws.proofs.Lawful.{result-of, run-lawful}
use Rattle.pj_laws.proofs.Glue.{from_input}

abbrev pub AllFit : ℕ → List Element → Type 0
AllFit width es = (e : Element) → In e es → Fits width e

-- ---- operators that take each element by itself

-- a list whose elements are each replaced by rows for a row, and by punctuations for a punctuation
pub flat-lawful : (width : ℕ) (f : Element → List Element)
    → ((e : Element) → IsLawful (f e))
    → ((row : List Value) (ps : List Pattern) → In (Punct ps) (f (Tuple row)) → ⊥)
    → ((ps : List Pattern) (row : List Value) → In (Tuple row) (f (Punct ps)) → ⊥)
    → ((ps qs : List Pattern) (row row' : List Value) → length ps ≡ width → length row ≡ width → In (Punct qs) (f (Punct ps)) → In (Tuple row') (f (Tuple row)) → matches_row ps row ≡ false → matches_row qs row' ≡ false)
    → (es : List Element) → AllFit width es → IsLawful es → IsLawful (flat_map f es)
flat-lawful width f each no-p no-r back [] fit l = tt
flat-lawful width f each no-p no-r back (Tuple row ∷ es) fit l =
    lawful_append (f (Tuple row)) (flat_map f es) (each (Tuple row)) (flat-lawful width f each no-p no-r back es (λ e h. fit e (inr h)) l) (λ ps h. absurd (no-p row ps h))
flat-lawful width f each no-p no-r back (Punct ps ∷ es) fit l =
    lawful_append (f (Punct ps)) (flat_map f es) (each (Punct ps)) (flat-lawful width f each no-p no-r back es (λ e h. fit e (inr h)) l.1) (λ qs h. clear_from qs (flat_map f es) (λ row' k.
    let r = In-flat_map f (Tuple row') es k in go qs h row' r.0 r.1 r.2))
  where
    go : (qs : List Pattern) → In (Punct qs) (f (Punct ps)) → (row' : List Value) (e : Element) → In e es → In (Tuple row') (f e) → matches_row qs row' ≡ false
    go qs h row' (Tuple row) m k = back ps qs row row' (fit (Punct ps) (inl refl)) (fit (Tuple row) (inr m)) h k (clear_at ps es l.0 row m)
    go qs h row' (Punct other) m k = absurd (no-r other row' k)

pub select-lawful : (width : ℕ) (test : List Pattern) (es : List Element) → AllFit width es → IsLawful es → IsLawful (flat_map (select_hands test) es)
select-lawful width test = flat-lawful width (select_hands test) each no-p no-r back
  where
    each : (e : Element) → IsLawful (select_hands test e)
    each (Tuple row) = go (matches_row test row)
      where
        go : (b : Bool) → IsLawful (cond b (Tuple row ∷ []) [])
        go true = tt
        go false = tt
    each (Punct ps) = (tt, tt)

    same : (row row' : List Value) (b : Bool) → In (Tuple row') (cond b (Tuple row ∷ []) []) → row ≡ row'
    same row row' true (inl q) = cc q
    same row row' true (inr h) = absurd h
    same row row' false h = absurd h

    no-p : (row : List Value) (ps : List Pattern) → In (Punct ps) (select_hands test (Tuple row)) → ⊥
    no-p row ps h = go (matches_row test row) h
      where
        go : (b : Bool) → In (Punct ps) (cond b (Tuple row ∷ []) []) → ⊥
        go true (inl q) = cc
        go true (inr k) = k
        go false k = k

    no-r : (ps : List Pattern) (row : List Value) → In (Tuple row) (select_hands test (Punct ps)) → ⊥
    no-r ps row (inl q) = cc
    no-r ps row (inr k) = k

    back : (ps qs : List Pattern) (row row' : List Value) → length ps ≡ width → length row ≡ width → In (Punct qs) (select_hands test (Punct ps)) → In (Tuple row') (select_hands test (Tuple row)) → matches_row ps row ≡ false → matches_row qs row' ≡ false
    back ps qs row row' a b (inl q) h m =
        let p : ps ≡ qs = cc q in
        ap₂ matches_row (sym p) (sym (same row row' (matches_row test row) h)) ∙ m
    back ps qs row row' a b (inr k) h m = absurd k

-- ---- a project

pub picked-at : (columns : List ℕ) (ps : List Pattern) (row : List Value) (c : ℕ) → matches_row (picked_patterns columns ps) (picked_cells columns row) ≡ true → In c columns → matches_value (get_or ps c wild) (get_or row c no_value) ≡ true
picked-at [] ps row c t h = absurd h
picked-at (d ∷ columns) ps row c t (inl q) = subst (λ (n : ℕ). matches_value (get_or ps n wild) (get_or row n no_value) ≡ true) q (and_parts (matches_value (get_or ps d wild) (get_or row d no_value)) (matches_row (picked_patterns columns ps) (picked_cells columns row)) t).0
picked-at (d ∷ columns) ps row c t (inr h) = picked-at columns ps row c (and_parts (matches_value (get_or ps d wild) (get_or row d no_value)) (matches_row (picked_patterns columns ps) (picked_cells columns row)) t).1 h

-- a row whose kept part matches_row the kept part of a punctuation with wildcards elsewhere matches_row it
pub picked-matches : (columns : List ℕ) (k : ℕ) (ps : List Pattern) (row : List Value) → length ps ≡ length row → others_wild columns k ps ≡ true
    → ((j : ℕ) → In (k + j) columns → matches_value (get_or ps j wild) (get_or row j no_value) ≡ true) → matches_row ps row ≡ true
picked-matches columns k [] [] l d f = refl
picked-matches columns k [] (v ∷ row) l d f = absurd (omega arith)
picked-matches columns k (p ∷ ps) [] l d f = absurd (omega arith)
picked-matches columns k (p ∷ ps) (v ∷ row) l d f =
    and_from (matches_value p v) (matches_row ps row)
    (elim (or_cases (list_any (λ c. eqb c k) columns) (is_wild p) both.0) [
      | inl t ↦ let r = any_at (λ c. eqb c k) columns t in
          let q : r.0 ≡ k + 0 = omega (arith, eqb-true r.0 k r.2) in f 0 (subst (λ (c : ℕ). In c columns) q r.1)
      | inr t ↦ wild_matches p v t
    ])
    (picked-matches columns (k + 1) ps row (omega arith) both.1 (λ j h. let q : k + 1 + j ≡ k + suc j = omega arith in f (suc j) (subst (λ (c : ℕ). In c columns) q h)))
  where
    both : ((list_any (λ c. eqb c k) columns || is_wild p) ≡ true) × (others_wild columns (k + 1) ps ≡ true)
    both = and_parts (list_any (λ c. eqb c k) columns || is_wild p) (others_wild columns (k + 1) ps) d

pub project-lawful : (width : ℕ) (columns : List ℕ) (es : List Element) → AllFit width es → IsLawful es → IsLawful (flat_map (project_hands columns) es)
project-lawful width columns = flat-lawful width (project_hands columns) each no-p no-r back
  where
    each : (e : Element) → IsLawful (project_hands columns e)
    each (Tuple row) = tt
    each (Punct ps) = go (others_wild columns 0 ps)
      where
        go : (b : Bool) → IsLawful (cond b (Punct (picked_patterns columns ps) ∷ []) [])
        go true = (tt, tt)
        go false = tt

    no-p : (row : List Value) (ps : List Pattern) → In (Punct ps) (project_hands columns (Tuple row)) → ⊥
    no-p row ps (inl q) = cc
    no-p row ps (inr k) = k

    no-r : (ps : List Pattern) (row : List Value) → In (Tuple row) (project_hands columns (Punct ps)) → ⊥
    no-r ps row h = go (others_wild columns 0 ps) h
      where
        go : (b : Bool) → In (Tuple row) (cond b (Punct (picked_patterns columns ps) ∷ []) []) → ⊥
        go true (inl q) = cc
        go true (inr k) = k
        go false k = k

    back : (ps qs : List Pattern) (row row' : List Value) → length ps ≡ width → length row ≡ width → In (Punct qs) (project_hands columns (Punct ps)) → In (Tuple row') (project_hands columns (Tuple row)) → matches_row ps row ≡ false → matches_row qs row' ≡ false
    back ps qs row row' a b h (inr k) m = absurd k
    back ps qs row row' a b h (inl r) m = go (others_wild columns 0 ps) refl h
      where
        go : (t : Bool) → others_wild columns 0 ps ≡ t → In (Punct qs) (cond t (Punct (picked_patterns columns ps) ∷ []) []) → matches_row qs row' ≡ false
        go false e k = absurd k
        go true e (inr k) = absurd k
        go true e (inl q) =
            let p : picked_patterns columns ps ≡ qs = cc q in
            let s : picked_cells columns row ≡ row' = cc r in
            ap₂ matches_row (sym p) (sym s)
            ∙ false_from_ne_true (matches_row (picked_patterns columns ps) (picked_cells columns row)) (λ t. false≢true (sym m ∙ picked-matches columns 0 ps row (a ∙ sym b) e (λ j h. let z : 0 + j ≡ j = omega arith in picked-at columns ps row j t (subst (λ (c : ℕ). In c columns) z h))))

-- ---- a join

pub widened-length : (spec : JoinData) (p : PunctAt) → p.input < inputs spec → length p.patterns ≡ arity spec p.input → length (widened spec p) ≡ sum (arities spec)
widened-length spec p lt l =
    omega (
      arith,
      length-append (all_wild before ++ p.patterns) (all_wild behind),
      length-append (all_wild before) p.patterns,
      wilds-length before,
      wilds-length behind,
      l,
      sum_by-take-drop (λ (n : ℕ). n) (arities spec) p.input,
      sum_by-drop_more (λ (n : ℕ). n) (arities spec) p.input 0 lt,
    )
  where
    before : ℕ
    before = sum (take p.input (arities spec))

    behind : ℕ
    behind = sum (drop (p.input + 1) (arities spec))

pub results-fit : (spec : JoinData) (s : JoinState) → IsSound spec s → (u : ℕ) (c : List TupleAt) → In c (results spec s.tuples s.tuples u) → length (joined c) ≡ sum (arities spec)
results-fit spec s i u c h = joined-length (arities spec) c (result-of spec s i u c h).long

hands_up-fit : (spec : JoinData) (s : JoinState) (st : Step) → IsSound spec s → IsAllowed spec s st → AllFit (sum (arities spec)) (hands_up spec s st)
hands_up-fit spec s (TupleComes input row) i a e h = absurd h
hands_up-fit spec s (PunctComes input patterns) i a e h = go (not (is_held s.stored (new_punct s input patterns))) h
  where
    go : (b : Bool) → In e (cond b (Punct (widened spec (new_punct s input patterns)) ∷ []) []) → Fits (sum (arities spec)) e
    go false k = absurd k
    go true (inl q) = subst (Fits (sum (arities spec))) q (widened-length spec (new_punct s input patterns) a.0 a.1)
    go true (inr k) = absurd k
hands_up-fit spec s (Take u) i a e h = absurd h
hands_up-fit spec s (Give u) i a e h =
    let c = In-map (λ c. Tuple (joined c)) e (results spec s.tuples s.tuples u) h in
    subst (Fits (sum (arities spec))) c.2 (results-fit spec s i u c.0 c.1)
hands_up-fit spec s (Sweep input) i a e h =
    let r = In-map (λ q. Punct (widened spec q)) e (filter (λ (q : PunctAt). eqb q.input input && not (is_held (kept spec s input) q)) s.waiting) h in
    let f = In-filter (λ (q : PunctAt). eqb q.input input && not (is_held (kept spec s input) q)) r.0 s.waiting r.1 in
    let p = i.punct_fit r.0 (i.waits r.0 f.0) in
    subst (Fits (sum (arities spec))) r.2 (widened-length spec r.0 p.0 p.1)

outputs-fit : (spec : JoinData) (s : JoinState) (sts : List Step) → IsSound spec s → AreLegalSteps spec s sts → AllFit (sum (arities spec)) (outputs spec s sts)
outputs-fit spec s [] i l e h = absurd h
outputs-fit spec s (st ∷ sts) i l e h = elim (In-append_cases e (hands_up spec s st) (outputs spec (step spec s st) sts) h) [
  | inl k ↦ hands_up-fit spec s st i l.0 e k
  | inr k ↦ outputs-fit spec (step spec s st) sts (sound-step spec s st i l.0) l.1 e k
]

abbrev pub join_steps : List Local → List Step
join_steps ls = flat_map join_local ls

outputs-append : (spec : JoinData) (s : JoinState) (xs ys : List Step) → outputs spec s (xs ++ ys) ≡ outputs spec s xs ++ outputs spec (run spec s xs) ys
outputs-append spec s [] ys = refl
outputs-append spec s (x ∷ xs) ys = ap (λ es. hands_up spec s x ++ es) (outputs-append spec (step spec s x) xs ys) ∙ sym (append_assoc (hands_up spec s x) (outputs spec (step spec s x) xs) (outputs spec (run spec (step spec s x) xs) ys))

pub join-hands : (spec : JoinData) (s : JoinState) (ls : List Local) → hands_all (Join spec s) ls ≡ outputs spec s (join_steps ls)
join-hands spec s [] = refl
join-hands spec s (l ∷ ls) = ap (λ es. outputs spec s (join_local l) ++ es) (join-hands spec (run spec s (join_local l)) ls) ∙ sym (outputs-append spec s (join_local l) (join_steps ls))

pub join-after : (spec : JoinData) (s : JoinState) (ls : List Local) → after_all (Join spec s) ls ≡ Join spec (run spec s (join_steps ls))
join-after spec s [] = refl
join-after spec s (l ∷ ls) = join-after spec (run spec s (join_local l)) ls ∙ ap (Join spec) (sym (run-append spec s (join_local l) (join_steps ls)))

-- what comes from inputs below n only
abbrev pub AreWithin : ℕ → List Local → Type 0
AreWithin n [] = Unit {0}
AreWithin n (Comes k e ∷ ls) = (k < n) × AreWithin n ls
AreWithin n (Fed e ∷ ls) = AreWithin n ls
AreWithin n (Own s ∷ ls) = AreWithin n ls

-- the join's own steps are allowed where they are made
abbrev pub AreOwnAllowed : JoinData → JoinState → List Local → Type 0
AreOwnAllowed spec s [] = Unit {0}
AreOwnAllowed spec s (Comes k e ∷ ls) = AreOwnAllowed spec (step spec s (join_step k e)) ls
AreOwnAllowed spec s (Fed e ∷ ls) = AreOwnAllowed spec s ls
AreOwnAllowed spec s (Own st ∷ ls) = IsOwn st × IsAllowed spec s st × AreOwnAllowed spec (step spec s st) ls

-- what came from this input before is clear of what comes now, which is lawful and matches_value
pub record IsFlow (spec : JoinData) (s : JoinState) (ls : List Local) (k : ℕ) : Type 0 where
  pub clear : (p : PunctAt) → In p s.puncts → p.input ≡ k → (row : List Value) → In (Tuple row) (from_input k ls) → matches_row p.patterns row ≡ false
  pub lawful : IsLawful (from_input k ls)
  pub fit : AllFit (arity spec k) (from_input k ls)

-- the flow of an input goes on behind what comes first
module _ (spec : JoinData) (s : JoinState) (i : ℕ) (e : Element) (ls : List Local) where
  first-in : (k : ℕ) → i ≡ k → from_input k (Comes i e ∷ ls) ≡ e ∷ from_input k ls
  first-in k q = ap (λ b. cond b (e ∷ from_input k ls) (from_input k ls)) (eq-eqb i k q)

  flow-tail : (k : ℕ) → IsFlow spec s (Comes i e ∷ ls) k → IsLawful (from_input k ls) × ((x : Element) → In x (from_input k ls) → In x (from_input k (Comes i e ∷ ls)))
  flow-tail k f = go (eqb i k) f.lawful
    where
      go : (b : Bool) → IsLawful (cond b (e ∷ from_input k ls) (from_input k ls)) → IsLawful (from_input k ls) × ((x : Element) → In x (from_input k ls) → In x (cond b (e ∷ from_input k ls) (from_input k ls)))
      go true l = (lawful_tail e (from_input k ls) l, λ x h. inr h)
      go false l = (l, λ x h. h)

  -- its own input's
  flow-here : IsFlow spec s (Comes i e ∷ ls) i → IsLawful (e ∷ from_input i ls) × ((x : Element) → In x (e ∷ from_input i ls) → In x (from_input i (Comes i e ∷ ls)))
  flow-here f = (subst IsLawful (first-in i refl) f.lawful, λ x h. subst (λ (es : List Element). In x es) (sym (first-in i refl)) h)

pub join-legal : (spec : JoinData) (s : JoinState) (ls : List Local) → AreWithin (inputs spec) ls → AreOwnAllowed spec s ls → ((k : ℕ) → k < inputs spec → IsFlow spec s ls k) → AreLegalSteps spec s (join_steps ls)
join-legal spec s [] w o f = tt
join-legal spec s (Fed e ∷ ls) w o f = join-legal spec s ls w o (λ k lt. let g = f k lt in record { clear = g.clear; lawful = g.lawful; fit = g.fit })
join-legal spec s (Own (TupleComes input row) ∷ ls) w o f = absurd o.0
join-legal spec s (Own (PunctComes input patterns) ∷ ls) w o f = absurd o.0
join-legal spec s (Own (Take u) ∷ ls) w o f = (o.1, join-legal spec (step spec s (Take u)) ls w o.2 (λ k lt. let g = f k lt in record { clear = g.clear; lawful = g.lawful; fit = g.fit }))
join-legal spec s (Own (Give u) ∷ ls) w o f = (o.1, join-legal spec (step spec s (Give u)) ls w o.2 (λ k lt. let g = f k lt in record { clear = g.clear; lawful = g.lawful; fit = g.fit }))
join-legal spec s (Own (Sweep input) ∷ ls) w o f = (o.1, join-legal spec (step spec s (Sweep input)) ls w o.2 (λ k lt. let g = f k lt in record { clear = g.clear; lawful = g.lawful; fit = g.fit }))
join-legal spec s (Comes i (Tuple row) ∷ ls) w o f = (
  (w.0, g.fit (Tuple row) (here.1 (Tuple row) (inl refl)), λ p hp q. g.clear p hp q row (here.1 (Tuple row) (inl refl))),
  join-legal spec (step spec s (TupleComes i row)) ls w.1 o (λ k lt. let t = flow-tail spec s i (Tuple row) ls k (f k lt) in record {
    clear = λ p hp q r h. (f k lt).clear p hp q r (t.1 (Tuple r) h);
    lawful = t.0;
    fit = λ e h. (f k lt).fit e (t.1 e h);
  }),
)
  where
    g : IsFlow spec s (Comes i (Tuple row) ∷ ls) i
    g = f i w.0

    here : IsLawful (Tuple row ∷ from_input i ls) × ((x : Element) → In x (Tuple row ∷ from_input i ls) → In x (from_input i (Comes i (Tuple row) ∷ ls)))
    here = flow-here spec s i (Tuple row) ls g
join-legal spec s (Comes i (Punct ps) ∷ ls) w o f = (
  (w.0, g.fit (Punct ps) (here.1 (Punct ps) (inl refl))),
  join-legal spec (step spec s (PunctComes i ps)) ls w.1 o (λ k lt. let t = flow-tail spec s i (Punct ps) ls k (f k lt) in record {
    clear = λ p hp q r h. elim (In-append_cases p s.puncts (new_punct s i ps ∷ []) hp) [
      | inl m ↦ (f k lt).clear p m q r (t.1 (Tuple r) h)
      | inr m ↦ new p m k q r h
    ];
    lawful = t.0;
    fit = λ e h. (f k lt).fit e (t.1 e h);
  }),
)
  where
    g : IsFlow spec s (Comes i (Punct ps) ∷ ls) i
    g = f i w.0

    here : IsLawful (Punct ps ∷ from_input i ls) × ((x : Element) → In x (Punct ps ∷ from_input i ls) → In x (from_input i (Comes i (Punct ps) ∷ ls)))
    here = flow-here spec s i (Punct ps) ls g

    new : (p : PunctAt) → In p (new_punct s i ps ∷ []) → (k : ℕ) → p.input ≡ k → (r : List Value) → In (Tuple r) (from_input k ls) → matches_row p.patterns r ≡ false
    new p (inl q) k e r h =
        subst (λ (z : PunctAt). matches_row z.patterns r ≡ false) q (clear_at ps (from_input i ls) here.0.0 r (subst (λ (n : ℕ). In (Tuple r) (from_input n ls)) (sym e ∙ ap (λ (z : PunctAt). z.input) (sym q)) h))
    new p (inr q) k e r h = absurd q

pub join-lawful : (spec : JoinData) (ls : List Local) → AreWithin (inputs spec) ls → AreOwnAllowed spec start ls
    → ((k : ℕ) → k < inputs spec → IsLawful (from_input k ls) × AllFit (arity spec k) (from_input k ls))
    → IsLawful (hands_all (Join spec start) ls) × AllFit (sum (arities spec)) (hands_all (Join spec start) ls)
join-lawful spec ls w o f = (
  subst IsLawful (sym (join-hands spec start ls)) (run-lawful spec start (join_steps ls) (sound-start spec) legal),
  subst (AllFit (sum (arities spec))) (sym (join-hands spec start ls)) (outputs-fit spec start (join_steps ls) (sound-start spec) legal),
)
  where
    legal : AreLegalSteps spec start (join_steps ls)
    legal = join-legal spec start ls w o (λ k lt. record { clear = λ p hp q. absurd hp; lawful = (f k lt).0; fit = (f k lt).1 })
