-- What an operator hands up goes on lawfully to its answer, where what comes from its inputs goes on so.
use Rattle.std.proofs.Common.{ℕ, zero, suc, ◌+◌, ◌<◌, Bool, true, false, ◌||◌, List, [], ◌∷◌, ◌++◌, ◌≡◌, map, length, get_or, refl, sym, ap, ◌∙◌, subst, inl, inr, eqb, arith, append_assoc, append-nil}
use Rattle.std.proofs.lemmas.Bool.{eq-eqb, or_right}
use Rattle.std.proofs.lemmas.List.{length-map}
use Rattle.pj_value.specs.declared.values.Value.{Value}
use Rattle.pj_value.specs.Bags.{weigh, SameBag}
use Rattle.pj_value.proofs.Members.{In-append_cases, In-append_left, In-append_right, In-map}
use Rattle.pj_pattern.specs.Elements.{IsLawful, NoneMatches}
use Rattle.pj_pattern.proofs.Elements.{rows_of-append}
use Rattle.pj_pattern.proofs.Lawful.{lawful_append, lawful_front, none_at, none_from, rows_lawful}
use Rattle.pj_pattern.proofs.Rows.{wilds-length}
use Rattle.pj_events.specs.Patterns.{Pattern, all_wild}
use Rattle.pj_events.specs.Join.{In, Element, Tuple, Punct, TupleAt, JoinData, JoinState, Take, Give, step, run, upto_from, has, rows_of}
use Rattle.pj_events.specs.Operators.{UnionState, union_after}
use Rattle.pj_events.specs.Plan.{Operator, Stream, Select, Project, Union, Join, Group, Local, Comes, Fed, Own, Fits, after_all, brought_from, hands_all, operator_answer, operator_width, HasGiven, IsWellMade}
use Rattle.pj_events.specs.History.{is_stream}
use Rattle.pj_events.specs.OneThread.{schema_of}
use Rattle.pj_laws.specs.Finality.{GoesOnLawfully}
use Rattle.pj_laws.proofs.Glue.{from_input, hands-append, after-append, from-append, from-brought}
use Rattle.pj_laws.proofs.Operators.{AreWithin, join_steps, join-after}
use Rattle.pj_laws.proofs.Whole.{IsGood, AreLocalsAllowed, allowed-append, brought-allowed, within-append, within-brought, clear-lawful, operator-good}
use Rattle.pj_laws.proofs.WholeAnswers.{fed_in, stream-hands, group-after, operator-rows}
use Rattle.pj_laws.proofs.Groups.{group_end, rows-map, row-in}
use Rattle.pj_laws.proofs.Closing.{group-empty}
use Rattle.pj_join_laws.proofs.Upto.{length-upto}

-- behind these elements the rows are lawful and fit, and with them the rows are those of the answer, as a bag
pub record GoesOnBy (width : ℕ) (es : List Element) (rest answer : List (List Value)) : Type 0 where
  pub good : IsGood width (es ++ map Tuple rest)
  pub whole : SameBag (rows_of es ++ rest) answer

-- ---- rows behind lawful elements

pub none-behind : (xs ys : List Element) → IsLawful (xs ++ ys) → (ps : List Pattern) → In (Punct ps) xs → NoneMatches ps ys
none-behind [] ys l ps h = absurd h
none-behind (Tuple row ∷ xs) ys l ps (inl q) = cc
none-behind (Tuple row ∷ xs) ys l ps (inr h) = none-behind xs ys l ps h
none-behind (Punct qs ∷ xs) ys l ps (inr h) = none-behind xs ys l.1 ps h
none-behind (Punct qs ∷ xs) ys l ps (inl q) =
    let p : qs ≡ ps = cc q in
    subst (λ (z : List Pattern). NoneMatches z ys) p (none_from qs ys (λ row h. none_at qs (xs ++ ys) l.0 row (In-append_right (Tuple row) xs ys h)))

none-rows : (ps : List Pattern) (es : List Element) → NoneMatches ps es → NoneMatches ps (map Tuple (rows_of es))
none-rows ps [] n = tt
none-rows ps (Tuple row ∷ es) n = (n.0, none-rows ps es n.1)
none-rows ps (Punct qs ∷ es) n = none-rows ps es n

rows-good : (width : ℕ) (xs ys : List Element) → IsGood width (xs ++ ys) → IsGood width (xs ++ map Tuple (rows_of ys))
rows-good width xs ys g = (
  lawful_append xs (map Tuple (rows_of ys)) (lawful_front xs ys g.0) (rows_lawful (λ r. r) (rows_of ys)) (λ ps h. none-rows ps ys (none-behind xs ys g.0 ps h)),
  λ e h. elim (In-append_cases e xs (map Tuple (rows_of ys)) h) [
    | inl k ↦ g.1 e (In-append_left e xs ys k)
    | inr k ↦ let r = In-map Tuple e (rows_of ys) k in
        g.1 e (subst (λ (z : Element). In z (xs ++ ys)) r.2 (In-append_right (Tuple r.0) xs ys (row-in r.0 ys r.1)))
  ],
)

rows-behind : (es : List Element) (rest : List (List Value)) → rows_of (es ++ map Tuple rest) ≡ rows_of es ++ rest
rows-behind es rest = rows_of-append es (map Tuple rest) ∙ ap (λ rows. rows_of es ++ rows) (rows-map rest)

-- ---- an operator that is fed on to its end

-- where more comes that ends it, what it hands up then is the rest of its answer
extend : (m : Operator) (ws : List ℕ) (ls more : List Local) (lists : List (List (List Value))) → IsWellMade m ws → AreWithin (length ws) ls → AreLocalsAllowed m ls
    → AreWithin (length ws) more → AreLocalsAllowed (after_all m ls) more → ((k : ℕ) → k < length ws → IsGood (get_or ws k 0) (from_input k ls ++ from_input k more))
    → HasGiven (after_all m (ls ++ more)) → length lists ≡ length ws
    → ((k : ℕ) → k < length ws → SameBag (rows_of (from_input k ls ++ from_input k more)) (get_or lists k []))
    → (rest : List (List Value)) × GoesOnBy (operator_width m ws) (hands_all m ls) rest (operator_answer m (rows_of (fed_in (ls ++ more))) lists)
extend m ws ls more lists made w a w' a' good done long same = (
  rows_of later,
  record {
    good = rows-good (operator_width m ws) (hands_all m ls) later (subst (IsGood (operator_width m ws)) both (operator-good m ws (ls ++ more) made within allowed flow));
    whole = λ g. ap (weigh g) (sym (rows_of-append (hands_all m ls) later) ∙ ap rows_of (sym both))
        ∙ operator-rows m ws (ls ++ more) lists made within allowed flow done long (λ k lt. subst (λ (es : List Element). SameBag (rows_of es) (get_or lists k [])) (sym (from-append k ls more)) (same k lt)) g;
  },
)
  where
    later : List Element
    later = hands_all (after_all m ls) more

    both : hands_all m (ls ++ more) ≡ hands_all m ls ++ later
    both = hands-append m ls more

    within : AreWithin (length ws) (ls ++ more)
    within = within-append (length ws) ls more w w'

    allowed : AreLocalsAllowed m (ls ++ more)
    allowed = allowed-append m ls more a a'

    flow : (k : ℕ) → k < length ws → IsGood (get_or ws k 0) (from_input k (ls ++ more))
    flow k lt = subst (IsGood (get_or ws k 0)) (sym (from-append k ls more)) (good k lt)

-- ---- elements that come from each input in turn

upto-at : (base n k : ℕ) → k < n → get_or (upto_from base n) k 0 ≡ base + k
upto-at base zero k lt = absurd (omega arith)
upto-at base (suc n) zero lt = omega arith
upto-at base (suc n) (suc k) lt = omega (arith, upto-at (base + 1) n k (omega arith))

-- these lists, each from its input
abbrev comes : List (List Element) → List Local
comes lists = brought_from 0 (upto_from 0 (length lists)) lists

from-comes : (lists : List (List Element)) (k : ℕ) → k < length lists → from_input k (comes lists) ≡ get_or lists k []
from-comes lists k lt =
    let z : k ≡ 0 + k = omega arith in
    ap (λ j. from_input j (comes lists)) z ∙ from-brought 0 k (upto_from 0 (length lists)) lists (omega (arith, lt, length-upto 0 (length lists)))
    ∙ ap (λ j. get_or lists j []) (upto-at 0 (length lists) k lt ∙ sym z)

comes-within : (n : ℕ) (lists : List (List Element)) → length lists ≡ n → AreWithin n (comes lists)
comes-within n lists e = within-brought n 0 (upto_from 0 (length lists)) lists (omega (arith, e, length-upto 0 (length lists)))

comes-allowed : (m : Operator) (lists : List (List Element)) → AreLocalsAllowed m (comes lists)
comes-allowed m lists = brought-allowed m 0 (upto_from 0 (length lists)) lists

rows-at : (rests : List (List (List Value))) (k : ℕ) → get_or (map (map Tuple) rests) k [] ≡ map Tuple (get_or rests k [])
rows-at [] k = refl
rows-at (rest ∷ rests) zero = refl
rows-at (rest ∷ rests) (suc k) = rows-at rests k

-- ---- a join that gives what it has not given

record Finish (spec : JoinData) (s : JoinState) (xs : List TupleAt) : Type 0 where
  pub own : List Local
  pub last : JoinState
  pub allowed : AreLocalsAllowed (Join spec s) own
  pub within : (n : ℕ) → AreWithin n own
  pub silent : (k : ℕ) → from_input k own ≡ []
  pub ends : after_all (Join spec s) own ≡ Join spec last
  pub tuples : last.tuples ≡ s.tuples
  pub kept : (u : ℕ) → has s.given u ≡ true → has last.given u ≡ true
  pub given : (x : TupleAt) → In x xs → has last.given x.ticket ≡ true

finish : (spec : JoinData) (s : JoinState) (xs : List TupleAt) → ((x : TupleAt) → In x xs → In x s.tuples) → Finish spec s xs
finish spec s [] there = record { own = []; last = s; allowed = tt; within = λ n. tt; silent = λ k. refl; ends = refl; tuples = refl; kept = λ u h. h; given = λ x h. absurd h }
finish spec s (x ∷ xs) there = go (λ s' h. finish spec s' xs h) (has s.given x.ticket) refl (has s.taken x.ticket) refl
  where
    u : ℕ
    u = x.ticket

    among : (z : ℕ) (us : List ℕ) → has (z ∷ us) z ≡ true
    among z us = ap (λ b. b || has us z) (eq-eqb z z refl)

    go : ((s' : JoinState) → ((y : TupleAt) → In y xs → In y s'.tuples) → Finish spec s' xs) → (b : Bool) → has s.given u ≡ b → (c : Bool) → has s.taken u ≡ c → Finish spec s (x ∷ xs)
    go on true e c f =
        let r = on s (λ y h. there y (inr h)) in record {
          own = r.own;
          last = r.last;
          allowed = r.allowed;
          within = r.within;
          silent = r.silent;
          ends = r.ends;
          tuples = r.tuples;
          kept = r.kept;
          given = λ y h. elim h [ inl q ↦ subst (λ (z : TupleAt). has r.last.given z.ticket ≡ true) q (r.kept u e) | inr k ↦ r.given y k ];
        }
    go on false e true f =
        let r = on (step spec s (Give u)) (λ y h. there y (inr h)) in record {
          own = Own (Give u) ∷ r.own;
          last = r.last;
          allowed = ((tt, (f, e)), r.allowed);
          within = r.within;
          silent = r.silent;
          ends = r.ends;
          tuples = r.tuples;
          kept = λ v h. r.kept v (or_right (eqb u v) (has s.given v) h);
          given = λ y h. elim h [ inl q ↦ subst (λ (z : TupleAt). has r.last.given z.ticket ≡ true) q (r.kept u (among u s.given)) | inr k ↦ r.given y k ];
        }
    go on false e false f =
        let r = on (step spec (step spec s (Take u)) (Give u)) (λ y h. there y (inr h)) in record {
          own = Own (Take u) ∷ Own (Give u) ∷ r.own;
          last = r.last;
          allowed = ((tt, ((x, there x (inl refl), refl), f)), ((tt, (among u s.taken, e)), r.allowed));
          within = r.within;
          silent = r.silent;
          ends = r.ends;
          tuples = r.tuples;
          kept = λ v h. r.kept v (or_right (eqb u v) (has s.given v) h);
          given = λ y h. elim h [ inl q ↦ subst (λ (z : TupleAt). has r.last.given z.ticket ≡ true) q (r.kept u (among u s.given)) | inr k ↦ r.given y k ];
        }

-- ---- each operator

-- what comes from each input goes on by these rests to these lists
abbrev InputsGoOn : List ℕ → List Local → List (List (List Value)) → List (List (List Value)) → Type 0
InputsGoOn ws ls rests lists = (k : ℕ) → k < length ws → GoesOnBy (get_or ws k 0) (from_input k ls) (get_or rests k []) (get_or lists k [])

-- an operator that is at its end once its inputs' rests have come and it has made these steps of its own
by-rests : (m : Operator) (ws : List ℕ) (ls own : List Local) (rests lists : List (List (List Value))) → IsWellMade m ws → AreWithin (length ws) ls → AreLocalsAllowed m ls → length rests ≡ length ws → length lists ≡ length ws
    → InputsGoOn ws ls rests lists → AreWithin (length ws) own → ((k : ℕ) → from_input k own ≡ []) → AreLocalsAllowed (after_all m (ls ++ comes (map (map Tuple) rests))) own
    → HasGiven (after_all (after_all m (ls ++ comes (map (map Tuple) rests))) own)
    → (rest : List (List Value)) × GoesOnBy (operator_width m ws) (hands_all m ls) rest (operator_answer m (rows_of (fed_in (ls ++ (comes (map (map Tuple) rests) ++ own)))) lists)
by-rests m ws ls own rests lists made w a longr long on wo silent ao done =
    extend m ws ls (come ++ own) lists made w a (within-append (length ws) come own (comes-within (length ws) (map (map Tuple) rests) (length-map rests (map Tuple) ∙ longr)) wo)
    (allowed-append (after_all m ls) come own (comes-allowed (after_all m ls) (map (map Tuple) rests)) (subst (λ (z : Operator). AreLocalsAllowed z own) (after-append m ls come) ao))
    (λ k lt. subst (λ (es : List Element). IsGood (get_or ws k 0) (from_input k ls ++ es)) (sym (from-more k lt)) (on k lt).good)
    (subst HasGiven (sym (after-append m (ls ++ come) own) ∙ ap (after_all m) (append_assoc ls come own)) done) long
    (λ k lt g. ap (λ es. weigh g (rows_of (from_input k ls ++ es))) (from-more k lt) ∙ ap (weigh g) (rows-behind (from_input k ls) (get_or rests k [])) ∙ (on k lt).whole g)
  where
    come : List Local
    come = comes (map (map Tuple) rests)

    from-more : (k : ℕ) → k < length ws → from_input k (come ++ own) ≡ map Tuple (get_or rests k [])
    from-more k lt =
        from-append k come own ∙ ap (λ es. from_input k come ++ es) (silent k) ∙ append-nil (from_input k come)
        ∙ from-comes (map (map Tuple) rests) k (omega (arith, lt, longr, length-map rests (map Tuple))) ∙ rows-at rests k

pub operator-goes-on : (m : Operator) (ws : List ℕ) (ls : List Local) (rests lists : List (List (List Value))) (rows : List (List Value)) → IsWellMade m ws → AreWithin (length ws) ls → AreLocalsAllowed m ls
    → length rests ≡ length ws → length lists ≡ length ws → InputsGoOn ws ls rests lists → (is_stream m ≡ true → GoesOnLawfully (schema_of m) (fed_in ls) rows)
    → (rest : List (List Value)) × GoesOnBy (operator_width m ws) (hands_all m ls) rest (operator_answer m rows lists)
operator-goes-on (Select test) ws ls rests lists rows made w a longr long on fed = by-rests (Select test) ws ls [] rests lists made w a longr long on tt (λ k. refl) tt (given (ls ++ comes (map (map Tuple) rests)))
  where
    given : (ks : List Local) → HasGiven (after_all (Select test) ks)
    given [] = tt
    given (k ∷ ks) = given ks
operator-goes-on (Project columns) ws ls rests lists rows made w a longr long on fed = by-rests (Project columns) ws ls [] rests lists made w a longr long on tt (λ k. refl) tt (given (ls ++ comes (map (map Tuple) rests)))
  where
    given : (ks : List Local) → HasGiven (after_all (Project columns) ks)
    given [] = tt
    given (k ∷ ks) = given ks
operator-goes-on (Join spec s) ws ls rests lists rows made w a longr long on fed =
    by-rests (Join spec s) ws ls f.own rests lists made w a longr long on (f.within (length ws)) f.silent (subst (λ (z : Operator). AreLocalsAllowed z f.own) (sym reached) f.allowed)
    (subst (λ (z : Operator). HasGiven (after_all z f.own)) (sym reached) (subst HasGiven (sym f.ends) (λ x h. f.given x (subst (λ (xs : List TupleAt). In x xs) f.tuples h))))
  where
    come : List Local
    come = ls ++ comes (map (map Tuple) rests)

    t : JoinState
    t = run spec s (join_steps come)

    reached : after_all (Join spec s) come ≡ Join spec t
    reached = join-after spec s come

    f : Finish spec t t.tuples
    f = finish spec t t.tuples (λ x h. h)
operator-goes-on (Union n u) ws ls rests lists rows made w a longr long on fed = by-rests (Union n u) ws ls [] rests lists made w a longr long on tt (λ k. refl) (nothing (after_all (Union n u) (ls ++ comes (map (map Tuple) rests)))) (given u (ls ++ comes (map (map Tuple) rests)))
  where
    nothing : (m : Operator) → AreLocalsAllowed m []
    nothing m = tt

    given : (v : UnionState) (ks : List Local) → HasGiven (after_all (Union n v) ks)
    given v [] = tt
    given v (Comes i e ∷ ks) = given (union_after n v i e) ks
    given v (Fed e ∷ ks) = given v ks
    given v (Own st ∷ ks) = given v ks
operator-goes-on (Stream schema sent) ws ls rests lists rows made w a longr long on fed = (
  f.later,
  record {
    good = (
      lawful_append (hands_all (Stream schema sent) ls) (map Tuple f.later) here.0 (rows_lawful (λ r. r) f.later) (λ ps h. none_from ps (map Tuple f.later) (λ row k. f.clear row (member row k) ps (subst (λ (es : List Element). In (Punct ps) es) same h))),
      λ e h. elim (In-append_cases e (hands_all (Stream schema sent) ls) (map Tuple f.later) h) [
        | inl k ↦ here.1 e k
        | inr k ↦ let r = In-map Tuple e f.later k in subst (Fits (length schema)) r.2 (f.fit r.0 r.1)
      ],
    );
    whole = λ g. ap (λ es. weigh g (rows_of es ++ f.later)) same ∙ ap (weigh g) (sym f.whole);
  },
)
  where
    f : GoesOnLawfully schema (fed_in ls) rows
    f = fed refl

    same : hands_all (Stream schema sent) ls ≡ fed_in ls
    same = stream-hands schema sent ls

    here : IsGood (length schema) (hands_all (Stream schema sent) ls)
    here = operator-good (Stream schema sent) ws ls made w a (λ k lt. absurd (omega (arith, lt, ap length made.0)))

    member : (row : List Value) → In (Tuple row) (map Tuple f.later) → In row f.later
    member row h = let r = In-map Tuple (Tuple row) f.later h in let q : r.0 ≡ row = cc r.2 in subst (λ (z : List Value). In z f.later) q r.1
operator-goes-on (Group spec held) ws ls rests lists rows made w a longr long on fed =
    extend (Group spec held) ws ls (comes (last ∷ [])) lists made w a (comes-within (length ws) (last ∷ []) (sym made.0)) (comes-allowed (after_all (Group spec held) ls) (last ∷ []))
    (λ k lt. subst (λ (j : ℕ). IsGood (get_or ws j 0) (from_input j ls ++ from_input j (comes (last ∷ [])))) (sym (first k lt)) (subst (λ (es : List Element). IsGood width (from_input 0 ls ++ es)) (sym came) good))
    (subst HasGiven (sym (group-after spec held (ls ++ comes (last ∷ [])) within)) (subst (λ (es : List Element). group_end spec held es ≡ []) (sym all) none))
    long
    (λ k lt. subst (λ (j : ℕ). SameBag (rows_of (from_input j ls ++ from_input j (comes (last ∷ [])))) (get_or lists j [])) (sym (first k lt))
    (λ g. ap (λ es. weigh g (rows_of (from_input 0 ls ++ es))) came ∙ ap (weigh g) rows-are ∙ start.whole g))
  where
    width : ℕ
    width = get_or ws 0 0

    rest : List (List Value)
    rest = get_or rests 0 []

    closing : List Element
    closing = Punct (all_wild width) ∷ []

    last : List Element
    last = map Tuple rest ++ closing

    start : GoesOnBy width (from_input 0 ls) rest (get_or lists 0 [])
    start = on 0 (omega (arith, made.0))

    first : (k : ℕ) → k < length ws → k ≡ 0
    first k lt = omega (arith, lt, made.0)

    came : from_input 0 (comes (last ∷ [])) ≡ last
    came = from-comes (last ∷ []) 0 (omega arith)

    assoc : (from_input 0 ls ++ map Tuple rest) ++ closing ≡ from_input 0 ls ++ last
    assoc = append_assoc (from_input 0 ls) (map Tuple rest) closing

    good : IsGood width (from_input 0 ls ++ last)
    good = subst (IsGood width) assoc (
      clear-lawful (from_input 0 ls ++ map Tuple rest) (Punct (all_wild width)) start.good.0 tt,
      λ e h. elim (In-append_cases e (from_input 0 ls ++ map Tuple rest) closing h) [
        | inl k ↦ start.good.1 e k
        | inr k ↦ elim k [ inl q ↦ subst (Fits width) q (wilds-length width) | inr q ↦ absurd q ]
      ],
    )

    rows-are : rows_of (from_input 0 ls ++ last) ≡ rows_of (from_input 0 ls) ++ rest
    rows-are = ap rows_of (sym assoc) ∙ rows_of-append (from_input 0 ls ++ map Tuple rest) closing ∙ append-nil (rows_of (from_input 0 ls ++ map Tuple rest)) ∙ rows-behind (from_input 0 ls) rest

    within : AreWithin 1 (ls ++ comes (last ∷ []))
    within = within-append 1 ls (comes (last ∷ [])) (subst (λ n. AreWithin n ls) made.0 w) (comes-within 1 (last ∷ []) refl)

    all : from_input 0 (ls ++ comes (last ∷ [])) ≡ from_input 0 ls ++ last
    all = from-append 0 ls (comes (last ∷ [])) ∙ ap (λ es. from_input 0 ls ++ es) came

    none : group_end spec held (from_input 0 ls ++ last) ≡ []
    none = group-empty width spec held (from_input 0 ls ++ last) (λ row h. absurd (subst (λ (xs : List (List Value)). In row xs) made.2 h)) good.1 good.0
        (In-append_right (Punct (all_wild width)) (from_input 0 ls) last (In-append_right (Punct (all_wild width)) (map Tuple rest) closing (inl refl)))
