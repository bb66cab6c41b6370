-- What an element does to one node.
use Rattle.std.proofs.Common.{ℕ, ◌+◌, ◌<◌, ◌≤◌, ◌≢◌, Bool, true, false, cond, not, ◌||◌, List, [], ◌∷◌, ◌++◌, ◌≡◌, map, length, eqb, refl, sym, ap, ap₂, ◌∙◌, subst, inl, inr, arith}
use Rattle.std.proofs.lemmas.Bool.{cases_eq, false≢true, ne_eqb}
use Rattle.std.proofs.lemmas.List.{length_push}
use Rattle.pj_value.specs.declared.values.Value.{Value}
use Rattle.pj_value.proofs.Members.{In-append_cases}
use Rattle.pj_value.proofs.Numbers.{has-append, has-new}
use Rattle.pj_pattern.specs.Patterns.{Pattern}
use Rattle.pj_pattern.specs.declared.element.Element.{Element}
use Rattle.pj_pattern.specs.declared.element.Element.TheVariants.{Tuple, Punct}
use Rattle.pj_events.specs.Join.{In, JoinData, JoinState, PunctAt, TupleAt, hands_up, has, is_held, new_punct, new_tuple, step, widened}
use Rattle.pj_events.specs.KeptState.{KeptState, kept_of, kept_step}
use Rattle.pj_events.specs.Operators.{UnionState, group_after, group_hands, project_hands, select_hands, union_after, union_hands}
use Rattle.pj_events.specs.Plan.{Group, Join, Operator, Project, Select, Stream, Union, join_step}
use Rattle.pj_events.specs.CoreKept.{GroupKept, JoinKept, UnionKept}
use Rattle.pj_events.specs.Tables.{table_of}
use Rattle.pj_flow.specs.Unions.{UnionView}
use Rattle.pj_group.specs.Tables.{GroupView, StandsFor as HoldsGroup}
use Rattle.pj_join.specs.Joins.{JoinView, after}
use Rattle.pj_join.specs.Sweeping.{puncts_up}
use Rattle.pj_operator.specs.declared.operator.Emitted.{Emitted}
use Rattle.pj_operator.specs.declared.operator.OperatorState.TheVariants.{Stream as RunningStream, Select as RunningSelect, Project as RunningProject, Union as RunningUnion, Join as RunningJoin, Group as RunningGroup}
use Rattle.pj_operator.specs.Operators.{FitsInput, Follows, GroupRole, IsAs, IsBelow, IsOrderlyJoin, JoinRole, KeepsOpen, ProjectRole, SelectRole, UnionRole, emitted_list, IsTakenIn, kind_of, role_in, role_of, width_of}
use Rattle.pj_join_laws.proofs.Stand.{lacking-more}

-- ---- streams, selects and projects

pub stream_follows : (up : Emitted) (operator : Operator) (input : ℕ) (e : Element) → emitted_list up ≡ [] → IsAs RunningStream operator → Follows RunningStream up operator input e
stream_follows up (Stream schema sent) input e n a = record { stands = a; hands = n }
stream_follows up operator input e n a = absurd (let k : role_of (kind_of RunningStream) ≡ role_in operator = a.kind in cc)

pub select_follows : (test : List Pattern) (up : Emitted) (operator : Operator) (input : ℕ) (e : Element) → emitted_list up ≡ select_hands test e → IsAs (RunningSelect test) operator → Follows (RunningSelect test) up operator input e
select_follows own up (Select test) input e h a =
    let same : own ≡ test = (let k : SelectRole own ≡ SelectRole test = a.kind in cc) in
    record { stands = a; hands = h ∙ ap (λ (t : List Pattern). select_hands t e) same }
select_follows own up operator input e h a = absurd (let k : role_of (kind_of (RunningSelect own)) ≡ role_in operator = a.kind in cc)

pub project_follows : (columns : List ℕ) (up : Emitted) (operator : Operator) (input : ℕ) (e : Element) → emitted_list up ≡ project_hands columns e → IsAs (RunningProject columns) operator → Follows (RunningProject columns) up operator input e
project_follows own up (Project columns) input e h a =
    let same : own ≡ columns = (let k : ProjectRole own ≡ ProjectRole columns = a.kind in cc) in
    record { stands = a; hands = h ∙ ap (λ (cs : List ℕ). project_hands cs e) same }
project_follows own up operator input e h a = absurd (let k : role_of (kind_of (RunningProject own)) ≡ role_in operator = a.kind in cc)

-- ---- unions

pub union_follows : (old new : UnionView) (up : Emitted) (operator : Operator) (input : ℕ) (e : Element) → new ≡ record old { state = union_after old.inputs old.state input e }
    → emitted_list up ≡ union_hands old.inputs old.state input e → IsAs (RunningUnion old) operator → Follows (RunningUnion new) up operator input e
union_follows old new up (Union n u) input e is h a =
    let same : old.inputs ≡ n = (let k : UnionRole old.inputs ≡ UnionRole n = a.kind in cc) in
    let state : old.state ≡ u = (let k : UnionKept old.state ≡ UnionKept u = a.kept in cc) in
    record {
      stands = record {
        kind = ap (λ (v : UnionView). UnionRole v.inputs) is ∙ a.kind;
        kept = ap (λ (v : UnionView). UnionKept v.state) is ∙ ap₂ (λ (m : ℕ) (s : UnionState). UnionKept (union_after m s input e)) same state;
        below = tt;
      };
      hands = h ∙ ap₂ (λ (m : ℕ) (s : UnionState). union_hands m s input e) same state;
    }
union_follows old new up operator input e is h a = absurd (let k : role_of (kind_of (RunningUnion old)) ≡ role_in operator = a.kind in cc)

-- ---- groups

pub group_follows : (old new : GroupView) (up : Emitted) (operator : Operator) (input : ℕ) (e : Element) → new ≡ record old { count = old.count + 1; table = new.table }
    → ((rows : List (List Value)) → HoldsGroup old rows → HoldsGroup new (group_after old.spec rows e)) → ((rows : List (List Value)) → HoldsGroup old rows → emitted_list up ≡ group_hands old.spec rows e)
    → IsAs (RunningGroup old) operator → Follows (RunningGroup new) up operator input e
group_follows old new up (Group spec rows) input e is keeps h a =
    let spec-is : new.spec ≡ old.spec = ap (λ (v : GroupView). v.spec) is in
    let same : old.spec ≡ spec = (let k : GroupRole old.spec ≡ GroupRole spec = a.kind in cc) in
    let table : old.table ≡ table_of spec rows = (let k : GroupKept old.table ≡ GroupKept (table_of spec rows) = a.kept in cc) in
    let holds : HoldsGroup old rows = table ∙ ap (λ (s : _). table_of s rows) (sym same) in
    record {
      stands = record {
        kind = ap GroupRole spec-is ∙ a.kind;
        kept = ap GroupKept (keeps rows holds ∙ ap₂ (λ (s t : _). table_of s (group_after t rows e)) (spec-is ∙ same) same);
        below = tt;
      };
      hands = h rows holds ∙ ap (λ (s : _). group_hands s rows e) same;
    }
group_follows old new up operator input e is keeps h a = absurd (let k : role_of (kind_of (RunningGroup old)) ≡ role_in operator = a.kind in cc)

-- ---- joins

kept-come : (spec : JoinData) (s : JoinState) (input : ℕ) (e : Element) → IsBelow s → kept_step spec (kept_of s) (join_step input e) ≡ kept_of (step spec s (join_step input e))
kept-come spec s input (Tuple row) b =
    λ i. record {
      next = s.next + 1;
      stored = s.stored ++ new_tuple s input row ∷ [];
      puncts = s.puncts;
      pending = sym (lacking-more s.taken s.tuples (new_tuple s input row) (has-new s.taken s.next b.0)) i;
      opened = sym (lacking-more s.given s.tuples (new_tuple s input row) (has-new s.given s.next b.1)) i;
      waiting = s.waiting;
    }
kept-come spec s input (Punct patterns) b = refl

below-come : (spec : JoinData) (s : JoinState) (input : ℕ) (e : Element) → IsBelow s → IsBelow (step spec s (join_step input e))
below-come spec s input (Tuple row) b = ((λ u h. let l = b.0 u h in omega (arith, l)), (λ u h. let l = b.1 u h in omega (arith, l)))
below-come spec s input (Punct patterns) b = ((λ u h. let l = b.0 u h in omega (arith, l)), (λ u h. let l = b.1 u h in omega (arith, l)))

ups-come : (join : JoinView) (s : JoinState) (input : ℕ) (e : Element) → join.kept ≡ kept_of s → map Punct (puncts_up join (join_step input e)) ≡ hands_up join.spec s (join_step input e) ++ []
ups-come join s input (Tuple row) k = refl
ups-come join s input (Punct patterns) k =
    ap (λ (q : KeptState). map Punct (puncts_up (record { node = join.node; spec = join.spec; limit = join.limit; kept = q }) (join_step input (Punct patterns)))) k
    ∙ go (not (is_held s.stored (new_punct s input patterns)))
  where
    go : (b : Bool) → map Punct (cond b (widened join.spec (new_punct s input patterns) ∷ []) []) ≡ cond b (Punct (widened join.spec (new_punct s input patterns)) ∷ []) [] ++ []
    go true = refl
    go false = refl

pub join_follows : (old new : JoinView) (up : Emitted) (operator : Operator) (input : ℕ) (e : Element) → new ≡ after old (join_step input e) → emitted_list up ≡ map Punct (puncts_up old (join_step input e))
    → IsAs (RunningJoin old) operator → Follows (RunningJoin new) up operator input e
join_follows old new up (Join spec s) input e is h a =
    let same : old.spec ≡ spec = (let k : JoinRole old.spec ≡ JoinRole spec = a.kind in cc) in
    let kept : old.kept ≡ kept_of s = (let k : JoinKept old.kept ≡ JoinKept (kept_of s) = a.kept in cc) in
    record {
      stands = record {
        kind = ap (λ (j : JoinView). JoinRole j.spec) is ∙ a.kind;
        kept = ap (λ (j : JoinView). JoinKept j.kept) is ∙ ap₂ (λ (d : JoinData) (k : KeptState). JoinKept (kept_step d k (join_step input e))) same kept ∙ ap JoinKept (kept-come spec s input e a.below);
        below = below-come spec s input e a.below;
      };
      hands = h ∙ ups-come old s input e kept ∙ ap (λ (d : JoinData). hands_up d s (join_step input e) ++ []) same;
    }
join_follows old new up operator input e is h a = absurd (let k : role_of (kind_of (RunningJoin old)) ≡ role_in operator = a.kind in cc)

-- ---- an orderly join

-- a pushed number
pushed-one : (xs : List ℕ) (m n : ℕ) → has (xs ++ m ∷ []) n ≡ true → n ≢ m → has xs n ≡ true
pushed-one xs m n h ne = go (has xs n) (sym (has-append xs (m ∷ []) n) ∙ h)
  where
    go : (b : Bool) → (b || (eqb m n || false)) ≡ true → b ≡ true
    go true e = refl
    go false e = absurd (false≢true (ap (λ (c : Bool). c || false) (sym (ne_eqb m n (λ q. ne (sym q)))) ∙ e))

pushed-true : (xs : List ℕ) (m n : ℕ) → has xs n ≡ true → has (xs ++ m ∷ []) n ≡ true
pushed-true xs m n h = has-append xs (m ∷ []) n ∙ ap (λ (b : Bool). b || (eqb m n || false)) h

pushed-false : (xs : List ℕ) (m n : ℕ) → has xs n ≡ false → n ≢ m → has (xs ++ m ∷ []) n ≡ false
pushed-false xs m n h ne = has-append xs (m ∷ []) n ∙ ap₂ (λ (b c : Bool). b || (c || false)) h (ne_eqb m n (λ q. ne (sym q)))

pub join_keeps : (old new : JoinView) (input : ℕ) (e : Element) → new ≡ after old (join_step input e) → old.kept.next ≢ old.limit → FitsInput old.spec input (width_of e) → KeepsOpen (RunningJoin old) (RunningJoin new)
join_keeps old new input e is room fits o = subst (λ (j : JoinView). IsOrderlyJoin j × ((t : ℕ) → IsTakenIn (JoinKept old.kept) t → IsTakenIn (JoinKept j.kept) t)) (sym is) (go e fits)
  where
    below : (ts : List ℕ) (t : ℕ) → has (ts ++ old.kept.next ∷ []) t ≡ true → ((v : ℕ) → has ts v ≡ true → v < old.kept.next) → t < old.kept.next + 1
    below ts t h f = elim (cases_eq t old.kept.next) [
      | inl q ↦ omega (arith, q)
      | inr ne ↦ (let l = f t (pushed-one ts old.kept.next t h ne) in omega (arith, l))
    ]

    go : (x : Element) → FitsInput old.spec input (width_of x) → IsOrderlyJoin (after old (join_step input x)) × ((t : ℕ) → IsTakenIn (JoinKept old.kept) t → IsTakenIn (JoinKept (after old (join_step input x)).kept) t)
    go (Tuple row) fit = (
      record {
        below = λ t h. below old.kept.opened t h o.below;
        next = omega (arith, o.next, room);
        limit = o.limit;
        pending = omega (arith, o.pending, length_push old.kept.pending old.kept.next);
        opened = omega (arith, o.opened, length_push old.kept.opened old.kept.next);
        stored = omega (arith, o.stored, length_push old.kept.stored (record { ticket = old.kept.next; input = input; row = row }));
        waiting = omega (arith, o.waiting);
        rows_fit = λ x h. elim (In-append_cases x old.kept.stored (record { ticket = old.kept.next; input = input; row = row } ∷ []) h) [
          | inl k ↦ o.rows_fit x k
          | inr k ↦ last x k
        ];
        puncts_fit = o.puncts_fit;
      },
      λ t h. (pushed-true old.kept.opened old.kept.next t h.0, pushed-false old.kept.pending old.kept.next t h.1 (λ q. let l = o.below t h.0 in omega (arith, l, q))),
    )
      where
        last : (x : TupleAt) → In x (record { ticket = old.kept.next; input = input; row = row } ∷ []) → FitsInput old.spec x.input (length x.row)
        last x (inl q) = subst (λ (y : TupleAt). FitsInput old.spec y.input (length y.row)) q fit
        last x (inr q) = absurd q
    go (Punct patterns) fit = (
      record {
        below = λ t h. (let l = o.below t h in omega (arith, l));
        next = omega (arith, o.next, room);
        limit = o.limit;
        pending = omega (arith, o.pending);
        opened = omega (arith, o.opened);
        stored = omega (arith, o.stored);
        waiting = held (is_held old.kept.stored (record { ticket = old.kept.next; input = input; patterns = patterns }));
        rows_fit = o.rows_fit;
        puncts_fit = waits (is_held old.kept.stored (record { ticket = old.kept.next; input = input; patterns = patterns }));
      },
      λ t h. h,
    )
      where
        held : (b : Bool) → length (cond b (old.kept.waiting ++ record { ticket = old.kept.next; input = input; patterns = patterns } ∷ []) old.kept.waiting) ≤ old.kept.next + 1
        held true = omega (arith, o.waiting, length_push old.kept.waiting (record { ticket = old.kept.next; input = input; patterns = patterns }))
        held false = omega (arith, o.waiting)

        last : (p : PunctAt) → In p (record { ticket = old.kept.next; input = input; patterns = patterns } ∷ []) → FitsInput old.spec p.input (length p.patterns)
        last p (inl q) = subst (λ (y : PunctAt). FitsInput old.spec y.input (length y.patterns)) q fit
        last p (inr q) = absurd q

        waits : (b : Bool) (p : PunctAt) → In p (cond b (old.kept.waiting ++ record { ticket = old.kept.next; input = input; patterns = patterns } ∷ []) old.kept.waiting) → FitsInput old.spec p.input (length p.patterns)
        waits true p h = elim (In-append_cases p old.kept.waiting (record { ticket = old.kept.next; input = input; patterns = patterns } ∷ []) h) [ inl k ↦ o.puncts_fit p k | inr k ↦ last p k ]
        waits false p h = o.puncts_fit p h
