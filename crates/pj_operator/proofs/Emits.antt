-- What a node emits: at the top, to the node above, and one element after the other.
use Rattle.std.proofs.Common.{ℕ, zero, suc, ◌+◌, ◌<◌, ◌≤◌, ◌≢◌, Bool, true, false, cond, if◌then◌else◌, ◌&&◌, List, [], ◌∷◌, ◌++◌, ◌≡◌, Option, Some, None, Result, Ok, Err, IfErr, map, length, length-append, take, get_or, set, eqb, refl, sym, ap, ap₂, ◌∙◌, subst, inl, inr, arith, append-nil, append_assoc}
use Rattle.std.specs.Prelude.{IsErrAnd}
use Rattle.std.proofs.lemmas.Bool.{cases_eq, eq-eqb, eqb-true, false≢true}
use Rattle.std.proofs.lemmas.List.{length-set, length-map, map-append, get_or_default, length-take, take-take, get_or-set_same, get_or-set_other}
use Rattle.std.proofs.Math.ListN.{get_or-map}
use Rattle.std.proofs.Math.Seq.{map-set_same, take-length}
use Rattle.pj_pattern.specs.declared.element.Element.{Element}
use Rattle.pj_value.specs.declared.values.Value.{Value}
use Rattle.pj_value.proofs.Members.{In-append_left, In-append_right}
use Rattle.pj_events.specs.Join.{In}
use Rattle.pj_pattern.specs.declared.element.Element.TheVariants.{Tuple}
use Rattle.pj_events.specs.Outcomes.{elements_out}
use Rattle.pj_events.specs.declared.events.Out.TheVariants.{Tuple as RowOut}
use Rattle.pj_events.specs.declared.events.Out.{Out}
use Rattle.pj_events.specs.declared.events.Stop.{Stop}
use Rattle.pj_events.specs.declared.events.Stop.TheVariants.{Limit, NoMemory}
use Rattle.pj_events.specs.Plan.{Operator, Stream, Select, Project, Union, Join, Group, Node, Comes, hands, nowhere, operator_at}
use Rattle.pj_events.specs.History.{out_of}
use Rattle.pj_events.specs.Outcomes.{Arrival, Climb, Beyond, Below, Level, arriving, beyond_of, climb, climb_each, counts, is_full, passed, way_up}
use Rattle.pj_laws.specs.Climb.{Above, Climbed, above, climbed, in_two, node_after, node_hands, with_brought}
use Rattle.pj_laws.specs.ClimbLimits.{climb_then, level_at, reached_with}
use Rattle.pj_laws.proofs.ClimbingParts.{climbs-on}
use Rattle.pj_laws.proofs.ClimbingLimits.{climb-parts, levels-climb}
use Rattle.pj_laws.proofs.Trees.{length-brought, length-climbed, none-before}
use Rattle.pj_operator.specs.declared.operator.RunningOperator.{RunningOperator}
use Rattle.pj_operator.specs.declared.operator.Emitted.{Emitted}
use Rattle.pj_operator.specs.declared.operator.OperatorState.{OperatorState}
use Rattle.pj_operator.specs.declared.operator.OperatorState.TheVariants.{Stream as RunningStream, Select as RunningSelect, Project as RunningProject, Union as RunningUnion, Join as RunningJoin, Group as RunningGroup}
use Rattle.pj_operator.specs.Operators.{AreAs, AreLinked, Follows, FitsKind, Frame, GroupKind, IsLinked, JoinKind, Kind, ProjectKind, SelectKind, StreamKind, UnionKind, HasLimit, HaveLimit, IsAs, IsFull, IsOrderly, KeepsOpen, above_pair, running_at, count_in, count_seen, counted_by, frame_at, frame_of, frames_in, emitted_list, kept_seen, kind_of, no_operator, role_in, role_of, width_of, width_up, GroupRole, IsTakenIn, JoinRole}
use Rattle.pj_operator.specs.Emitting.{AreCounted, Emits, GoBeyond, HasReceived, HaveCounted, IsEmitStop, IsReceiveStop, Leaves, MayEmit, Scene, StayOpen, StaysAs, count_at, kind_at, state_at}
use Rattle.pj_operator.proofs.Ways.{above-same, both-at, ins, ins-climbed, ins-set, nothing-brought, tree-same, way-long, way-past}

-- ---- frames

pub frame-at : (operators : List RunningOperator) (n : ℕ) → frame_at (frames_in operators) n ≡ frame_of (running_at operators n)
frame-at operators n = get_or-map frame_of operators n no_operator

pub long-frames : (old new : List RunningOperator) → frames_in new ≡ frames_in old → length new ≡ length old
long-frames old new e = sym (length-map new frame_of) ∙ ap length e ∙ length-map old frame_of

pub same-frame : (old new : List RunningOperator) (n : ℕ) → frames_in new ≡ frames_in old → frame_of (running_at new n) ≡ frame_of (running_at old n)
same-frame old new n e = sym (frame-at new n) ∙ ap (λ (fs : List Frame). frame_at fs n) e ∙ frame-at old n

pub stays-none : (operators : List RunningOperator) → StaysAs operators operators
stays-none operators = record { frames = refl; peaks = refl; opens = λ b. (b, λ n t h. h) }

pub stays-then : (old mid new : List RunningOperator) → StaysAs old mid → StaysAs mid new → StaysAs old new
stays-then old mid new a b = record { frames = b.frames ∙ a.frames; peaks = b.peaks ∙ a.peaks; opens = λ below. let o = a.opens below in let p = b.opens o.0 in (p.0, λ n t h. p.1 n t (o.1 n t h)) }

pub opens-set : (operators : List RunningOperator) (n : ℕ) (operator : RunningOperator) → n < length operators → KeepsOpen (running_at operators n).state operator.state → StayOpen operators (set operators n operator)
opens-set operators n operator lt keeps orderly = ((λ m. one m), (λ m t h. two m t h))
  where
    K : IsOrderly operator.state × ((t : ℕ) → IsTakenIn (kept_seen (running_at operators n).state) t → IsTakenIn (kept_seen operator.state) t)
    K = keeps (orderly n)

    here : running_at (set operators n operator) n ≡ operator
    here = get_or-set_same operators n operator no_operator lt

    one : (m : ℕ) → IsOrderly (state_at (set operators n operator) m)
    one m = elim (cases_eq m n) [
      | inl q ↦ subst (λ (k : ℕ). IsOrderly (state_at (set operators n operator) k)) (sym q) (subst (λ (x : RunningOperator). IsOrderly x.state) (sym here) K.0)
      | inr ne ↦ subst (λ (x : RunningOperator). IsOrderly x.state) (sym (get_or-set_other operators n m operator no_operator ne)) (orderly m)
    ]

    two : (m t : ℕ) → IsTakenIn (kept_seen (state_at operators m)) t → IsTakenIn (kept_seen (state_at (set operators n operator) m)) t
    two m t h = elim (cases_eq m n) [
      | inl q ↦
          subst (λ (k : ℕ). IsTakenIn (kept_seen (state_at (set operators n operator) k)) t) (sym q)
          (subst (λ (x : RunningOperator). IsTakenIn (kept_seen x.state) t) (sym here) (K.1 t (subst (λ (k : ℕ). IsTakenIn (kept_seen (state_at operators k)) t) q h)))
      | inr ne ↦ subst (λ (x : RunningOperator). IsTakenIn (kept_seen x.state) t) (sym (get_or-set_other operators n m operator no_operator ne)) h
    ]

-- one node changes, and stays what it is
pub stays_set : (operators : List RunningOperator) (n : ℕ) (d operator : RunningOperator) → n < length operators → frame_of operator ≡ frame_of (get_or operators n d) → operator.peak ≡ (get_or operators n d).peak → KeepsOpen (get_or operators n d).state operator.state
    → StaysAs operators (set operators n operator)
stays_set operators n d operator lt frame peak keeps = record {
  frames = map-set_same frame_of operators n operator d frame;
  peaks = map-set_same (λ (x : RunningOperator). x.peak) operators n operator d peak;
  opens = opens-set operators n operator lt (subst (λ (x : RunningOperator). KeepsOpen x.state operator.state) (get_or_default operators n d no_operator lt) keeps);
}

-- what feeds a node above
pub linked-at : (operators : List RunningOperator) (n place input : ℕ) → AreLinked (frames_in operators) → n < length operators → (running_at operators n).above ≡ Some (place, input)
    → (n < place) × (place < length operators) × FitsKind (frame_at (frames_in operators) place).kind input (running_at operators n).width
    × ((frame_at (frames_in operators) place).width ≡ width_up (frame_at (frames_in operators) place).kind (running_at operators n).width)
linked-at operators n place input linked lt e =
    let l = (linked n (omega (arith, lt, length-map operators frame_of))).0 in
    let m : IsLinked (frames_in operators) n (Some (place, input)) (running_at operators n).width =
    subst (λ (o : Option (ℕ × ℕ)). IsLinked (frames_in operators) n o (running_at operators n).width) e
    (subst (λ (f : Frame). IsLinked (frames_in operators) n f.above f.width) (frame-at operators n) l) in
    (m.0, (let b = m.1 in omega (arith, b, length-map operators frame_of)), m.2, m.3)

-- a node and its operator change together
pub as-set : (operators : List RunningOperator) (nodes : List Node) (n : ℕ) (operator : RunningOperator) (node : Node) → AreAs operators nodes → n < length operators → node.inputs ≡ (get_or nodes n nowhere).inputs → IsAs operator.state node.operator
    → frame_of operator ≡ frame_of (running_at operators n) → AreAs (set operators n operator) (set nodes n node)
as-set operators nodes n operator node A lt inputs is frame = record {
  tree = tree-same nodes (set nodes n node) (sym same) A.tree;
  long = length-set operators n operator ∙ A.long ∙ sym (length-set nodes n node);
  links = λ m l.
      above-same (set nodes n node) nodes m same ∙ A.links m (omega (arith, l, length-set operators n operator))
      ∙ ap (λ (f : Frame). above_pair f.above) (sym (same-frame operators (set operators n operator) m (map-set_same frame_of operators n operator no_operator frame)));
  each = λ m l. elim (cases_eq m n) [
    | inl q ↦
        subst (λ (k : ℕ). IsAs (running_at (set operators n operator) k).state (operator_at (set nodes n node) k)) (sym q)
        (subst (λ (c : RunningOperator). IsAs c.state (operator_at (set nodes n node) n)) (sym (get_or-set_same operators n operator no_operator lt))
        (subst (λ (x : Node). IsAs operator.state x.operator) (sym (get_or-set_same nodes n node nowhere (omega (arith, lt, A.long)))) is))
    | inr ne ↦
        subst (λ (c : RunningOperator). IsAs c.state (operator_at (set nodes n node) m)) (sym (get_or-set_other operators n m operator no_operator ne))
        (subst (λ (x : Node). IsAs (running_at operators m).state x.operator) (sym (get_or-set_other nodes n m node nowhere ne)) (A.each m (omega (arith, l, length-set operators n operator))))
  ];
}
  where
    same : ins (set nodes n node) ≡ ins nodes
    same = ins-set nodes n node inputs

-- ---- at the top

climb-top : (depth limit : ℕ) (es : List Element) → beyond_of (climb depth limit [] es) ≡ None
climb-top zero limit es = refl
climb-top (suc depth) limit es = refl

abbrev nothing_to : Node → List Arrival
nothing_to x = []

none-brought : (nodes : List Node) (n : ℕ) → get_or (map nothing_to nodes) n [] ≡ []
none-brought nodes n = get_or-map nothing_to nodes n nowhere

-- nothing is counted of nothing
pub counted-zero : (kind : Kind) → counted_by kind zero ≡ zero
counted-zero StreamKind = refl
counted-zero (SelectKind test) = refl
counted-zero (ProjectKind columns) = refl
counted-zero (UnionKind inputs arity) = refl
counted-zero (JoinKind node spec limit) = refl
counted-zero (GroupKind spec limit) = refl

counted-plus : (kind : Kind) (n m : ℕ) → counted_by kind (n + m) ≡ counted_by kind n + counted_by kind m
counted-plus StreamKind n m = refl
counted-plus (SelectKind test) n m = refl
counted-plus (ProjectKind columns) n m = refl
counted-plus (UnionKind inputs arity) n m = refl
counted-plus (JoinKind node spec limit) n m = refl
counted-plus (GroupKind spec limit) n m = refl

pub still-counted : (operators : List RunningOperator) (brought : List (List Arrival)) → ((n : ℕ) → get_or brought n [] ≡ []) → AreCounted operators operators brought
still-counted operators brought none n lt =
    let a = ap (λ (came : List Arrival). counted_by (kind_at operators n) (length came)) (none n) in
    let b = counted-zero (kind_at operators n) in
    omega (arith, a, b)

-- an element that the last node hands up is handed out
pub emits-out : (operators : List RunningOperator) (outs outs' : List Out) (from : ℕ) (e : Element) → from < length operators → (running_at operators from).above ≡ None → outs' ≡ outs ++ out_of e ∷ []
    → Emits (record { operators = operators; outs = outs }) (record { operators = operators; outs = outs' }) from (e ∷ [])
emits-out operators outs outs' from e lt none handed = record {
  below = λ n le. refl;
  emits = λ nodes A.
      subst (λ (c : Climbed). Leaves (record { operators = operators; outs = outs }) (record { operators = operators; outs = outs' }) c)
      (sym ((climbs-on nodes A.tree).ends from (e ∷ []) (top nodes A)))
      (record { stands = A; hands = handed; counts = still-counted operators (map nothing_to nodes) (none-brought nodes) });
  within = λ limit have reached counted nodes A depth le.
      ap (λ (levels : List Level). beyond_of (climb depth limit levels (e ∷ []))) ((levels-climb nodes A.tree reached limit).ends from (top nodes A))
      ∙ climb-top depth limit (e ∷ []);
}
  where
    top : (nodes : List Node) → AreAs operators nodes → above nodes from ≡ None
    top nodes A = A.links from lt ∙ ap above_pair none

-- ---- to the node above

-- a node that counts is full where so many elements as may have reached it
full-is : (state : OperatorState) (operator : Operator) (limit number : ℕ) → IsAs state operator → HasLimit limit (kind_of state) → count_in state ≡ counted_by (kind_of state) number → (counts operator && eqb number limit) ≡ true → IsFull state
full-is RunningStream (Stream schema sent) limit number a h c e = absurd (false≢true e)
full-is (RunningSelect own) (Select test) limit number a h c e = absurd (false≢true e)
full-is (RunningProject own) (Project columns) limit number a h c e = absurd (false≢true e)
full-is (RunningUnion own) (Union n u) limit number a h c e = absurd (false≢true e)
full-is (RunningJoin own) (Join spec s) limit number a h c e = c ∙ eqb-true number limit e ∙ sym h
full-is (RunningGroup own) (Group spec rows) limit number a h c e = c ∙ eqb-true number limit e ∙ sym h
full-is state operator limit number a h c e = absurd (let k : role_of (kind_of state) ≡ role_in operator = a.kind in cc)

is-full : (state : OperatorState) (operator : Operator) (limit number : ℕ) → IsAs state operator → HasLimit limit (kind_of state) → count_in state ≡ counted_by (kind_of state) number → IsFull state → (counts operator && eqb number limit) ≡ true
is-full (RunningJoin own) (Join spec s) limit number a h c f = eq-eqb number limit (sym c ∙ f ∙ h)
is-full (RunningJoin own) operator limit number a h c f = absurd (let k : JoinRole own.spec ≡ role_in operator = a.kind in cc)
is-full (RunningGroup own) (Group spec rows) limit number a h c f = eq-eqb number limit (sym c ∙ f ∙ h)
is-full (RunningGroup own) operator limit number a h c f = absurd (let k : GroupRole own.spec ≡ role_in operator = a.kind in cc)
is-full state operator limit number a h c f = absurd f

not-full : (state : OperatorState) (operator : Operator) (limit number : ℕ) → IsAs state operator → HasLimit limit (kind_of state) → count_in state ≡ counted_by (kind_of state) number → ¬ IsFull state → (counts operator && eqb number limit) ≡ false
not-full state operator limit number a h c room = go (counts operator && eqb number limit) refl
  where
    go : (b : Bool) → (counts operator && eqb number limit) ≡ b → b ≡ false
    go true e = absurd (room (full-is state operator limit number a h c e))
    go false e = refl

-- one element goes up into a level
one-up : (depth limit : ℕ) (level : Level) (levels : List Level) (e : Element) → is_full limit level ≡ false
    → beyond_of (climb (suc depth) limit (level ∷ levels) (e ∷ [])) ≡ beyond_of (climb depth limit levels (hands level.operator (Comes level.input e)))
one-up depth limit level levels e room = go (is_full limit level) (climb depth limit levels (hands level.operator (Comes level.input e))) room
  where
    go : (b : Bool) (c : Climb) → b ≡ false
        → beyond_of (cond b (Beyond level.place) (elim c as (λ _. Climb) [
          | Beyond place ↦ Beyond place
          | Below higher ↦ climb_each (climb depth limit) limit (passed level e) higher []
        ])) ≡ beyond_of c
    go true c q = absurd (false≢true (sym q))
    go false (Beyond place) q = refl
    go false (Below higher) q = refl

none-up : (depth limit : ℕ) (level : Level) (levels : List Level) (e : Element) → is_full limit level ≡ true → beyond_of (climb (suc depth) limit (level ∷ levels) (e ∷ [])) ≡ Some level.place
none-up depth limit level levels e full = go (is_full limit level) full
  where
    go : (b : Bool) → b ≡ true
        → beyond_of (cond b (Beyond level.place) (elim (climb depth limit levels (hands level.operator (Comes level.input e))) as (λ _. Climb) [
          | Beyond place ↦ Beyond place
          | Below higher ↦ climb_each (climb depth limit) limit (passed level e) higher []
        ])) ≡ Some level.place
    go true q = refl
    go false q = absurd (false≢true q)

module _ (old mid : List RunningOperator) (from place input : ℕ) (e : Element) (up : Emitted) (lt : from < length old) (linked : AreLinked (frames_in old))
    (feeds : (running_at old from).above ≡ Some (place, input)) (H : HasReceived old mid place input e up) where
  there : (from < place) × (place < length old)
  there = let l = linked-at old from place input linked lt feeds in (l.0, l.1)

  abbrev came : List Arrival
  came = arriving input e ∷ []

  abbrev met : Above
  met = record { place = place; input = input }

  long-mid : length mid ≡ length old
  long-mid = ap length H.changes ∙ length-set old place H.operator

  mid-here : running_at mid place ≡ H.operator
  mid-here = ap (λ (operators : List RunningOperator). running_at operators place) H.changes ∙ get_or-set_same old place H.operator no_operator there.1

  mid-other : (n : ℕ) → n ≢ place → running_at mid n ≡ running_at old n
  mid-other n ne = ap (λ (operators : List RunningOperator). running_at operators n) H.changes ∙ get_or-set_other old place n H.operator no_operator ne

  pub frames-mid : frames_in mid ≡ frames_in old
  frames-mid = ap frames_in H.changes ∙ map-set_same frame_of old place H.operator no_operator H.frame

  kind-mid : kind_at mid place ≡ kind_at old place
  kind-mid = ap (λ (f : Frame). f.kind) (same-frame old mid place frames-mid)

  module _ (nodes : List Node) (A : AreAs old nodes) where
    abbrev node : Node
    node = get_or nodes place nowhere

    abbrev nodes-mid : List Node
    nodes-mid = set nodes place (node_after node came)

    met-there : above nodes from ≡ Some met
    met-there = A.links from lt ∙ ap above_pair feeds

    below : place < length nodes
    below = let a = there.1 in omega (arith, a, A.long)

    F : Follows H.operator.state up node.operator input e
    F = H.follows node.operator (A.each place there.1)

    B : AreAs mid nodes-mid
    B = subst (λ (operators : List RunningOperator). AreAs operators nodes-mid) (sym H.changes) (as-set old nodes place H.operator (node_after node came) A there.1 refl F.stands H.frame)

    handed-up : node_hands node came ≡ emitted_list up
    handed-up = append-nil (hands node.operator (Comes input e)) ∙ sym F.hands

    behind : climbed nodes from (e ∷ []) ≡ with_brought place came (climbed nodes-mid place (emitted_list up))
    behind = (climbs-on nodes A.tree).goes_on from (e ∷ []) met met-there ∙ ap (λ (es : List Element). with_brought place came (climbed nodes-mid place es)) handed-up

    leaves : (outs outs' : List Out) (new : List RunningOperator) → Leaves (record { operators = mid; outs = outs }) (record { operators = new; outs = outs' }) (climbed nodes-mid place (emitted_list up))
        → Leaves (record { operators = old; outs = outs }) (record { operators = new; outs = outs' }) (climbed nodes from (e ∷ []))
    leaves outs outs' new L =
        subst (λ (c : Climbed). Leaves (record { operators = old; outs = outs }) (record { operators = new; outs = outs' }) c) (sym behind) (record { stands = L.stands; hands = L.hands; counts = more })
      where
        c : Climbed
        c = climbed nodes-mid place (emitted_list up)

        long-brought : length c.brought ≡ length nodes
        long-brought = length-brought 0 (record { from = place; elements = emitted_list up }) nodes-mid ∙ length-set nodes place (node_after node came)

        nothing : get_or c.brought place [] ≡ []
        nothing = none-before 0 (record { from = place; elements = emitted_list up }) nodes-mid place B.tree.behind (omega arith)

        more : (n : ℕ) → n < length old → count_at new n ≡ count_at old n + counted_by (kind_at old n) (length (get_or (set c.brought place came) n []))
        more n l = elim (cases_eq n place) [
          | inl q ↦
              let here = ap (count_at new) q ∙ L.counts place (let a = there.1 in omega (arith, a, long-mid)) in
              let one = ap count_seen mid-here ∙ H.count in
              let none = ap (λ (xs : List Arrival). counted_by (kind_at mid place) (length xs)) nothing ∙ counted-zero (kind_at mid place) in
              let set-here = ap₂ (λ (k : Kind) (xs : List Arrival). counted_by k (length xs)) (ap (kind_at old) q) (ap (λ (m : ℕ). get_or (set c.brought place came) m []) q ∙ get_or-set_same c.brought place came [] (omega (arith, below, long-brought))) in
              let same = ap (count_at old) q in
              omega (arith, here, one, none, set-here, same)
          | inr ne ↦
              L.counts n (omega (arith, l, long-mid)) ∙ ap (λ (x : RunningOperator). count_seen x + counted_by (kind_of x.state) (length (get_or c.brought n []))) (mid-other n ne)
              ∙ ap (λ (xs : List Arrival). count_at old n + counted_by (kind_at old n) (length xs)) (sym (get_or-set_other c.brought place n came [] ne))
        ]

    module _ (reached : ℕ → ℕ) (counted : HaveCounted old reached) where
      -- one element more has reached the node
      abbrev one_more : ℕ → ℕ
      one_more n = if eqb n place then reached n + 1 else reached n

      more-there : one_more place ≡ reached place + 1
      more-there = ap (λ (b : Bool). cond b (reached place + 1) (reached place)) (eq-eqb place place refl)

      more-other : (n : ℕ) → n ≢ place → one_more n ≡ reached n
      more-other n ne = go (eqb n place) refl
        where
          go : (b : Bool) → eqb n place ≡ b → cond b (reached n + 1) (reached n) ≡ reached n
          go true q = absurd (ne (eqb-true n place q))
          go false q = refl

      counted-mid : HaveCounted mid one_more
      counted-mid n lt' = elim (cases_eq n place) [
        | inl q ↦
            let here = ap (count_at mid) q ∙ ap count_seen mid-here ∙ H.count in
            let before = counted place there.1 in
            let both = counted-plus (kind_at old place) (reached place) 1 in
            let up = ap₂ (λ (k : Kind) (m : ℕ). counted_by k m) (ap (kind_at mid) q ∙ kind-mid) (ap one_more q ∙ more-there) in
            omega (arith, here, before, both, up)
        | inr ne ↦
            ap count_seen (mid-other n ne) ∙ counted n (omega (arith, lt', long-mid))
            ∙ ap₂ (λ (k : Kind) (m : ℕ). counted_by k m) (ap (λ (x : RunningOperator). kind_of x.state) (sym (mid-other n ne))) (sym (more-other n ne))
      ]

      -- the levels above the node are those behind the element
      levels-mid : way_up reached 0 place nodes ≡ way_up one_more 0 place nodes-mid
      levels-mid = way-past reached one_more 0 place place nodes (node_after node came) A.tree.behind (omega arith) refl
          (λ m l lt'. sym (more-other m (λ q. omega (arith, l, q))))

    limit-there : (limit : ℕ) → HaveLimit limit (frames_in old) → HasLimit limit (kind_of (running_at old place).state)
    limit-there limit have =
        subst (λ (f : Frame). HasLimit limit f.kind) (frame-at old place) (have place (let a = there.1 in omega (arith, a, length-map old frame_of)))

  pub emits-above : (new : List RunningOperator) (outs outs' : List Out) → Emits (record { operators = mid; outs = outs }) (record { operators = new; outs = outs' }) place (emitted_list up)
      → (nodes : List Node) → AreAs old nodes → Leaves (record { operators = old; outs = outs }) (record { operators = new; outs = outs' }) (climbed nodes from (e ∷ []))
  emits-above new outs outs' C nodes A = leaves nodes A outs outs' new (C.emits (nodes-mid nodes A) (B nodes A))

  pub beyond-above : (o : Option ℕ) → GoBeyond mid place (emitted_list up) o → GoBeyond old from (e ∷ []) o
  beyond-above o G limit have reached counted nodes A zero le =
      absurd (let l = ap length ((levels-climb nodes A.tree reached limit).goes_on from met (met-there nodes A)) in omega (arith, le, l))
  beyond-above o G limit have reached counted nodes A (suc depth) le =
      let L = (levels-climb nodes A.tree reached limit).goes_on from met (met-there nodes A) in
      let long = ap length L in
      ap (λ (levels : List Level). beyond_of (climb (suc depth) limit levels (e ∷ []))) L
      ∙ one-up depth limit (level_at reached nodes met) (way_up reached 0 place nodes) e
      (not-full (running_at old place).state (operator_at nodes place) limit (reached place) (A.each place there.1) (limit-there nodes A limit have) (counted place there.1) H.room)
      ∙ ap₂ (λ (levels : List Level) (es : List Element). beyond_of (climb depth limit levels es)) (levels-mid nodes A reached counted) (sym (F nodes A).hands)
      ∙ G limit (subst (HaveLimit limit) (sym frames-mid) have) (one_more nodes A reached counted) (counted-mid nodes A reached counted) (nodes-mid nodes A) (B nodes A) depth
      (omega (arith, le, long, ap length (levels-mid nodes A reached counted)))

  pub emits-up : (new : List RunningOperator) (outs outs' : List Out) → Emits (record { operators = mid; outs = outs }) (record { operators = new; outs = outs' }) place (emitted_list up)
      → Emits (record { operators = old; outs = outs }) (record { operators = new; outs = outs' }) from (e ∷ [])
  emits-up new outs outs' C = record {
    below = λ n le. (let a = there.0 in C.below n (omega (arith, le, a)) ∙ mid-other n (λ q. omega (arith, le, a, q)));
    emits = emits-above new outs outs' C;
    within = beyond-above None C.within;
  }

  pub stops-up : (stop : Stop) → IsEmitStop mid place (emitted_list up) stop → IsEmitStop old from (e ∷ []) stop
  stops-up (Limit node) g = beyond-above (Some node) g
  stops-up NoMemory g = tt

-- an element that comes to a full node goes beyond the limit there
pub stops-there : (operators : List RunningOperator) (from place input : ℕ) (e : Element) → from < length operators → AreLinked (frames_in operators) → (running_at operators from).above ≡ Some (place, input)
    → IsFull (running_at operators place).state → GoBeyond operators from (e ∷ []) (Some place)
stops-there operators from place input e lt linked feeds full limit have reached counted nodes A zero le =
    absurd (let l = ap length ((levels-climb nodes A.tree reached limit).goes_on from (record { place = place; input = input }) (A.links from lt ∙ ap above_pair feeds)) in omega (arith, le, l))
stops-there operators from place input e lt linked feeds full limit have reached counted nodes A (suc depth) le =
    let there = (linked-at operators from place input linked lt feeds).1 in
    let met : Above = record { place = place; input = input } in
    ap (λ (levels : List Level). beyond_of (climb (suc depth) limit levels (e ∷ []))) ((levels-climb nodes A.tree reached limit).goes_on from met (A.links from lt ∙ ap above_pair feeds))
    ∙ none-up depth limit (level_at reached nodes met) (way_up reached 0 place nodes) e
    (is-full (running_at operators place).state (operator_at nodes place) limit (reached place) (A.each place there)
    (subst (λ (f : Frame). HasLimit limit f.kind) (frame-at operators place) (have place (omega (arith, there, length-map operators frame_of)))) (counted place there) full)

-- ---- one after the other

pub emits-none : (scene : Scene) (from : ℕ) → Emits scene scene from []
emits-none scene from = record {
  below = λ n le. refl;
  emits = λ nodes A.
      let n = (climbs-on nodes A.tree).nothing from in
      record {
        stands = subst (AreAs scene.operators) (sym n.0) A;
        hands = sym (append-nil scene.outs) ∙ ap (λ (es : List Element). scene.outs ++ map out_of es) (sym n.1);
        counts = still-counted scene.operators (climbed nodes from []).brought (nothing-brought nodes from);
      };
  within = λ limit have reached counted nodes A depth le. nothing depth limit (way_up reached 0 from nodes);
}
  where
    nothing : (depth limit : ℕ) (levels : List Level) → beyond_of (climb depth limit levels []) ≡ None
    nothing zero limit levels = refl
    nothing (suc depth) limit [] = refl
    nothing (suc depth) limit (level ∷ levels) = refl

leaves-both : (old mid new : Scene) (c d : Climbed) → frames_in mid.operators ≡ frames_in old.operators → length c.brought ≡ length d.brought → Leaves old mid c → Leaves mid new d → Leaves old new (in_two c d)
leaves-both old mid new c d frames same L M = record {
  stands = M.stands;
  hands = M.hands ∙ ap (λ (outs : List Out). outs ++ map out_of d.left.elements) L.hands ∙ append_assoc old.outs (map out_of c.left.elements) (map out_of d.left.elements)
      ∙ ap (λ (outs : List Out). old.outs ++ outs) (sym (map-append out_of c.left.elements d.left.elements));
  counts = λ n lt.
      let a = L.counts n lt in
      let b = M.counts n (omega (arith, lt, long-frames old.operators mid.operators frames)) in
      let kind = ap (λ (f : Frame). counted_by f.kind (length (get_or d.brought n []))) (same-frame old.operators mid.operators n frames) in
      let both = ap (λ (xs : List Arrival). counted_by (kind_at old.operators n) (length xs)) (both-at c.brought d.brought n same)
      ∙ ap (counted_by (kind_at old.operators n)) (length-append (get_or c.brought n []) (get_or d.brought n []))
      ∙ counted-plus (kind_at old.operators n) (length (get_or c.brought n [])) (length (get_or d.brought n [])) in
      omega (arith, a, b, kind, both);
}

module _ (old mid : Scene) (from : ℕ) (es fs : List Element) (C : Emits old mid from es) (same : frames_in mid.operators ≡ frames_in old.operators) where
  -- the levels behind the first of these are those of the nodes behind them
  pub then-beyond : (o : Option ℕ) → GoBeyond mid.operators from fs o → GoBeyond old.operators from (es ++ fs) o
  then-beyond o G limit have reached counted nodes A depth le =
      ap beyond_of (climb-parts depth limit levels es fs) ∙ go (climb depth limit levels es) refl (C.within limit have reached counted nodes A depth le)
    where
      levels : List Level
      levels = way_up reached 0 from nodes

      c : Climbed
      c = climbed nodes from es

      L : Leaves old mid c
      L = C.emits nodes A

      long : length (way_up (reached_with reached c.brought) 0 from c.nodes) ≤ depth
      long = let l = way-long (reached_with reached c.brought) reached 0 from c.nodes nodes (ins-climbed 0 (record { from = from; elements = es }) nodes) in omega (arith, l, le)

      counted-mid : HaveCounted mid.operators (reached_with reached c.brought)
      counted-mid n lt =
          let l : n < length old.operators = omega (arith, lt, long-frames old.operators mid.operators same) in
          let a = L.counts n l in
          let b = counted n l in
          let both = counted-plus (kind_at old.operators n) (reached n) (length (get_or c.brought n [])) in
          let kind = ap (λ (f : Frame). counted_by f.kind (reached_with reached c.brought n)) (same-frame old.operators mid.operators n same) in
          omega (arith, a, b, both, kind)

      go : (k : Climb) → climb depth limit levels es ≡ k → beyond_of k ≡ None → beyond_of (climb_then depth limit k fs) ≡ o
      go (Beyond place) q e = cc
      go (Below hs) q e =
          ap (λ (ls : List Level). beyond_of (climb depth limit ls fs)) ((levels-climb nodes A.tree reached limit).below depth from es hs le q)
          ∙ G limit (subst (HaveLimit limit) (sym same) have) (reached_with reached c.brought) counted-mid c.nodes L.stands depth long

  pub emits-then : (new : Scene) → Emits mid new from fs → Emits old new from (es ++ fs)
  emits-then new D = record {
    below = λ n le. D.below n le ∙ C.below n le;
    emits = λ nodes A.
        let L = C.emits nodes A in
        subst (Leaves old new) (sym ((climbs-on nodes A.tree).parts from es fs))
        (leaves-both old mid new (climbed nodes from es) (climbed (climbed nodes from es).nodes from fs)
        same
        (length-brought 0 (record { from = from; elements = es }) nodes ∙ sym (length-climbed 0 (record { from = from; elements = es }) nodes)
        ∙ sym (length-brought 0 (record { from = from; elements = fs }) (climbed nodes from es).nodes))
        L (D.emits (climbed nodes from es).nodes L.stands));
    within = then-beyond None D.within;
  }

  pub stops-then : (stop : Stop) → IsEmitStop mid.operators from fs stop → IsEmitStop old.operators from (es ++ fs) stop
  stops-then (Limit node) g = then-beyond (Some node) g
  stops-then NoMemory g = tt

-- where the first of these stop, so do all
pub stops-front : (operators : List RunningOperator) (from : ℕ) (es fs : List Element) (stop : Stop) → IsEmitStop operators from es stop → IsEmitStop operators from (es ++ fs) stop
stops-front operators from es fs NoMemory g = tt
stops-front operators from es fs (Limit at) g = λ limit have reached counted nodes A depth le.
    ap beyond_of (climb-parts depth limit (way_up reached 0 from nodes) es fs)
    ∙ go depth limit (climb depth limit (way_up reached 0 from nodes) es) (g limit have reached counted nodes A depth le)
  where
    go : (depth limit : ℕ) (k : Climb) → beyond_of k ≡ Some at → beyond_of (climb_then depth limit k fs) ≡ Some at
    go depth limit (Beyond place) e = e
    go depth limit (Below hs) e = cc

-- ---- what may climb on

-- what the node above hands up may climb from there
pub may-up : (old mid : List RunningOperator) (from place input : ℕ) (e : Element) (up : Emitted) → MayEmit old from (e ∷ []) → from < length old → (running_at old from).above ≡ Some (place, input)
    → HasReceived old mid place input e up → StaysAs old mid → MayEmit mid place (emitted_list up)
may-up old mid from place input e up may lt feeds H stays = record {
  linked = subst AreLinked (sym stays.frames) may.linked;
  orderly = (stays.opens may.orderly).0;
  wide = λ x h. H.wide (may.orderly place) x h ∙ ap (width_up (kind_at old place)) (may.wide e (inl refl)) ∙ sym here;
}
  where
    here : (running_at mid place).width ≡ width_up (kind_at old place) (running_at old from).width
    here =
        ap (λ (f : Frame). f.width) (same-frame old mid place stays.frames)
        ∙ subst (λ (f : Frame). f.width ≡ width_up f.kind (running_at old from).width) (frame-at old place) (linked-at old from place input may.linked lt feeds).3

-- what is left behind those that climbed may climb
pub may-then : (old mid : List RunningOperator) (from : ℕ) (es fs rest all : List Element) → MayEmit old from all → StaysAs old mid → all ≡ es ++ (fs ++ rest) → MayEmit mid from fs
may-then old mid from es fs rest all may stays parts = record {
  linked = subst AreLinked (sym stays.frames) may.linked;
  orderly = (stays.opens may.orderly).0;
  wide = λ x h.
      may.wide x (subst (In x) (sym parts) (In-append_right x es (fs ++ rest) (In-append_left x fs rest h)))
      ∙ ap (λ (f : Frame). f.width) (sym (same-frame old mid from stays.frames));
}

-- ---- calls

-- what holds of an error holds of it where it is handed on
pub err_through : {T E : Type 0} (P : E → Type 0) (result : Result T E) (e : E) → IsErrAnd result (λ f. f ≡ e) → P e → IfErr result P
err_through P (Ok x) e is p = absurd is
err_through P (Err f) e is p = subst P (sym is) p

-- of all these elements, the first climbed so far
pub record Rose (old now : Scene) (from : ℕ) (es rest all : List Element) : Type 0 where
  pub emits : Emits old now from es
  pub stays : StaysAs old.operators now.operators
  pub front : take (length old.outs) now.outs ≡ old.outs
  pub parts : all ≡ es ++ rest

pub rose-none : (scene : Scene) (from : ℕ) (rest all : List Element) → all ≡ rest → Rose scene scene from [] rest all
rose-none scene from rest all e = record { emits = emits-none scene from; stays = stays-none scene.operators; front = take-length scene.outs; parts = e }

pub front-then : (old mid new : List Out) → take (length old) mid ≡ old → take (length mid) new ≡ mid → take (length old) new ≡ old
front-then old mid new a b =
    let le : length old ≤ length mid = (let l = ap length a in omega (arith, l, length-take (length old) mid)) in
    sym (take-take (length old) (length mid) new le) ∙ ap (take (length old)) b ∙ a

pub rose-then : (old mid new : Scene) (from : ℕ) (es : List Element) (e : Element) (rest rest' all : List Element) → Rose old mid from es rest all → rest ≡ e ∷ rest' → Emits mid new from (e ∷ [])
    → StaysAs mid.operators new.operators → take (length mid.outs) new.outs ≡ mid.outs → Rose old new from (es ++ e ∷ []) rest' all
rose-then old mid new from es e rest rest' all R q C stays front = record {
  emits = emits-then old mid from es (e ∷ []) R.emits R.stays.frames new C;
  stays = stays-then old.operators mid.operators new.operators R.stays stays;
  front = front-then old.outs mid.outs new.outs R.front front;
  parts = R.parts ∙ ap (λ (xs : List Element). es ++ xs) q ∙ sym (append_assoc es (e ∷ []) rest');
}

pub may-rose : (old mid : Scene) (from : ℕ) (es fs rest rest' all : List Element) → MayEmit old.operators from all → Rose old mid from es rest all → rest ≡ fs ++ rest' → MayEmit mid.operators from fs
may-rose old mid from es fs rest rest' all may R q = may-then old.operators mid.operators from es fs rest' all may R.stays (R.parts ∙ ap (λ (xs : List Element). es ++ xs) q)

pub rose-stop : (old mid : Scene) (from : ℕ) (es : List Element) (e : Element) (rest rest' all : List Element) (stop : Stop) → Rose old mid from es rest all → rest ≡ e ∷ rest' → IsEmitStop mid.operators from (e ∷ []) stop
    → IsEmitStop old.operators from all stop
rose-stop old mid from es e rest rest' all stop R q s =
    subst (λ (xs : List Element). IsEmitStop old.operators from xs stop) (sym (R.parts ∙ ap (λ (xs : List Element). es ++ xs) q))
    (stops-then old mid from es (e ∷ rest') R.emits R.stays.frames stop (stops-front mid.operators from (e ∷ []) rest' stop s))

-- ---- the same elements

pub may-these : (operators : List RunningOperator) (from : ℕ) (es fs : List Element) → es ≡ fs → MayEmit operators from fs → MayEmit operators from es
may-these operators from es fs e may = subst (MayEmit operators from) (sym e) may

pub emits-these : (old new : Scene) (from : ℕ) (es fs : List Element) → es ≡ fs → Emits old new from es → Emits old new from fs
emits-these old new from es fs e emits = subst (Emits old new from) e emits

pub stops-these : (operators : List RunningOperator) (from : ℕ) (es fs : List Element) (stop : Stop) → es ≡ fs → IsEmitStop operators from es stop → IsEmitStop operators from fs stop
stops-these operators from es fs stop e stops = subst (λ (xs : List Element). IsEmitStop operators from xs stop) e stops

-- the node above, as it is read
pub feeds-at : (operators : List RunningOperator) (n : ℕ) (d : RunningOperator) (o : Option (ℕ × ℕ)) → n < length operators → (get_or operators n d).above ≡ o → (running_at operators n).above ≡ o
feeds-at operators n d o lt e = ap (λ (x : RunningOperator). x.above) (sym (get_or_default operators n d no_operator lt)) ∙ e

pub fits-at : (operators : List RunningOperator) (n place input : ℕ) (e : Element) → MayEmit operators n (e ∷ []) → n < length operators → (running_at operators n).above ≡ Some (place, input)
    → (n < place) × (place < length operators) × FitsKind (frame_at (frames_in operators) place).kind input (width_of e)
fits-at operators n place input e may lt feeds =
    let l = linked-at operators n place input may.linked lt feeds in
    (l.0, l.1, subst (λ (m : ℕ). FitsKind (frame_at (frames_in operators) place).kind input m) (sym (may.wide e (inl refl))) l.2)

-- where an element stops at the node above
pub receive_stop : (operators : List RunningOperator) (from place input : ℕ) (e : Element) (stop : Stop) → from < length operators → AreLinked (frames_in operators) → (running_at operators from).above ≡ Some (place, input)
    → IsReceiveStop operators place stop → IsEmitStop operators from (e ∷ []) stop
receive_stop operators from place input e (Limit at) lt linked feeds s = subst (λ (n : ℕ). GoBeyond operators from (e ∷ []) (Some n)) (sym s.0) (stops-there operators from place input e lt linked feeds s.1)
receive_stop operators from place input e NoMemory lt linked feeds s = tt

-- rows that the last node hands up are handed out
pub emits-rows-out : (operators : List RunningOperator) (rows : List (List Value)) (outs : List Out) (from : ℕ) → from < length operators → (running_at operators from).above ≡ None
    → Emits (record { operators = operators; outs = outs }) (record { operators = operators; outs = outs ++ map RowOut rows }) from (elements_out (map RowOut rows))
emits-rows-out operators [] outs from lt none =
    subst (λ (os : List Out). Emits (record { operators = operators; outs = outs }) (record { operators = operators; outs = os }) from []) (sym (append-nil outs)) (emits-none (record { operators = operators; outs = outs }) from)
emits-rows-out operators (row ∷ rows) outs from lt none =
    emits-then (record { operators = operators; outs = outs }) (record { operators = operators; outs = outs ++ RowOut row ∷ [] }) from (Tuple row ∷ []) (elements_out (map RowOut rows))
    (emits-out operators outs (outs ++ RowOut row ∷ []) from (Tuple row) lt none refl) refl (record { operators = operators; outs = outs ++ map RowOut (row ∷ rows) })
    (subst (λ (os : List Out). Emits (record { operators = operators; outs = outs ++ RowOut row ∷ [] }) (record { operators = operators; outs = os }) from (elements_out (map RowOut rows)))
    (append_assoc outs (RowOut row ∷ []) (map RowOut rows)) (emits-rows-out operators rows (outs ++ RowOut row ∷ []) from lt none))
