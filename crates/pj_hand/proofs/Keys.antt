-- The gives of all that is under way, and the probes that are held.
use Rattle.std.proofs.Common.{ℕ, zero, suc, ◌+◌, ◌<◌, ◌≤◌, Bool, true, false, not, ◌&&◌, List, [], ◌∷◌, ◌++◌, ◌≡◌, ◌⊎◌, None, filter, map, length, eqb, refl, sym, ap, ◌∙◌, subst, inl, inr, arith, append_assoc}
use Rattle.std.proofs.lemmas.Bool.{and_from, and_right, cases_eq, ne_eqb, not_from_false}
use Rattle.std.proofs.lemmas.List.{append-nil, map-append}
use Rattle.pj_value.specs.Lists.{In, has}
use Rattle.pj_value.proofs.Members.{In-append_cases, In-append_left, In-append_right, In-filter, In-map, In-map_from, filter_map_swap}
use Rattle.pj_value.proofs.Numbers.{has-in, in-has}
use Rattle.pj_events.specs.declared.events.Entry.{Entry}
use Rattle.pj_events.specs.declared.events.Event.TheVariants.{Give as Given}
use Rattle.pj_events.specs.History.{IsLegal, IsOn, Reached, begun, nodes_from, reached_of}
use Rattle.pj_events.specs.Join.{JoinData, JoinState, Step, TupleAt, TupleComes, PunctComes, Take, Give, Sweep, new_tuple, run, start, step}
use Rattle.pj_events.specs.KeptState.{lacking}
use Rattle.pj_events.specs.OneThread.{Pending, plain}
use Rattle.pj_events.specs.Outcomes.{join_steps_of}
use Rattle.pj_events.specs.Plan.{ArePlanned, Node}
use Rattle.pj_join_laws.proofs.Tickets.{AreAscending}
use Rattle.pj_laws.proofs.Held.{give-allowed}
use Rattle.pj_laws.proofs.Histories.{nodes-append, reached-append}
use Rattle.pj_laws.proofs.HistoryAnswers.{grows-legally}
use Rattle.pj_laws.proofs.Probes.{length-from}
use Rattle.pj_plan.specs.Sound.{IsSoundPlan}
use Rattle.pj_probe.specs.declared.probe.Found.{Found}
use Rattle.pj_core.specs.Cores.{nodes_after, nodes_in}
use Rattle.pj_core.proofs.Planned.{planned}
use Rattle.pj_core_laws.proofs.Allowed.{goes-on}
use Rattle.pj_script.specs.Playing.{gives, gives_at, gives_from, under_way_at}
use Rattle.pj_hand.specs.Hands.{HandState, HandStandsFor, HoldsUnderWay}
use Rattle.pj_hand.specs.Held.{AreInOrder}
use Rattle.pj_hand.proofs.InOrder.{held-is, is-held, precedes}
use Rattle.pj_hand.proofs.UnderWay.{entry-changes, node-cases, state-is, way-is}

-- ---- tickets ascend

ascending-more : (ts : List ℕ) (t : ℕ) → AreAscending ts → ((v : ℕ) → In v ts → v < t) → AreAscending (ts ++ t ∷ [])
ascending-more [] t a b = ((λ v i. absurd i), tt)
ascending-more (u ∷ ts) t a b = (
  (λ v i. elim (In-append_cases v ts (t ∷ []) i) [ inl k ↦ a.0 v k | inr k ↦ elim k [ inl e ↦ (let l = b u (inl refl) in omega (arith, l, e)) | inr m ↦ absurd m ] ]),
  ascending-more ts t a.1 (λ v i. b v (inr i)),
)

ascending-filter : (p : ℕ → Bool) (ts : List ℕ) → AreAscending ts → AreAscending (filter p ts)
ascending-filter p [] a = tt
ascending-filter p (t ∷ ts) a = go (p t) (ascending-filter p ts a.1)
  where
    go : (b : Bool) → AreAscending (filter p ts) → AreAscending (Rattle.std.proofs.Common.cond b (t ∷ filter p ts) (filter p ts))
    go true i = ((λ v k. a.0 v (In-filter p v ts k).0), i)
    go false i = i

abbrev ticket_in : TupleAt → ℕ
ticket_in x = x.ticket

-- the tickets of what came, each below the next one
abbrev AreNumbered : JoinState → Type 0
AreNumbered s = AreAscending (map ticket_in s.tuples) × ((v : ℕ) → In v (map ticket_in s.tuples) → v < s.next)

numbered-step : (spec : JoinData) (s : JoinState) (e : Step) → AreNumbered s → AreNumbered (step spec s e)
numbered-step spec s (TupleComes input row) a = (
  subst AreAscending (sym more) (ascending-more (map ticket_in s.tuples) s.next a.0 a.1),
  (λ v i. elim (In-append_cases v (map ticket_in s.tuples) (s.next ∷ []) (subst (λ (ts : List ℕ). In v ts) more i)) [
    | inl k ↦ (let l = a.1 v k in omega (arith, l))
    | inr k ↦ elim k [ inl e ↦ omega (arith, e) | inr m ↦ absurd m ]
  ]),
)
  where
    more : map ticket_in (s.tuples ++ new_tuple s input row ∷ []) ≡ map ticket_in s.tuples ++ s.next ∷ []
    more = map-append ticket_in s.tuples (new_tuple s input row ∷ [])
numbered-step spec s (PunctComes input patterns) a = (a.0, (λ v i. let l = a.1 v i in omega (arith, l)))
numbered-step spec s (Take u) a = a
numbered-step spec s (Give u) a = a
numbered-step spec s (Sweep input) a = a

numbered-run : (spec : JoinData) (s : JoinState) (es : List Step) → AreNumbered s → AreNumbered (run spec s es)
numbered-run spec s [] a = a
numbered-run spec s (e ∷ es) a = numbered-run spec (step spec s e) es (numbered-step spec s e a)

ways-ascend : (s : JoinState) → AreNumbered s → AreAscending (filter (has s.taken) (lacking s.given s.tuples))
ways-ascend s a =
    ascending-filter (has s.taken) (lacking s.given s.tuples)
    (subst AreAscending (filter_map_swap (λ t. not (has s.given t)) ticket_in s.tuples) (ascending-filter (λ t. not (has s.given t)) (map ticket_in s.tuples) a.0))

-- ---- tickets of joins, in order

abbrev Before : Pending → Pending → Type 0
Before p q = (p.join < q.join) ⊎ ((p.join ≡ q.join) × (p.ticket < q.ticket))

abbrev AreSorted : List Pending → Type 0
AreSorted [] = Unit {0}
AreSorted (p ∷ ps) = ((q : Pending) → In q ps → Before p q) × AreSorted ps

both-before : (p q : Pending) → Before p q → Before q p → ⊥
both-before p q (inl l) (inl k) = absurd (omega (arith, l, k))
both-before p q (inl l) (inr k) = absurd (let e = k.0 in omega (arith, l, e))
both-before p q (inr l) (inl k) = absurd (let e = l.0 in omega (arith, e, k))
both-before p q (inr l) (inr k) = absurd (let a = l.1 in let b = k.1 in omega (arith, a, b))

-- lists in order that have the same tickets are the same
sorted-same : (ps qs : List Pending) → AreSorted ps → AreSorted qs → ((x : Pending) → In x ps → In x qs) → ((x : Pending) → In x qs → In x ps) → ps ≡ qs
sorted-same [] [] s t f g = refl
sorted-same [] (q ∷ qs) s t f g = absurd (g q (inl refl))
sorted-same (p ∷ ps) [] s t f g = absurd (f p (inl refl))
sorted-same (p ∷ ps) (q ∷ qs) s t f g = ap (λ (x : Pending). x ∷ ps) first ∙ ap (λ (xs : List Pending). q ∷ xs) (sorted-same ps qs s.1 t.1 there back)
  where
    meets : (q ≡ p) ⊎ In p qs → (p ≡ q) ⊎ In q ps → p ≡ q
    meets (inl e) k = sym e
    meets (inr i) (inl e) = e
    meets (inr i) (inr k) = absurd (both-before p q (s.0 q k) (t.0 p i))

    first : p ≡ q
    first = meets (f p (inl refl)) (g q (inl refl))

    there : (x : Pending) → In x ps → In x qs
    there x i = elim (f x (inr i)) [ inl e ↦ absurd (let b = subst (Before p) (sym e ∙ sym first) (s.0 x i) in both-before p p b b) | inr k ↦ k ]

    back : (x : Pending) → In x qs → In x ps
    back x i = elim (g x (inr i)) [ inl e ↦ absurd (let b = subst (Before q) (sym e ∙ first) (t.0 x i) in both-before q q b b) | inr k ↦ k ]

sorted-append : (ps qs : List Pending) → AreSorted ps → AreSorted qs → ((p q : Pending) → In p ps → In q qs → Before p q) → AreSorted (ps ++ qs)
sorted-append [] qs s t f = t
sorted-append (p ∷ ps) qs s t f = ((λ x i. elim (In-append_cases x ps qs i) [ inl k ↦ s.0 x k | inr k ↦ f p x (inl refl) k ]), sorted-append ps qs s.1 t (λ x y i k. f x y (inr i) k))

-- ---- the gives of all that is under way

abbrev pub give_of : Pending → Entry
give_of p = plain (Given p.join p.ticket)

abbrev keys_at : ℕ → List ℕ → List Pending
keys_at join [] = []
keys_at join (t ∷ ts) = record { join = join; ticket = t } ∷ keys_at join ts

abbrev keys_from : List Node → ℕ → ℕ → List Pending
keys_from nodes join zero = []
keys_from nodes join (suc n) = keys_at join (under_way_at nodes join) ++ keys_from (nodes_from nodes (gives_at join (under_way_at nodes join))) (join + 1) n

gives-keys-at : (join : ℕ) (ts : List ℕ) → gives_at join ts ≡ map give_of (keys_at join ts)
gives-keys-at join [] = refl
gives-keys-at join (t ∷ ts) = ap (λ (es : List Entry). plain (Given join t) ∷ es) (gives-keys-at join ts)

gives-keys : (nodes : List Node) (join n : ℕ) → gives_from nodes join n ≡ map give_of (keys_from nodes join n)
gives-keys nodes join zero = refl
gives-keys nodes join (suc n) =
    let here = under_way_at nodes join in
    let later = nodes_from nodes (gives_at join here) in
    ap (λ (es : List Entry). es ++ gives_from later (join + 1) n) (gives-keys-at join here)
    ∙ ap (λ (es : List Entry). map give_of (keys_at join here) ++ es) (gives-keys later (join + 1) n)
    ∙ sym (map-append give_of (keys_at join here) (keys_from later (join + 1) n))

at-in : (join : ℕ) (ts : List ℕ) (p : Pending) → In p (keys_at join ts) → (join ≡ p.join) × In p.ticket ts
at-in join [] p i = absurd i
at-in join (t ∷ ts) p (inl e) = (ap (λ (q : Pending). q.join) e, inl (ap (λ (q : Pending). q.ticket) e))
at-in join (t ∷ ts) p (inr i) = let r = at-in join ts p i in (r.0, inr r.1)

at-from : (join : ℕ) (ts : List ℕ) (p : Pending) → join ≡ p.join → In p.ticket ts → In p (keys_at join ts)
at-from join [] p e i = absurd i
at-from join (t ∷ ts) p e (inl q) = inl (λ k. record { join = e k; ticket = q k })
at-from join (t ∷ ts) p e (inr i) = inr (at-from join ts p e i)

at-sorted : (join : ℕ) (ts : List ℕ) → AreAscending ts → AreSorted (keys_at join ts)
at-sorted join [] a = tt
at-sorted join (t ∷ ts) a = ((λ q i. let r = at-in join ts q i in inr (r.0, a.0 q.ticket r.1)), at-sorted join ts a.1)

module _ (plan : List Node) (made : ArePlanned [] plan) where
  abbrev is_way : List Entry → ℕ → ℕ → Bool
  is_way h n u = has (under_way_at (nodes_from plan h) n) u

  way-ascends : (h : List Entry) (n : ℕ) → AreAscending (under_way_at (nodes_from plan h) n)
  way-ascends h n = elim (node-cases plan made n) [
    | inl J ↦ subst (λ (s : JoinState). AreAscending (filter (has s.taken) (lacking s.given s.tuples))) (sym (state-is plan made n J h)) (ways-ascend (run J.spec start (join_steps_of plan h n)) (numbered-run J.spec start (join_steps_of plan h n) (tt, (λ v i. absurd i))))
    | inr N ↦ subst (λ (s : JoinState). AreAscending (filter (has s.taken) (lacking s.given s.tuples))) (sym (N.still h)) tt
  ]

  -- the gives of tickets of a join that are under way
  record AreGiven (h es : List Entry) (j : ℕ) : Type 0 where
    legal : IsLegal plan (h ++ es)
    on : IsOn (reached_of false plan (h ++ es))
    others : (n u : ℕ) → (j ≡ n → ⊥) → is_way (h ++ es) n u ≡ is_way h n u

  given-each : (j : ℕ) (us : List ℕ) (h : List Entry) → IsLegal plan h → IsOn (reached_of false plan h) → AreAscending us → ((u : ℕ) → In u us → is_way h j u ≡ true) → AreGiven h (gives_at j us) j
  given-each j [] h legal on a way = record {
    legal = subst (IsLegal plan) (sym (append-nil h)) legal;
    on = subst (λ (g : List Entry). IsOn (reached_of false plan g)) (sym (append-nil h)) on;
    others = λ n u ne. ap (λ (g : List Entry). is_way g n u) (append-nil h);
  }
  given-each j (u ∷ us) h legal on a way =
      let r = given-each j us next legal-next on-next a.1 way-next in
      let again : next ++ gives_at j us ≡ h ++ gives_at j (u ∷ us) = append_assoc h (e ∷ []) (gives_at j us) in
      record {
        legal = subst (IsLegal plan) again r.legal;
        on = subst (λ (g : List Entry). IsOn (reached_of false plan g)) again r.on;
        others = λ n v ne. ap (λ (g : List Entry). is_way g n v) (sym again) ∙ r.others n v ne ∙ entry-changes plan made h e legal-next n v ∙ still n v ne (is_way h n v);
      }
    where
      e : Entry
      e = plain (Given j u)

      next : List Entry
      next = h ++ e ∷ []

      legal-next : IsLegal plan next
      legal-next = (grows-legally plan h e).1 (legal, (give-allowed plan made h on j u (way-is plan made h legal j u (way u (inl refl))), inl refl))

      on-next : IsOn (reached_of false plan next)
      on-next = ap (λ (r : Reached). r.stop) (reached-append false (begun plan) h (e ∷ [])) ∙ on

      way-next : (v : ℕ) → In v us → is_way next j v ≡ true
      way-next v i =
          entry-changes plan made h e legal-next j v
          ∙ and_from (is_way h j v) (not (eqb j j && eqb u v)) (way v (inr i)) (not_from_false (eqb j j && eqb u v) (and_right (eqb j j) (eqb u v) (ne_eqb u v (λ q. let l = a.0 v i in omega (arith, l, q)))))

      still : (n v : ℕ) → (j ≡ n → ⊥) → (b : Bool) → (b && not (eqb j n && eqb u v)) ≡ b
      still n v ne b = ap (λ (x : Bool). b && not (x && eqb u v)) (ne_eqb j n ne) ∙ two b
        where
          two : (x : Bool) → (x && true) ≡ x
          two true = refl
          two false = refl

  -- which tickets these are
  record AreKeys (h : List Entry) (j n : ℕ) (keys : List Pending) : Type 0 where
    sorted : AreSorted keys
    those : (p : Pending) → In p keys → (j ≤ p.join) × (is_way h p.join p.ticket ≡ true)
    all : (p : Pending) → j ≤ p.join → p.join < j + n → is_way h p.join p.ticket ≡ true → In p keys

  -- those of a node, and those of the nodes behind it
  keys-more : (n j : ℕ) (h : List Entry) → IsLegal plan h → IsOn (reached_of false plan h)
      → ((g : List Entry) → IsLegal plan g → IsOn (reached_of false plan g) → AreKeys g (j + 1) n (keys_from (nodes_from plan g) (j + 1) n)) → AreKeys h j (suc n) (keys_from (nodes_from plan h) j (suc n))
  keys-more n j h legal on later = record {
    sorted = sorted-append front rest (at-sorted j here (way-ascends h j)) ih.sorted (λ p q i k. inl (let a = (at-in j here p i).0 in let b = (ih.those q k).0 in omega (arith, a, b)));
    those = λ p i. elim (In-append_cases p front rest i) [
      | inl k ↦ (let r = at-in j here p k in (omega (arith, r.0), subst (λ (m : ℕ). is_way h m p.ticket ≡ true) r.0 (in-has here p.ticket r.1)))
      | inr k ↦ (let r = ih.those p k in let le = r.0 in (omega (arith, le), sym (g.others p.join p.ticket (λ q. omega (arith, q, le))) ∙ r.1))
    ];
    all = λ p le lt w. elim (cases_eq j p.join) [
      | inl q ↦ In-append_left p front rest (at-from j here p q (has-in here p.ticket (subst (λ (m : ℕ). is_way h m p.ticket ≡ true) (sym q) w)))
      | inr ne ↦ In-append_right p front rest (ih.all p (omega (arith, le, ne)) (omega (arith, lt)) (g.others p.join p.ticket ne ∙ w))
    ];
  }
    where
      here : List ℕ
      here = under_way_at (nodes_from plan h) j

      front : List Pending
      front = keys_at j here

      rest : List Pending
      rest = keys_from (nodes_from (nodes_from plan h) (gives_at j here)) (j + 1) n

      g : AreGiven h (gives_at j here) j
      g = given-each j here h legal on (way-ascends h j) (λ u i. in-has here u i)

      ih : AreKeys (h ++ gives_at j here) (j + 1) n rest
      ih = subst (λ (ns : List Node). AreKeys (h ++ gives_at j here) (j + 1) n (keys_from ns (j + 1) n)) (nodes-append plan h (gives_at j here)) (later (h ++ gives_at j here) g.legal g.on)

  keys-are : (n j : ℕ) (h : List Entry) → IsLegal plan h → IsOn (reached_of false plan h) → AreKeys h j n (keys_from (nodes_from plan h) j n)
  keys-are zero j h legal on = record { sorted = tt; those = λ p i. absurd i; all = λ p le lt w. absurd (omega (arith, le, lt)) }
  keys-are (suc n) j h legal on = keys-more n j h legal on (λ g l o. keys-are n (j + 1) g l o)

-- ---- the probes that are held

abbrev pub key_of : Found → Pending
key_of probe = record { join = probe.join; ticket = probe.ticket }

-- the gives of these probes, in their order
abbrev pub gives_of : List Found → List Entry
gives_of probes = map give_of (map key_of probes)

keys-sorted : (probes : List Found) → AreInOrder probes → AreSorted (map key_of probes)
keys-sorted [] o = tt
keys-sorted (p ∷ probes) o = ((λ q i. let r = In-map key_of q probes i in subst (Before (key_of p)) r.2 (precedes p r.0 (o.0 r.0 r.1))), keys-sorted probes o.1)

-- what is under way is given in the order in which its probes are held
pub gives-are : (hand : HandState) → IsSoundPlan hand.core.plan.nodes → hand.core.kept.stop ≡ None → (h : List Entry) → HandStandsFor hand h → gives (nodes_after hand.core h) ≡ gives_of hand.taken
gives-are hand sound on h H =
    gives-keys (nodes_after hand.core h) 0 (length (nodes_after hand.core h))
    ∙ ap (map give_of) (sorted-same keys (map key_of hand.taken) are.sorted (keys-sorted hand.taken W.ordered) there back)
  where
    plan : List Node
    plan = nodes_in hand.core

    made : ArePlanned [] plan
    made = planned hand.core.plan sound

    W : HoldsUnderWay hand h
    W = H.held on

    keys : List Pending
    keys = keys_from (nodes_after hand.core h) 0 (length (nodes_after hand.core h))

    are : AreKeys plan made h 0 (length (nodes_after hand.core h)) keys
    are = keys-are plan made (length (nodes_after hand.core h)) 0 h H.stands.legal (goes-on hand.core h H.stands on)

    there : (x : Pending) → In x keys → In x (map key_of hand.taken)
    there x i =
        let r = held-is hand.taken x.join x.ticket (W.those x.join x.ticket ∙ (are.those x i).1) in
        subst (λ (p : Pending). In p (map key_of hand.taken)) (λ k. record { join = r.2 k; ticket = r.3 k }) (In-map_from key_of r.0 hand.taken r.1)

    back : (x : Pending) → In x (map key_of hand.taken) → In x keys
    back x i =
        let r = In-map key_of x hand.taken i in
        let way = sym (W.those r.0.join r.0.ticket) ∙ is-held hand.taken r.0 r.1 in
        let lt = (way-is plan made h H.stands.legal r.0.join r.0.ticket way).there in
        subst (λ (p : Pending). In p keys) r.2 (are.all (key_of r.0) (omega arith) (let l = length-from plan h in omega (arith, lt, l)) way)
