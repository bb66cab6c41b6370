-- Probes that are held: one more at its place, one less, and which are held then.
use Rattle.std.proofs.Common.{ℕ, ◌<◌, Bool, true, false, cond, not, ◌&&◌, ◌||◌, List, [], ◌∷◌, ◌++◌, ◌≡◌, ◌⊎◌, Some, None, eqb, ltb, nat_cmp, refl, sym, ap, ◌∙◌, subst, inl, inr, arith}
use Rattle.std.specs.Ordering.{match_ordering, ordering_then}
use Rattle.std.specs.declared.cmp.Ordering.{Ordering}
use Rattle.std.specs.declared.cmp.Ordering.TheVariants.{Less, Equal, Greater}
use Rattle.std.proofs.lemmas.Bool.{and_from, and_parts, both_ways, eq-eqb, eqb-true, false_from_ne_true, lt-ltb, ltb-true, or_cases, or_left, or_right}
use Rattle.std.proofs.lemmas.Bool.Decides.{nat_tests}
use Rattle.std.proofs.lemmas.List.Folds.{list_any-append}
use Rattle.std.proofs.lemmas.Map.Lookups.{exact_pairs, exact_unsigned}
use Rattle.pj_value.specs.Lists.{In}
use Rattle.pj_value.proofs.Members.{In-append_cases, In-append_left, In-append_right, any_at, any_from}
use Rattle.pj_probe.specs.declared.probe.Found.{Found}
use Rattle.pj_hand.specs.Held.{AreInOrder, first_place, found_at, holds, is_before, is_of, place_cmp, place_of, put_in, without}

-- ---- the order

-- the first stands before the second: at an earlier join, or there with a lesser ticket
abbrev pub Precedes : Found → Found → Type 0
Precedes a b = (a.join < b.join) ⊎ ((a.join ≡ b.join) × (a.ticket < b.ticket))

abbrev pub test : Found → Found → Bool
test a b = is_before b.join b.ticket a

pub precedes : (a b : Found) → test a b ≡ true → Precedes a b
precedes a b t = elim (or_cases (ltb a.join b.join) (eqb a.join b.join && ltb a.ticket b.ticket) t) [
  | inl l ↦ inl (ltb-true a.join b.join l)
  | inr k ↦ (let p = and_parts (eqb a.join b.join) (ltb a.ticket b.ticket) k in inr (eqb-true a.join b.join p.0, ltb-true a.ticket b.ticket p.1))
]

pub tested : (a b : Found) → Precedes a b → test a b ≡ true
tested a b (inl l) = or_left (ltb a.join b.join) (eqb a.join b.join && ltb a.ticket b.ticket) (lt-ltb a.join b.join l)
tested a b (inr p) = or_right (ltb a.join b.join) (eqb a.join b.join && ltb a.ticket b.ticket) (and_from (eqb a.join b.join) (ltb a.ticket b.ticket) (eq-eqb a.join b.join p.0) (lt-ltb a.ticket b.ticket p.1))

apart : (a b : Found) → Precedes a b → a.join ≡ b.join → a.ticket ≡ b.ticket → ⊥
apart a b (inl l) j t = absurd (omega (arith, l, j))
apart a b (inr p) j t = absurd (let l = p.1 in omega (arith, l, t))

through : (a b c : Found) → Precedes a b → Precedes b c → Precedes a c
through a b c (inl l) (inl k) = inl (omega (arith, l, k))
through a b c (inl l) (inr q) = inl (let e = q.0 in omega (arith, l, e))
through a b c (inr p) (inl k) = inl (let e = p.0 in omega (arith, e, k))
through a b c (inr p) (inr q) = inr (p.0 ∙ q.0, (let l = p.1 in let k = q.1 in omega (arith, l, k)))

-- ---- places compared

compared : (a b : ℕ) → (nat_cmp a b ≡ Less → a < b) × (nat_cmp a b ≡ Greater → b < a)
compared a b = ((λ e. grind (arith, nat_tests)), (λ e. grind (arith, nat_tests)))

-- a place that is compared as less stands before
pub less-precedes : (a b : Found) → place_cmp (place_of a) (place_of b) ≡ Less → Precedes a b
less-precedes a b e = go (nat_cmp a.join b.join) refl e
  where
    go : (o : Ordering) → nat_cmp a.join b.join ≡ o → ordering_then o (nat_cmp a.ticket b.ticket) ≡ Less → Precedes a b
    go Less q e = inl ((compared a.join b.join).0 q)
    go Equal q e = inr (exact_unsigned a.join b.join q, (compared a.ticket b.ticket).0 e)
    go Greater q e = absurd (cc)

pub greater-precedes : (a b : Found) → place_cmp (place_of a) (place_of b) ≡ Greater → Precedes b a
greater-precedes a b e = go (nat_cmp a.join b.join) refl e
  where
    go : (o : Ordering) → nat_cmp a.join b.join ≡ o → ordering_then o (nat_cmp a.ticket b.ticket) ≡ Greater → Precedes b a
    go Less q e = absurd (cc)
    go Equal q e = inr (sym (exact_unsigned a.join b.join q), (compared a.ticket b.ticket).1 e)
    go Greater q e = inl ((compared a.join b.join).1 q)

pub equal-same : (x y : ℕ × ℕ) → place_cmp x y ≡ Equal → x ≡ y
equal-same x y e = exact_pairs nat_cmp nat_cmp exact_unsigned exact_unsigned x y e

-- ---- which are held

pub key-is : (join ticket : ℕ) (p : Found) → is_of join ticket p ≡ true → (p.join ≡ join) × (p.ticket ≡ ticket)
key-is join ticket p t = let q = and_parts (eqb p.join join) (eqb p.ticket ticket) t in (eqb-true p.join join q.0, eqb-true p.ticket ticket q.1)

pub key-from : (join ticket : ℕ) (p : Found) → p.join ≡ join → p.ticket ≡ ticket → is_of join ticket p ≡ true
key-from join ticket p j t = and_from (eqb p.join join) (eqb p.ticket ticket) (eq-eqb p.join join j) (eq-eqb p.ticket ticket t)

-- a probe among these is held
pub is-held : (probes : List Found) (p : Found) → In p probes → holds probes p.join p.ticket ≡ true
is-held probes p i = any_from (is_of p.join p.ticket) probes p i (key-from p.join p.ticket p refl refl)

-- one that is held is among these
pub held-is : (probes : List Found) (join ticket : ℕ) → holds probes join ticket ≡ true → (p : Found) × In p probes × (p.join ≡ join) × (p.ticket ≡ ticket)
held-is probes join ticket t = let r = any_at (is_of join ticket) probes t in let k = key-is join ticket r.0 r.2 in (r.0, r.1, k.0, k.1)

-- ---- in parts

order-parts : (front : List Found) (probe : Found) (back : List Found) → AreInOrder (front ++ probe ∷ back) → ((p : Found) → In p front → Precedes p probe) × ((p : Found) → In p back → Precedes probe p) × AreInOrder (front ++ back)
order-parts [] probe back o = ((λ p i. absurd i), (λ p i. precedes probe p (o.0 p i)), o.1)
order-parts (x ∷ front) probe back o =
    let r = order-parts front probe back o.1 in (
      (λ p i. elim i [
        | inl e ↦ subst (λ (y : Found). Precedes y probe) e (precedes x probe (o.0 probe (In-append_right probe front (probe ∷ back) (inl refl))))
        | inr k ↦ r.0 p k
      ]),
      r.1,
      ((λ p i. o.0 p (elim (In-append_cases p front back i) [ inl k ↦ In-append_left p front (probe ∷ back) k | inr k ↦ In-append_right p front (probe ∷ back) (inr k) ])), r.2),
    )

order-with : (front : List Found) (probe : Found) (back : List Found) → AreInOrder (front ++ back) → ((p : Found) → In p front → Precedes p probe) → ((p : Found) → In p back → Precedes probe p) → AreInOrder (front ++ probe ∷ back)
order-with [] probe back o f b = ((λ p i. tested probe p (b p i)), o)
order-with (x ∷ front) probe back o f b = (
  (λ p i. elim (In-append_cases p front (probe ∷ back) i) [
    | inl k ↦ o.0 p (In-append_left p front back k)
    | inr k ↦ elim k [
      | inl e ↦ tested x p (subst (λ (y : Found). Precedes x y) e (f x (inl refl)))
      | inr m ↦ o.0 p (In-append_right p front back m)
    ]
  ]),
  order-with front probe back o.1 (λ p i. f p (inr i)) b,
)

-- one more is held
holds-with : (front : List Found) (probe : Found) (back : List Found) (join ticket : ℕ) → holds (front ++ probe ∷ back) join ticket ≡ (is_of join ticket probe || holds (front ++ back) join ticket)
holds-with front probe back join ticket =
    list_any-append (is_of join ticket) front (probe ∷ back)
    ∙ swap (holds front join ticket) (is_of join ticket probe) (holds back join ticket)
    ∙ ap (λ (b : Bool). is_of join ticket probe || b) (sym (list_any-append (is_of join ticket) front back))
  where
    swap : (a b c : Bool) → (a || (b || c)) ≡ (b || (a || c))
    swap true true c = refl
    swap true false c = refl
    swap false true c = refl
    swap false false c = refl

-- ---- one more

-- the probe was put between those before it and those behind it
pub record HoldsMore (old : List Found) (probe : Found) (new : List Found) : Type 0 where
  pub front : List Found
  pub back : List Found
  pub before : old ≡ front ++ back
  pub behind : new ≡ front ++ probe ∷ back
  pub first : (p : Found) → In p front → Precedes p probe
  pub last : (p : Found) → In p back → Precedes probe p

pub puts-in : (old : List Found) (probe : Found) → AreInOrder old → holds old probe.join probe.ticket ≡ false → HoldsMore old probe (put_in probe old)
puts-in [] probe o none = record { front = []; back = []; before = refl; behind = refl; first = λ p i. absurd i; last = λ p i. absurd i }
puts-in (other ∷ old) probe o none = go (place_cmp (place_of probe) (place_of other)) refl (puts-in old probe o.1 rest)
  where
    rest : holds old probe.join probe.ticket ≡ false
    rest = false_from_ne_true (holds old probe.join probe.ticket) (λ t. both_ways (holds (other ∷ old) probe.join probe.ticket) none (or_right (is_of probe.join probe.ticket other) (holds old probe.join probe.ticket) t))

    go : (r : Ordering) → place_cmp (place_of probe) (place_of other) ≡ r → HoldsMore old probe (put_in probe old)
        → HoldsMore (other ∷ old) probe (match_ordering r (probe ∷ other ∷ old) (probe ∷ old) (other ∷ put_in probe old))
    go Less e ih = record {
      front = [];
      back = other ∷ old;
      before = refl;
      behind = refl;
      first = λ p i. absurd i;
      last = λ p i. elim i [
        | inl k ↦ subst (Precedes probe) k (less-precedes probe other e)
        | inr k ↦ through probe other p (less-precedes probe other e) (precedes other p (o.0 p k))
      ];
    }
    go Equal e ih =
        let q = equal-same (place_of probe) (place_of other) e in
        absurd (both_ways (holds (other ∷ old) probe.join probe.ticket) none
        (or_left (is_of probe.join probe.ticket other) (holds old probe.join probe.ticket) (key-from probe.join probe.ticket other (sym (ap (λ (x : ℕ × ℕ). x.0) q)) (sym (ap (λ (x : ℕ × ℕ). x.1) q)))))
    go Greater e ih = record {
      front = other ∷ ih.front;
      back = ih.back;
      before = ap (λ (ps : List Found). other ∷ ps) ih.before;
      behind = ap (λ (ps : List Found). other ∷ ps) ih.behind;
      first = λ p i. elim i [ inl k ↦ subst (λ (y : Found). Precedes y probe) k (greater-precedes probe other e) | inr k ↦ ih.first p k ];
      last = ih.last;
    }

module _ (old : List Found) (probe : Found) (new : List Found) (more : HoldsMore old probe new) where
  pub holds-more : (join ticket : ℕ) → holds new join ticket ≡ (is_of join ticket probe || holds old join ticket)
  holds-more join ticket =
      ap (λ (ps : List Found). holds ps join ticket) more.behind
      ∙ holds-with more.front probe more.back join ticket
      ∙ ap (λ (ps : List Found). is_of join ticket probe || holds ps join ticket) (sym more.before)

  pub in-more : (p : Found) → In p new → (probe ≡ p) ⊎ In p old
  in-more p i = elim (In-append_cases p more.front (probe ∷ more.back) (subst (λ (ps : List Found). In p ps) more.behind i)) [
    | inl k ↦ inr (subst (λ (ps : List Found). In p ps) (sym more.before) (In-append_left p more.front more.back k))
    | inr k ↦ elim k [ inl e ↦ inl e | inr m ↦ inr (subst (λ (ps : List Found). In p ps) (sym more.before) (In-append_right p more.front more.back m)) ]
  ]

  pub order-more : AreInOrder old → AreInOrder new
  order-more o = subst AreInOrder (sym more.behind) (order-with more.front probe more.back (subst AreInOrder more.before o) more.first more.last)

-- ---- one less

-- the probe was taken out
pub record HoldsLess (old : List Found) (probe : Found) (new : List Found) : Type 0 where
  pub front : List Found
  pub back : List Found
  pub parts : old ≡ front ++ probe ∷ back
  pub left : new ≡ front ++ back

none-is : {A : Type 0} (x : A) → None ≡ Some x → ⊥
none-is x e = cc

some-is : (x y : Found) → Some x ≡ Some y → x ≡ y
some-is x y e = cc

pub takes-out : (old : List Found) (join ticket : ℕ) (probe : Found) → found_at old join ticket ≡ Some probe → HoldsLess old probe (without old join ticket)
takes-out [] join ticket probe e = absurd (none-is probe e)
takes-out (other ∷ old) join ticket probe e = go (is_of join ticket other) e (takes-out old join ticket probe)
  where
    go : (b : Bool) → cond b (Some other) (found_at old join ticket) ≡ Some probe → (found_at old join ticket ≡ Some probe → HoldsLess old probe (without old join ticket))
        → HoldsLess (other ∷ old) probe (cond b old (other ∷ without old join ticket))
    go true e ih = record { front = []; back = old; parts = ap (λ (p : Found). p ∷ old) (some-is other probe e); left = refl }
    go false e ih = let r = ih e in record { front = other ∷ r.front; back = r.back; parts = ap (λ (ps : List Found). other ∷ ps) r.parts; left = ap (λ (ps : List Found). other ∷ ps) r.left }

-- a probe that is found is that of the ticket
pub found-is : (probes : List Found) (join ticket : ℕ) (probe : Found) → found_at probes join ticket ≡ Some probe → is_of join ticket probe ≡ true
found-is [] join ticket probe e = absurd (none-is probe e)
found-is (other ∷ probes) join ticket probe e = go (is_of join ticket other) refl e (found-is probes join ticket probe)
  where
    go : (b : Bool) → is_of join ticket other ≡ b → cond b (Some other) (found_at probes join ticket) ≡ Some probe → (found_at probes join ticket ≡ Some probe → is_of join ticket probe ≡ true) → is_of join ticket probe ≡ true
    go true t e ih = subst (λ (p : Found). is_of join ticket p ≡ true) (some-is other probe e) t
    go false t e ih = ih e

-- where none is found, none is held
pub found-none : (probes : List Found) (join ticket : ℕ) → found_at probes join ticket ≡ None → holds probes join ticket ≡ false
found-none [] join ticket e = refl
found-none (other ∷ probes) join ticket e = go (is_of join ticket other) e (found-none probes join ticket)
  where
    go : (b : Bool) → cond b (Some other) (found_at probes join ticket) ≡ None → (found_at probes join ticket ≡ None → holds probes join ticket ≡ false) → (b || holds probes join ticket) ≡ false
    go true e ih = absurd (none-is other (sym e))
    go false e ih = ih e

-- the probe at the first place is the first
pub first-found : (probes : List Found) (place : ℕ × ℕ) (probe : Found) → first_place probes ≡ Some place → found_at probes place.0 place.1 ≡ Some probe
    → (back : List Found) × (probes ≡ probe ∷ back) × (without probes place.0 place.1 ≡ back)
first-found [] place probe f e = absurd (none-is place f)
first-found (other ∷ probes) place probe f e = go (is_of place.0 place.1 other) refl e
  where
    at : place_of other ≡ place
    at = cc

    go : (b : Bool) → is_of place.0 place.1 other ≡ b → cond b (Some other) (found_at probes place.0 place.1) ≡ Some probe
        → (back : List Found) × (other ∷ probes ≡ probe ∷ back) × (cond b probes (other ∷ without probes place.0 place.1) ≡ back)
    go true t e = (probes, ap (λ (p : Found). p ∷ probes) (some-is other probe e), refl)
    go false t e = absurd (both_ways (is_of place.0 place.1 other) t (key-from place.0 place.1 other (ap (λ (x : ℕ × ℕ). x.0) at) (ap (λ (x : ℕ × ℕ). x.1) at)))

-- and it is found there
pub first-held : (probes : List Found) (place : ℕ × ℕ) → first_place probes ≡ Some place → found_at probes place.0 place.1 ≡ None → ⊥
first-held [] place f e = absurd (none-is place f)
first-held (other ∷ probes) place f e = go (is_of place.0 place.1 other) refl e
  where
    at : place_of other ≡ place
    at = cc

    go : (b : Bool) → is_of place.0 place.1 other ≡ b → cond b (Some other) (found_at probes place.0 place.1) ≡ None → ⊥
    go true t e = absurd (none-is other (sym e))
    go false t e = absurd (both_ways (is_of place.0 place.1 other) t (key-from place.0 place.1 other (ap (λ (x : ℕ × ℕ). x.0) at) (ap (λ (x : ℕ × ℕ). x.1) at)))

module _ (old : List Found) (probe : Found) (new : List Found) (less : HoldsLess old probe new) where
  pub stood-in : In probe old
  stood-in = subst (λ (ps : List Found). In probe ps) (sym less.parts) (In-append_right probe less.front (probe ∷ less.back) (inl refl))

  pub in-less : (p : Found) → In p new → In p old
  in-less p i = subst (λ (ps : List Found). In p ps) (sym less.parts) (elim (In-append_cases p less.front less.back (subst (λ (ps : List Found). In p ps) less.left i)) [
    | inl k ↦ In-append_left p less.front (probe ∷ less.back) k
    | inr k ↦ In-append_right p less.front (probe ∷ less.back) (inr k)
  ])

  parts : AreInOrder old → ((p : Found) → In p less.front → Precedes p probe) × ((p : Found) → In p less.back → Precedes probe p) × AreInOrder (less.front ++ less.back)
  parts o = order-parts less.front probe less.back (subst AreInOrder less.parts o)

  pub order-less : AreInOrder old → AreInOrder new
  order-less o = subst AreInOrder (sym less.left) (parts o).2

  pub holds-less : AreInOrder old → (join ticket : ℕ) → holds new join ticket ≡ (holds old join ticket && not (is_of join ticket probe))
  holds-less o join ticket =
      ap (λ (ps : List Found). holds ps join ticket) less.left
      ∙ go (is_of join ticket probe) (holds (less.front ++ less.back) join ticket) refl refl
      ∙ ap (λ (b : Bool). b && not (is_of join ticket probe)) (sym (holds-with less.front probe less.back join ticket) ∙ ap (λ (ps : List Found). holds ps join ticket) (sym less.parts))
    where
      once : is_of join ticket probe ≡ true → holds (less.front ++ less.back) join ticket ≡ true → ⊥
      once k t =
          let r = held-is (less.front ++ less.back) join ticket t in
          let q = key-is join ticket probe k in
          elim (In-append_cases r.0 less.front less.back r.1) [
            | inl i ↦ apart r.0 probe ((parts o).0 r.0 i) (r.2 ∙ sym q.0) (r.3 ∙ sym q.1)
            | inr i ↦ apart probe r.0 ((parts o).1 r.0 i) (q.0 ∙ sym r.2) (q.1 ∙ sym r.3)
          ]

      go : (a b : Bool) → is_of join ticket probe ≡ a → holds (less.front ++ less.back) join ticket ≡ b → b ≡ ((a || b) && not a)
      go true true k t = absurd (once k t)
      go true false k t = refl
      go false true k t = refl
      go false false k t = refl
