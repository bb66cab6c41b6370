-- A row that a sweep removes is never needed again.
use Rattle.std.proofs.Common.{ℕ, ◌<◌, ◌≤◌, min, Bool, true, false, cond, ◌&&◌, List, [], ◌∷◌, ◌≡◌, ◌⊎◌, map, filter, flat_map, length, refl, sym, ap, ◌∙◌, subst, inl, inr, eqb, ltb, arith}
use Rattle.std.specs.List.{list_all}
use Rattle.std.proofs.lemmas.Bool.{and_parts, false≢true, eqb-true, eq-eqb, cases_Bool, cases_lt, cases_eq, ltb-true, lt-ltb}
use Rattle.pj_events.specs.Patterns.{Pattern, matches_row, covers}
use Rattle.pj_events.specs.Join.{In, TupleAt, PunctAt, ClassCol, CertEntry, JoinData, JoinState, Demand, inputs, arity, cert_of, steps_of, need_of, of_input, older, older_puncts, agree, demand, grown, need, covered, has, least_open, low, ripe, IsNew, MayCome, IsCombination, AreCertified}
use Rattle.pj_value.proofs.Members.{In-filter, In-filter_from, In-map_from, In-flat_map_from, all_at, all_from, any_at}
use Rattle.pj_join_laws.proofs.Matching.{agree-mono, AreInputs, asked-matches}
use Rattle.pj_join_laws.specs.Walks.{IsWalk, IsCertified}
use Rattle.pj_join_laws.proofs.Walks.{certified_at}

-- ---- what is asked for

-- what these tuples ask for once they have one more is asked for before
pub need-more : (p : Demand → Bool) (classes : List (List ClassCol)) (rows : List TupleAt) (e : CertEntry) (cert : List CertEntry) (parts : List TupleAt) (y : TupleAt)
    → list_all p (need classes rows (e ∷ cert) parts) ≡ true → In y rows → y.input ≡ e.input → agree classes (y ∷ parts) ≡ true
    → list_all p (need classes rows cert (y ∷ parts)) ≡ true
need-more p classes rows e cert parts y t hy i j =
    all_from p (need classes rows cert (y ∷ parts)) (λ d hd.
    all_at p (flat_map (need classes rows cert) (grown classes rows e parts)) d
    (and_parts (p (demand classes e parts)) (list_all p (flat_map (need classes rows cert) (grown classes rows e parts))) t).1
    (In-flat_map_from (need classes rows cert) d (y ∷ parts) (grown classes rows e parts)
    (In-filter_from (agree classes) (y ∷ parts) (map (λ x. x ∷ parts) (of_input e.input rows))
    (In-map_from (λ x. x ∷ parts) y (of_input e.input rows) (In-filter_from (λ x. eqb x.input e.input) y rows hy (eq-eqb y.input e.input i))) j) hd))

pub covered-at : (puncts : List PunctAt) (d : Demand) → covered puncts d ≡ true
    → (p : PunctAt) × In p puncts × (p.input ≡ d.input) × (covers p.patterns d.instance ≡ true)
covered-at puncts d t =
    let r = any_at (λ (p : PunctAt). eqb p.input d.input && covers p.patterns d.instance) puncts t in
    let both = and_parts (eqb r.0.input d.input) (covers r.0.patterns d.instance) r.2 in
    (r.0, r.1, eqb-true r.0.input d.input both.0, both.1)

-- what the tuples of a combination ask for is not covered by punctuations that its later tuples do not match
pub walk : (spec : JoinData) (rows : List TupleAt) (puncts : List PunctAt) (bound : ℕ) (full : List TupleAt) → IsCombination spec full
    → ((x : TupleAt) → In x full → length x.row ≡ arity spec x.input)
    → ((x : TupleAt) → In x full → x.ticket < bound → In x rows)
    → ((x : TupleAt) → In x full → bound ≤ x.ticket → IsNew puncts x.input x.row)
    → (cert : List CertEntry) (known : List ℕ) (parts : List TupleAt) → IsWalk spec.shape cert known → AreInputs known parts
    → ((x : TupleAt) → In x parts → In x full)
    → list_all (covered puncts) (need spec.shape.classes rows cert parts) ≡ true
    → (e : CertEntry) → In e cert → (x : TupleAt) → In x full → x.input ≡ e.input → x.ticket < bound
walk spec rows puncts bound full comb fit early late [] known parts w ks sub t e he x hx i = absurd he
walk spec rows puncts bound full comb fit early late (d ∷ cert) known parts w ks sub t e he x hx i =
    elim (cases_lt y.ticket bound) [
      | inl lt ↦ elim he [
        | inl same ↦ subst (λ (z : TupleAt). z.ticket < bound) (comb.single y x iny hx (inp ∙ ap (λ (c : CertEntry). c.input) same ∙ sym i)) lt
        | inr more ↦ walk spec rows puncts bound full comb fit early late cert (d.input ∷ known) (y ∷ parts) w.3 ks' sub' (t' lt) e more x hx i
      ]
      | inr ge ↦ absurd (false≢true (sym (late y iny ge p.0 p.1 (p.2 ∙ sym inp)) ∙ hit p.0.patterns p.3))
    ]
  where
    found : (z : TupleAt) × In z full × (z.input ≡ d.input)
    found = comb.every d.input w.0

    y : TupleAt
    y = found.0

    iny : In y full
    iny = found.1

    inp : y.input ≡ d.input
    inp = found.2

    sub' : (z : TupleAt) → In z (y ∷ parts) → In z full
    sub' z (inl q) = subst (λ (v : TupleAt). In v full) q iny
    sub' z (inr k) = sub z k

    j : agree spec.shape.classes (y ∷ parts) ≡ true
    j = agree-mono spec.shape.classes (y ∷ parts) full sub' comb.joining

    p : (q : PunctAt) × In q puncts × (q.input ≡ d.input) × (covers q.patterns (demand spec.shape.classes d parts).instance ≡ true)
    p = covered-at puncts (demand spec.shape.classes d parts) (and_parts (covered puncts (demand spec.shape.classes d parts)) (list_all (covered puncts) (flat_map (need spec.shape.classes rows cert) (grown spec.shape.classes rows d parts))) t).0

    hit : (ps : List Pattern) → covers ps (demand spec.shape.classes d parts).instance ≡ true → matches_row ps y.row ≡ true
    hit ps c = asked-matches spec.shape.classes parts known y d.input d.marks ps inp j ks w.2 (fit y iny ∙ ap (arity spec) inp ∙ sym w.1) c

    ks' : AreInputs (d.input ∷ known) (y ∷ parts)
    ks' k (inl q) = (y, inl refl, inp ∙ q)
    ks' k (inr h) = let r = ks k h in (r.0, inr r.1, r.2)

    t' : y.ticket < bound → list_all (covered puncts) (need spec.shape.classes rows cert (y ∷ parts)) ≡ true
    t' lt = need-more (covered puncts) spec.shape.classes rows d cert parts y t (early y iny lt) inp j

-- ---- what a row asks for where it joins by itself

pub all-where : {A : Type 0} (b : Bool) (q : A → Bool) (xs : List A) → b ≡ true → list_all q (cond b xs []) ≡ true → list_all q xs ≡ true
all-where true q xs e t = t
all-where false q xs e t = absurd (false≢true e)

pub where-all : {A : Type 0} (b : Bool) (q : A → Bool) (xs : List A) → list_all q xs ≡ true → list_all q (cond b xs []) ≡ true
where-all true q xs t = t
where-all false q xs t = refl

pub where-both : {A : Type 0} (b : Bool) (p q : A → Bool) (xs ys : List A) → (list_all p xs ≡ true → list_all q ys ≡ true) → list_all p (cond b xs []) ≡ true → list_all q (cond b ys []) ≡ true
where-both true p q xs ys f t = f t
where-both false p q xs ys f t = refl

-- ---- the low-water ticket

pub least_open-le : (given : List ℕ) (next : ℕ) (xs : List TupleAt) → least_open given next xs ≤ next
least_open-le given next [] = omega arith
least_open-le given next (x ∷ xs) = go (has given x.ticket) (least_open-le given next xs)
  where
    go : (b : Bool) → least_open given next xs ≤ next → cond b (least_open given next xs) (min x.ticket (least_open given next xs)) ≤ next
    go true h = h
    go false h = omega arith

pub least_open-below : (given : List ℕ) (next : ℕ) (xs : List TupleAt) (x : TupleAt) → In x xs → has given x.ticket ≡ false → least_open given next xs ≤ x.ticket
least_open-below given next [] x h o = absurd h
least_open-below given next (y ∷ xs) x (inl e) o = subst (λ (z : TupleAt). least_open given next (y ∷ xs) ≤ z.ticket) e here
  where
    here : least_open given next (y ∷ xs) ≤ y.ticket
    here = subst (λ b. cond b (least_open given next xs) (min y.ticket (least_open given next xs)) ≤ y.ticket) (sym (ap (λ (z : TupleAt). has given z.ticket) e ∙ o)) (let k : min y.ticket (least_open given next xs) ≤ y.ticket = omega arith in k)
least_open-below given next (y ∷ xs) x (inr h) o = go (has given y.ticket) (least_open-below given next xs x h o)
  where
    go : (b : Bool) → least_open given next xs ≤ x.ticket → cond b (least_open given next xs) (min y.ticket (least_open given next xs)) ≤ x.ticket
    go true k = k
    go false k = omega arith

pub least_open-from : (given : List ℕ) (next bound : ℕ) (xs : List TupleAt) → bound ≤ next → ((x : TupleAt) → In x xs → has given x.ticket ≡ false → bound ≤ x.ticket) → bound ≤ least_open given next xs
least_open-from given next bound [] l f = l
least_open-from given next bound (x ∷ xs) l f = go (has given x.ticket) refl (least_open-from given next bound xs l (λ y h o. f y (inr h) o))
  where
    go : (b : Bool) → has given x.ticket ≡ b → bound ≤ least_open given next xs → bound ≤ cond b (least_open given next xs) (min x.ticket (least_open given next xs))
    go true e k = k
    go false e k = let q : bound ≤ x.ticket = f x (inl refl) e in omega arith

-- ---- what holds after each legal step

-- the tuple has arrived, or may still come
abbrev pub Reached : JoinData → JoinState → TupleAt → Type 0
Reached spec s y = In y s.tuples ⊎ MayCome spec s y

-- x stands in no combination with a ticket from bound on
abbrev pub IsForgotten : JoinData → JoinState → TupleAt → ℕ → Type 0
IsForgotten spec s x bound =
    (parts : List TupleAt) → IsCombination spec parts → In x parts → ((y : TupleAt) → In y parts → Reached spec s y) → (y : TupleAt) → In y parts → y.ticket < bound

-- since some moment when the low-water ticket was above its own
abbrev pub WasForgotten : JoinData → JoinState → TupleAt → Type 0
WasForgotten spec s x = (bound : ℕ) × (x.ticket < bound) × (bound ≤ low s) × IsForgotten spec s x bound

pub record IsSound (spec : JoinData) (s : JoinState) : Type 0 where
  pub numbered : (x : TupleAt) → In x s.tuples → x.ticket < s.next
  pub punct_numbered : (p : PunctAt) → In p s.puncts → p.ticket < s.next
  pub fit : (x : TupleAt) → In x s.tuples → (x.input < inputs spec) × (length x.row ≡ arity spec x.input)
  pub lawful : (x : TupleAt) (p : PunctAt) → In x s.tuples → In p s.puncts → p.input ≡ x.input → p.ticket < x.ticket → matches_row p.patterns x.row ≡ false
  pub punct_fit : (p : PunctAt) → In p s.puncts → (p.input < inputs spec) × (length p.patterns ≡ arity spec p.input)
  pub waits : (p : PunctAt) → In p s.waiting → In p s.puncts
  pub keep : TupleAt → Bool
  pub stored_is : s.stored ≡ filter keep s.tuples
  pub forgotten : (x : TupleAt) → In x s.tuples → keep x ≡ false → WasForgotten spec s x

pub stored-in : (spec : JoinData) (s : JoinState) → IsSound spec s → (x : TupleAt) → In x s.stored → In x s.tuples × (x.ticket < s.next)
stored-in spec s i x h =
    let k = In-filter i.keep x s.tuples (subst (λ (xs : List TupleAt). In x xs) i.stored_is h) in (k.0, i.numbered x k.0)

pub ripe-low : (spec : JoinData) (s : JoinState) (x : TupleAt) → ripe spec s x ≡ true → x.ticket < low s
ripe-low spec s x t = ltb-true x.ticket (low s) (and_parts (ltb x.ticket (low s)) (list_all (covered (older_puncts (low s) s.puncts)) (need_of spec (older (low s) s.stored) x)) t).0

-- a ripe row is forgotten
pub ripe-forgotten : (spec : JoinData) (s : JoinState) → AreCertified spec → IsSound spec s → (x : TupleAt) → In x s.tuples → ripe spec s x ≡ true → IsForgotten spec s x (low s)
ripe-forgotten spec s certs i x hx t parts comb inp reach y hy = go (cases_lt y.ticket (low s))
  where
    low-next : low s ≤ s.next
    low-next = least_open-le s.given s.next s.tuples

    both : (ltb x.ticket (low s) ≡ true) × (list_all (covered (older_puncts (low s) s.puncts)) (need_of spec (older (low s) s.stored) x) ≡ true)
    both = and_parts (ltb x.ticket (low s)) (list_all (covered (older_puncts (low s) s.puncts)) (need_of spec (older (low s) s.stored) x)) t

    x-low : x.ticket < low s
    x-low = ltb-true x.ticket (low s) both.0

    cert : IsCertified spec.shape spec.schemes x.input (steps_of spec x.input)
    cert = certified_at spec certs x.input (i.fit x hx).0

    fit : (z : TupleAt) → In z parts → length z.row ≡ arity spec z.input
    fit z hz = elim (reach z hz) [ inl k ↦ (i.fit z k).1 | inr m ↦ m.1 ]

    late : (z : TupleAt) → In z parts → low s ≤ z.ticket → IsNew (older_puncts (low s) s.puncts) z.input z.row
    late z hz l p hp e =
        let q = In-filter (λ (p : PunctAt). ltb p.ticket (low s)) p s.puncts hp in
        let lt : p.ticket < low s = ltb-true p.ticket (low s) q.1 in
        elim (reach z hz) [ inl k ↦ i.lawful z p k q.0 e (omega arith) | inr m ↦ m.2 p q.0 e ]

    early : low s ≤ y.ticket → (z : TupleAt) → In z parts → z.ticket < low s → In z (older (low s) s.stored)
    early l z hz lt = elim (reach z hz) [
      | inl k ↦ elim (cases_Bool (i.keep z)) [
        | inl yes' ↦ In-filter_from (λ (v : TupleAt). ltb v.ticket (low s)) z s.stored (subst (λ (xs : List TupleAt). In z xs) (sym i.stored_is) (In-filter_from i.keep z s.tuples k yes')) (lt-ltb z.ticket (low s) lt)
        | inr no' ↦ let f = i.forgotten z k no' in let b : y.ticket < f.0 = f.3 parts comb hz reach y hy in absurd (omega (arith, f.2))
      ]
      | inr m ↦ absurd (omega (arith, m.0, low-next))
    ]

    sub : (z : TupleAt) → In z (x ∷ []) → In z parts
    sub z (inl q) = subst (λ (v : TupleAt). In v parts) q inp
    sub z (inr q) = absurd q

    asked : list_all (covered (older_puncts (low s) s.puncts)) (need spec.shape.classes (older (low s) s.stored) (cert_of spec x.input) (x ∷ [])) ≡ true
    asked = all-where (agree spec.shape.classes (x ∷ [])) _ _ (agree-mono spec.shape.classes (x ∷ []) parts sub comb.joining) both.1

    known : AreInputs (x.input ∷ []) (x ∷ [])
    known k (inl q) = (x, inl refl, q)
    known k (inr q) = absurd q

    go : (y.ticket < low s) ⊎ (low s ≤ y.ticket) → y.ticket < low s
    go (inl lt) = lt
    go (inr ge) = elim (cases_eq y.input x.input) [
      | inl same ↦ subst (λ (z : TupleAt). z.ticket < low s) (comb.single x y inp hy (sym same)) x-low
      | inr other ↦ let e = cert.others y.input (comb.within y hy) other in
          walk spec (older (low s) s.stored) (older_puncts (low s) s.puncts) (low s) parts comb fit (early ge) late (cert_of spec x.input) (x.input ∷ []) (x ∷ []) cert.walk known sub asked e.0 e.1 y hy (sym e.2)
    ]
