-- A join that nothing can reach any more settles by one sweep of each input.
use Rattle.std.proofs.Common.{ℕ, zero, suc, ◌+◌, ◌<◌, ◌≤◌, ◌≢◌, Bool, true, false, ◌&&◌, ◌||◌, not, List, [], ◌∷◌, ◌≡◌, flat_map, length, refl, sym, ap, ◌∙◌, subst, inl, inr, eqb, ltb, arith}
use Rattle.std.specs.List.{list_all}
use Rattle.std.proofs.lemmas.Bool.{and_parts, and_from, false≢true, eqb-true, eq-eqb, cases_eq, lt-ltb, not-true, false_from_ne_true}
use Rattle.pj_events.specs.Patterns.{Pattern, all_wild, matches_row, covers}
use Rattle.pj_events.specs.Join.{In, need_of, AllGiven, TupleAt, PunctAt, ClassCol, CertEntry, JoinData, JoinState, Demand, Sweep, start, inputs, arity, cert_of, older, older_puncts, instance_from, demand, grown, need, covered, low, ripe, kept, is_held, step, run, IsSettled, AreCertified, agree}
use Rattle.pj_join_laws.specs.Laws.{Settles, sweeps_from}
use Rattle.pj_join_laws.proofs.PatternFacts.{wilds-cover}
use Rattle.pj_value.proofs.Members.{In-filter, In-filter_from, In-flat_map, all_from, any_from, none_from}
use Rattle.pj_join_laws.proofs.Forget.{least_open-from, IsSound, stored-in, where-all}
use Rattle.pj_join_laws.proofs.Sound.{sound-start, sound-run, sound-step, run-append}
use Rattle.pj_join_laws.specs.Walks.{IsWalk}
use Rattle.pj_join_laws.proofs.Walks.{certified_at}

instance-length : (classes : List (List ClassCol)) (input column : ℕ) (marks : List Bool) (parts : List TupleAt) → length (instance_from classes input column marks parts) ≡ length marks
instance-length classes input column [] parts = refl
instance-length classes input column (true ∷ marks) parts = ap suc (instance-length classes input (column + 1) marks parts)
instance-length classes input column (false ∷ marks) parts = ap suc (instance-length classes input (column + 1) marks parts)

-- every input has sent wildcards alone
abbrev pub HasEnded : JoinData → List PunctAt → Type 0
HasEnded spec puncts = (k : ℕ) → k < inputs spec → (p : PunctAt) × In p puncts × (p.input ≡ k) × (p.patterns ≡ all_wild (arity spec k))

-- all is covered then
all-covered : (spec : JoinData) (puncts : List PunctAt) (rows : List TupleAt) → HasEnded spec puncts → (cert : List CertEntry) (known : List ℕ) (parts : List TupleAt) → IsWalk spec.shape cert known
    → list_all (covered puncts) (need spec.shape.classes rows cert parts) ≡ true
all-covered spec puncts rows ended [] known parts w = refl
all-covered spec puncts rows ended (e ∷ cert) known parts w =
    and_from (covered puncts (demand spec.shape.classes e parts)) (list_all (covered puncts) (flat_map (need spec.shape.classes rows cert) (grown spec.shape.classes rows e parts)))
    (any_from test puncts p.0 p.1 (and_from (eqb p.0.input e.input) (covers p.0.patterns (demand spec.shape.classes e parts).instance) (eq-eqb p.0.input e.input p.2)
    (ap (λ (ps : List Pattern). covers ps (demand spec.shape.classes e parts).instance) p.3 ∙ wilds-cover (arity spec e.input) (demand spec.shape.classes e parts).instance (instance-length spec.shape.classes e.input 0 e.marks parts ∙ w.1))))
    (all_from (covered puncts) (flat_map (need spec.shape.classes rows cert) (grown spec.shape.classes rows e parts)) (λ d h.
    let m = In-flat_map (need spec.shape.classes rows cert) d (grown spec.shape.classes rows e parts) h in
    all_at' (need spec.shape.classes rows cert m.0) d (all-covered spec puncts rows ended cert (e.input ∷ known) m.0 w.3) m.2))
  where
    test : PunctAt → Bool
    test q = eqb q.input e.input && covers q.patterns (demand spec.shape.classes e parts).instance

    p : (q : PunctAt) × In q puncts × (q.input ≡ e.input) × (q.patterns ≡ all_wild (arity spec e.input))
    p = ended e.input w.0

    all_at' : (ds : List Demand) (d : Demand) → list_all (covered puncts) ds ≡ true → In d ds → covered puncts d ≡ true
    all_at' [] d t h = absurd h
    all_at' (c ∷ ds) d t (inl q) = subst (λ (z : Demand). covered puncts z ≡ true) q (and_parts (covered puncts c) (list_all (covered puncts) ds) t).0
    all_at' (c ∷ ds) d t (inr h) = all_at' ds d (and_parts (covered puncts c) (list_all (covered puncts) ds) t).1 h

-- every stored tuple is ripe then
ended-ripe : (spec : JoinData) (s : JoinState) → AreCertified spec → IsSound spec s → AllGiven s → HasEnded spec s.puncts → (x : TupleAt) → In x s.stored → ripe spec s x ≡ true
ended-ripe spec s certs i given ended x h =
    and_from (ltb x.ticket (low s)) (list_all (covered (older_puncts (low s) s.puncts)) (need_of spec (older (low s) s.stored) x))
    (lt-ltb x.ticket (low s) (omega (arith, top, (stored-in spec s i x h).1)))
    (where-all (agree spec.shape.classes (x ∷ [])) _ _
    (all-covered spec (older_puncts (low s) s.puncts) (older (low s) s.stored) ended' (cert_of spec x.input) (x.input ∷ []) (x ∷ []) (certified_at spec certs x.input (i.fit x (stored-in spec s i x h).0).0).walk))
  where
    top : s.next ≤ low s
    top = least_open-from s.given s.next s.next s.tuples (omega arith) (λ y m o. absurd (false≢true (sym o ∙ given y m)))

    ended' : HasEnded spec (older_puncts (low s) s.puncts)
    ended' k lt = let p = ended k lt in (p.0, In-filter_from (λ (q : PunctAt). ltb q.ticket (low s)) p.0 s.puncts p.1 (lt-ltb p.0.ticket (low s) (omega (arith, top, i.punct_numbered p.0 p.1))), p.2, p.3)

-- no tuple and no waiting punctuation of an input below this one is left
record AreCleared (s : JoinState) (k : ℕ) : Type 0 where
  rows : (x : TupleAt) → In x s.stored → k ≤ x.input
  puncts : (p : PunctAt) → In p s.waiting → k ≤ p.input

clear-step : (spec : JoinData) (s : JoinState) (k : ℕ) → AreCertified spec → IsSound spec s → AllGiven s → HasEnded spec s.puncts → AreCleared s k → AreCleared (step spec s (Sweep k)) (k + 1)
clear-step spec s k certs i given ended c = record {
  rows = λ x h. let r = left x h in let ge = c.rows x r.0 in omega (arith, ge, r.1);
  puncts = λ p h. let q = In-filter (λ (z : PunctAt). not (eqb z.input k) || is_held (kept spec s k) z) p s.waiting h in
      let ge = c.puncts p q.0 in
      elim (cases_eq p.input k) [
        | inr ne ↦ omega (arith, ge, ne)
        | inl e ↦ absurd (false≢true (sym (none p e) ∙ held (eqb p.input k) (is_held (kept spec s k) p) (eq-eqb p.input k e) q.1))
      ];
}
  where
    left : (x : TupleAt) → In x (kept spec s k) → In x s.stored × (x.input ≢ k)
    left x h = let q = In-filter (λ (z : TupleAt). not (eqb z.input k && ripe spec s z)) x s.stored h in
        (q.0, λ e. false≢true (sym (not-true (eqb x.input k && ripe spec s x) q.1) ∙ and_from (eqb x.input k) (ripe spec s x) (eq-eqb x.input k e) (ended-ripe spec s certs i given ended x q.0)))

    none : (p : PunctAt) → p.input ≡ k → is_held (kept spec s k) p ≡ false
    none p e = none_from (λ (x : TupleAt). eqb x.input p.input && matches_row p.patterns x.row) (kept spec s k) (λ x h.
        false_from_ne_true (eqb x.input p.input && matches_row p.patterns x.row) (λ t. (left x h).1 (eqb-true x.input p.input (and_parts (eqb x.input p.input) (matches_row p.patterns x.row) t).0 ∙ e)))

    held : (a b : Bool) → a ≡ true → (not a || b) ≡ true → b ≡ true
    held true b e t = t
    held false b e t = absurd (false≢true e)

clear-all : (spec : JoinData) (s : JoinState) (k n : ℕ) → AreCertified spec → IsSound spec s → AllGiven s → HasEnded spec s.puncts → k + n ≡ inputs spec → AreCleared s k
    → AreCleared (run spec s (sweeps_from k n)) (inputs spec) × IsSound spec (run spec s (sweeps_from k n)) × AllGiven (run spec s (sweeps_from k n))
clear-all spec s k zero certs i given ended l c = (subst (AreCleared s) (let e : k ≡ inputs spec = omega arith in e) c, i, given)
clear-all spec s k (suc n) certs i given ended l c =
    clear-all spec (step spec s (Sweep k)) (k + 1) n certs (sound-step spec s (Sweep k) i (omega arith, certs)) (same given) ended (omega arith) (clear-step spec s k certs i given ended c)
  where
    same : AllGiven s → AllGiven (step spec s (Sweep k))
    same g = g

empty-if : {A : Type 0} (xs : List A) → ((x : A) → In x xs → ⊥) → xs ≡ []
empty-if [] f = refl
empty-if (x ∷ xs) f = absurd (f x (inl refl))

-- from a sound state
pub settled-from : (spec : JoinData) (s : JoinState) → AreCertified spec → IsSound spec s → AllGiven s → HasEnded spec s.puncts
    → ((run spec s (sweeps_from 0 (inputs spec))).stored ≡ []) × IsSettled (run spec s (sweeps_from 0 (inputs spec)))
settled-from spec s certs sound given ended = (no-rows, (c.2, no-puncts))
  where
    e : JoinState
    e = run spec s (sweeps_from 0 (inputs spec))

    c : AreCleared e (inputs spec) × IsSound spec e × AllGiven e
    c = clear-all spec s 0 (inputs spec) certs sound given ended (omega arith) (record { rows = λ x h. omega arith; puncts = λ p h. omega arith })

    no-rows : e.stored ≡ []
    no-rows = empty-if e.stored (λ x h. let l = (c.1.fit x (stored-in spec e c.1 x h).0).0 in let g = c.0.rows x h in omega (arith, l, g))

    no-puncts : e.waiting ≡ []
    no-puncts = empty-if e.waiting (λ p h. let l = (c.1.punct_fit p (c.1.waits p h)).0 in let g = c.0.puncts p h in omega (arith, l, g))

pub settles : (spec : JoinData) → AreCertified spec → Settles spec
settles spec certs steps legal given ended =
    subst (λ (z : JoinState). (z.stored ≡ []) × IsSettled z) (sym (run-append spec start steps (sweeps_from 0 (inputs spec))))
    (settled-from spec (run spec start steps) certs (sound-run spec start steps (sound-start spec) legal) given ended)
