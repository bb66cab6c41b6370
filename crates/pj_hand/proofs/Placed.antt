-- Probes that stand under their places in a map.
use Rattle.std.proofs.Common.{ℕ, Bool, true, false, cond, is_some, List, [], ◌∷◌, ◌≡◌, Option, Some, None, nat_cmp, slice_get, length, refl, sym, ap, ap₂, ◌∙◌, subst, arith}
use Rattle.std.specs.BTreeMap.{insert_entry, is_at}
use Rattle.std.specs.Cmp.{Equal-is}
use Rattle.std.specs.Map.{lookup, remove_entry, values_of}
use Rattle.std.specs.Ordering.{is_eq, match_ordering, ordering_then}
use Rattle.std.specs.declared.cmp.Ordering.{Ordering}
use Rattle.std.specs.declared.cmp.Ordering.TheVariants.{Less, Equal, Greater}
use Rattle.std.proofs.lemmas.Bool.Decides.{nat_tests}
use Rattle.pj_probe.specs.declared.probe.Found.{Found}
use Rattle.pj_probe.proofs.Checked.{same-ways}
use Rattle.std.proofs.lemmas.Bool.{false≢true}
use Rattle.pj_hand.specs.Held.{AreKeyed, HeldView, first_place, found_at, held_in, is_of, place_cmp, place_of, put_in, without}
use Rattle.pj_hand.proofs.InOrder.{equal-same, key-from, key-is}

abbrev Entry : Type 0
Entry = (ℕ × ℕ) × Found

-- ---- one more

pub values-put : (entries : List Entry) (probe : Found) → AreKeyed entries → values_of (insert_entry place_cmp entries (place_of probe) probe) ≡ put_in probe (values_of entries)
values-put [] probe k = refl
values-put (e ∷ entries) probe k =
    at (values-put entries probe k.1) (place_cmp (place_of probe) e.0)
    ∙ ap (λ (x : ℕ × ℕ). match_ordering (place_cmp (place_of probe) x) (probe ∷ e.1 ∷ values_of entries) (probe ∷ values_of entries) (e.1 ∷ put_in probe (values_of entries))) k.0
  where
    at : values_of (insert_entry place_cmp entries (place_of probe) probe) ≡ put_in probe (values_of entries) → (r : Ordering) → values_of (match_ordering r ((place_of probe, probe) ∷ e ∷ entries) ((e.0, probe) ∷ entries) (e ∷ insert_entry place_cmp entries (place_of probe) probe))
        ≡ match_ordering r (probe ∷ e.1 ∷ values_of entries) (probe ∷ values_of entries) (e.1 ∷ put_in probe (values_of entries))
    at ih Less = refl
    at ih Equal = refl
    at ih Greater = ap (λ (ps : List Found). e.1 ∷ ps) ih

pub keyed-put : (entries : List Entry) (probe : Found) → AreKeyed entries → AreKeyed (insert_entry place_cmp entries (place_of probe) probe)
keyed-put [] probe k = (refl, tt)
keyed-put (e ∷ entries) probe k = go (keyed-put entries probe k.1) (place_cmp (place_of probe) e.0) refl
  where
    go : AreKeyed (insert_entry place_cmp entries (place_of probe) probe) → (r : Ordering) → place_cmp (place_of probe) e.0 ≡ r → AreKeyed (match_ordering r ((place_of probe, probe) ∷ e ∷ entries) ((e.0, probe) ∷ entries) (e ∷ insert_entry place_cmp entries (place_of probe) probe))
    go ih Less q = (refl, k)
    go ih Equal q = (sym (equal-same (place_of probe) e.0 q), k.1)
    go ih Greater q = (k.0, ih)

-- ---- a place that is looked for

equal-itself : (n : ℕ) → nat_cmp n n ≡ Equal
equal-itself n = grind (arith, nat_tests)

-- the test of the map is that of the probe
at-is : (join ticket : ℕ) (probe : Found) → is_at (place_cmp (join, ticket)) (place_of probe) ≡ is_of join ticket probe
at-is join ticket probe = same-ways (is_at (place_cmp (join, ticket)) (place_of probe)) (is_of join ticket probe) there back
  where
    there : is_at (place_cmp (join, ticket)) (place_of probe) ≡ true → is_of join ticket probe ≡ true
    there t =
        let q = equal-same (join, ticket) (place_of probe) ((Equal-is (place_cmp (join, ticket) (place_of probe))).0 t) in
        key-from join ticket probe (sym (ap (λ (x : ℕ × ℕ). x.0) q)) (sym (ap (λ (x : ℕ × ℕ). x.1) q))

    back : is_of join ticket probe ≡ true → is_at (place_cmp (join, ticket)) (place_of probe) ≡ true
    back t =
        let q = key-is join ticket probe t in
        ap is_eq (ap₂ (λ (j u : ℕ). ordering_then (nat_cmp j probe.join) (nat_cmp u probe.ticket)) (sym q.0) (sym q.1) ∙ ap₂ ordering_then (equal-itself probe.join) (equal-itself probe.ticket))

test-is : (join ticket : ℕ) (e : Entry) → e.0 ≡ place_of e.1 → is_at (place_cmp (join, ticket)) e.0 ≡ is_of join ticket e.1
test-is join ticket e k = ap (is_at (place_cmp (join, ticket))) k ∙ at-is join ticket e.1

pub looked-up : (entries : List Entry) (join ticket : ℕ) → AreKeyed entries → lookup (is_at (place_cmp (join, ticket))) entries ≡ found_at (values_of entries) join ticket
looked-up [] join ticket k = refl
looked-up (e ∷ entries) join ticket k = ap₂ (λ (b : Bool) (o : Option Found). cond b (Some e.1) o) (test-is join ticket e k.0) (looked-up entries join ticket k.1)

pub values-removed : (entries : List Entry) (join ticket : ℕ) → AreKeyed entries → values_of (remove_entry (is_at (place_cmp (join, ticket))) entries) ≡ without (values_of entries) join ticket
values-removed [] join ticket k = refl
values-removed (e ∷ entries) join ticket k =
    at (values-removed entries join ticket k.1) (is_at (place_cmp (join, ticket)) e.0)
    ∙ ap (λ (b : Bool). cond b (values_of entries) (e.1 ∷ without (values_of entries) join ticket)) (test-is join ticket e k.0)
  where
    at : values_of (remove_entry (is_at (place_cmp (join, ticket))) entries) ≡ without (values_of entries) join ticket → (b : Bool) → values_of (cond b entries (e ∷ remove_entry (is_at (place_cmp (join, ticket))) entries)) ≡ cond b (values_of entries) (e.1 ∷ without (values_of entries) join ticket)
    at ih true = refl
    at ih false = ap (λ (ps : List Found). e.1 ∷ ps) ih

pub keyed-removed : (test : ℕ × ℕ → Bool) (entries : List Entry) → AreKeyed entries → AreKeyed (remove_entry test entries)
keyed-removed test [] k = tt
keyed-removed test (e ∷ entries) k = go (keyed-removed test entries k.1) (test e.0)
  where
    go : AreKeyed (remove_entry test entries) → (b : Bool) → AreKeyed (cond b entries (e ∷ remove_entry test entries))
    go ih true = k.1
    go ih false = (k.0, ih)

-- ---- the first

pub first-place : (entries : List Entry) (place : ℕ × ℕ) (probe : Found) → AreKeyed entries → slice_get entries 0 ≡ Some (place, probe) → Some place ≡ first_place (values_of entries)
first-place [] place probe k e = absurd (cc)
first-place (e ∷ entries) place probe k q = let r : e ≡ (place, probe) = cc in ap Some (sym (ap (λ (x : Entry). x.0) r) ∙ k.0)

pub none-first : (entries : List Entry) → length entries ≡ 0 → None ≡ first_place (values_of entries)
none-first [] e = refl
none-first (e ∷ entries) q = absurd (omega (arith, q))

-- ---- where none waits

-- the probes are those that have their places
pub plain : (view : HeldView) (entries : List Entry) (waiting : Option Found) → record { probes = held_in (values_of entries) waiting; waits = is_some waiting } ≡ view → view.waits ≡ false
    → (waiting ≡ None) × (values_of entries ≡ view.probes)
plain view entries None is e = (refl, ap (λ (v : HeldView). v.probes) is)
plain view entries (Some probe) is e = absurd (false≢true (sym e ∙ sym (ap (λ (v : HeldView). v.waits) is)))

pub keyed-with : (entries new : List Entry) (place : ℕ × ℕ) (probe : Found) → AreKeyed entries → place ≡ place_of probe → new ≡ insert_entry place_cmp entries place probe → AreKeyed new
keyed-with entries new place probe k e is = subst AreKeyed (sym (is ∙ ap (λ (x : ℕ × ℕ). insert_entry place_cmp entries x probe) e)) (keyed-put entries probe k)

pub held-with : (view : HeldView) (entries new : List Entry) (waiting : Option Found) (place : ℕ × ℕ) (probe : Found) → record { probes = held_in (values_of entries) waiting; waits = is_some waiting } ≡ view → view.waits ≡ false
    → AreKeyed entries → place ≡ place_of probe → new ≡ insert_entry place_cmp entries place probe → held_in (values_of new) waiting ≡ put_in probe view.probes
held-with view entries new waiting place probe is w k e put =
    let p = plain view entries waiting is w in
    ap (held_in (values_of new)) p.0
    ∙ ap values_of (put ∙ ap (λ (x : ℕ × ℕ). insert_entry place_cmp entries x probe) e)
    ∙ values-put entries probe k
    ∙ ap (put_in probe) p.1

pub held-without : (view : HeldView) (entries new : List Entry) (waiting : Option Found) (join ticket : ℕ) → record { probes = held_in (values_of entries) waiting; waits = is_some waiting } ≡ view → view.waits ≡ false
    → AreKeyed entries → new ≡ remove_entry (is_at (place_cmp (join, ticket))) entries → held_in (values_of new) waiting ≡ without view.probes join ticket
held-without view entries new waiting join ticket is w k left =
    let p = plain view entries waiting is w in
    ap (held_in (values_of new)) p.0
    ∙ ap values_of left
    ∙ values-removed entries join ticket k
    ∙ ap (λ (ps : List Found). without ps join ticket) p.1

pub found-there : (view : HeldView) (entries : List Entry) (waiting : Option Found) (join ticket : ℕ) → record { probes = held_in (values_of entries) waiting; waits = is_some waiting } ≡ view → view.waits ≡ false
    → AreKeyed entries → lookup (is_at (place_cmp (join, ticket))) entries ≡ found_at view.probes join ticket
found-there view entries waiting join ticket is w k = looked-up entries join ticket k ∙ ap (λ (ps : List Found). found_at ps join ticket) (plain view entries waiting is w).1
