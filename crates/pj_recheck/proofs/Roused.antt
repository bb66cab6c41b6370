-- Which rows are marked when rows of another input go.
use Rattle.std.proofs.Common.{ℕ, suc, ◌<◌, List, [], ◌∷◌, ◌++◌, ◌≡◌, Some, length, get_or, refl, sym, ap, ◌∙◌, subst, inl, inr, eqb, arith}
use Rattle.std.specs.List.{slice_get}
use Rattle.std.specs.Option.{option_map}
use Rattle.std.proofs.lemmas.Bool.{eq-eqb, false_from_ne_true, false≢true}
use Rattle.pj_value.proofs.Members.{any_from, in-place}
use Rattle.pj_state.specs.States.{StateView}
use Rattle.pj_cover.specs.Asking.{IsAsked}
use Rattle.pj_events.specs.Join.{CertEntry, ClassCol, Demand, In, JoinData, TupleAt, cert_of, value_at}
use Rattle.pj_join_laws.proofs.Matching.{agree-at, value-in}
use Rattle.pj_recheck.specs.declared.routes.Pair.{Pair}
use Rattle.pj_rows.specs.Tuples.{state_at, tuple_in}
use Rattle.pj_recheck.specs.Watching.{AreAside, AreMarked, AreStored, IsPair, IsRousedAt, first_column, is_passed}
use Rattle.pj_recheck.specs.declared.marks.DueRechecks.{DueRechecks}
use Rattle.pj_recheck.proofs.Through.{first-in_class}
use Rattle.pj_recheck.proofs.Woken.{passed_more}

-- ---- what is marked

pub marked_now : (old new : DueRechecks) (tickets : List ℕ) → new.from ≡ old.from → new.marked ≡ old.marked ++ tickets → AreMarked tickets new
marked_now old new tickets from marked t h =
    false_from_ne_true (is_passed new t) (λ p. false≢true (sym (passed_more old new tickets from marked t p).1 ∙ any_from (λ m. eqb m t) tickets t h (eq-eqb t t refl)))

-- ---- columns of two inputs in a class

pair_is : (classes : List (List ClassCol)) (class : List ClassCol) (input other : ℕ) (pair : Pair) → In class classes → first_column class input ≡ Some pair.mine → first_column class other ≡ Some pair.theirs → IsPair classes input other pair
pair_is classes class input other pair there own next x y ex ey t =
    agree-at classes (y ∷ x ∷ []) class (value_at x.row pair.mine) (value_at y.row pair.theirs) t there
    (value-in (y ∷ x ∷ []) class x (record { input = input; column = pair.mine }) (inr (inl refl)) (first-in_class class input pair.mine own) ex)
    (value-in (y ∷ x ∷ []) class y (record { input = other; column = pair.theirs }) (inl refl) (first-in_class class other pair.theirs next) ey)

-- the class that was found is one of the classes
pub pair_found : (classes : List (List ClassCol)) (class item : List ClassCol) (i : ℕ) (input other : ℕ) (pair : Pair) → i < length classes → class ≡ item → item ≡ get_or classes i item → first_column class input ≡ Some pair.mine → first_column class other ≡ Some pair.theirs → IsPair classes input other pair
pair_found classes class item i input other pair lt same is own next =
    pair_is classes class input other pair (subst (λ (c : List ClassCol). In c classes) (sym (same ∙ is)) (in-place classes item i lt)) own next

-- ---- one input

-- a row through which something is asked for has a position, which is not the last
asked-at : (classes : List (List ClassCol)) (cert : List CertEntry) (rows xs : List TupleAt) (asks : Demand) (y : TupleAt) → IsAsked classes cert rows xs asks → In y rows
    → (k : ℕ) × (slice_get rows k ≡ Some y) × (suc k < length cert) × (option_map (λ (e : CertEntry). e.input) (slice_get cert k) ≡ Some y.input)
asked-at classes [] rows xs asks y asked h = absurd asked
asked-at classes (e ∷ cert) [] xs asks y asked h = absurd h
asked-at classes (e ∷ []) (z ∷ rows) xs asks y asked h = absurd asked.2
asked-at classes (e ∷ f ∷ cert) (z ∷ rows) xs asks y asked (inl q) = (0, ap (λ (u : TupleAt). Some u) q, omega arith, ap (λ n. Some n) (sym asked.0) ∙ ap (λ (u : TupleAt). Some u.input) q)
asked-at classes (e ∷ f ∷ cert) (z ∷ rows) xs asks y asked (inr h) =
    let r = asked-at classes (f ∷ cert) rows (z ∷ xs) asks y asked.2 h in (suc r.0, r.1, (let l = r.2 in omega (arith, l)), r.3)

pub roused_along : (spec : JoinData) (row_states : List StateView) (other : ℕ) (gone : List ℕ) (w : DueRechecks) (input : ℕ)
    → AreAside (record { classes = spec.shape.classes; cert = cert_of spec input; input = input; row_states = row_states }) (length (cert_of spec input)) other gone w → IsRousedAt spec row_states other gone w input
roused_along spec row_states other gone w input aside s h passed rows asks stored asked y k same goes =
    let at = asked-at spec.shape.classes (cert_of spec input) rows (tuple_in input s ∷ []) asks y asked k in
    aside (suc at.0) (omega arith) at.2 (at.3 ∙ ap (λ n. Some n) same) (tuple_in input s) rows asks (record { own = refl; stored = all; asked = asked }) passed y at.1 goes
  where
    all : AreStored row_states (tuple_in input s ∷ rows)
    all z (inl e) = (s, subst (λ n. In s (state_at row_states n).rows) (ap (λ (u : TupleAt). u.input) e) h, ap (λ (u : TupleAt). tuple_in u.input s) (sym e) ∙ e)
    all z (inr i) = stored z i
