-- Rows that ask through those of other inputs, and what a punctuation covers of that.
use Rattle.std.proofs.Common.{ℕ, zero, suc, ◌<◌, ◌≤◌, Bool, true, false, ◌&&◌, ◌||◌, List, [], ◌∷◌, ◌++◌, ◌≡◌, ◌⊎◌, Some, length, refl, sym, ap, ◌∙◌, subst, inl, inr, eqb, arith}
use Rattle.std.specs.List.{slice_get}
use Rattle.std.specs.Option.{option_map}
use Rattle.std.proofs.lemmas.Bool.{eq-eqb, eqb-true, false_from_ne_true, false≢true}
use Rattle.std.proofs.lemmas.Option.{get_or_from_slice_get}
use Rattle.pj_value.specs.declared.values.Value.{Value}
use Rattle.pj_value.proofs.Members.{any_from}
use Rattle.pj_state.specs.declared.shared.Stored.{Stored}
use Rattle.pj_state.specs.States.{StateView, has_value, rows_with, tickets_of}
use Rattle.pj_cover.specs.Asking.{IsAsked}
use Rattle.pj_cover.proofs.Searching.{in_here}
use Rattle.pj_events.specs.Patterns.{Pattern, covers}
use Rattle.pj_events.specs.Join.{CertEntry, ClassCol, Demand, In, JoinData, TupleAt, cert_of, demand, instance_from}
use Rattle.pj_rows.specs.Tuples.{AreWide, IsWide, no_state, state_at, tuple_in}
use Rattle.pj_rows.specs.Ranges.{HoldTrue}
use Rattle.pj_recheck.specs.Watching.{AreLeftAt, AreStored, AsksAlong, CoverageView, FindCovered, IsKey, IsLeftBy, IsOfEntry, IsUnmet, LeadsBack, Limits, PathView, PunctView, SideView, Tells, input_at, is_met, is_wild_elsewhere, side_at}
use Rattle.pj_recheck.specs.declared.marks.DueRechecks.{DueRechecks}
use Rattle.pj_rows.specs.Finding.{has_match}
use Rattle.pj_recheck.proofs.Elsewhere.{elsewhere_uncovered}
use Rattle.pj_rows.proofs.Ranged.{held_by}
use Rattle.pj_recheck.proofs.Through.{tells-joined}
use Rattle.pj_rows.proofs.Indexed.{all-in}
use Rattle.pj_recheck.proofs.Woken.{passed_more, tells-own}

-- ---- what is asked for along a path

-- tuples whose values each of these rows tells, and of which this entry asks for this
abbrev AreAsking : List (List ClassCol) → List TupleAt → CertEntry → Demand → Type 0
AreAsking classes ys e asks = (all : List TupleAt) × (demand classes e all ≡ asks) × ((z : TupleAt) → In z ys → Tells classes all z)

one-more : (P : TupleAt → Type 0) (y : TupleAt) (ys xs : List TupleAt) → ((z : TupleAt) → In z ys ⊎ In z (y ∷ xs) → P z) → (z : TupleAt) → In z (y ∷ ys) ⊎ In z xs → P z
one-more P y ys xs all z (inl (inl e)) = all z (inr (inl e))
one-more P y ys xs all z (inl (inr h)) = all z (inl h)
one-more P y ys xs all z (inr h) = all z (inr (inr h))

asking-of : (classes : List (List ClassCol)) (cert : List CertEntry) (ys xs : List TupleAt) (asks : Demand) (e : CertEntry) → slice_get cert (length ys) ≡ Some e → IsAsked classes cert ys xs asks → ((z : TupleAt) → In z xs → Tells classes xs z)
    → (all : List TupleAt) × (demand classes e all ≡ asks) × ((z : TupleAt) → In z ys ⊎ In z xs → Tells classes all z)
asking-of classes [] ys xs asks e at asked tells = absurd (cc)
asking-of classes (f ∷ cert) [] xs asks e at asked tells = (xs, ap (λ (g : CertEntry). demand classes g xs) (sym (get_or_from_slice_get (f ∷ cert) 0 e f at)) ∙ asked, own)
  where
    own : (z : TupleAt) → In z [] ⊎ In z xs → Tells classes xs z
    own z (inl h) = absurd h
    own z (inr h) = tells z h
asking-of classes (f ∷ cert) (y ∷ ys) xs asks e at asked tells =
    let rest = asking-of classes cert ys (y ∷ xs) asks e at asked.2 (λ z h. tells-joined classes (y ∷ xs) z asked.1 h) in
    (rest.0, rest.1, one-more (λ z. Tells classes rest.0 z) y ys xs rest.2)

-- the tuples of a path do
along-of : (path : PathView) (x : TupleAt) (rows : List TupleAt) (asks : Demand) (e : CertEntry) → slice_get path.cert (length rows) ≡ Some e → IsAsked path.classes path.cert rows (x ∷ []) asks → AreAsking path.classes (x ∷ rows) e asks
along-of path x rows asks e at asked =
    let all = asking-of path.classes path.cert rows (x ∷ []) asks e at asked own in (all.0, all.1, λ z h. all.2 z (turn z h))
  where
    own : (z : TupleAt) → In z (x ∷ []) → Tells path.classes (x ∷ []) z
    own z (inl e) = subst (λ (y : TupleAt). Tells path.classes (x ∷ []) y) e (tells-own path.classes x)
    own z (inr h) = absurd h

    turn : (z : TupleAt) → In z (x ∷ rows) → In z rows ⊎ In z (x ∷ [])
    turn z (inl e) = inr (inl e)
    turn z (inr h) = inl h

-- the tuple at a place of those asked through is of the input of the entry there
input-of : (classes : List (List ClassCol)) (cert : List CertEntry) (ys xs : List TupleAt) (asks : Demand) (at : ℕ) (z : TupleAt) → IsAsked classes cert ys xs asks → slice_get ys at ≡ Some z → option_map (λ (e : CertEntry). e.input) (slice_get cert at) ≡ Some z.input
input-of classes [] ys xs asks at z asked there = absurd asked
input-of classes (f ∷ cert) [] xs asks at z asked there = absurd (cc)
input-of classes (f ∷ cert) (y ∷ ys) xs asks zero z asked there = ap Some (sym asked.0 ∙ ap (λ (t : TupleAt). t.input) (get_or_from_slice_get (y ∷ ys) 0 z y there))
input-of classes (f ∷ cert) (y ∷ ys) xs asks (suc at) z asked there = input-of classes cert ys (y ∷ xs) asks at z asked.2 there

pub input-along : (path : PathView) (x : TupleAt) (rows : List TupleAt) (asks : Demand) (at : ℕ) (z : TupleAt) → AsksAlong path x rows asks → slice_get (x ∷ rows) at ≡ Some z → input_at path at ≡ Some z.input
input-along path x rows asks zero z along there = ap Some (sym along.own ∙ ap (λ (t : TupleAt). t.input) (get_or_from_slice_get (x ∷ rows) 0 z x there))
input-along path x rows asks (suc at) z along there = input-of path.classes path.cert rows (x ∷ []) asks at z along.asked there

at-place-there : {A : Type 0} (xs : List A) (at : ℕ) → at < length xs → (x : A) × (slice_get xs at ≡ Some x)
at-place-there [] at lt = absurd (omega (arith, lt))
at-place-there (x ∷ xs) zero lt = (x, refl)
at-place-there (x ∷ xs) (suc at) lt = at-place-there xs at (omega (arith, lt))

short-of : (classes : List (List ClassCol)) (cert : List CertEntry) (ys xs : List TupleAt) (asks : Demand) → IsAsked classes cert ys xs asks → length ys < length cert
short-of classes [] ys xs asks asked = absurd asked
short-of classes (f ∷ cert) [] xs asks asked = omega arith
short-of classes (f ∷ cert) (y ∷ ys) xs asks asked = let lt = short-of classes cert ys (y ∷ xs) asks asked.2 in omega (arith, lt)

state-or-none : (row_states : List StateView) (k : ℕ) → (k < length row_states) ⊎ (state_at row_states k ≡ no_state)
state-or-none [] k = inr refl
state-or-none (s ∷ row_states) zero = inl (omega arith)
state-or-none (s ∷ row_states) (suc k) = elim (state-or-none row_states k) [ inl lt ↦ inl (omega (arith, lt)) | inr e ↦ inr e ]

pub wide-there : (row_states : List StateView) (k : ℕ) → AreWide row_states → IsWide (state_at row_states k)
wide-there row_states k wide = elim (state-or-none row_states k) [ inl lt ↦ wide k lt | inr e ↦ subst (λ (s : StateView). IsWide s) (sym e) (λ s h. absurd h) ]

-- ---- rows found back from a position

-- the rows at a position for which what is asked for may be covered lead back to those that ask for what is
found-back : (path : PathView) (entry : ℕ) (c : CoverageView) (at : ℕ) (side : SideView) (p : Stored → Bool) (tickets found : List ℕ)
    → IsOfEntry path entry c → at ≤ entry → input_at path at ≡ Some side.input → side ≡ side_at path.row_states side.input → HoldTrue p side.state.rows tickets
    → ((t : Stored) → In t side.state.rows → p t ≡ false → (xs : List TupleAt) → Tells c.classes xs (tuple_in side.input t) → is_met c xs ≡ false)
    → LeadsBack path at tickets found → FindCovered path entry c found
found-back path entry c at side p tickets found of le here own held differs leads x rows asks along count t = go (p s.0) refl
  where
    e : CertEntry
    e = record { input = c.input; marks = c.marks }

    all : AreAsking path.classes (x ∷ rows) e asks
    all = along-of path x rows asks e (ap (λ n. slice_get path.cert n) count ∙ of.entry_is) along.asked

    lt : at < length (x ∷ rows)
    lt = omega (arith, le, count)

    z : (z : TupleAt) × (slice_get (x ∷ rows) at ≡ Some z)
    z = at-place-there (x ∷ rows) at lt

    z-in : In z.0 (x ∷ rows)
    z-in = in_here (x ∷ rows) at z.0 z.1

    s : (t : Stored) × In t (state_at path.row_states z.0.input).rows × (tuple_in z.0.input t ≡ z.0)
    s = along.stored z.0 z-in

    same : z.0.input ≡ side.input
    same = one (sym (input-along path x rows asks at z.0 along z.1) ∙ here)
      where
        one : Some z.0.input ≡ Some side.input → z.0.input ≡ side.input
        one q = cc

    rows-are : (state_at path.row_states z.0.input).rows ≡ side.state.rows
    rows-are = ap (λ n. (state_at path.row_states n).rows) same ∙ ap (λ (d : SideView). d.state.rows) (sym own)

    s-in : In s.0 side.state.rows
    s-in = subst (λ (ts : List Stored). In s.0 ts) rows-are s.1

    z-is : tuple_in side.input s.0 ≡ z.0
    z-is = ap (λ n. tuple_in n s.0) (sym same) ∙ s.2

    tells : Tells c.classes all.0 (tuple_in side.input s.0)
    tells = subst (λ (y : TupleAt). Tells c.classes all.0 y) (sym z-is) (subst (λ (ks : List (List ClassCol)). Tells ks all.0 z.0) (sym of.classes) (all.2 z.0 z-in))

    met : is_met c all.0 ≡ true
    met = ap (λ (ks : List (List ClassCol)). covers c.patterns (instance_from ks c.input 0 c.marks all.0)) of.classes ∙ ap (λ (d : Demand). covers c.patterns d.instance) all.1 ∙ t

    go : (b : Bool) → p s.0 ≡ b → In x.ticket found
    go true q = leads x rows asks along z.0 z.1 (subst (λ n. In n tickets) (ap (λ (y : TupleAt). y.ticket) z-is) (held s.0 s-in q))
    go false q = absurd (false≢true (sym (differs s.0 s-in q all.0 tells) ∙ met))

wide-side : (path : PathView) (side : SideView) → AreWide path.row_states → side ≡ side_at path.row_states side.input → IsWide side.state
wide-side path side wide own = subst (λ (s : StateView). IsWide s) (ap (λ (d : SideView). d.state) (sym own)) (wide-there path.row_states side.input wide)

pub found_by_key : (path : PathView) (entry : ℕ) (c : CoverageView) (at : ℕ) (side : SideView) (column : ℕ) (v : Value) (tickets found : List ℕ)
    → AreWide path.row_states → IsOfEntry path entry c → at ≤ entry → input_at path at ≡ Some side.input → side ≡ side_at path.row_states side.input → IsKey side c column v → tickets ≡ tickets_of (rows_with column v side.state.rows)
    → LeadsBack path at tickets found → FindCovered path entry c found
found_by_key path entry c at side column v tickets found wide of le here own key are leads =
    found-back path entry c at side (has_value column v) tickets found of le here own (held_by (has_value column v) side.state.rows tickets are)
    (λ t h e xs tells. key.1 (tuple_in side.input t) xs tells refl (all-in (λ k. k < length t.row) side.state.columns (wide-side path side wide own t h) column key.0) e) leads

pub found_by_limit : (path : PathView) (entry : ℕ) (c : CoverageView) (at : ℕ) (side : SideView) (column : ℕ) (q : Pattern) (tickets found : List ℕ)
    → AreWide path.row_states → IsOfEntry path entry c → at ≤ entry → input_at path at ≡ Some side.input → side ≡ side_at path.row_states side.input → In column side.state.columns → Limits side c column q → HoldTrue (has_match column q) side.state.rows tickets
    → LeadsBack path at tickets found → FindCovered path entry c found
found_by_limit path entry c at side column q tickets found wide of le here own indexed limits held leads =
    found-back path entry c at side (has_match column q) tickets found of le here own held
    (λ t h e xs tells. limits (tuple_in side.input t) xs tells refl (all-in (λ k. k < length t.row) side.state.columns (wide-side path side wide own t h) column indexed) e) leads

-- ---- what is left

-- a punctuation that is no wildcard in some other column covers nothing
pub unmet_elsewhere : (path : PathView) (entry : ℕ) (c : CoverageView) (w : DueRechecks) → IsOfEntry path entry c → is_wild_elsewhere c.marks c.patterns ≡ false → IsUnmet path entry c w
unmet_elsewhere path entry c w of none x rows asks along count passed =
    let all = along-of path x rows asks (record { input = c.input; marks = c.marks }) (ap (λ n. slice_get path.cert n) count ∙ of.entry_is) along.asked in
    ap (λ (d : Demand). covers c.patterns d.instance) (sym all.1) ∙ elsewhere_uncovered path.classes c.input 0 c.marks c.patterns all.0 none

pub unmet_marked : (path : PathView) (entry : ℕ) (c : CoverageView) (old new : DueRechecks) (found : List ℕ) → FindCovered path entry c found → new.from ≡ old.from → new.marked ≡ old.marked ++ found → IsUnmet path entry c new
unmet_marked path entry c old new found finds from marked x rows asks along count passed =
    false_from_ne_true (covers c.patterns asks.instance) (λ t. false≢true (sym (passed_more old new found from marked x.ticket passed).1
    ∙ any_from (λ m. eqb m x.ticket) found x.ticket (finds x rows asks along count t) (eq-eqb x.ticket x.ticket refl)))

-- what is asked for is of the entry's input
asks-input : (path : PathView) (x : TupleAt) (rows : List TupleAt) (asks : Demand) (e : CertEntry) → slice_get path.cert (length rows) ≡ Some e → AsksAlong path x rows asks → asks.input ≡ e.input
asks-input path x rows asks e at along = let all = along-of path x rows asks e at along.asked in ap (λ (d : Demand). d.input) (sym all.1)

pub left_other : (path : PathView) (entry : ℕ) (e : CertEntry) (c : PunctView) (w : DueRechecks) → slice_get path.cert entry ≡ Some e → (e.input ≡ c.input → ⊥) → IsLeftBy path entry c w
left_other path entry e c w at ne ticket x rows asks along count passed =
    let here : slice_get path.cert (length rows) ≡ Some e = ap (slice_get path.cert) count ∙ at in
    let input : asks.input ≡ e.input = asks-input path x rows asks e here along in
    ap (λ b. (b && covers c.patterns asks.instance) || false) (false_from_ne_true (eqb c.input asks.input) (λ t. ne (sym input ∙ sym (eqb-true c.input asks.input t))))

pub left_unmet : (path : PathView) (entry : ℕ) (c : CoverageView) (p : PunctView) (w : DueRechecks) → c.patterns ≡ p.patterns → IsUnmet path entry c w → IsLeftBy path entry p w
left_unmet path entry c p w same unmet ticket x rows asks along count passed =
    go (eqb p.input asks.input) (covers p.patterns asks.instance) (ap (λ (ps : List Pattern). covers ps asks.instance) (sym same) ∙ unmet x rows asks along count passed)
  where
    go : (a b : Bool) → b ≡ false → ((a && b) || false) ≡ false
    go true b e = ap (λ d. d || false) e
    go false b e = refl

-- ---- all entries

pub left_at : (spec : JoinData) (row_states : List StateView) (c : PunctView) (w : DueRechecks) (input : ℕ)
    → ((entry : ℕ) (e : CertEntry) → entry < length (cert_of spec input) → slice_get (cert_of spec input) entry ≡ Some e → IsLeftBy (record { classes = spec.shape.classes; cert = cert_of spec input; input = input; row_states = row_states }) entry c w)
    → AreLeftAt spec row_states c w input
left_at spec row_states c w input all ticket s h passed rows asks stored asked =
    all (length rows) entry.0 lt entry.1 ticket (tuple_in input s) rows asks (record { own = refl; stored = there; asked = asked }) refl passed
  where
    lt : length rows < length (cert_of spec input)
    lt = short-of spec.shape.classes (cert_of spec input) rows (tuple_in input s ∷ []) asks asked

    entry : (e : CertEntry) × (slice_get (cert_of spec input) (length rows) ≡ Some e)
    entry = at-place-there (cert_of spec input) (length rows) lt

    there : AreStored row_states (tuple_in input s ∷ rows)
    there y (inl e) = subst (λ (z : TupleAt). (t : Stored) × In t (state_at row_states z.input).rows × (tuple_in z.input t ≡ z)) e (s, h, refl)
    there y (inr k) = stored y k
