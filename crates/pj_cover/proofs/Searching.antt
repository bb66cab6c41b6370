-- What is said of what rows ask for, from a place of a certificate on.
use Rattle.std.proofs.Common.{ℕ, zero, suc, ◌+◌, ◌<◌, ◌≤◌, Bool, true, false, List, [], ◌∷◌, ◌≡◌, Some, map, length, take, drop, refl, sym, ap, ◌∙◌, subst, inl, inr, arith}
use Rattle.std.specs.List.{slice_get}
use Rattle.std.proofs.lemmas.List.{take_all}
use Rattle.std.proofs.lemmas.Option.{get_or_from_slice_get}
use Rattle.pj_value.specs.declared.values.Value.{Value}
use Rattle.pj_shape.specs.declared.joins.JoinSpec.{JoinSpec}
use Rattle.pj_shape.specs.Sound.{arities_of}
use Rattle.pj_events.specs.Join.{In, TupleAt, CertEntry, CertStep, demand, entry_of}
use Rattle.pj_cover.specs.declared.ripeness.Verdict.{Verdict}
use Rattle.pj_puncts.specs.Stores.{Store}
use Rattle.pj_rows.specs.AgreesWith.{agrees_with}
use Rattle.pj_cover.specs.Asking.{Known, AreParts, AreDone, IsDone, IsJudged, IsJudgedThrough, IsJudgedWith, IsOnWalk, IsStep, IsStepJudged, entries, known_of, says_ripe, tuple_of}
use Rattle.pj_rows.proofs.Agreeing.{front_agree, front_agrees_with}
use Rattle.pj_cover.proofs.Stored.{in-tuples, tuples-in}
use Rattle.pj_cover.proofs.Steps.{length-map, step_ready, walk_more}
use Rattle.pj_puncts.proofs.Lent.{drop_here}
use Rattle.pj_cover.proofs.Judged.{judged_here, judged_through, step_covered, done_last, done_more, done_apart, judged_with}

abbrev pub Rows : Type 0
Rows = ℕ → List (ℕ × List Value)

drop-past : {A : Type 0} (n : ℕ) (xs : List A) → length xs ≤ n → drop n xs ≡ []
drop-past zero [] le = refl
drop-past zero (x ∷ xs) le = absurd (omega (arith, le))
drop-past (suc n) [] le = refl
drop-past (suc n) (x ∷ xs) le = drop-past n xs (omega (arith, le))

pub map_here : {A B : Type 0} (f : A → B) (xs : List A) (at : ℕ) (x : A) → slice_get xs at ≡ Some x → slice_get (map f xs) at ≡ Some (f x)
map_here f [] at x e = absurd (cc)
map_here f (y ∷ xs) zero x e = ap (λ z. Some (f z)) (get_or_from_slice_get (y ∷ xs) 0 x x e)
map_here f (y ∷ xs) (suc at) x e = map_here f xs at x e

pub in_here : {A : Type 0} (xs : List A) (at : ℕ) (x : A) → slice_get xs at ≡ Some x → In x xs
in_here [] at x e = absurd (cc)
in_here (y ∷ xs) zero x e = inl (get_or_from_slice_get (y ∷ xs) 0 x x e)
in_here (y ∷ xs) (suc at) x e = inr (in_here xs at x e)

-- what the step at the place needs
pub ready : (spec : JoinSpec) (schemes : List (List (List Bool))) (rows : Rows) (punct_stores : List Store) (cert : List CertStep) (at : ℕ) (step : CertStep) (xs : List TupleAt)
    → AreParts spec rows punct_stores → IsOnWalk spec schemes (drop at cert) xs → slice_get cert at ≡ Some step → IsStep schemes punct_stores step
ready spec schemes rows punct_stores cert at step xs parts walk here =
    step_ready spec schemes rows punct_stores step (drop (at + 1) cert) xs parts (subst (λ (steps : List CertStep). IsOnWalk spec schemes steps xs) (drop_here cert at step here) walk)

-- it is not covered
pub found_here : (k : Known) (schemes : List (List (List Bool))) (cert : List CertStep) (at : ℕ) (step : CertStep) (xs ys : List TupleAt) (v : Verdict)
    → slice_get cert at ≡ Some step → ys ≡ xs → IsStepJudged k (demand k.classes (entry_of schemes step) ys) v → says_ripe v ≡ false → IsJudged k (entries schemes (drop at cert)) xs v
found_here k schemes cert at step xs ys v here same s unripe =
    subst (λ (steps : List CertStep). IsJudged k (entries schemes steps) xs v) (sym (drop_here cert at step here))
    (judged_here k (entry_of schemes step) (entries schemes (drop (at + 1) cert)) xs v
    (subst (λ (zs : List TupleAt). IsStepJudged k (demand k.classes (entry_of schemes step) zs) v) same s) unripe)

-- it is covered, and the rows of its input were gone through
pub gone_through : (spec : JoinSpec) (schemes : List (List (List Bool))) (rows : Rows) (punct_stores : List Store) (low : ℕ) (cert : List CertStep) (at : ℕ) (step : CertStep) (xs ys : List TupleAt) (own v : Verdict)
    → slice_get cert at ≡ Some step → ys ≡ xs → IsStepJudged (known_of spec rows punct_stores low) (demand spec.classes (entry_of schemes step) ys) own → says_ripe own ≡ true
    → IsJudgedThrough (known_of spec rows punct_stores low) (entries schemes (drop at cert)) xs (map (tuple_of step.input) (rows step.input)) v → IsJudged (known_of spec rows punct_stores low) (entries schemes (drop at cert)) xs v
gone_through spec schemes rows punct_stores low cert at step xs ys own v here same s holds j =
    subst (λ (steps : List CertStep). IsJudged (known_of spec rows punct_stores low) (entries schemes steps) xs v) (sym (drop_here cert at step here))
    (judged_through (known_of spec rows punct_stores low) (entry_of schemes step) (entries schemes (drop (at + 1) cert)) xs (map (tuple_of step.input) (rows step.input)) v
    (step_covered (known_of spec rows punct_stores low) (demand spec.classes (entry_of schemes step) xs) own
    (subst (λ (zs : List TupleAt). IsStepJudged (known_of spec rows punct_stores low) (demand spec.classes (entry_of schemes step) zs) own) same s) holds)
    (λ y h e. in-tuples rows (length spec.inputs) step.input y h e)
    (subst (λ (steps : List CertStep). IsJudgedThrough (known_of spec rows punct_stores low) (entries schemes steps) xs (map (tuple_of step.input) (rows step.input)) v) (drop_here cert at step here) j))

pub last_step : (k : Known) (schemes : List (List (List Bool))) (cert : List CertStep) (at : ℕ) (step : CertStep) (xs ys : List TupleAt) → slice_get cert at ≡ Some step → length cert ≤ at + 1
    → AreDone k (entries schemes (drop at cert)) xs ys
last_step k schemes cert at step xs ys here le =
    let e : drop at cert ≡ step ∷ [] = drop_here cert at step here ∙ ap (λ (steps : List CertStep). step ∷ steps) (drop-past (at + 1) cert le) in
    subst (λ (steps : List CertStep). AreDone k (entries schemes steps) xs ys) (sym e) (done_last k (entry_of schemes step) xs ys)

pub one_more : (k : Known) (cert : List CertEntry) (input : ℕ) (xs zs : List TupleAt) (rs : List (ℕ × List Value)) (n : ℕ) (r : ℕ × List Value)
    → slice_get rs n ≡ Some r → zs ≡ xs → AreDone k cert xs (take n (map (tuple_of input) rs))
    → IsDone k cert zs (tuple_of input r) → AreDone k cert xs (take (n + 1) (map (tuple_of input) rs))
one_more k cert input xs zs rs n r row same done more =
    done_more k cert xs (map (tuple_of input) rs) n (tuple_of input r) (map_here (tuple_of input) rs n r row) done (subst (λ (ws : List TupleAt). IsDone k cert ws (tuple_of input r)) same more)

pub all_gone : (k : Known) (cert : List CertEntry) (xs ys : List TupleAt) (n : ℕ) → length ys ≤ n → AreDone k cert xs (take n ys) → AreDone k cert xs ys
all_gone k cert xs ys n le done = subst (λ (zs : List TupleAt). AreDone k cert xs zs) (take_all n ys le) done

-- ---- with one row

pub not_suited : (k : Known) (schemes : List (List (List Bool))) (cert : List CertStep) (at : ℕ) (step : CertStep) (xs : List TupleAt) (y : TupleAt) → slice_get cert at ≡ Some step → agrees_with k.classes xs y ≡ false
    → IsDone k (entries schemes (drop at cert)) xs y
not_suited k schemes cert at step xs y here f =
    subst (λ (steps : List CertStep). IsDone k (entries schemes steps) xs y) (sym (drop_here cert at step here))
    (done_apart k (entry_of schemes step) (entries schemes (drop (at + 1) cert)) xs y (λ a. let t : agrees_with k.classes xs y ≡ true = front_agrees_with k.classes xs y a in cc))

-- it is not below the low-water ticket
pub not_older : (k : Known) (schemes : List (List (List Bool))) (cert : List CertStep) (at : ℕ) (step : CertStep) (xs : List TupleAt) (y : TupleAt) → slice_get cert at ≡ Some step → k.low ≤ y.ticket
    → IsDone k (entries schemes (drop at cert)) xs y
not_older k schemes cert at step xs y here le =
    subst (λ (steps : List CertStep). IsDone k (entries schemes steps) xs y) (sym (drop_here cert at step here)) (λ m. let lt = m.below in absurd (omega (arith, le, lt)))

-- one row more may be lent
pub goes_on : (spec : JoinSpec) (schemes : List (List (List Bool))) (rows : Rows) (punct_stores : List Store) (cert : List CertStep) (at : ℕ) (step : CertStep) (xs ys : List TupleAt) (r : ℕ × List Value)
    → AreParts spec rows punct_stores → IsOnWalk spec schemes (drop at cert) xs → slice_get cert at ≡ Some step → In r (rows step.input) → agrees_with spec.classes xs (tuple_of step.input r) ≡ true → ys ≡ tuple_of step.input r ∷ xs
    → IsOnWalk spec schemes (drop (at + 1) cert) ys
goes_on spec schemes rows punct_stores cert at step xs ys r parts walk here stored suited same =
    let w = subst (λ (steps : List CertStep). IsOnWalk spec schemes steps xs) (drop_here cert at step here) walk in
    let n : length (arities_of spec.inputs) ≡ length spec.inputs = length-map length spec.inputs in
    let below : step.input < length (arities_of spec.inputs) = w.walk.0 in
    subst (λ (zs : List TupleAt). IsOnWalk spec schemes (drop (at + 1) cert) zs) (sym same)
    (walk_more spec schemes step (drop (at + 1) cert) xs (tuple_of step.input r) w refl (parts.fit step.input (omega (arith, n, below)) r stored) (front_agree spec.classes xs (tuple_of step.input r) walk.joined suited))

pub has_room : (spec : JoinSpec) (schemes : List (List (List Bool))) (cert : List CertStep) (at : ℕ) (step : CertStep) (xs : List TupleAt) → IsOnWalk spec schemes (drop at cert) xs → slice_get cert at ≡ Some step → length xs < 16
has_room spec schemes cert at step xs walk here =
    let few : length xs + length (drop at cert) ≤ 16 = walk.few in
    let some : length (drop at cert) ≡ suc (length (drop (at + 1) cert)) = ap length (drop_here cert at step here) in
    omega (arith, few, some)

-- what was said from the next place on
pub went_on : (spec : JoinSpec) (schemes : List (List (List Bool))) (rows : Rows) (punct_stores : List Store) (low : ℕ) (cert : List CertStep) (at : ℕ) (step : CertStep) (xs ys : List TupleAt) (r : ℕ × List Value) (v : Verdict)
    → IsOnWalk spec schemes (drop at cert) xs → slice_get cert at ≡ Some step → In r (rows step.input) → r.0 < low → agrees_with spec.classes xs (tuple_of step.input r) ≡ true → ys ≡ tuple_of step.input r ∷ xs
    → IsJudged (known_of spec rows punct_stores low) (entries schemes (drop (at + 1) cert)) ys v
    → IsJudgedWith (known_of spec rows punct_stores low) (entries schemes (drop at cert)) xs (tuple_of step.input r) v
went_on spec schemes rows punct_stores low cert at step xs ys r v walk here stored lt suited same j =
    let w = subst (λ (steps : List CertStep). IsOnWalk spec schemes steps xs) (drop_here cert at step here) walk in
    let n : length (arities_of spec.inputs) ≡ length spec.inputs = length-map length spec.inputs in
    let below : step.input < length (arities_of spec.inputs) = w.walk.0 in
    subst (λ (steps : List CertStep). IsJudgedWith (known_of spec rows punct_stores low) (entries schemes steps) xs (tuple_of step.input r) v) (sym (drop_here cert at step here))
    (judged_with (known_of spec rows punct_stores low) (entry_of schemes step) (entries schemes (drop (at + 1) cert)) xs (tuple_of step.input r) v lt refl (front_agree spec.classes xs (tuple_of step.input r) walk.joined suited)
    (tuples-in rows (length spec.inputs) step.input r (omega (arith, n, below)) stored)
    (subst (λ (zs : List TupleAt). IsJudged (known_of spec rows punct_stores low) (entries schemes (drop (at + 1) cert)) zs v) same j))
