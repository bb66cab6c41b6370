-- Where the rows before a step determine what its rows tell later steps, all rows that join with those ask for the same.
use Rattle.std.proofs.Common.{ℕ, ◌+◌, Bool, true, false, List, [], ◌∷◌, ◌≡◌, ◌⊎◌, None, Some, map, drop, get_or, refl, sym, ap, ap₂, ◌∙◌, subst, inl, inr, eqb}
use Rattle.std.specs.Prelude.{Option}
use Rattle.std.specs.List.{slice_get}
use Rattle.std.proofs.lemmas.Bool.{eqb-true}
use Rattle.pj_value.specs.declared.values.Value.{Value}
use Rattle.pj_value.proofs.Members.{In-filter, In-filter_from, In-flat_map, In-flat_map_from, In-map, In-map_from, all_at, all_from}
use Rattle.pj_shape.specs.Joining.{all_equal, no_value}
use Rattle.pj_shape.specs.declared.joins.JoinSpec.{JoinSpec}
use Rattle.pj_shape.proofs.Joining.{all_equal-from}
use Rattle.pj_events.specs.Join.{In, TupleAt, ClassCol, CertEntry, CertStep, Demand, agree, class_with, constant, entry_of, grown, instance_from, need, of_input, older, part_of, values}
use Rattle.pj_join_laws.specs.Walks.{AreListedOnce}
use Rattle.pj_join_laws.proofs.Matching.{agree-at, value-in, values-mono}
use Rattle.pj_puncts.proofs.Lent.{drop_here}
use Rattle.pj_rows.proofs.Agreeing.{IsSource, source-of}
use Rattle.pj_cover.specs.Asking.{Known, AreDone, IsOnWalk, all_covered, entries, inputs_of, is_covered}
use Rattle.pj_cover.specs.Routes.{AreFixed}
use Rattle.pj_cover.proofs.Linked.{in-classes, own-in}

-- in each class with a column of another input, the second rows have all the values that the first have
abbrev Have : List (List ClassCol) → ℕ → List TupleAt → List TupleAt → Type 0
Have classes input xs ys =
    (class : List ClassCol) (b : ClassCol) → In class classes → In b class → (b.input ≡ input → ⊥) → (v : Value) → In v (values (map part_of xs) class) → In v (values (map part_of ys) class)

-- both join, and have the same values there
record AreAlike (classes : List (List ClassCol)) (input : ℕ) (xs ys : List TupleAt) : Type 0 where
  joins : agree classes xs ≡ true
  also : agree classes ys ≡ true
  there : Have classes input xs ys
  back : Have classes input ys xs

module _ (classes : List (List ClassCol)) (input : ℕ) where
  have-more : (xs ys : List TupleAt) (z : TupleAt) → Have classes input xs ys → Have classes input (z ∷ xs) (z ∷ ys)
  have-more xs ys z have class b h hb other v hv = go (source-of (z ∷ xs) class v hv)
    where
      case : (a : IsSource (z ∷ xs) class v) → (z ≡ a.tuple) ⊎ In a.tuple xs → In v (values (map part_of (z ∷ ys)) class)
      case a (inl same) = subst (λ w. In w (values (map part_of (z ∷ ys)) class)) a.value (value-in (z ∷ ys) class a.tuple a.at (inl same) a.of_class a.same_input)
      case a (inr k) =
          values-mono ys (z ∷ ys) class (λ x q. inr q) v (have class b h hb other v (subst (λ w. In w (values (map part_of xs) class)) a.value (value-in xs class a.tuple a.at k a.of_class a.same_input)))

      go : IsSource (z ∷ xs) class v → In v (values (map part_of (z ∷ ys)) class)
      go a = case a a.of_tuples

  -- a row of another input that joins with the second rows joins with the first
  joins-more : (xs ys : List TupleAt) (z : TupleAt) → agree classes xs ≡ true → Have classes input xs ys → (z.input ≡ input → ⊥) → agree classes (z ∷ ys) ≡ true → agree classes (z ∷ xs) ≡ true
  joins-more xs ys z joins have other more =
      all_from (λ k. all_equal (values (map part_of (z ∷ xs)) k)) classes (λ class h.
      all_equal-from (values (map part_of (z ∷ xs)) class) (λ v w hv hw.
      let a = source-of (z ∷ xs) class v hv in
      let b = source-of (z ∷ xs) class w hw in
      both class h v w hv hw a b a.of_tuples b.of_tuples))
    where
      -- the class has a column of that input
      by : (class : List ClassCol) → In class classes → (v w u : Value) → In v (values (map part_of (z ∷ xs)) class) → In w (values (map part_of (z ∷ xs)) class) → (c : IsSource (z ∷ xs) class u) → z ≡ c.tuple → v ≡ w
      by class h v w u hv hw c same =
          let of : c.at.input ≡ input → ⊥ = λ e. other (ap (λ (t : TupleAt). t.input) same ∙ c.same_input ∙ e) in
          let all = have-more xs ys z have class c.at h c.of_class of in
          agree-at classes (z ∷ ys) class v w more h (all v hv) (all w hw)

      both : (class : List ClassCol) → In class classes → (v w : Value) → In v (values (map part_of (z ∷ xs)) class) → In w (values (map part_of (z ∷ xs)) class) → (a : IsSource (z ∷ xs) class v) (b : IsSource (z ∷ xs) class w)
          → (z ≡ a.tuple) ⊎ In a.tuple xs → (z ≡ b.tuple) ⊎ In b.tuple xs → v ≡ w
      both class h v w hv hw a b (inl p) q = by class h v w v hv hw a p
      both class h v w hv hw a b (inr k) (inl q) = by class h v w w hv hw b q
      both class h v w hv hw a b (inr k) (inr l) =
          agree-at classes xs class v w joins h (subst (λ u. In u (values (map part_of xs) class)) a.value (value-in xs class a.tuple a.at k a.of_class a.same_input))
          (subst (λ u. In u (values (map part_of xs) class)) b.value (value-in xs class b.tuple b.at l b.of_class b.same_input))

  alike-more : (xs ys : List TupleAt) (z : TupleAt) → AreAlike classes input xs ys → (z.input ≡ input → ⊥) → agree classes (z ∷ ys) ≡ true → AreAlike classes input (z ∷ xs) (z ∷ ys)
  alike-more xs ys z alike other more = record {
    joins = joins-more xs ys z alike.joins alike.there other more;
    also = more;
    there = have-more xs ys z alike.there;
    back = have-more ys xs z alike.back;
  }

  -- ---- what they ask for

  constant-alike : (xs ys : List TupleAt) (of column : ℕ) → AreAlike classes input xs ys → (of ≡ input → ⊥) → constant (class_with classes of column) xs ≡ constant (class_with classes of column) ys
  constant-alike xs ys of column alike other =
      go (values (map part_of xs) class) (values (map part_of ys) class) (λ v hv. let a = source-of xs class v hv in alike.there class at (within a.at a.of_class) (own a.at a.of_class) other v hv)
      (λ v hv. let a = source-of ys class v hv in alike.back class at (within a.at a.of_class) (own a.at a.of_class) other v hv)
      (λ v w hv hw. let a = source-of ys class v hv in agree-at classes ys class v w alike.also (within a.at a.of_class) hv hw)
    where
      class : List ClassCol
      class = class_with classes of column

      at : ClassCol
      at = record { input = of; column = column }

      within : (c : ClassCol) → In c class → In class classes
      within c h = in-classes classes of column c h

      own : (c : ClassCol) → In c class → In at class
      own c h = own-in classes of column c h

      go : (vs ws : List Value) → ((v : Value) → In v vs → In v ws) → ((v : Value) → In v ws → In v vs) → ((v w : Value) → In v ws → In w ws → v ≡ w) → get_or vs 0 no_value ≡ get_or ws 0 no_value
      go [] [] there back equal = refl
      go [] (w ∷ ws) there back equal = absurd (back w (inl refl))
      go (v ∷ vs) [] there back equal = absurd (there v (inl refl))
      go (v ∷ vs) (w ∷ ws) there back equal = equal v w (there v (inl refl)) (inl refl)

  instance-alike : (xs ys : List TupleAt) (of column : ℕ) (marks : List Bool) → AreAlike classes input xs ys → (of ≡ input → ⊥) → instance_from classes of column marks xs ≡ instance_from classes of column marks ys
  instance-alike xs ys of column [] alike other = refl
  instance-alike xs ys of column (true ∷ marks) alike other = ap₂ (λ v cells. Some v ∷ cells) (constant-alike xs ys of column alike other) (instance-alike xs ys of (column + 1) marks alike other)
  instance-alike xs ys of column (false ∷ marks) alike other = ap (λ cells. None ∷ cells) (instance-alike xs ys of (column + 1) marks alike other)

  -- what the second rows ask for by entries of other inputs, the first do
  need-alike : (rows : List TupleAt) (cert : List CertEntry) (xs ys : List TupleAt) → ((e : CertEntry) → In e cert → e.input ≡ input → ⊥) → AreAlike classes input xs ys → (d : Demand) → In d (need classes rows cert ys) → In d (need classes rows cert xs)
  need-alike rows [] xs ys others alike d h = absurd h
  need-alike rows (e ∷ cert) xs ys others alike d (inl same) = inl (ap (λ (i : List (Option Value)). record { input = e.input; instance = i }) (instance-alike xs ys e.input 0 e.marks alike (others e (inl refl))) ∙ same)
  need-alike rows (e ∷ cert) xs ys others alike d (inr h) =
      let m = In-flat_map (need classes rows cert) d (grown classes rows e ys) h in
      let grew = In-filter (agree classes) m.0 (map (λ x. x ∷ ys) (of_input e.input rows)) m.1 in
      let from = In-map (λ x. x ∷ ys) m.0 (of_input e.input rows) grew.0 in
      let its = In-filter (λ (x : TupleAt). eqb x.input e.input) from.0 rows from.1 in
      let other : from.0.input ≡ input → ⊥ = λ q. others e (inl refl) (sym (eqb-true from.0.input e.input its.1) ∙ q) in
      let more = alike-more xs ys from.0 alike other (subst (λ (qs : List TupleAt). agree classes qs ≡ true) (sym from.2) grew.1) in
      inr (In-flat_map_from (need classes rows cert) d (from.0 ∷ xs) (grown classes rows e xs)
      (In-filter_from (agree classes) (from.0 ∷ xs) (map (λ x. x ∷ xs) (of_input e.input rows)) (In-map_from (λ x. x ∷ xs) from.0 (of_input e.input rows) from.1) more.joins)
      (need-alike rows cert (from.0 ∷ xs) (from.0 ∷ ys) (λ f k. others f (inr k)) more d (subst (λ (qs : List TupleAt). In d (need classes rows cert qs)) (sym from.2) m.2)))

  -- ---- rows that join with the same others

  have-either : (xs : List TupleAt) (y z : TupleAt) → AreFixed classes (inputs_of xs) input → y.input ≡ input → agree classes (y ∷ xs) ≡ true → Have classes input (y ∷ xs) (z ∷ xs)
  have-either xs y z fixed of joins class b h hb other v hv = let a = source-of (y ∷ xs) class v hv in go a a.of_tuples
    where
      go : (a : IsSource (y ∷ xs) class v) → (y ≡ a.tuple) ⊎ In a.tuple xs → In v (values (map part_of (z ∷ xs)) class)
      go a (inr k) = subst (λ w. In w (values (map part_of (z ∷ xs)) class)) a.value (value-in (z ∷ xs) class a.tuple a.at (inr k) a.of_class a.same_input)
      go a (inl same) =
          let c = fixed class h a.at a.of_class (sym a.same_input ∙ ap (λ (t : TupleAt). t.input) (sym same) ∙ of) in
          let x = In-map (λ (t : TupleAt). t.input) c.0.input xs c.2 in
          let w : Value = get_or x.0.row c.0.column no_value in
          let hw : In w (values (map part_of xs) class) = value-in xs class x.0 c.0 x.1 c.1 x.2 in
          let e : v ≡ w = agree-at classes (y ∷ xs) class v w joins h hv (values-mono xs (y ∷ xs) class (λ t q. inr q) w hw) in
          subst (λ u. In u (values (map part_of (z ∷ xs)) class)) (sym e) (values-mono xs (z ∷ xs) class (λ t q. inr q) w hw)

  alike-both : (xs : List TupleAt) (y z : TupleAt) → AreFixed classes (inputs_of xs) input → y.input ≡ input → z.input ≡ input → agree classes (y ∷ xs) ≡ true → agree classes (z ∷ xs) ≡ true → AreAlike classes input (y ∷ xs) (z ∷ xs)
  alike-both xs y z fixed of also joins more = record { joins = joins; also = more; there = have-either xs y z fixed of joins; back = have-either xs z y fixed also more }

-- ---- one row decides for all

one-decides : (k : Known) (e : CertEntry) (cert : List CertEntry) (xs ys : List TupleAt) (y : TupleAt) → AreFixed k.classes (inputs_of xs) e.input → ((f : CertEntry) → In f cert → f.input ≡ e.input → ⊥)
    → y.input ≡ e.input → agree k.classes (y ∷ xs) ≡ true → all_covered k cert (y ∷ xs) ≡ true → AreDone k (e ∷ cert) xs ys
one-decides k e cert xs ys y fixed others of joins all z h may =
    all_from (is_covered k) (need k.classes (older k.low k.stored) cert (z ∷ xs)) (λ d hd.
    all_at (is_covered k) (need k.classes (older k.low k.stored) cert (y ∷ xs)) d all
    (need-alike k.classes e.input (older k.low k.stored) cert (y ∷ xs) (z ∷ xs) others (alike-both k.classes e.input xs y z fixed of may.input joins may.joins) d hd))

-- the later steps are of other inputs
listed-apart : (schemes : List (List (List Bool))) (steps : List CertStep) (known : List ℕ) (n : ℕ) → AreListedOnce schemes steps known → In n known → (e : CertEntry) → In e (entries schemes steps) → e.input ≡ n → ⊥
listed-apart schemes [] known n listed hn e h same = absurd h
listed-apart schemes (step ∷ steps) known n listed hn e (inl is) same = listed.1 (subst (λ (m : ℕ). In m known) (sym (ap (λ (f : CertEntry). f.input) is ∙ same)) hn)
listed-apart schemes (step ∷ steps) known n listed hn e (inr k) same = listed-apart schemes steps (step.input ∷ known) n listed.2 (inr hn) e k same

-- what one row of a determined step asks for is covered
pub determined_done : (k : Known) (spec : JoinSpec) (schemes : List (List (List Bool))) (cert : List CertStep) (at : ℕ) (step : CertStep) (xs zs ys : List TupleAt) (y : TupleAt) → k.classes ≡ spec.classes
    → IsOnWalk spec schemes (drop at cert) xs → slice_get cert at ≡ Some step → AreFixed spec.classes (inputs_of xs) step.input → y.input ≡ step.input → agree spec.classes (y ∷ xs) ≡ true
    → zs ≡ y ∷ xs → all_covered k (entries schemes (drop (at + 1) cert)) zs ≡ true → AreDone k (entries schemes (drop at cert)) xs ys
determined_done k spec schemes cert at step xs zs ys y classes walk here fixed of joins same all =
    let w = subst (λ (steps : List CertStep). IsOnWalk spec schemes steps xs) (drop_here cert at step here) walk in
    subst (λ (steps : List CertStep). AreDone k (entries schemes steps) xs ys) (sym (drop_here cert at step here))
    (one-decides k (entry_of schemes step) (entries schemes (drop (at + 1) cert)) xs ys y (subst (λ (cs : List (List ClassCol)). AreFixed cs (inputs_of xs) step.input) (sym classes) fixed)
    (listed-apart schemes (drop (at + 1) cert) (step.input ∷ inputs_of xs) step.input w.listed.2 (inl refl)) of (subst (λ (cs : List (List ClassCol)). agree cs (y ∷ xs) ≡ true) (sym classes) joins)
    (subst (λ (qs : List TupleAt). all_covered k (entries schemes (drop (at + 1) cert)) qs ≡ true) same all))
