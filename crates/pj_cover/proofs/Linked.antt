-- What links lead to.
use Rattle.std.proofs.Common.{ℕ, zero, suc, ◌+◌, ◌<◌, ◌≡◌, ◌⊎◌, Bool, true, false, cond, ◌&&◌, List, [], ◌∷◌, ◌++◌, Option, Some, None, drop, get_or, length, map, refl, sym, ap, ap₂, ◌∙◌, subst, inl, inr, eqb, arith}
use Rattle.std.specs.Prelude.{IfSome, slice_get}
use Rattle.std.proofs.lemmas.Bool.{and_from, eq-eqb, false≢true, false_from_ne_true}
use Rattle.std.proofs.lemmas.List.{take_all}
use Rattle.std.proofs.lemmas.Option.{get_or_from_slice_get, slice_get-get_or, slice_get_within}
use Rattle.pj_value.specs.declared.values.Value.{Value}
use Rattle.pj_value.specs.Lists.{In}
use Rattle.pj_value.proofs.Members.{In-filter, In-map_from, all_at, map-same, all_from, any_from, in_at}
use Rattle.pj_value.proofs.Orders.{same_if_equal, equal_if_same}
use Rattle.pj_shape.specs.declared.joins.JoinSpec.{JoinSpec}
use Rattle.pj_shape.specs.Joining.{all_equal, cell_value, has_column}
use Rattle.pj_shape.specs.Sound.{AreApart, IsSoundSpec, arities_of}
use Rattle.pj_shape.proofs.Classes.{has_in}
use Rattle.pj_shape.proofs.Joining.{all_equal-from}
use Rattle.pj_events.specs.Join.{CertEntry, CertStep, ClassCol, TupleAt, agree, class_with, constant, entry_of, no_value, part_of, values}
use Rattle.pj_join_laws.proofs.Matching.{agree-at, value-in, values-mono}
use Rattle.pj_rows.specs.AgreesWith.{agrees_with}
use Rattle.pj_rows.proofs.Agreeing.{alone_agree, front_agree, front_agrees_with, source-of}
use Rattle.pj_puncts.proofs.Lent.{drop_here}
use Rattle.pj_cover.specs.declared.route.PurgeLink.{PurgeLink}
use Rattle.pj_cover.specs.declared.route.PurgeStep.{PurgeStep}
use Rattle.pj_cover.specs.declared.route.Source.{Source}
use Rattle.pj_cover.specs.Asking.{IsOnWalk, IsPartnerKey, constant_if, constants_in, first_class, inputs_of, tuple_of}
use Rattle.pj_cover.specs.Routes.{AreSteps, HasKey, IsLink, IsPurgeStep, IsReady, IsSingle, IsSource, cell_from, cell_in, column_of, links_of, marked_columns, marked_links, match_all, matches, step_of, value_from}
use Rattle.pj_cover.proofs.Bound.{arity-at, class-cells, class-is}
use Rattle.pj_cover.proofs.Classes.{first_class_is}
use Rattle.pj_cover.proofs.Searching.{map_here}

-- ---- classes of columns

first-has : (classes : List (List ClassCol)) (at c : ClassCol) → In c (first_class classes at) → In at (first_class classes at)
first-has [] at c h = absurd h
first-has (class ∷ classes) at c h = go (has_column class at) refl h (first-has classes at c)
  where
    go : (b : Bool) → has_column class at ≡ b → In c (cond b class (first_class classes at)) → (In c (first_class classes at) → In at (first_class classes at)) → In at (cond b class (first_class classes at))
    go true e k ih = has_in class at e
    go false e k ih = ih k

first-of : (classes : List (List ClassCol)) (class : List ClassCol) (at : ClassCol) → AreApart classes → In class classes → In at class → first_class classes at ≡ class
first-of [] class at apart h ha = absurd h
first-of (k ∷ classes) class at apart h ha = go (has_column k at) refl h (first-of classes class at apart.1)
  where
    has : In at k → has_column k at ≡ true
    has there = any_from (λ (c : ClassCol). eqb c.input at.input && eqb c.column at.column) k at there (and_from (eqb at.input at.input) (eqb at.column at.column) (eq-eqb at.input at.input refl) (eq-eqb at.column at.column refl))

    go : (b : Bool) → has_column k at ≡ b → (k ≡ class) ⊎ In class classes → (In class classes → In at class → first_class classes at ≡ class) → cond b k (first_class classes at) ≡ class
    go true e (inl same) ih = same
    go true e (inr m) ih = absurd (apart.0 class m at (has_in k at e) ha)
    go false e (inl same) ih = absurd (false≢true (sym e ∙ has (subst (λ (cs : List ClassCol). In at cs) (sym same) ha)))
    go false e (inr m) ih = ih m ha

pub in-classes : (classes : List (List ClassCol)) (input column : ℕ) (c : ClassCol) → In c (class_with classes input column) → In (class_with classes input column) classes
in-classes classes input column c h =
    let at : ClassCol = record { input = input; column = column } in
    let same : first_class classes at ≡ class_with classes input column = first_class_is classes at in
    subst (λ (cs : List ClassCol). In cs classes) same (class-is classes at c (subst (λ (cs : List ClassCol). In c cs) (sym same) h))

pub own-in : (classes : List (List ClassCol)) (input column : ℕ) (c : ClassCol) → In c (class_with classes input column) → In (record { input = input; column = column }) (class_with classes input column)
own-in classes input column c h =
    let at : ClassCol = record { input = input; column = column } in
    let same : first_class classes at ≡ class_with classes input column = first_class_is classes at in
    subst (λ (cs : List ClassCol). In at cs) same (first-has classes at c (subst (λ (cs : List ClassCol). In c cs) (sym same) h))

class-of : (classes : List (List ClassCol)) (class : List ClassCol) (at : ClassCol) → AreApart classes → In class classes → In at class → class_with classes at.input at.column ≡ class
class-of classes class at apart h ha = sym (first_class_is classes at) ∙ first-of classes class at apart h ha

-- ---- what a source is

map-there : {A B : Type 0} (f : A → B) (xs : List A) (n : ℕ) (b : B) → slice_get (map f xs) n ≡ Some b → (x : A) × (slice_get xs n ≡ Some x) × (f x ≡ b)
map-there f [] n b e = absurd (cc)
map-there f (x ∷ xs) zero b e = (x, refl, get_or_from_slice_get (f x ∷ map f xs) 0 b b e)
map-there f (x ∷ xs) (suc n) b e = map-there f xs n b e

-- the cell is one of the class
source-in : (xs : List TupleAt) (class : List ClassCol) (from : Source) (v : Value) → IsSource class (inputs_of xs) from → cell_from xs from ≡ Some v → In v (values (map part_of xs) class)
source-in xs class from v (i, here, of) e =
    let r = map-there (λ (x : TupleAt). x.input) xs from.place i here in
    let cell : slice_get r.0.row from.column ≡ Some v = ap (λ (o : Option TupleAt). cell_in o from.column) (sym r.1) ∙ e in
    subst (λ (w : Value). In w (values (map part_of xs) class)) (get_or_from_slice_get r.0.row from.column v no_value cell)
    (value-in xs class r.0 (record { input = i; column = from.column }) (in_at xs from.place r.0 r.1) of r.2)

-- a link leads to the key of partners
pub key_told : (classes : List (List ClassCol)) (e : CertEntry) (links : List PurgeLink) (step : PurgeStep) (xs : List TupleAt) (column : ℕ) (value : Value) → IsPurgeStep classes e (inputs_of xs) links step
    → HasKey (links_of links step) xs column value → IsPartnerKey classes xs e.input column value
key_told classes e links step xs column value is (link, within, at, cell) =
    let from = is.leads.right link within in
    let of : IsLink classes (inputs_of xs) e.input link = from in
    subst (λ (k : ℕ). IsPartnerKey classes xs e.input k value) at (
      class_with classes e.input link.column,
      in-classes classes e.input link.column (record { input = of.0; column = link.from.column }) of.2,
      own-in classes e.input link.column (record { input = of.0; column = link.from.column }) of.2,
      source-in xs (class_with classes e.input link.column) link.from value from cell,
    )

-- ---- the constants of an instance

map-append : {A B : Type 0} (f : A → B) (xs ys : List A) → map f (xs ++ ys) ≡ map f xs ++ map f ys
map-append f [] ys = refl
map-append f (x ∷ xs) ys = ap (λ zs. f x ∷ zs) (map-append f xs ys)

map-map : {A B C : Type 0} (f : A → B) (g : B → C) (xs : List A) → map g (map f xs) ≡ map (λ x. g (f x)) xs
map-map f g [] = refl
map-map f g (x ∷ xs) = ap (λ ys. g (f x) ∷ ys) (map-map f g xs)

by-columns : (classes : List (List ClassCol)) (input column : ℕ) (marks : List Bool) (xs : List TupleAt) → map (λ k. constant (class_with classes input k) xs) (marked_columns column marks) ≡ constants_in classes input column marks xs
by-columns classes input column [] xs = refl
by-columns classes input column (mark ∷ marks) xs =
    map-append (λ k. constant (class_with classes input k) xs) (cond mark (column ∷ []) []) (marked_columns (column + 1) marks) ∙ ap₂ (λ a b. a ++ b) (go mark) (by-columns classes input (column + 1) marks xs)
  where
    go : (b : Bool) → map (λ k. constant (class_with classes input k) xs) (cond b (column ∷ []) []) ≡ constant_if b classes input column xs
    go true = refl
    go false = refl

first-in : (vs : List Value) (v : Value) → In v vs → In (get_or vs 0 no_value) vs
first-in [] v h = absurd h
first-in (w ∷ vs) v h = inl refl

-- rows of the known inputs, which fit and join
module _ (spec : JoinSpec) (xs : List TupleAt) (sound : IsSoundSpec spec) (fit : (x : TupleAt) → In x xs → length x.row ≡ get_or (arities_of spec.inputs) x.input 0) (joined : agree spec.classes xs ≡ true) where
  -- the cell that a link leads to is there, and has the value of the class
  link-read : (input : ℕ) (link : PurgeLink) → IsLink spec.classes (inputs_of xs) input link
      → (v : Value) × (cell_from xs link.from ≡ Some v) × In v (values (map part_of xs) (class_with spec.classes input link.column)) × In (class_with spec.classes input link.column) spec.classes
  link-read input link (i, here, of) =
      let class : List ClassCol = class_with spec.classes input link.column in
      let at : ClassCol = record { input = i; column = link.from.column } in
      let within : In class spec.classes = in-classes spec.classes input link.column at of in
      let r = map-there (λ (x : TupleAt). x.input) xs link.from.place i here in
      let hx : In r.0 xs = in_at xs link.from.place r.0 r.1 in
      let lt : link.from.column < length r.0.row = class-cells spec class xs sound within fit at of r.0 hx r.2 in (
        get_or r.0.row link.from.column no_value,
        ap (λ (o : Option TupleAt). cell_in o link.from.column) r.1 ∙ slice_get-get_or r.0.row link.from.column no_value lt,
        value-in xs class r.0 at hx of r.2,
        within,
      )

  link-constant : (input : ℕ) (link : PurgeLink) → IsLink spec.classes (inputs_of xs) input link → value_from xs link ≡ constant (class_with spec.classes input link.column) xs
  link-constant input link is =
      let r = link-read input link is in
      let vs : List Value = values (map part_of xs) (class_with spec.classes input link.column) in
      ap cell_value r.1 ∙ agree-at spec.classes xs (class_with spec.classes input link.column) r.0 (get_or vs 0 no_value) joined r.3 r.2 (first-in vs r.0 r.2)

  pub is_ready : (e : CertEntry) (links : List PurgeLink) (step : PurgeStep) → IsPurgeStep spec.classes e (inputs_of xs) links step → IsReady spec.classes e links step xs
  is_ready e links step is =
      let own : List PurgeLink = links_of links step in
      record {
        within = is.within;
        there = λ link h. let r = link-read e.input link (is.leads.right link h) in (r.0, r.1);
        marked =
            map-same (value_from xs) (λ link. constant (class_with spec.classes e.input link.column) xs) (marked_links own) (λ link h. link-constant e.input link (is.leads.right link (In-filter (λ (l : PurgeLink). l.is_marked) link own h).0))
            ∙ sym (map-map column_of (λ k. constant (class_with spec.classes e.input k) xs) (marked_links own))
            ∙ ap (map (λ k. constant (class_with spec.classes e.input k) xs)) (is.leads.marked ∙ ap (marked_columns 0) (take_all (length e.marks) e.marks (let n : length e.marks ≡ length e.marks = refl in omega (arith, n))))
            ∙ by-columns spec.classes e.input 0 e.marks xs;
        single = go step.single is.single;
      }
    where
      go : (o : Option PurgeLink) → IfSome o (IsSingle (links_of links step) e.marks) → IfSome o (λ link. IsSingle (links_of links step) e.marks link × (constant (class_with spec.classes e.input link.column) xs ≡ value_from xs link))
      go None i = tt
      go (Some link) i = (i, sym (link-constant e.input link (is.leads.right link i.0)))

  -- ---- rows that join

  module _ (e : CertEntry) (links : List PurgeLink) (step : PurgeStep) (y : TupleAt) (is : IsPurgeStep spec.classes e (inputs_of xs) links step) (of : y.input ≡ e.input) (wide : length e.marks ≡ get_or (arities_of spec.inputs) e.input 0) where
    agree-match : agree spec.classes (y ∷ xs) ≡ true → match_all (links_of links step) xs y ≡ true
    agree-match joins =
        all_from (matches xs y) (links_of links step) (λ link h.
        let from : IsLink spec.classes (inputs_of xs) e.input link = is.leads.right link h in
        let r = link-read e.input link from in
        let class : List ClassCol = class_with spec.classes e.input link.column in
        let at : ClassCol = record { input = e.input; column = link.column } in
        let mine : In (get_or y.row link.column no_value) (values (map part_of (y ∷ xs)) class) =
        value-in (y ∷ xs) class y at (inl refl) (own-in spec.classes e.input link.column (record { input = from.0; column = link.from.column }) from.2) of in
        equal_if_same (get_or y.row link.column no_value) (value_from xs link)
        (agree-at spec.classes (y ∷ xs) class (get_or y.row link.column no_value) r.0 joins r.3 mine (values-mono xs (y ∷ xs) class (λ x k. inr k) r.0 r.2) ∙ sym (ap cell_value r.1)))

    -- the new row's value is that of any other
    new-old : (class : List ClassCol) → match_all (links_of links step) xs y ≡ true → In class spec.classes → (at : ClassCol) → In at class → y.input ≡ at.input → (b : ClassCol) (x : TupleAt) → In b class → In x xs → x.input ≡ b.input
        → get_or y.row at.column no_value ≡ get_or x.row b.column no_value
    new-old class t h at ha same b x hb hx i =
        let mine : ClassCol = record { input = e.input; column = at.column } in
        let is_mine : at ≡ mine = ap (λ (n : ℕ). record { input = n; column = at.column }) (sym same ∙ of) in
        let ok : class_with spec.classes e.input at.column ≡ class = class-of spec.classes class mine sound.apart h (subst (λ (c : ClassCol). In c class) is_mine ha) in
        let kind = (sound.sound_classes class h).same_kind.1 mine (subst (λ (c : ClassCol). In c class) is_mine ha) in
        let lt : at.column < length kind.0 = slice_get_within kind.0 at.column kind.1 kind.3 in
        let len : length e.marks ≡ length kind.0 = wide ∙ arity-at spec.inputs e.input kind.0 kind.2 in
        let known : In b.input (inputs_of xs) = subst (λ (n : ℕ). In n (inputs_of xs)) i (In-map_from (λ (z : TupleAt). z.input) x xs hx) in
        let l = is.leads.all at.column b (omega (arith, lt, len)) (subst (λ (cs : List ClassCol). In b cs) (sym ok) hb) known in
        let r = link-read e.input l.0 (is.leads.right l.0 l.1) in
        let to : class_with spec.classes e.input l.0.column ≡ class = ap (λ (n : ℕ). class_with spec.classes e.input n) l.2 ∙ ok in
        let agreed : get_or y.row l.0.column no_value ≡ value_from xs l.0 = same_if_equal (get_or y.row l.0.column no_value) (value_from xs l.0) (all_at (matches xs y) (links_of links step) l.0 t l.1) in
        ap (λ (n : ℕ). get_or y.row n no_value) (sym l.2) ∙ agreed ∙ ap cell_value r.1
        ∙ agree-at spec.classes xs class r.0 (get_or x.row b.column no_value) joined h (subst (λ (cs : List ClassCol). In r.0 (values (map part_of xs) cs)) to r.2) (value-in xs class x b hx hb i)

    match-agree : match_all (links_of links step) xs y ≡ true → agree spec.classes (y ∷ xs) ≡ true
    match-agree t =
        all_from (λ k. all_equal (values (map part_of (y ∷ xs)) k)) spec.classes (λ class h.
        all_equal-from (values (map part_of (y ∷ xs)) class) (λ v w hv hw.
        let a = source-of (y ∷ xs) class v hv in
        let b = source-of (y ∷ xs) class w hw in
        sym a.value ∙ both class h a.at b.at a.tuple b.tuple a.of_class b.of_class a.same_input b.same_input a.of_tuples b.of_tuples ∙ b.value))
      where
        both : (class : List ClassCol) → In class spec.classes → (a b : ClassCol) (x z : TupleAt) → In a class → In b class → x.input ≡ a.input → z.input ≡ b.input → (y ≡ x) ⊎ In x xs → (y ≡ z) ⊎ In z xs
            → get_or x.row a.column no_value ≡ get_or z.row b.column no_value
        both class h a b x z ha hb i j (inl p) (inl q) =
            agree-at spec.classes (y ∷ []) class (get_or x.row a.column no_value) (get_or z.row b.column no_value) (alone_agree spec y sound) h (value-in (y ∷ []) class x a (inl p) ha i) (value-in (y ∷ []) class z b (inl q) hb j)
        both class h a b x z ha hb i j (inl p) (inr k) =
            ap (λ (u : TupleAt). get_or u.row a.column no_value) (sym p) ∙ new-old class t h a ha (ap (λ (u : TupleAt). u.input) p ∙ i) b z hb k j
        both class h a b x z ha hb i j (inr k) (inl q) =
            sym (ap (λ (u : TupleAt). get_or u.row b.column no_value) (sym q) ∙ new-old class t h b hb (ap (λ (u : TupleAt). u.input) q ∙ j) a x ha k i)
        both class h a b x z ha hb i j (inr k) (inr l) = agree-at spec.classes xs class (get_or x.row a.column no_value) (get_or z.row b.column no_value) joined h (value-in xs class x a k ha i) (value-in xs class z b l hb j)

    pub agrees_with_matched : agrees_with spec.classes xs y ≡ match_all (links_of links step) xs y
    agrees_with_matched = go (match_all (links_of links step) xs y) refl
      where
        go : (b : Bool) → match_all (links_of links step) xs y ≡ b → agrees_with spec.classes xs y ≡ b
        go true m = front_agrees_with spec.classes xs y (match-agree m)
        go false m = false_from_ne_true (agrees_with spec.classes xs y) (λ s. false≢true (sym m ∙ agree-match (front_agree spec.classes xs y joined s)))

-- ---- along a certificate

pub step_here : (classes : List (List ClassCol)) (schemes : List (List (List Bool))) (links : List PurgeLink) (known : List ℕ) (steps : List PurgeStep) (at : ℕ) (step : PurgeStep) → AreSteps classes schemes links known (drop at steps)
    → slice_get steps at ≡ Some step → IsPurgeStep classes (entry_of schemes step.step) known links step
step_here classes schemes links known steps at step are here = (subst (λ (ss : List PurgeStep). AreSteps classes schemes links known ss) (drop_here steps at step here) are).0

pub steps_on : (classes : List (List ClassCol)) (schemes : List (List (List Bool))) (links : List PurgeLink) (xs ys : List TupleAt) (steps : List PurgeStep) (at : ℕ) (step : PurgeStep) (r : ℕ × List Value) → AreSteps classes schemes links (inputs_of xs) (drop at steps)
    → slice_get steps at ≡ Some step → ys ≡ tuple_of step.step.input r ∷ xs → AreSteps classes schemes links (inputs_of ys) (drop (at + 1) steps)
steps_on classes schemes links xs ys steps at step r are here same =
    subst (λ (zs : List TupleAt). AreSteps classes schemes links (inputs_of zs) (drop (at + 1) steps)) (sym same) (subst (λ (ss : List PurgeStep). AreSteps classes schemes links (inputs_of xs) ss) (drop_here steps at step here) are).1

-- the step at the place is ready
pub ready_here : (spec : JoinSpec) (schemes : List (List (List Bool))) (links : List PurgeLink) (steps : List PurgeStep) (at : ℕ) (step : PurgeStep) (xs ys : List TupleAt) → IsSoundSpec spec → IsOnWalk spec schemes (drop at (map step_of steps)) xs
    → AreSteps spec.classes schemes links (inputs_of xs) (drop at steps) → slice_get steps at ≡ Some step → ys ≡ xs → IsReady spec.classes (entry_of schemes step.step) links step ys
ready_here spec schemes links steps at step xs ys sound walk are here same =
    subst (λ (zs : List TupleAt). IsReady spec.classes (entry_of schemes step.step) links step zs) (sym same)
    (is_ready spec xs sound walk.fit walk.joined (entry_of schemes step.step) links step (step_here spec.classes schemes links (inputs_of xs) steps at step are here))

-- a row of its input joins where it has the values of its links
pub agrees_with_here : (spec : JoinSpec) (schemes : List (List (List Bool))) (links : List PurgeLink) (steps : List PurgeStep) (at : ℕ) (step : PurgeStep) (xs : List TupleAt) (y : TupleAt) → IsSoundSpec spec → IsOnWalk spec schemes (drop at (map step_of steps)) xs
    → AreSteps spec.classes schemes links (inputs_of xs) (drop at steps) → slice_get steps at ≡ Some step → y.input ≡ step.step.input → agrees_with spec.classes xs y ≡ match_all (links_of links step) xs y
agrees_with_here spec schemes links steps at step xs y sound walk are here of =
    let w = subst (λ (ss : List CertStep). IsOnWalk spec schemes ss xs) (drop_here (map step_of steps) at step.step (map_here step_of steps at step here)) walk in
    agrees_with_matched spec xs sound walk.fit walk.joined (entry_of schemes step.step) links step y (step_here spec.classes schemes links (inputs_of xs) steps at step are here) of w.walk.1
