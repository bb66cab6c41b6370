-- Rows and instances of zeros and empty texts.
use Rattle.std.proofs.Common.{ℕ, zero, suc, ◌+◌, ◌*◌, ◌^◌, ◌<◌, ◌≤◌, ◌≡◌, ◌⊎◌, length, get_or, min, arith, Bool, true, false, cond, List, [], ◌∷◌, ◌++◌, Some, drop, slice_get, sum, refl, sym, ap, ◌∙◌, subst, inl, inr, append_assoc, append-nil}
use Rattle.std.proofs.Math.Seq.{drop-nil}
use Rattle.std.proofs.lemmas.Bool.{and_from}
use Rattle.std.proofs.lemmas.Grind.{flat_map-append}
use Rattle.std.proofs.lemmas.List.{length-append, length-map}
use Rattle.std.proofs.lemmas.Option.{slice_get-get_or}
use Rattle.pj_value.specs.declared.values.Kind.{Kind}
use Rattle.pj_value.specs.declared.values.Kind.TheVariants.{Int as KInt, Text as KText}
use Rattle.pj_value.specs.declared.values.Value.{Value}
use Rattle.pj_value.specs.Lists.{In, has}
use Rattle.pj_value.specs.Values.{Domain, is_kind}
use Rattle.pj_value.proofs.Members.{In-append_cases}
use Rattle.pj_shape.specs.declared.columns.Column.{Column}
use Rattle.pj_shape.specs.declared.columns.Instance.{Instance}
use Rattle.pj_shape.specs.declared.joins.JoinSpec.{JoinSpec}
use Rattle.pj_shape.specs.Columns.{domains_of}
use Rattle.pj_shape.proofs.DomainsOf.{domains_length}
use Rattle.pj_shape.specs.Sound.{arities_of, FitSchemes, IsSoundSpec}
use Rattle.pj_pattern.specs.Fitting.{row_fits}
use Rattle.pj_shape.specs.Sets.{schemes_of}
use Rattle.pj_graph.specs.Reaching.{AreFewSchemes}
use Rattle.pj_graph.proofs.Steps.{drop_at, drop_got, sum_on}
use Rattle.pj_cert.specs.Instances.{AreInstances, blank, blank_input, blank_instances_from, blank_instances_of, blank_ones, blanks, constants_of, marked}

-- ---- they fit

one_fits : (kind : Kind) → is_kind kind (blank kind) ≡ true
one_fits KInt = refl
one_fits KText = refl

pub blanks_fit : (kinds : List Domain) → row_fits kinds (blanks kinds) ≡ true
blanks_fit [] = refl
blanks_fit (kind ∷ kinds) = and_from (is_kind kind (blank kind)) (row_fits kinds (blanks kinds)) (one_fits kind) (blanks_fit kinds)

-- ---- the constants of one instance

pub marked_length : {A B : Type 0} (marks : List Bool) (xs : List A) (ys : List B) → length xs ≡ length ys → length (marked marks xs) ≡ length (marked marks ys)
marked_length [] xs ys e = refl
marked_length (m ∷ marks) [] [] e = refl
marked_length (m ∷ marks) [] (y ∷ ys) e = absurd (omega (arith, e))
marked_length (m ∷ marks) (x ∷ xs) [] e = absurd (omega (arith, e))
marked_length (true ∷ marks) (x ∷ xs) (y ∷ ys) e = ap suc (marked_length marks xs ys (omega (arith, e)))
marked_length (false ∷ marks) (x ∷ xs) (y ∷ ys) e = marked_length marks xs ys (omega (arith, e))

-- one column more, which is marked or not
pub marked_on : (done more whole : List Value) (marks : List Bool) (columns : List Column) (k : ℕ) (m : Bool) (c : Column)
    → done ++ blanks (marked (drop k marks) (domains_of (drop k columns))) ≡ whole → slice_get marks k ≡ Some m → slice_get columns k ≡ Some c
    → more ≡ done ++ cond m (blank c.kind ∷ []) [] → more ++ blanks (marked (drop (k + 1) marks) (domains_of (drop (k + 1) columns))) ≡ whole
marked_on done more whole marks columns k m c e f g h =
    ap (λ (vs : List Value). vs ++ rest) h
    ∙ (append_assoc done (cond m (blank c.kind ∷ []) []) rest
    ∙ (ap (λ (vs : List Value). done ++ vs) (each m)
    ∙ (sym (ap (λ (ms : List Bool). done ++ blanks (marked ms (c.kind ∷ domains_of (drop (k + 1) columns)))) (drop_got marks k m f))
    ∙ (sym (ap (λ (cs : List Column). done ++ blanks (marked (drop k marks) (domains_of cs))) (drop_got columns k c g))
    ∙ e))))
  where
    rest : List Value
    rest = blanks (marked (drop (k + 1) marks) (domains_of (drop (k + 1) columns)))

    each : (b : Bool) → cond b (blank c.kind ∷ []) [] ++ blanks (marked (drop (k + 1) marks) (domains_of (drop (k + 1) columns)))
        ≡ blanks (marked (b ∷ drop (k + 1) marks) (c.kind ∷ domains_of (drop (k + 1) columns)))
    each true = refl
    each false = refl

pub unmarked_on : (done more whole : List Value) (marks : List Bool) (columns : List Column) (k : ℕ) (m : Bool)
    → done ++ blanks (marked (drop k marks) (domains_of (drop k columns))) ≡ whole → slice_get marks k ≡ Some m → k < length columns → m ≡ false
    → more ≡ done → more ++ blanks (marked (drop (k + 1) marks) (domains_of (drop (k + 1) columns))) ≡ whole
unmarked_on done more whole marks columns k m e f lt is h =
    let none : Column = record { name = []; kind = KInt } in
    marked_on done more whole marks columns k m (get_or columns k none) e f (slice_get-get_or columns k none lt)
    (h ∙ (sym (append-nil done) ∙ sym (ap (λ (b : Bool). done ++ cond b (blank (get_or columns k none).kind ∷ []) []) is)))

pub none_marked : (marks : List Bool) (columns : List Column) (k : ℕ) → min (length marks) (length columns) ≤ k
    → blanks (marked (drop k marks) (domains_of (drop k columns))) ≡ []
none_marked [] columns k h = ap (λ (ms : List Bool). blanks (marked ms (domains_of (drop k columns)))) (drop-nil k)
none_marked (m ∷ marks) [] k h = ap (λ (cs : List Column). blanks (marked (drop k (m ∷ marks)) (domains_of cs))) (drop-nil k) ∙ nothing (drop k (m ∷ marks))
  where
    nothing : (ms : List Bool) → blanks (marked ms []) ≡ []
    nothing [] = refl
    nothing (x ∷ ms) = refl
none_marked (m ∷ marks) (c ∷ columns) zero h = absurd (omega arith)
none_marked (m ∷ marks) (c ∷ columns) (suc k) h = none_marked marks columns k (omega (arith, h))

-- ---- one input more

pub blank_on : (reached : List ℕ) (done more whole : List Instance) (schemas : List (List Column)) (lists : List (List (List Bool))) (k : ℕ) (schema : List Column) (list : List (List Bool))
    → done ++ blank_instances_from reached k (drop k schemas) (drop k lists) ≡ whole → k < length schemas → schema ≡ get_or schemas k schema → slice_get lists k ≡ Some list
    → more ≡ done ++ blank_input reached k (domains_of schema) list → more ++ blank_instances_from reached (k + 1) (drop (k + 1) schemas) (drop (k + 1) lists) ≡ whole
blank_on reached done more whole schemas lists k schema list e lt is f g =
    ap (λ (l : List Instance). l ++ blank_instances_from reached (k + 1) (drop (k + 1) schemas) (drop (k + 1) lists)) g
    ∙ (append_assoc done (blank_input reached k (domains_of schema) list) (blank_instances_from reached (k + 1) (drop (k + 1) schemas) (drop (k + 1) lists))
    ∙ (sym (ap (λ (l : List (List (List Bool))). done ++ blank_instances_from reached k (schema ∷ drop (k + 1) schemas) l) (drop_got lists k list f))
    ∙ (sym (ap (λ (s : List (List Column)). done ++ blank_instances_from reached k s (drop k lists)) (drop_at schemas k schema lt is))
    ∙ e)))

-- ---- each is an instance of a given scheme

-- it is of this input and one of these schemes, and has a constant for each mark
record IsOne (input n : ℕ) (list : List (List Bool)) (instance : Instance) : Type 0 where
  of_input : instance.input ≡ input
  place : ℕ
  within : place < length list
  is_place : instance.scheme ≡ n + place
  filled : length instance.constants ≡ length (marked (get_or list place []) (get_or list place []))

in_ones : (input : ℕ) (kinds : List Domain) (n : ℕ) (list : List (List Bool)) (instance : Instance) → ((marks : List Bool) → In marks list → length marks ≡ length kinds)
    → In instance (blank_ones input kinds n list) → IsOne input n list instance
in_ones input kinds n [] instance fit h = absurd h
in_ones input kinds n (marks ∷ list) instance fit (inl e) = record {
  of_input = sym (ap (λ (i : Instance). i.input) e);
  place = 0;
  within = omega arith;
  is_place = omega (arith, ap (λ (i : Instance). i.scheme) e);
  filled =
      sym (ap (λ (i : Instance). length i.constants) e)
      ∙ (length-map (marked marks kinds) blank ∙ marked_length marks kinds marks (sym (fit marks (inl refl))));
}
in_ones input kinds n (marks ∷ list) instance fit (inr h) =
    let r = in_ones input kinds (n + 1) list instance (λ ms k. fit ms (inr k)) h in
    record {
      of_input = r.of_input;
      place = suc r.place;
      within = omega (arith, r.within);
      is_place = omega (arith, r.is_place);
      filled = r.filled;
    }

-- the same of the instances of the inputs from one on
record IsOneFrom (n : ℕ) (schemas : List (List Column)) (lists : List (List (List Bool))) (instance : Instance) : Type 0 where
  place : ℕ
  is_place : instance.input ≡ n + place
  within : place < length schemas
  one : IsOne instance.input 0 (schemes_of lists place) instance

in_input : (reached : List ℕ) (input : ℕ) (kinds : List Domain) (list : List (List Bool)) (instance : Instance) → ((marks : List Bool) → In marks list → length marks ≡ length kinds)
    → In instance (blank_input reached input kinds list) → IsOne input 0 list instance
in_input reached input kinds list instance fit h = go (has reached input) h
  where
    go : (b : Bool) → In instance (cond b [] (blank_ones input kinds 0 list)) → IsOne input 0 list instance
    go true k = absurd k
    go false k = in_ones input kinds 0 list instance fit k

in_from : (reached : List ℕ) (n : ℕ) (schemas : List (List Column)) (lists : List (List (List Bool))) (instance : Instance) → FitSchemes schemas lists
    → In instance (blank_instances_from reached n schemas lists) → IsOneFrom n schemas lists instance
in_from reached n [] lists instance fit h = absurd h
in_from reached n (schema ∷ schemas) [] instance fit h = absurd h
in_from reached n (schema ∷ schemas) (list ∷ lists) instance fit h =
    go (In-append_cases instance (blank_input reached n (domains_of schema) list) (blank_instances_from reached (n + 1) schemas lists) h) (in_from reached (n + 1) schemas lists instance fit.1)
  where
    short : (marks : List Bool) → In marks list → length marks ≡ length (domains_of schema)
    short marks k = fit.0 marks k ∙ sym (domains_length schema)

    go : In instance (blank_input reached n (domains_of schema) list) ⊎ In instance (blank_instances_from reached (n + 1) schemas lists)
        → (In instance (blank_instances_from reached (n + 1) schemas lists) → IsOneFrom (n + 1) schemas lists instance) → IsOneFrom n (schema ∷ schemas) (list ∷ lists) instance
    go (inl k) ih =
        let r = in_input reached n (domains_of schema) list instance short k in
        record {
          place = 0;
          is_place = omega (arith, r.of_input);
          within = omega arith;
          one = subst (λ (m : ℕ). IsOne m 0 list instance) (sym r.of_input) r;
        }
    go (inr k) ih =
        let r = ih k in
        record {
          place = suc r.place;
          is_place = omega (arith, r.is_place);
          within = omega (arith, r.within);
          one = r.one;
        }

pub blank_given : (spec : JoinSpec) (schemes : List (List (List Bool))) (reached : List ℕ) → FitSchemes spec.inputs schemes
    → AreInstances spec schemes (blank_instances_of spec schemes reached)
blank_given spec schemes reached fit instance h =
    let r = in_from reached 0 spec.inputs schemes instance fit h in
    let at : r.place ≡ instance.input = omega (arith, r.is_place) in
    let one : IsOne instance.input 0 (schemes_of schemes instance.input) instance =
    subst (λ (m : ℕ). IsOne instance.input 0 (schemes_of schemes m) instance) at r.one in
    let scheme : one.place ≡ instance.scheme = omega (arith, one.is_place) in
    record {
      of_input = omega (arith, r.within, at);
      of_scheme = omega (arith, one.within, scheme);
      filled =
          one.filled
          ∙ ap (λ (m : ℕ). length (marked (get_or (schemes_of schemes instance.input) m []) (get_or (schemes_of schemes instance.input) m []))) scheme;
    }

-- ---- they have few constants

marked_few : {A : Type 0} (marks : List Bool) (items : List A) → length (marked marks items) ≤ length items
marked_few [] items = omega arith
marked_few (mark ∷ marks) [] = omega arith
marked_few (true ∷ marks) (item ∷ items) = omega (arith, marked_few marks items)
marked_few (false ∷ marks) (item ∷ items) = omega (arith, marked_few marks items)

constants_both : (ones others : List Instance) → length (constants_of (ones ++ others)) ≡ length (constants_of ones) + length (constants_of others)
constants_both ones others =
    ap length (flat_map-append (λ (i : Instance). i.constants) ones others) ∙ length-append (constants_of ones) (constants_of others)

ones_few : (input : ℕ) (kinds : List Domain) (n : ℕ) (list : List (List Bool)) → length kinds ≤ 120 → length (constants_of (blank_ones input kinds n list)) ≤ 120 * length list
ones_few input kinds n [] few = omega arith
ones_few input kinds n (marks ∷ list) few =
    let values : List Value = blanks (marked marks kinds) in
    omega (arith, few, length-append values (constants_of (blank_ones input kinds (n + 1) list)), length-map (marked marks kinds) blank, marked_few marks kinds, ones_few input kinds (n + 1) list few)

input_few : (reached : List ℕ) (input : ℕ) (kinds : List Domain) (list : List (List Bool)) → length kinds ≤ 120
    → length (constants_of (blank_input reached input kinds list)) ≤ 120 * length list
input_few reached input kinds list few = go (has reached input)
  where
    go : (b : Bool) → length (constants_of (cond b [] (blank_ones input kinds 0 list))) ≤ 120 * length list
    go true = omega arith
    go false = ones_few input kinds 0 list few

from_few : (reached : List ℕ) (n : ℕ) (schemas : List (List Column)) (lists : List (List (List Bool))) → sum (arities_of schemas) ≤ 120 → AreFewSchemes lists
    → length (constants_of (blank_instances_from reached n schemas lists)) ≤ 30720 * length schemas
from_few reached n [] lists narrow few = omega arith
from_few reached n (schema ∷ schemas) [] narrow few = omega arith
from_few reached n (schema ∷ schemas) (list ∷ lists) narrow few =
    let first : length list ≤ 256 = few 0 in
    let all = sum_on (length schema) (arities_of schemas) in
    let width : length (domains_of schema) ≤ 120 = omega (arith, narrow, all, domains_length schema) in
    omega (
      arith,
      first,
      constants_both (blank_input reached n (domains_of schema) list) (blank_instances_from reached (n + 1) schemas lists),
      input_few reached n (domains_of schema) list width,
      from_few reached (n + 1) schemas lists (omega (arith, narrow, all)) (λ i. few (suc i)),
    )

pub blank_few : (spec : JoinSpec) (schemes : List (List (List Bool))) (reached : List ℕ) → IsSoundSpec spec → AreFewSchemes schemes
    → length (constants_of (blank_instances_of spec schemes reached)) < 2 ^ 32
blank_few spec schemes reached sound few = omega (arith, from_few reached 0 spec.inputs schemes sound.few_columns few, sound.few_inputs.1)
