-- The operator that a statement without fault makes is sound.
use Rattle.std.proofs.Common.{ℕ, ◌+◌, ◌<◌, ◌≤◌, ◌≡◌, length, arith, Bool, true, false, cond, List, [], ◌∷◌, ◌++◌, map, flat_map, take, fold, sum, refl, sym, ap, ◌∙◌, subst, inl, inr, length-append}
use Rattle.std.specs.Str.{bytes_eq}
use Rattle.std.specs.List.{list_any}
use Rattle.std.proofs.lemmas.Bool.{and_parts, and_from, false≢true, false_from_ne_true, not-false}
use Rattle.std.proofs.lemmas.List.{length-map, map-append}
use Rattle.pj_value.specs.Lists.{In}
use Rattle.pj_value.specs.declared.values.Kind.{Kind}
use Rattle.pj_value.specs.declared.values.Kind.TheVariants.{Int, Text}
use Rattle.pj_value.proofs.Members.{In-map, none_at}
use Rattle.pj_value.proofs.Bytes.{bytes_same}
use Rattle.pj_value.specs.Values.{Domain}
use Rattle.pj_shape.specs.declared.columns.Column.{Column}
use Rattle.pj_shape.specs.declared.joins.JoinSpec.{JoinSpec}
use Rattle.pj_shape.specs.declared.groups.GroupSpec.{GroupSpec}
use Rattle.pj_shape.specs.Columns.{domains_of}
use Rattle.pj_shape.specs.Sound.{IsSoundSpec, IsSoundClass, arities_of}
use Rattle.pj_pattern.specs.declared.pattern.Form.{Form}
use Rattle.pj_pattern.specs.declared.pattern.Form.TheVariants.{Wild}
use Rattle.pj_pattern.specs.Patterns.{is_of_kind}
use Rattle.pj_pattern.specs.Meets.{meet_of}
use Rattle.pj_pattern.specs.Fitting.{punct_fits}
use Rattle.pj_plan.specs.declared.statement.TestWord.{TestWord}
use Rattle.pj_plan.specs.declared.statement.Test.{Test}
use Rattle.pj_plan.specs.declared.statement.Test.TheVariants.{One, Mixed}
use Rattle.pj_plan.specs.declared.statement.Renamed.{Renamed}
use Rattle.pj_plan.specs.declared.statement.AggWord.{AggWord}
use Rattle.pj_plan.specs.declared.statement.AggWord.TheVariants.{Count, Sum, Min, Max}
use Rattle.pj_plan.specs.declared.statement.NamedAgg.{NamedAgg}
use Rattle.pj_plan.specs.Words.{agg_columns}
use Rattle.pj_plan.specs.Made.{column_kind, column_number, renamed_column, key_column, agg_column, agg_kind, group_schema, test_pattern, met_with, column_test, old_number, agg_of, named_agg, class_of}
use Rattle.pj_plan.specs.Canonical.{column_name}
use Rattle.pj_plan.specs.Faults.{has_column, kind_eq, are_alike, misses_kind, misses_its_kind, sums_text, names_text_sum}
use Rattle.pj_plan.specs.Sound.{AreDistinct, name_of, domain_at, column_at, IsSoundAgg, IsSoundGroup, agg_domain_at, group_domains}
use Rattle.pj_plan.proofs.Lists.{distinct_left}
use Rattle.pj_plan.proofs.ByName.{number_there, number_name, number_kind, kind_of_column}
use Rattle.pj_plan.proofs.Classes.{joined, IsGoodClass, sound_class, classes_apart}
use Rattle.pj_plan.proofs.MeetKinds.{meet_kind}

-- ---- a select

pattern_kind : (kind : Kind) (test : Test) → misses_kind kind test ≡ false → is_of_kind kind (test_pattern test) ≡ true
pattern_kind kind (One pattern) e = not-false (is_of_kind kind pattern) e
pattern_kind kind Mixed e = refl

met_of_kind : (columns : List Column) (column : Column) → AreDistinct (map name_of columns) → In column columns → (words : List TestWord) (pattern : Form)
    → ((word : TestWord) → In word words → misses_its_kind columns word ≡ false) → is_of_kind column.kind pattern ≡ true → is_of_kind column.kind (met_with pattern column.name words) ≡ true
met_of_kind columns column d h [] pattern fits k = k
met_of_kind columns column d h (word ∷ words) pattern fits k = go (bytes_eq column.name word.column) refl (λ p l. met_of_kind columns column d h words p (λ w m. fits w (inr m)) l)
  where
    go : (b : Bool) → bytes_eq column.name word.column ≡ b → ((p : Form) → is_of_kind column.kind p ≡ true → is_of_kind column.kind (met_with p column.name words) ≡ true)
        → is_of_kind column.kind (cond b (met_with (meet_of pattern (test_pattern word.test)) column.name words) (met_with pattern column.name words)) ≡ true
    go true e ih =
        let kind : column_kind columns word.column ≡ column.kind = ap (column_kind columns) (sym (bytes_same column.name word.column e)) ∙ kind_of_column columns column d h in
        let one : misses_kind column.kind word.test ≡ false = subst (λ (x : Kind). misses_kind x word.test ≡ false) kind (fits word (inl refl)) in
        ih (meet_of pattern (test_pattern word.test)) (meet_kind column.kind pattern (test_pattern word.test) k (pattern_kind column.kind word.test one))
    go false e ih = ih pattern k

punct_fits_each : (columns : List Column) (f : Column → Form) → ((c : Column) → In c columns → is_of_kind c.kind (f c) ≡ true) → punct_fits (domains_of columns) (map f columns) ≡ true
punct_fits_each [] f each = refl
punct_fits_each (c ∷ cs) f each = and_from (is_of_kind c.kind (f c)) (punct_fits (domains_of cs) (map f cs)) (each c (inl refl)) (punct_fits_each cs f (λ x h. each x (inr h)))

pub test_fits : (columns : List Column) (words : List TestWord) → AreDistinct (map name_of columns) → list_any (misses_its_kind columns) words ≡ false → punct_fits (domains_of columns) (map (column_test words) columns) ≡ true
test_fits columns words d e =
    punct_fits_each columns (column_test words)
    (λ c h. met_of_kind columns c d h words Wild (λ w l. false_from_ne_true (misses_its_kind columns w) (λ t. none_at (misses_its_kind columns) words w e l t)) refl)

-- ---- a project

pub project_domains : (columns : List Column) (words : List Renamed) → domains_of (map (renamed_column columns) words) ≡ map (domain_at columns) (map (old_number columns) words)
project_domains columns [] = refl
project_domains columns (w ∷ ws) =
    ap (λ (k : Kind). k ∷ domains_of (map (renamed_column columns) ws)) (sym (number_kind columns w.old))
    ∙ ap (λ (ks : List Domain). domain_at columns (old_number columns w) ∷ ks) (project_domains columns ws)

pub project_there : (columns : List Column) (words : List Renamed) → ((w : Renamed) → In w words → has_column columns w.old ≡ true) → (number : ℕ) → In number (map (old_number columns) words) → number < length columns
project_there columns words known number h =
    let r = In-map (old_number columns) number words h in
    subst (λ (n : ℕ). n < length columns) r.2 (number_there columns r.0.old (known r.0 r.1))

-- ---- a union

kind_same : (k l : Kind) → kind_eq k l ≡ true → k ≡ l
kind_same Int Int t = refl
kind_same Int Text t = absurd (false≢true t)
kind_same Text Int t = absurd (false≢true t)
kind_same Text Text t = refl

pub alike_domains : (columns others : List Column) → are_alike columns others ≡ true → domains_of columns ≡ domains_of others
alike_domains [] [] t = refl
alike_domains [] (d ∷ ds) t = absurd (false≢true t)
alike_domains (c ∷ cs) [] t = absurd (false≢true t)
alike_domains (c ∷ cs) (d ∷ ds) t =
    let both = and_parts (kind_eq c.kind d.kind) (are_alike cs ds) t in
    ap (λ (k : Kind). k ∷ domains_of cs) (kind_same c.kind d.kind both.0) ∙ ap (λ (ks : List Domain). d.kind ∷ ks) (alike_domains cs ds both.1)

-- ---- a join

sum_from : (n : ℕ) (xs : List ℕ) → fold ◌+◌ n xs ≡ n + sum xs
sum_from n [] = omega arith
sum_from n (x ∷ xs) = omega (arith, sum_from (n + x) xs, sum_from (0 + x) xs)

lengths_joined : (schemas : List (List Column)) → length (joined schemas) ≡ sum (arities_of schemas)
lengths_joined [] = refl
lengths_joined (s ∷ ss) = omega (arith, length-append s (joined ss), lengths_joined ss, sum_from (0 + length s) (arities_of ss))

-- the specification of a join without fault
pub record IsGoodJoin (schemas : List (List Column)) (classes : List (List (List ℕ))) : Type 0 where
  pub two : 2 ≤ length schemas
  pub few_inputs : length schemas ≤ 16
  pub one : 1 ≤ length classes
  pub few_classes : length classes ≤ 32
  pub few_columns : length (joined schemas) ≤ 120
  pub names : AreDistinct (map name_of (joined schemas))
  pub good : (words : List (List ℕ)) → In words classes → IsGoodClass schemas words
  pub once : AreDistinct (flat_map (λ class. class) classes)

abbrev pub spec_of : List (List Column) → List (List (List ℕ)) → JoinSpec
spec_of schemas classes = record { inputs = schemas; classes = map (class_of schemas) classes }

pub sound_spec : (schemas : List (List Column)) (classes : List (List (List ℕ))) → IsGoodJoin schemas classes → IsSoundSpec (spec_of schemas classes)
sound_spec schemas classes good = record {
  few_inputs = (good.two, good.few_inputs);
  few_classes = (rw (length-map classes (class_of schemas)) good.one, rw (length-map classes (class_of schemas)) good.few_classes);
  few_columns = rw (← lengths_joined schemas) good.few_columns;
  sound_classes = λ class h. let r = In-map (class_of schemas) class classes h in subst (IsSoundClass schemas) r.2 (sound_class schemas r.0 good.names (good.good r.0 r.1));
  apart = classes_apart schemas classes good.once;
}

-- ---- a group

keys_distinct : (columns : List Column) (keys : List (List ℕ)) → AreDistinct keys → ((k : List ℕ) → In k keys → has_column columns k ≡ true) → AreDistinct (map (column_number columns) keys)
keys_distinct columns [] d known = tt
keys_distinct columns (k ∷ ks) d known = (
  (λ h. let r = In-map (column_number columns) (column_number columns k) ks h in
      let same : r.0 ≡ k = sym (number_name columns r.0 (known r.0 (inr r.1))) ∙ ap (column_name columns) r.2 ∙ number_name columns k (known k (inl refl)) in
      d.0 (subst (λ (n : List ℕ). In n ks) same r.1)),
  keys_distinct columns ks d.1 (λ x h. known x (inr h)),
)

sound_agg : (columns : List Column) (word : AggWord) → ((name : List ℕ) → In name (agg_columns word) → has_column columns name ≡ true) → sums_text columns word ≡ false → IsSoundAgg columns (agg_of columns word)
sound_agg columns Count known e = tt
sound_agg columns (Sum column) known e = (number_there columns column (known column (inl refl)), number_kind columns column ∙ int (column_kind columns column) e)
  where
    int : (kind : Kind) → kind_eq Text kind ≡ false → kind ≡ Int
    int Int n = refl
    int Text n = absurd (false≢true (sym n))
sound_agg columns (Min column) known e = number_there columns column (known column (inl refl))
sound_agg columns (Max column) known e = number_there columns column (known column (inl refl))

-- the words of a group without fault
pub record IsGoodGroup (columns : List Column) (keys : List (List ℕ)) (aggs : List NamedAgg) : Type 0 where
  pub some_keys : 1 ≤ length keys
  pub some_aggs : 1 ≤ length aggs
  pub known_keys : (k : List ℕ) → In k keys → has_column columns k ≡ true
  pub known_aggs : (agg : NamedAgg) → In agg aggs → (name : List ℕ) → In name (agg_columns agg.agg) → has_column columns name ≡ true
  pub names : AreDistinct (map name_of (group_schema columns keys aggs))
  pub sums : list_any (names_text_sum columns) aggs ≡ false

abbrev pub group_of : List Column → List (List ℕ) → List NamedAgg → GroupSpec
group_of columns keys aggs = record { keys = map (column_number columns) keys; aggs = map (named_agg columns) aggs }

key_names : (columns : List Column) (keys : List (List ℕ)) → map name_of (map (key_column columns) keys) ≡ keys
key_names columns [] = refl
key_names columns (k ∷ ks) = ap (λ (xs : List (List ℕ)). k ∷ xs) (key_names columns ks)

pub sound_group : (columns : List Column) (keys : List (List ℕ)) (aggs : List NamedAgg) → IsGoodGroup columns keys aggs → IsSoundGroup columns (group_of columns keys aggs)
sound_group columns keys aggs good = record {
  some_keys = rw (length-map keys (column_number columns)) good.some_keys;
  some_aggs = rw (length-map aggs (named_agg columns)) good.some_aggs;
  keys_there = λ key h. let r = In-map (column_number columns) key keys h in subst (λ (n : ℕ). n < length columns) r.2 (number_there columns r.0 (good.known_keys r.0 r.1));
  keys_apart = keys_distinct columns keys apart good.known_keys;
  sound_aggs = λ agg h. let r = In-map (named_agg columns) agg aggs h in subst (IsSoundAgg columns) r.2 (sound_agg columns r.0.agg (good.known_aggs r.0 r.1) (false_from_ne_true (sums_text columns r.0.agg) (λ t. none_at (names_text_sum columns) aggs r.0 good.sums r.1 t)));
}
  where
    apart : AreDistinct keys
    apart = subst AreDistinct (key_names columns keys) (distinct_left (map name_of (map (key_column columns) keys)) (map name_of (map (agg_column columns) aggs)) (subst AreDistinct (map-append name_of (map (key_column columns) keys) (map (agg_column columns) aggs)) good.names))

agg_kinds : (columns : List Column) (word : AggWord) → agg_kind columns word ≡ agg_domain_at columns (agg_of columns word)
agg_kinds columns Count = refl
agg_kinds columns (Sum column) = refl
agg_kinds columns (Min column) = sym (number_kind columns column)
agg_kinds columns (Max column) = sym (number_kind columns column)

domains_of_aggs : (columns : List Column) (aggs : List NamedAgg) → domains_of (map (agg_column columns) aggs) ≡ map (agg_domain_at columns) (map (named_agg columns) aggs)
domains_of_aggs columns [] = refl
domains_of_aggs columns (a ∷ rest) =
    ap (λ (k : Kind). k ∷ domains_of (map (agg_column columns) rest)) (agg_kinds columns a.agg)
    ∙ ap (λ (ks : List Domain). agg_domain_at columns (agg_of columns a.agg) ∷ ks) (domains_of_aggs columns rest)

pub domains_of_group : (columns : List Column) (keys : List (List ℕ)) (aggs : List NamedAgg) → domains_of (group_schema columns keys aggs) ≡ group_domains columns (group_of columns keys aggs)
domains_of_group columns [] aggs = domains_of_aggs columns aggs
domains_of_group columns (k ∷ ks) aggs =
    ap (λ (x : Kind). x ∷ domains_of (group_schema columns ks aggs)) (sym (number_kind columns k))
    ∙ ap (λ (xs : List Domain). domain_at columns (column_number columns k) ∷ xs) (domains_of_group columns ks aggs)

pub column_from : (name : List ℕ) (kind : Kind) (c : Column) → c.name ≡ name → c.kind ≡ kind → record { name = name; kind = kind } ≡ c
column_from name kind c e k = sym (ap (λ (n : List ℕ). record { name = n; kind = c.kind }) e ∙ ap (λ (x : Kind). record { name = name; kind = x }) k)

-- a column by the number of a name that is there is that of the name and of its kind
key_at : (columns : List Column) (name : List ℕ) → has_column columns name ≡ true → key_column columns name ≡ column_at columns (column_number columns name)
key_at columns name t = column_from name (column_kind columns name) (column_at columns (column_number columns name)) (number_name columns name t) (number_kind columns name)

pub keys_first : (columns : List Column) (keys : List (List ℕ)) (rest : List Column) → ((k : List ℕ) → In k keys → has_column columns k ≡ true) → take (length keys) (map (key_column columns) keys ++ rest) ≡ map (column_at columns) (map (column_number columns) keys)
keys_first columns [] rest known = refl
keys_first columns (k ∷ ks) rest known =
    ap (λ (c : Column). c ∷ take (length ks) (map (key_column columns) ks ++ rest)) (key_at columns k (known k (inl refl)))
    ∙ ap (λ (cs : List Column). column_at columns (column_number columns k) ∷ cs) (keys_first columns ks rest (λ x h. known x (inr h)))
