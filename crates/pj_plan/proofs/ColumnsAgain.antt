-- The words of a project and of a group make its columns again.
use Rattle.std.proofs.Common.{ℕ, zero, suc, ◌<◌, ◌≡◌, length, false, List, [], ◌∷◌, ◌++◌, map, drop, refl, sym, ap, ◌∙◌, inl, inr}
use Rattle.std.proofs.Math.Seq.{drop-append_seam}
use Rattle.std.proofs.lemmas.List.{length-map}
use Rattle.pj_value.specs.Lists.{In}
use Rattle.pj_value.specs.declared.values.Kind.TheVariants.{Text}
use Rattle.pj_value.specs.Values.{Domain}
use Rattle.pj_shape.specs.declared.columns.Column.{Column}
use Rattle.pj_shape.specs.declared.groups.Agg.{Agg}
use Rattle.pj_shape.specs.declared.groups.Agg.TheVariants.{Count as CountAgg, Sum as SumAgg, Min as MinAgg, Max as MaxAgg}
use Rattle.pj_shape.specs.Columns.{domains_of}
use Rattle.pj_plan.specs.declared.statement.Renamed.{Renamed}
use Rattle.pj_plan.specs.declared.statement.NamedAgg.{NamedAgg}
use Rattle.pj_plan.specs.Words.{agg_columns}
use Rattle.pj_plan.specs.Made.{column_number, column_kind, renamed_column, key_column, agg_column, agg_kind, old_number, agg_of, named_agg}
use Rattle.pj_plan.specs.Canonical.{column_name, renamed_of, agg_word, aggs_of}
use Rattle.pj_plan.specs.Faults.{kind_eq, sums_text}
use Rattle.pj_plan.specs.Sound.{AreDistinct, name_of, domain_at, column_at, IsSoundAgg, agg_domain_at}
use Rattle.pj_plan.proofs.ByNumber.{name_number, name_kind}
use Rattle.pj_plan.proofs.Operators.{column_from}

-- ---- a project

pub renamed_again : (columns schema : List Column) (numbers : List ℕ) → AreDistinct (map name_of columns) → ((n : ℕ) → In n numbers → n < length columns) → domains_of schema ≡ map (domain_at columns) numbers
    → map (renamed_column columns) (renamed_of schema columns numbers) ≡ schema
renamed_again columns [] numbers d there e = refl
renamed_again columns (s ∷ ss) [] d there e = absurd cc
renamed_again columns (s ∷ ss) (n ∷ ns) d there e =
    let kind : s.kind ≡ domain_at columns n = cc in
    let rest : domains_of ss ≡ map (domain_at columns) ns = cc in
    ap (λ (c : Column). c ∷ map (renamed_column columns) (renamed_of ss columns ns)) (column_from s.name (column_kind columns (column_name columns n)) s refl (kind ∙ sym (name_kind columns n d (there n (inl refl)))))
    ∙ ap (λ (cs : List Column). s ∷ cs) (renamed_again columns ss ns d (λ k h. there k (inr h)) rest)

pub numbers_again : (columns schema : List Column) (numbers : List ℕ) → AreDistinct (map name_of columns) → ((n : ℕ) → In n numbers → n < length columns) → domains_of schema ≡ map (domain_at columns) numbers
    → map (old_number columns) (renamed_of schema columns numbers) ≡ numbers
numbers_again columns [] [] d there e = refl
numbers_again columns [] (n ∷ ns) d there e = absurd cc
numbers_again columns (s ∷ ss) [] d there e = absurd cc
numbers_again columns (s ∷ ss) (n ∷ ns) d there e =
    let rest : domains_of ss ≡ map (domain_at columns) ns = cc in
    ap (λ (k : ℕ). k ∷ map (old_number columns) (renamed_of ss columns ns)) (name_number columns n d (there n (inl refl)))
    ∙ ap (λ (ks : List ℕ). n ∷ ks) (numbers_again columns ss ns d (λ k h. there k (inr h)) rest)

-- what each word of a project is
pub renamed_is : (columns schema : List Column) (numbers : List ℕ) (w : Renamed) → In w (renamed_of schema columns numbers) → (s : Column) × In s schema × (n : ℕ) × In n numbers × (w ≡ record { new = s.name; old = column_name columns n })
renamed_is columns [] numbers w h = absurd h
renamed_is columns (s ∷ ss) [] w h = absurd h
renamed_is columns (s ∷ ss) (n ∷ ns) w (inl e) = (s, inl refl, n, inl refl, sym e)
renamed_is columns (s ∷ ss) (n ∷ ns) w (inr h) = let r = renamed_is columns ss ns w h in (r.0, inr r.1, r.2, inr r.3, r.4)

-- ---- a group

pub keys_again : (columns : List Column) (keys : List ℕ) → AreDistinct (map name_of columns) → ((k : ℕ) → In k keys → k < length columns) → map (column_number columns) (map (column_name columns) keys) ≡ keys
keys_again columns [] d there = refl
keys_again columns (k ∷ ks) d there =
    ap (λ (n : ℕ). n ∷ map (column_number columns) (map (column_name columns) ks)) (name_number columns k d (there k (inl refl)))
    ∙ ap (λ (ns : List ℕ). k ∷ ns) (keys_again columns ks d (λ x h. there x (inr h)))

pub key_columns_again : (columns : List Column) (keys : List ℕ) → AreDistinct (map name_of columns) → ((k : ℕ) → In k keys → k < length columns) → map (key_column columns) (map (column_name columns) keys) ≡ map (column_at columns) keys
key_columns_again columns [] d there = refl
key_columns_again columns (k ∷ ks) d there =
    ap (λ (c : Column). c ∷ map (key_column columns) (map (column_name columns) ks))
    (column_from (column_name columns k) (column_kind columns (column_name columns k)) (column_at columns k) refl (sym (name_kind columns k d (there k (inl refl)))))
    ∙ ap (λ (cs : List Column). column_at columns k ∷ cs) (key_columns_again columns ks d (λ x h. there x (inr h)))

agg_again : (columns : List Column) (agg : Agg) → AreDistinct (map name_of columns) → IsSoundAgg columns agg → agg_of columns (agg_word columns agg) ≡ agg
agg_again columns CountAgg d sound = refl
agg_again columns (SumAgg column) d sound = ap SumAgg (name_number columns column d sound.0)
agg_again columns (MinAgg column) d sound = ap MinAgg (name_number columns column d sound)
agg_again columns (MaxAgg column) d sound = ap MaxAgg (name_number columns column d sound)

agg_kind_again : (columns : List Column) (agg : Agg) → AreDistinct (map name_of columns) → IsSoundAgg columns agg → agg_kind columns (agg_word columns agg) ≡ agg_domain_at columns agg
agg_kind_again columns CountAgg d sound = refl
agg_kind_again columns (SumAgg column) d sound = refl
agg_kind_again columns (MinAgg column) d sound = name_kind columns column d sound
agg_kind_again columns (MaxAgg column) d sound = name_kind columns column d sound

pub aggs_again : (columns news : List Column) (aggs : List Agg) → AreDistinct (map name_of columns) → ((agg : Agg) → In agg aggs → IsSoundAgg columns agg) → domains_of news ≡ map (agg_domain_at columns) aggs
    → map (named_agg columns) (aggs_of news columns aggs) ≡ aggs
aggs_again columns [] [] d sound e = refl
aggs_again columns [] (a ∷ rest) d sound e = absurd cc
aggs_again columns (n ∷ ns) [] d sound e = absurd cc
aggs_again columns (n ∷ ns) (a ∷ rest) d sound e =
    let kinds : domains_of ns ≡ map (agg_domain_at columns) rest = cc in
    ap (λ (x : Agg). x ∷ map (named_agg columns) (aggs_of ns columns rest)) (agg_again columns a d (sound a (inl refl)))
    ∙ ap (λ (xs : List Agg). a ∷ xs) (aggs_again columns ns rest d (λ x h. sound x (inr h)) kinds)

pub agg_columns_again : (columns news : List Column) (aggs : List Agg) → AreDistinct (map name_of columns) → ((agg : Agg) → In agg aggs → IsSoundAgg columns agg) → domains_of news ≡ map (agg_domain_at columns) aggs
    → map (agg_column columns) (aggs_of news columns aggs) ≡ news
agg_columns_again columns [] aggs d sound e = refl
agg_columns_again columns (n ∷ ns) [] d sound e = absurd cc
agg_columns_again columns (n ∷ ns) (a ∷ rest) d sound e =
    let kind : n.kind ≡ agg_domain_at columns a = cc in
    let kinds : domains_of ns ≡ map (agg_domain_at columns) rest = cc in
    ap (λ (c : Column). c ∷ map (agg_column columns) (aggs_of ns columns rest)) (column_from n.name (agg_kind columns (agg_word columns a)) n refl (kind ∙ sym (agg_kind_again columns a d (sound a (inl refl)))))
    ∙ ap (λ (cs : List Column). n ∷ cs) (agg_columns_again columns ns rest d (λ x h. sound x (inr h)) kinds)

-- what each word of an aggregate is
pub agg_is : (columns news : List Column) (aggs : List Agg) (w : NamedAgg) → In w (aggs_of news columns aggs) → (n : Column) × In n news × (agg : Agg) × In agg aggs × (w ≡ record { name = n.name; agg = agg_word columns agg })
agg_is columns [] aggs w h = absurd h
agg_is columns (n ∷ ns) [] w h = absurd h
agg_is columns (n ∷ ns) (a ∷ rest) w (inl e) = (n, inl refl, a, inl refl, sym e)
agg_is columns (n ∷ ns) (a ∷ rest) w (inr h) = let r = agg_is columns ns rest w h in (r.0, inr r.1, r.2, inr r.3, r.4)

pub agg_known : (columns : List Column) (agg : Agg) (name : List ℕ) → IsSoundAgg columns agg → In name (agg_columns (agg_word columns agg)) → (i : ℕ) × (i < length columns) × (name ≡ column_name columns i)
agg_known columns CountAgg name sound h = absurd h
agg_known columns (SumAgg column) name sound (inl e) = (column, sound.0, sym e)
agg_known columns (SumAgg column) name sound (inr h) = absurd h
agg_known columns (MinAgg column) name sound (inl e) = (column, sound, sym e)
agg_known columns (MinAgg column) name sound (inr h) = absurd h
agg_known columns (MaxAgg column) name sound (inl e) = (column, sound, sym e)
agg_known columns (MaxAgg column) name sound (inr h) = absurd h

pub sums_no_text : (columns : List Column) (agg : Agg) → AreDistinct (map name_of columns) → IsSoundAgg columns agg → sums_text columns (agg_word columns agg) ≡ false
sums_no_text columns CountAgg d sound = refl
sums_no_text columns (SumAgg column) d sound = ap (kind_eq Text) (name_kind columns column d sound.0 ∙ sound.1)
sums_no_text columns (MinAgg column) d sound = refl
sums_no_text columns (MaxAgg column) d sound = refl

-- ---- the two parts of a group's columns

pub domains_drop : (n : ℕ) (columns : List Column) → domains_of (drop n columns) ≡ drop n (domains_of columns)
domains_drop zero columns = refl
domains_drop (suc n) [] = refl
domains_drop (suc n) (c ∷ cs) = domains_drop n cs

pub domains_behind : (columns schema : List Column) (keys : List ℕ) (kinds : List Domain) → domains_of schema ≡ map (domain_at columns) keys ++ kinds → domains_of (drop (length keys) schema) ≡ kinds
domains_behind columns schema keys kinds e =
    domains_drop (length keys) schema ∙ ap (drop (length keys)) e ∙ ap (λ (n : ℕ). drop n (map (domain_at columns) keys ++ kinds)) (sym (length-map keys (domain_at columns)))
    ∙ drop-append_seam (map (domain_at columns) keys) kinds
