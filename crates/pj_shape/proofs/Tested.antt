-- Classes that are apart and schemes that fit, by computing.
use Rattle.std.proofs.Common.{◌≡◌, Bool, true, false, not, ◌&&◌, ◌==◌, List, [], ◌∷◌, length, refl, sym, ◌∙◌}
use Rattle.std.specs.List.{list_all}
use Rattle.std.proofs.lemmas.Bool.{and_from, and_parts, eq-eqb, eqb-true, false≢true, not-true}
use Rattle.pj_value.proofs.Members.{all_at, any_from}
use Rattle.pj_shape.specs.declared.columns.Column.{Column}
use Rattle.pj_shape.specs.declared.joins.ClassCol.{ClassCol}
use Rattle.pj_shape.specs.Joining.{has_column}
use Rattle.pj_shape.specs.Sound.{AreApart, FitSchemes}

abbrev pub are_apart : List (List ClassCol) → Bool
are_apart [] = true
are_apart (class ∷ classes) = list_all (λ other. list_all (λ at. not (has_column other at)) class) classes && are_apart classes

pub apart_if : (classes : List (List ClassCol)) → are_apart classes ≡ true → AreApart classes
apart_if [] t = tt
apart_if (class ∷ classes) t =
    let both = and_parts (list_all (λ other. list_all (λ at. not (has_column other at)) class) classes) (are_apart classes) t in (
      λ other h at k m.
          let none = not-true (has_column other at) (all_at (λ c. not (has_column other c)) class at (all_at (λ o. list_all (λ c. not (has_column o c)) class) classes other both.0 h) k) in
          false≢true (sym none ∙ any_from (λ (c : ClassCol). (c.input == at.input) && (c.column == at.column)) other at m
          (and_from (at.input == at.input) (at.column == at.column) (eq-eqb at.input at.input refl) (eq-eqb at.column at.column refl))),
      apart_if classes both.1,
    )

abbrev pub do_fit : List (List Column) → List (List (List Bool)) → Bool
do_fit [] [] = true
do_fit [] (list ∷ lists) = false
do_fit (schema ∷ schemas) [] = false
do_fit (schema ∷ schemas) (list ∷ lists) = list_all (λ marks. length marks == length schema) list && do_fit schemas lists

pub fit_if : (schemas : List (List Column)) (schemes : List (List (List Bool))) → do_fit schemas schemes ≡ true → FitSchemes schemas schemes
fit_if [] [] t = tt
fit_if [] (list ∷ lists) t = false≢true t
fit_if (schema ∷ schemas) [] t = false≢true t
fit_if (schema ∷ schemas) (list ∷ lists) t =
    let both = and_parts (list_all (λ marks. length marks == length schema) list) (do_fit schemas lists) t in (
      λ marks h. eqb-true (length marks) (length schema) (all_at (λ (ms : List Bool). length ms == length schema) list marks both.0 h),
      fit_if schemas lists both.1,
    )
