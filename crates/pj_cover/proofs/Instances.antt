-- The instance that a step asks for, from what its links lead to.
use Rattle.std.proofs.Common.{ℕ, ◌+◌, ◌<◌, ◌≡◌, List, Option, Some, get_or, length, sym, ap, ap₂, ◌∙◌, subst, arith}
use Rattle.std.specs.Prelude.{IfSome}
use Rattle.std.proofs.lemmas.Option.{get_or_from_slice_get, slice_get-get_or}
use Rattle.pj_value.specs.declared.values.Value.{Value}
use Rattle.pj_shape.specs.Instances.{instance_of}
use Rattle.pj_events.specs.Join.{CertEntry, ClassCol, TupleAt, class_with, constant, instance_from}
use Rattle.pj_puncts.specs.Givens.{marked, one_cell}
use Rattle.pj_puncts.specs.Stores.{Store, TellsCover}
use Rattle.pj_puncts.proofs.SingleCell.{one_instance}
use Rattle.pj_cover.specs.declared.route.PurgeLink.{PurgeLink}
use Rattle.pj_cover.specs.declared.route.PurgeStep.{PurgeStep}
use Rattle.pj_cover.specs.Routes.{IsReady, links_of, marked_values, value_from}
use Rattle.pj_cover.proofs.Constants.{constants_count, constants_instance}

if-some : {A : Type 0} (P : A → Type 0) (o : Option A) (x : A) → o ≡ Some x → IfSome o P → P x
if-some P o x e h = subst (λ p. IfSome p P) e h

same-store : (punct_stores : List Store) (i : ℕ) (d r : Store) → i < length punct_stores → get_or punct_stores i r ≡ get_or punct_stores i d
same-store punct_stores i d r lt = sym (get_or_from_slice_get punct_stores i (get_or punct_stores i r) d (slice_get-get_or punct_stores i r lt))

module _ (classes : List (List ClassCol)) (e : CertEntry) (links : List PurgeLink) (step : PurgeStep) (xs : List TupleAt) (ready : IsReady classes e links step xs) (scheme : List _) (is : scheme ≡ e.marks) where
  pub count_told : (own : List PurgeLink) → own ≡ links_of links step → length (marked_values own xs) ≡ marked scheme
  count_told own same = ap (λ (ls : List PurgeLink). length (marked_values ls xs)) same ∙ ap length ready.marked ∙ constants_count classes e.input 0 e.marks xs ∙ ap marked (sym is)

  pub all_told : (own : List PurgeLink) (punct_stores : List Store) (low : ℕ) (told : Option ℕ) (d r : Store) → own ≡ links_of links step → e.input < length punct_stores → TellsCover (get_or punct_stores e.input r).kept low (instance_of scheme (marked_values own xs)) told
      → TellsCover (get_or punct_stores e.input d).kept low (instance_from classes e.input 0 e.marks xs) told
  all_told own punct_stores low told d r same lt tells =
      subst (λ (s : Store). TellsCover s.kept low (instance_from classes e.input 0 e.marks xs) told) (same-store punct_stores e.input d r lt)
      (subst (λ (cells : List (Option Value)). TellsCover (get_or punct_stores e.input r).kept low cells told)
      (ap₂ instance_of is (ap (λ (ls : List PurgeLink). marked_values ls xs) same ∙ ready.marked) ∙ constants_instance classes e.input 0 e.marks xs) tells)

  pub one_told : (link : PurgeLink) (n : ℕ) (punct_stores : List Store) (low : ℕ) (told : Option ℕ) (d r : Store) → step.single ≡ Some link → n ≡ length scheme → e.input < length punct_stores
      → TellsCover (get_or punct_stores e.input r).kept low (one_cell n link.column (value_from xs link)) told → TellsCover (get_or punct_stores e.input d).kept low (instance_from classes e.input 0 e.marks xs) told
  one_told link n punct_stores low told d r single count lt tells =
      let one = if-some _ step.single link single ready.single in
      let z : 0 + link.column ≡ link.column = omega arith in
      subst (λ (s : Store). TellsCover s.kept low (instance_from classes e.input 0 e.marks xs) told) (same-store punct_stores e.input d r lt)
      (subst (λ (cells : List (Option Value)). TellsCover (get_or punct_stores e.input r).kept low cells told)
      (ap (λ k. one_cell k link.column (value_from xs link)) (count ∙ ap length is)
      ∙ one_instance classes e.input xs 0 link.column e.marks (value_from xs link) one.0.1 (ap (λ k. constant (class_with classes e.input k) xs) z ∙ one.1)) tells)
