-- The draft of the statements so far, and what is left of them.
use Rattle.std.proofs.Common.{ℕ, ◌≡◌, ◌+◌, ◌<◌, List, ◌∷◌, Option, None, map, drop, get_or, length, ap, sym, ◌∙◌, subst}
use Rattle.std.specs.List.{list_all}
use Rattle.std.proofs.lemmas.Bool.{and_parts}
use Rattle.std.proofs.lemmas.List.{drop_more}
use Rattle.pj_plan.specs.declared.fault.PlanWhy.{PlanWhy}
use Rattle.pj_plan.specs.declared.node.Draft.{Draft}
use Rattle.pj_plan.specs.declared.statement.Stated.{Stated}
use Rattle.pj_plan.specs.Names.{is_spelled, AreSpelled}
use Rattle.pj_plan.specs.Built.{built, built_from, built_if}
use Rattle.pj_plan.specs.Made.{after}
use Rattle.pj_plan.specs.Faults.{fault_of}
use Rattle.pj_plan.specs.Laws.{what_of}
use Rattle.pj_plan.specs.Small.{AreSmall}
use Rattle.pj_plan.proofs.Drafts.{IsSoundDraft, after_sound}
use Rattle.pj_plan.proofs.Faultless.{sound_small}

-- what is declared, and these statements behind it, build what all statements do
abbrev pub IsBuilding : List Stated → Draft → List Stated → Type 0
IsBuilding statements draft rest =
    ((end : ℕ) → built statements end ≡ built_from draft rest end) × IsSoundDraft draft × AreSpelled (map what_of rest)

more : (statements : List Stated) (at : ℕ) (stated : Stated) → at < length statements → stated ≡ get_or statements at stated
    → drop at statements ≡ stated ∷ drop (at + 1) statements
more statements at stated lt is = drop_more statements at stated lt ∙ ap (λ (s : Stated). s ∷ drop (at + 1) statements) (sym is)

pub building_small : (statements : List Stated) (draft : Draft) (rest : List Stated) → IsBuilding statements draft rest → AreSmall draft.nodes
building_small statements draft rest building = sound_small draft building.1

pub building_on : (statements : List Stated) (at : ℕ) (stated : Stated) (draft next : Draft) → IsBuilding statements draft (drop at statements)
    → at < length statements → stated ≡ get_or statements at stated → fault_of draft stated.what ≡ None → next ≡ after draft stated.what
    → IsBuilding statements next (drop (at + 1) statements)
building_on statements at stated draft next building lt is none made =
    let here : IsBuilding statements draft (stated ∷ drop (at + 1) statements) = subst (IsBuilding statements draft) (more statements at stated lt is) building in
    let both = and_parts (is_spelled stated.what) (list_all is_spelled (map what_of (drop (at + 1) statements))) here.2 in
    subst (λ (d : Draft). IsBuilding statements d (drop (at + 1) statements)) (sym made) (
      (λ end. here.0 end ∙ ap (λ (o : Option PlanWhy). built_if o stated.line (built_from (after draft stated.what) (drop (at + 1) statements) end)) none),
      after_sound draft stated.what both.0 here.1 none,
      both.1,
    )
