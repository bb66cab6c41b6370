-- The first fault, looked for in one part of the faults after the other.
use Rattle.std.proofs.Common.{◌≡◌, Bool, true, false, List, [], ◌∷◌, ◌++◌, Option, Some, None, if◌then◌else◌, refl, ap, sym, ◌∙◌}
use Rattle.pj_plan.specs.declared.fault.PlanWhy.{PlanWhy}
use Rattle.pj_plan.specs.declared.node.Draft.{Draft}
use Rattle.pj_plan.specs.declared.statement.Statement.{Statement}
use Rattle.pj_plan.specs.Nodes.{or_else}
use Rattle.pj_plan.specs.Faults.{has_fault, first_fault, fault_of, name_whys, column_whys, use_whys}

if-or : (b : Bool) (why : PlanWhy) (x y : Option PlanWhy) → (if b then Some why else or_else x y) ≡ or_else (if b then Some why else x) y
if-or true why x y = refl
if-or false why x y = refl

first_fault-append : (draft : Draft) (statement : Statement) (xs ys : List PlanWhy)
    → first_fault draft statement (xs ++ ys) ≡ or_else (first_fault draft statement xs) (first_fault draft statement ys)
first_fault-append draft statement [] ys = refl
first_fault-append draft statement (x ∷ xs) ys =
    ap (λ (o : Option PlanWhy). if has_fault draft statement x then Some x else o) (first_fault-append draft statement xs ys)
    ∙ if-or (has_fault draft statement x) x (first_fault draft statement xs) (first_fault draft statement ys)

in-parts : (draft : Draft) (statement : Statement)
    → fault_of draft statement ≡ or_else (first_fault draft statement name_whys) (or_else (first_fault draft statement column_whys) (first_fault draft statement use_whys))
in-parts draft statement =
    first_fault-append draft statement name_whys (column_whys ++ use_whys)
    ∙ ap (or_else (first_fault draft statement name_whys)) (first_fault-append draft statement column_whys use_whys)

pub found_in_names : (draft : Draft) (statement : Statement) (why : PlanWhy)
    → Some why ≡ first_fault draft statement name_whys → Some why ≡ fault_of draft statement
found_in_names draft statement why is = sym (in-parts draft statement ∙ ap (λ (o : Option PlanWhy). or_else o (or_else (first_fault draft statement column_whys) (first_fault draft statement use_whys))) (sym is))

pub found_in_columns : (draft : Draft) (statement : Statement) (why : PlanWhy)
    → None ≡ first_fault draft statement name_whys → Some why ≡ first_fault draft statement column_whys → Some why ≡ fault_of draft statement
found_in_columns draft statement why none is =
    sym (in-parts draft statement
    ∙ (ap (λ (o : Option PlanWhy). or_else o (or_else (first_fault draft statement column_whys) (first_fault draft statement use_whys))) (sym none)
    ∙ ap (λ (o : Option PlanWhy). or_else o (first_fault draft statement use_whys)) (sym is)))

pub found_in_uses : (draft : Draft) (statement : Statement) (found : Option PlanWhy)
    → None ≡ first_fault draft statement name_whys → None ≡ first_fault draft statement column_whys → found ≡ first_fault draft statement use_whys
    → found ≡ fault_of draft statement
found_in_uses draft statement found none nor is =
    sym (in-parts draft statement
    ∙ (ap (λ (o : Option PlanWhy). or_else o (or_else (first_fault draft statement column_whys) (first_fault draft statement use_whys))) (sym none)
    ∙ (ap (λ (o : Option PlanWhy). or_else o (first_fault draft statement use_whys)) (sym nor) ∙ sym is)))
