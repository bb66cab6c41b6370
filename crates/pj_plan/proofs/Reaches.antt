-- Statements without fault, one after the other.
use Rattle.std.proofs.Common.{ℕ, ◌+◌, ◌≡◌, Bool, false, cond, ◌||◌, List, [], ◌∷◌, ◌++◌, Some, None, Option, refl, sym, ap, ◌∙◌, subst}
use Rattle.std.specs.List.{list_any}
use Rattle.std.proofs.lemmas.Bool.{or_from}
use Rattle.pj_plan.specs.declared.fault.PlanWhy.{PlanWhy}
use Rattle.pj_plan.specs.declared.fault.PlanWhy.TheVariants.{NotAPlan, UnknownStatement, BadShape, NameTwice, UnknownName, UnknownColumn, ColumnTwice, KindsDiffer, BadClass, BadScheme, UsedTwiceOrNever, TooMany, Output as BehindOutput, Unreadable}
use Rattle.pj_plan.specs.declared.node.Draft.{Draft}
use Rattle.pj_plan.specs.declared.statement.Statement.{Statement}
use Rattle.pj_plan.specs.Words.{repeats, used_names}
use Rattle.pj_plan.specs.Made.{after}
use Rattle.pj_plan.specs.Faults.{is_unknown_name, has_no_stream, was_used, leaves_unused, is_unknown, is_misshapen, is_unreadable, has_fault, all_whys, first_fault, fault_of}
use Rattle.pj_plan.specs.Built.{ended, built_if, built_from}
use Rattle.pj_plan.specs.Canonical.{lines_from}
use Rattle.pj_plan.proofs.NoFaults.{HasNone}

-- ---- no fault

none_first : (draft : Draft) (statement : Statement) (whys : List PlanWhy) → ((why : PlanWhy) → has_fault draft statement why ≡ false) → first_fault draft statement whys ≡ None
none_first draft statement [] none = refl
none_first draft statement (w ∷ ws) none = ap (λ (b : Bool). cond b (Some w) (first_fault draft statement ws)) (none w) ∙ none_first draft statement ws none

-- the line can be read and has the form of a statement
pub record IsFormed (draft : Draft) (statement : Statement) : Type 0 where
  pub known : is_unknown draft statement ≡ false
  pub shaped : is_misshapen statement ≡ false
  pub readable : is_unreadable statement ≡ false

pub without_fault : (draft : Draft) (statement : Statement) → IsFormed draft statement → HasNone draft statement → fault_of draft statement ≡ None
without_fault draft statement formed none = none_first draft statement all_whys each
  where
    each : (why : PlanWhy) → has_fault draft statement why ≡ false
    each NotAPlan = none.plan
    each UnknownStatement = formed.known
    each BadShape = formed.shaped
    each NameTwice = none.name
    each UnknownName = or_from (list_any (is_unknown_name draft.nodes) (used_names statement)) (has_no_stream draft.nodes statement) none.names none.stream
    each UnknownColumn = none.columns
    each ColumnTwice = none.different
    each KindsDiffer = none.kinds
    each BadClass = none.classes
    each BadScheme = none.scheme
    each UsedTwiceOrNever =
        or_from (list_any (was_used draft) (used_names statement) || repeats (used_names statement)) (leaves_unused draft statement)
        (or_from (list_any (was_used draft) (used_names statement)) (repeats (used_names statement)) none.unused none.once) none.all_used
    each TooMany = none.few
    each BehindOutput = none.last
    each Unreadable = formed.readable

-- ---- one statement after the other

-- none of the statements has a fault, and after them this is declared
abbrev pub Reaches : Draft → List Statement → Draft → Type 0
Reaches draft [] final = draft ≡ final
Reaches draft (statement ∷ statements) final = (fault_of draft statement ≡ None) × Reaches (after draft statement) statements final

pub reaches_append : (draft middle final : Draft) (xs ys : List Statement) → Reaches draft xs middle → Reaches middle ys final → Reaches draft (xs ++ ys) final
reaches_append draft middle final [] ys e r = subst (λ (d : Draft). Reaches d ys final) (sym e) r
reaches_append draft middle final (x ∷ xs) ys h r = (h.0, reaches_append (after draft x) middle final xs ys h.1 r)

pub reaches_built : (draft final : Draft) (statements : List Statement) (line end : ℕ) → Reaches draft statements final → built_from draft (lines_from line statements) end ≡ ended final.version final end
reaches_built draft final [] line end e = ap (λ (d : Draft). ended d.version d end) e
reaches_built draft final (s ∷ ss) line end h =
    ap (λ (o : Option PlanWhy). built_if o line (built_from (after draft s) (lines_from (line + 1) ss) end)) h.0 ∙ reaches_built (after draft s) final ss (line + 1) end h.1
