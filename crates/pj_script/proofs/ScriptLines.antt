-- The lines of a script, one by one.
use Rattle.std.proofs.Common.{◌≡◌, ℕ, ◌+◌, ◌≤◌, ◌<◌, Bool, true, false, cond, List, [], ◌∷◌, ◌++◌, Option, Some, None, Ok, Err, length, refl, ap, sym, ◌∙◌, append_assoc, append-nil, arith}
use Rattle.std.specs.Prelude.{Result}
use Rattle.pj_line.specs.Lines.{pieces}
use Rattle.pj_plan.specs.declared.node.PlanNode.{PlanNode}
use Rattle.pj_plan_text.specs.PlanRead.{is_passed}
use Rattle.pj_script.specs.declared.step.ScriptStep.{ScriptStep}
use Rattle.pj_script.specs.Reading.{script_from, script_read, step_on, with_step}

-- these steps in front of others
abbrev in_front : List (ℕ × ScriptStep) → Result (List (ℕ × ScriptStep)) ℕ → Result (List (ℕ × ScriptStep)) ℕ
in_front front (Ok steps) = Ok (front ++ steps)
in_front front (Err line) = Err line

none_in_front : (said : Result (List (ℕ × ScriptStep)) ℕ) → said ≡ in_front [] said
none_in_front (Ok steps) = refl
none_in_front (Err line) = refl

one_more : (front : List (ℕ × ScriptStep)) (line : ℕ) (step : ScriptStep) (said : Result (List (ℕ × ScriptStep)) ℕ) → in_front front (with_step line (Some step) said) ≡ in_front (front ++ (line, step) ∷ []) said
one_more front line step (Ok steps) = ap Ok (sym (append_assoc front ((line, step) ∷ []) steps))
one_more front line step (Err fault) = refl

-- the first lines are these steps, and the next has this number
pub record ReadSoFar (nodes : List PlanNode) (bytes : List ℕ) (done : List (ℕ × ScriptStep)) (line : ℕ) (rest : List ℕ) : Type 0 where
  pub read : script_read nodes bytes ≡ in_front done (script_from nodes line (pieces rest))
  pub bound : line + length rest ≤ length bytes + 1

pub reading_starts : (nodes : List PlanNode) (bytes : List ℕ) → ReadSoFar nodes bytes [] 1 bytes
reading_starts nodes bytes = record { read = none_in_front (script_read nodes bytes); bound = omega arith }

next : (nodes : List PlanNode) (line : ℕ) (rest behind piece : List ℕ) (b : Bool) → pieces rest ≡ piece ∷ pieces behind → is_passed piece ≡ b
    → script_from nodes line (pieces rest) ≡ cond b (script_from nodes (line + 1) (pieces behind)) (with_step line (step_on nodes piece) (script_from nodes (line + 1) (pieces behind)))
next nodes line rest behind piece b cut is = rw (cut, is) refl

pub line_passed : (nodes : List PlanNode) (bytes rest behind piece : List ℕ) (done : List (ℕ × ScriptStep)) (line : ℕ) → ReadSoFar nodes bytes done line rest → pieces rest ≡ piece ∷ pieces behind → length behind < length rest → is_passed piece ≡ true
    → ReadSoFar nodes bytes done (line + 1) behind
line_passed nodes bytes rest behind piece done line before cut shorter is = record {
  read = before.read ∙ ap (in_front done) (next nodes line rest behind piece true cut is);
  bound = omega (arith, before.bound, shorter);
}

pub line_read : (nodes : List PlanNode) (bytes rest behind piece : List ℕ) (done : List (ℕ × ScriptStep)) (line : ℕ) (step : ScriptStep) → ReadSoFar nodes bytes done line rest → pieces rest ≡ piece ∷ pieces behind → length behind < length rest → is_passed piece ≡ false → Some step ≡ step_on nodes piece
    → ReadSoFar nodes bytes (done ++ (line, step) ∷ []) (line + 1) behind
line_read nodes bytes rest behind piece done line step before cut shorter is said = record {
  read = before.read
      ∙ (ap (in_front done) (next nodes line rest behind piece false cut is ∙ ap (λ (o : Option ScriptStep). with_step line o (script_from nodes (line + 1) (pieces behind))) (sym said))
      ∙ one_more done line step (script_from nodes (line + 1) (pieces behind)));
  bound = omega (arith, before.bound, shorter);
}

pub line_bad : (nodes : List PlanNode) (bytes rest behind piece : List ℕ) (done : List (ℕ × ScriptStep)) (line : ℕ) → ReadSoFar nodes bytes done line rest → pieces rest ≡ piece ∷ pieces behind → is_passed piece ≡ false → None ≡ step_on nodes piece → script_read nodes bytes ≡ Err line
line_bad nodes bytes rest behind piece done line before cut is said =
    before.read ∙ ap (in_front done) (next nodes line rest behind piece false cut is ∙ ap (λ (o : Option ScriptStep). with_step line o (script_from nodes (line + 1) (pieces behind))) (sym said))

pub reading_ends : (nodes : List PlanNode) (bytes rest : List ℕ) (done : List (ℕ × ScriptStep)) (line : ℕ) → ReadSoFar nodes bytes done line rest → rest ≡ [] → script_read nodes bytes ≡ Ok done
reading_ends nodes bytes rest done line so end =
    so.read ∙ (ap (λ (r : List ℕ). in_front done (script_from nodes line (pieces r))) end ∙ ap Ok (append-nil done))
