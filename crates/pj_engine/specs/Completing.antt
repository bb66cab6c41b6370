-- When a call is done over files and an output that never fail.
use Rattle.std.specs.Prelude.{◌≡◌, ◌⊎◌}
use Rattle.pj_report.specs.declared.status.Status.{Status}
use Rattle.pj_report.specs.declared.status.Status.TheVariants.{Done, NoMemory}
use Rattle.pj_prepare.specs.Calls.{Call}
use Rattle.pj_alone.specs.Completeness.{HasRoom}
use Rattle.pj_alone.specs.Top.{IsFit, IsPlayable}

-- What is asked for is fit, its script can be played, and no limit is gone beyond: so the call is done, or memory was wanting. As
-- `Completes`, but without a premise: all files are told, and no count of faults can rise
abbrev pub CompletesSteadily : Status → Call → Type 0
CompletesSteadily answer call = IsFit call.task call → IsPlayable call → HasRoom call → (answer ≡ Done) ⊎ (answer ≡ NoMemory)
