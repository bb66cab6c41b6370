-- Why there is no plan to run, from the plan of the file up to the words.
use Rattle.std.proofs.Common.{◌≡◌, ◌≤◌, inl, ℕ, Bool, List, [], ◌∷◌, length, Option, Some, None, Result, Ok, Err, IsTrue, refl, ap, sym, ◌∙◌, subst}
use Rattle.pj_io.specs.Folders.{SameElsewhere}
use Rattle.pj_io.specs.States.{FolderState}
use Rattle.pj_plan.specs.declared.fault.PlanFault.{PlanFault}
use Rattle.pj_shape.specs.declared.joins.CertStep.{CertStep}
use Rattle.pj_plan.specs.declared.node.Outline.{Outline}
use Rattle.pj_plan.specs.Kept.{IsMadeAgain}
use Rattle.pj_plan.specs.Sound.{IsSoundPlan}
use Rattle.pj_plan_text.specs.PlanRead.{plan_read}
use Rattle.pj_safety.specs.Certificates.{AreCertificates, certificates_of}
use Rattle.pj_core.specs.Plans.{RunPlan, nodes_of, run_plan}
use Rattle.pj_laws.specs.HistoryLaws.{AllAreCertified}
use Rattle.pj_core.specs.Cores.{CoreState}
use Rattle.pj_core.specs.Calls.{IsFresh}
use Rattle.pj_prepare.specs.declared.stops.FileStop.{FileStop}
use Rattle.pj_prepare.specs.declared.stops.FileStop.TheVariants.{OpenFault as NotOpened, ReadFault as NotRead, TooLong, NoMemory as FileMemory}
use Rattle.pj_prepare.specs.declared.stops.PlanStop.{PlanStop}
use Rattle.pj_prepare.specs.declared.stops.PlanStop.TheVariants.{File as PlanFile, Refused, FileCount as OtherCount, Unsafe as Stuck, NoMemory as PlanMemory}
use Rattle.pj_feed.specs.Opened.{OpensFirst, StayOutside}
use Rattle.pj_feed.proofs.Outside.{stay_elsewhere}
use Rattle.pj_run.specs.PlanNames.{HasShortNames}
use Rattle.pj_prepare.specs.Plans.{outline_in, plan_of, plan_if, SpellsPlan}
use Rattle.pj_prepare.specs.Refusals.{BytesRefused, FileCause, FileOpens, HasLines, PlanCause, PlanUnfit}
use Rattle.pj_run.specs.Runs.{IsNewCore}
use Rattle.pj_safe_core.proofs.Certified.{run_certified}
use Rattle.pj_prepare.proofs.NameLaws.{plain_names}

-- ---- a plan

-- the plan as it is run, with the certificates that are found for its nodes
abbrev as_run : RunPlan → RunPlan
as_run plan = run_plan plan.nodes (certificates_of plan.nodes) plan.trace

-- a new core of a plan
pub new_core : (core : CoreState) (plan : Outline) (certs : List (List (List CertStep))) (trace : Bool) (limit : ℕ) → IsFresh core (run_plan plan.nodes certs trace) limit → IsSoundPlan plan.nodes → IsMadeAgain plan
    → certs ≡ certificates_of plan.nodes → AreCertificates plan.nodes → IsNewCore core
new_core core plan certs trace limit fresh sound made found are =
    let back = sym fresh.of_plan in
    let of_certs : IsFresh core (as_run (run_plan plan.nodes certs trace)) limit = subst (λ (cs : List (List (List CertStep))). IsFresh core (run_plan plan.nodes cs trace) limit) found fresh in
    record {
      fresh = subst (IsFresh core (as_run core.plan)) (sym fresh.with_limit) (subst (λ (p : RunPlan). IsFresh core (as_run p) limit) back of_certs);
      certified = subst (λ (p : RunPlan). AllAreCertified (nodes_of (as_run p))) back (run_certified plan.nodes trace sound are);
      names = subst (λ (p : RunPlan). HasShortNames p.nodes) back (plain_names plan made);
      sound = fresh.sound;
    }

-- ---- bytes

-- the bytes spell the plan of a core
pub spelled : (bytes : List ℕ) (plan : Outline) (core : CoreState) → plan_read bytes ≡ Ok plan → outline_in core ≡ plan → plan_of bytes ≡ Some (outline_in core)
spelled bytes plan core read same = ap plan_if read ∙ ap (λ (p : Outline). Some p) (sym same)

-- where the folder tells the bytes that were read, they spell this plan
pub spelled_plan : (bytes contents : List ℕ) (plan : Outline) → bytes ≡ contents → length bytes ≤ 1048576 → plan_read bytes ≡ Ok plan → SpellsPlan contents plan
spelled_plan bytes contents plan same few read = subst (λ (bs : List ℕ). SpellsPlan bs plan) same (ap plan_if read, few)

-- bytes that spell a plan are read as it
pub read_as : (bytes : List ℕ) (plan : Outline) → plan_of bytes ≡ Some plan → plan_read bytes ≡ Ok plan
read_as bytes plan e = go (plan_read bytes) refl e
  where
    go : (r : Result Outline PlanFault) → plan_read bytes ≡ r → plan_if r ≡ Some plan → plan_read bytes ≡ Ok plan
    go (Ok p) is q = let same : p ≡ plan = cc in is ∙ ap Ok same
    go (Err fault) is q = absurd (cc)

pub unfit_bytes : (stop : PlanStop) (files : Option ℕ) (bytes : List ℕ) (plan : Outline) → plan_read bytes ≡ Ok plan → PlanUnfit stop files plan → BytesRefused stop files bytes
unfit_bytes (PlanFile stop) files bytes plan read u = absurd u
unfit_bytes (Refused fault) files bytes plan read u = absurd u
unfit_bytes (OtherCount want got) files bytes plan read u = (plan, read, u)
unfit_bytes (Stuck found) files bytes plan read u = (plan, read, u)
unfit_bytes PlanMemory files bytes plan read u = tt

-- ---- the plan's file

pub file_cause : (stop : FileStop) (files : Option ℕ) (name : List ℕ) (old new : FolderState) → FileCause stop name old new → FileOpens stop name old new → PlanCause (PlanFile stop) files name old new
file_cause NotOpened files name old new cause opens = (opens.0, cause, opens.1)
file_cause NotRead files name old new cause opens = (opens, cause)
file_cause TooLong files name old new cause opens = (opens, cause)
file_cause FileMemory files name old new cause opens = tt

module _ (files : Option ℕ) (name bytes : List ℕ) (old new : FolderState) (is : IsTrue (old.told name) → bytes ≡ old.contents name) (few : length bytes ≤ 1048576) (opened : OpensFirst 1 (name ∷ []) old new) where
  -- what the bytes that were read are is so of those that the folder tells
  told_so : (result : Result Outline PlanFault) → plan_read bytes ≡ result → IsTrue (old.told name) → (length (old.contents name) ≤ 1048576) × (plan_read (old.contents name) ≡ result)
  told_so result read told = subst (λ (bs : List ℕ). (length bs ≤ 1048576) × (plan_read bs ≡ result)) (is told) (few, read)

  pub bytes_cause : (stop : PlanStop) → BytesRefused stop files bytes → HasLines stop → PlanCause stop files name old new
  bytes_cause (PlanFile stop) b lines = absurd b
  bytes_cause (Refused fault) b lines = (opened, told_so (Err fault) b)
  bytes_cause (OtherCount want got) b lines = (opened, b.0, b.2, told_so (Ok b.0) b.1)
  bytes_cause (Stuck found) b lines = ((opened, b.0, b.2, told_so (Ok b.0) b.1), lines)
  bytes_cause PlanMemory b lines = tt

-- of other names nothing changes
pub stay_but : (name : List ℕ) (old new : FolderState) → SameElsewhere name old.faults new.faults → SameElsewhere name old.last new.last → StayOutside (name ∷ []) old new
stay_but name old new faults last = stay_elsewhere (name ∷ []) name old new (inl refl) faults last

-- ---- a plan that was read, and is to be run

module _ (files : ℕ) (name : List ℕ) (old new : FolderState) where
  -- a file in which there is no plan at all has none for so many files
  pub cause_of_run : (stop : PlanStop) → PlanCause stop None name old new → PlanCause stop (Some files) name old new
  cause_of_run (PlanFile NotOpened) c = c
  cause_of_run (PlanFile NotRead) c = c
  cause_of_run (PlanFile TooLong) c = c
  cause_of_run (PlanFile FileMemory) c = tt
  cause_of_run (Refused fault) c = c
  cause_of_run (OtherCount want got) c = absurd c.2
  cause_of_run (Stuck found) c = absurd c.0.2
  cause_of_run PlanMemory c = tt

  -- the plan that was read is not fit to be run
  pub unfit_cause : (stop : PlanStop) (plan : Outline) → OpensFirst 1 (name ∷ []) old new → (IsTrue (old.told name) → SpellsPlan (old.contents name) plan) → PlanUnfit stop (Some files) plan → HasLines stop → PlanCause stop (Some files) name old new
  unfit_cause (PlanFile stop) plan opened read u lines = absurd u
  unfit_cause (Refused fault) plan opened read u lines = absurd u
  unfit_cause (OtherCount want got) plan opened read u lines = (opened, plan, u, λ told. let r = read told in (r.1, read_as (old.contents name) plan r.0))
  unfit_cause (Stuck found) plan opened read u lines = ((opened, plan, u, λ told. let r = read told in (r.1, read_as (old.contents name) plan r.0)), lines)
  unfit_cause PlanMemory plan opened read u lines = tt

-- the bytes spell the plan of the core that was made of it
pub spelled_core : (bytes : List ℕ) (plan : Outline) (core : CoreState) → SpellsPlan bytes plan → outline_in core ≡ plan → SpellsPlan bytes (outline_in core)
spelled_core bytes plan core read same = subst (SpellsPlan bytes) (sym same) read
