-- The auction's plan behind a hub.
use Rattle.std.proofs.Common.{ℕ, ◌<◌, true, false, Result, Ok, Err, length, get_or, sym, ap, ◌∙◌, subst, arith}
use Rattle.std.specs.Prelude.{IfOk}
use Rattle.pj_shape.specs.Columns.{domains_of}
use Rattle.pj_plan.specs.Canonical.{no_node}
use Rattle.pj_plan.specs.Sound.{IsSoundPlan}
use Rattle.pj_scheme.specs.Derived.{schemes_of}
use Rattle.pj_events.specs.Plan.{Operator}
use Rattle.pj_laws.specs.Seats.{HasInput, IsInputOf}
use Rattle.pj_core.specs.Plans.{RunPlan, nodes_of}
use Rattle.pj_core.proofs.Frames.{certs_at, operator-is}
use Rattle.pj_core.proofs.Planned.{nodes-long}
use Rattle.pj_core_laws.proofs.PlainAnswers.{same-streams}
use Rattle.pj_core_laws.proofs.Allowed.{input-of}
use Rattle.pj_hub.proofs.Plans.{schema-is}
use Rattle.pj_test_threads.specs.Auctions.{HasJoin, IsAuction, IsAuctionPlan}

-- ---- the plan

pub has-input : (plan : RunPlan) → IsSoundPlan plan.nodes → (join input : ℕ) → HasJoin plan.nodes join → input < 2 → IsInputOf (nodes_of plan) join input
has-input plan sound join input has lt = (
  (let long = nodes-long plan in let there = has.there in omega (arith, there, long)),
  subst (λ (o : Operator). HasInput o input) (sym (operator-is (schemes_of plan.nodes) plan.certs plan.nodes join has.there))
      (input-of plan.nodes (schemes_of plan.nodes) (certs_at plan.nodes plan.certs join) (get_or plan.nodes join no_node).schema (get_or plan.nodes join no_node).node input (sound.each join has.there).operator has.is (let two = has.two in omega (arith, lt, two))),
)

pub auction-of : (plan : RunPlan) (limit : ℕ) → IsSoundPlan plan.nodes → IsAuctionPlan plan.nodes → IsAuction (record { nodes = nodes_of plan; limit = limit; trace = plan.trace })
auction-of plan limit sound is = record {
  two = ap length (same-streams plan) ∙ is.two;
  items = ap domains_of (schema-is plan 0 (let two = is.two in omega (arith, two))) ∙ is.items;
  bids = ap domains_of (schema-is plan 1 (let two = is.two in omega (arith, two))) ∙ is.bids;
  first = has-input plan sound 2 0 is.join (omega arith);
  second = has-input plan sound 2 1 is.join (omega arith);
}

-- what holds of the one holds of the other
pub if-ok : {A E : Type 0} (r : Result A E) (P Q : A → Type 0) → IfOk r P → ((a : A) → P a → Q a) → IfOk r Q
if-ok (Ok a) P Q p f = f a p
if-ok (Err e) P Q p f = tt
