use Rattle.std.proofs.Common.{ℕ, ◌<◌, ◌≡◌, length, ap, refl, sym, ◌∙◌, subst, arith}
use Rattle.std.proofs.lemmas.Bool.{false≢true}
use Rattle.pj_plan.specs.Nodes.{joins_of}
use Rattle.pj_safe_core.proofs.OneByOne.{FirstVerified, all_verified, at_place, one_more_join, one_unverified}
use Rattle.pj_safe_core.proofs.checks.are_verified.Goals as goal

pub returns-then-not-branch : goal.returns-then-not-branch
returns-then-not-branch c =
    let n : ℕ = c.loop-place.place in
    let low : n < length c.joins-joins.result.now = omega (arith, c.loop-place-test.true) in
    let there : n < length c.args.certs.now = omega (arith, c.if-certs-joins.false, low) in
    let told = at_place c.args.plan.now.nodes c.joins-joins.result.now c.args.certs.now n c.index-certs-place.result c.as_slice.result.now c.in_ok-is_verified_at.field-0 c.joins-joins.ensures c.as_slice.ensures c.index-certs-place.is there c.in_ok-is_verified_at.ensures in (
      λ t. absurd (false≢true t),
      λ are. absurd (one_unverified c.args.plan.now.nodes c.args.certs.now n (let long = ap length c.joins-joins.ensures in omega (arith, low, long)) (λ at. false≢true (sym c.if-not-branch.true ∙ told.1 at)) are),
    )

pub loop-place-preserved : goal.loop-place-preserved
loop-place-preserved c =
    let n : ℕ = c.loop-place.place in
    let low : n < length c.joins-joins.result.now = omega (arith, c.loop-place-test.true) in
    let there : n < length c.args.certs.now = omega (arith, c.if-certs-joins.false, low) in
    let told = at_place c.args.plan.now.nodes c.joins-joins.result.now c.args.certs.now n c.index-certs-place.result c.as_slice.result.now c.in_ok-is_verified_at.field-0 c.joins-joins.ensures c.as_slice.ensures c.index-certs-place.is there c.in_ok-is_verified_at.ensures in
    one_more_join c.args.plan.now.nodes c.args.certs.now n c.loop-place.invariant (told.0 c.if-not-branch.false)

pub returns : goal.returns
returns c =
    let long : length c.joins-joins.result.now ≡ length (joins_of c.args.plan.now.nodes) = ap length c.joins-joins.ensures in
    let end : c.loop-place.place ≡ length (joins_of c.args.plan.now.nodes) = omega (arith, long, c.loop-place-test.false) in
    let same : length c.args.certs.now ≡ length (joins_of c.args.plan.now.nodes) = omega (arith, long, c.if-certs-joins.false) in
    (λ t. all_verified c.args.plan.now.nodes c.args.certs.now same (subst (FirstVerified c.args.plan.now.nodes c.args.certs.now) end c.loop-place.invariant), λ are. refl)
