-- Two more bids.
use Rattle.std.proofs.Common.{◌≡◌, ℕ, suc, ◌+◌, List, ◌++◌, ap, sym, ◌∙◌, append_assoc, arith}
use Rattle.pj_make.specs.Draws.{next_state, state_after}
use Rattle.pj_make.specs.Inputs.{bids_up_to, closed_at, two_bids}

pub bids_more : (seed count number state : ℕ) (old mid two new : List ℕ) → number ≡ suc count → mid ≡ old ++ bids_up_to seed count → state ≡ state_after seed (count + count) → two ≡ mid ++ two_bids state number
    → new ≡ two ++ closed_at number → new ≡ old ++ bids_up_to seed number
bids_more seed count number state old mid two new one first is next last =
    let before = bids_up_to seed count in
    let bids = two_bids (state_after seed (count + count)) number in
    let closed = closed_at number in
    let more : before ++ (bids ++ closed) ≡ bids_up_to seed number =
    ap (λ (n : ℕ). before ++ (two_bids (state_after seed (count + count)) n ++ closed_at n)) one ∙ ap (bids_up_to seed) (sym one) in
    last
    ∙ (ap (λ (xs : List ℕ). xs ++ closed) (next ∙ (ap (λ (xs : List ℕ). xs ++ two_bids state number) first ∙ (ap (λ (s : ℕ). (old ++ before) ++ two_bids s number) is ∙ append_assoc old before bids)))
    ∙ (append_assoc old (before ++ bids) closed ∙ ap (λ (xs : List ℕ). old ++ xs) (append_assoc before bids closed ∙ more)))

pub state_more : (seed count number state next : ℕ) → number ≡ suc count → state ≡ state_after seed (count + count) → next ≡ next_state (next_state state) → next ≡ state_after seed (number + number)
state_more seed count number state next one is then =
    let more : suc (suc (count + count)) ≡ number + number = omega (arith, one) in
    then ∙ (ap (λ (s : ℕ). next_state (next_state s)) is ∙ ap (state_after seed) more)
