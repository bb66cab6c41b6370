use Rattle.std.proofs.Common.{ℕ, ◌<◌, ◌∙◌, List, ap, get_or, length, refl, subst, sym}
use Rattle.pj_waiting.specs.Leaving.{puncts_but}
use Rattle.pj_waiting.proofs.Listed.{frees_more, without_more, without_none}
use Rattle.pj_waiting.proofs.waiting.Waiting.leave.Goals as goal

pub loop-ticket-init : goal.loop-ticket-init
loop-ticket-init c = record { puncts = sym (without_none c.args.self.now.puncts); listed = refl }

pub loop-ticket-preserved : goal.loop-ticket-preserved
loop-ticket-preserved c =
    let at = c.loop-ticket.ticket-index in
    let slice = c.as_slice-ticket-items.result.now in
    record {
      puncts = c.remove.ensures.puncts ∙ ap (puncts_but (get_or slice at 0)) c.loop-ticket.invariant.puncts
          ∙ without_more c.args.left.now.goes at (get_or slice at 0) 0 c.args.self.now.puncts (subst (λ (ns : List ℕ). at < length ns) c.as_slice-ticket-items.ensures c.loop-ticket-test.true) (ap (λ (ns : List ℕ). get_or ns at 0) c.as_slice-ticket-items.ensures);
      listed = c.remove.ensures.by_blocker ∙ c.loop-ticket.invariant.listed;
    }

pub loop-listing-preserved : goal.loop-listing-preserved
loop-listing-preserved c =
    let at = c.loop-listing.listing-index in
    let slice = c.as_slice-listing-items.result.now in
    record {
      puncts = c.loop-listing.invariant.puncts;
      listed = frees_more c.args.left.now.freed at (get_or slice at (0, 0)) (0, 0) c.args.self.now.listed c.loop-listing.self-inside.by_blocker c.remove-in-loop-listing.new.self
          (subst (λ (ks : List (ℕ × ℕ)). at < length ks) c.as_slice-listing-items.ensures c.loop-listing-test.true) (ap (λ (ks : List (ℕ × ℕ)). get_or ks at (0, 0)) c.as_slice-listing-items.ensures) c.remove-in-loop-listing.ensures.updates c.loop-listing.invariant.listed;
    }
