-- What a crew that ended its streams comes to, once its core is settled.
use Rattle.std.proofs.Common.{ℕ, ◌<◌, true, List, [], ◌∷◌, ◌++◌, ◌≡◌, length, sym, ap, ap₂, ◌∙◌, subst, append_assoc, append-nil}
use Rattle.pj_pattern.specs.declared.element.Element.{Element}
use Rattle.pj_events.specs.declared.events.Entry.{Entry}
use Rattle.pj_events.specs.declared.events.Event.TheVariants.{Drain}
use Rattle.pj_events.specs.declared.events.Out.{Out}
use Rattle.pj_events.specs.History.{IsComplete, IsLegal, nodes_from, reached_of, streams_of}
use Rattle.pj_events.specs.Limits.{StaysWithin}
use Rattle.pj_events.specs.OneThread.{places_from, plain}
use Rattle.pj_events.specs.Outcomes.{drained_of, elements_of, outputs_of}
use Rattle.pj_laws.specs.HistoryLaws.{AllAreCertified, closed_list}
use Rattle.pj_laws.proofs.Histories.{outputs-append}
use Rattle.pj_laws.proofs.Limits.{within-append}
use Rattle.pj_laws.proofs.Nodes.{drain-silent}
use Rattle.pj_laws.proofs.OneRun.{elements-append}
use Rattle.pj_plan.specs.Nodes.{streams_in}
use Rattle.pj_plan.specs.Sound.{IsSoundPlan}
use Rattle.pj_core.specs.Cores.{CoreState, StandsFor, nodes_after, nodes_in}
use Rattle.pj_core.specs.Plans.{RunPlan, nodes_of}
use Rattle.pj_core.specs.Turns.{finishing, probing, swept_where, working}
use Rattle.pj_core.proofs.Planned.{planned}
use Rattle.pj_core_laws.specs.Settling.{HasEnded}
use Rattle.pj_core_laws.proofs.Settles.{settled-is-complete}
use Rattle.pj_feed.specs.Feeds.{FeedState, accepted_of, files_of}
use Rattle.pj_run.specs.Jobs.{Job}
use Rattle.pj_run.specs.Runs.{plan_run, run_nodes}
use Rattle.pj_run.proofs.Arrivals.{none-from, none-swept}
use Rattle.pj_crew_laws.specs.Acts.{Act, Fed}
use Rattle.pj_crew_laws.specs.Crews.{AllWhole, FeedsAll, HasEndedAll}
use Rattle.pj_crew_laws.proofs.Ending.{whole-crews-end}
use Rattle.pj_crew_laws.proofs.Draining.{writer-drains-all}
use Rattle.pj_crew_runs.specs.Runs.{HandsOutAll, IsCrewRun, IsSettled, OfCrewRuns, SettlesWhole, hub_of}
use Rattle.pj_crew_runs.proofs.Fronts.{arrives, brought-is, ended-is, feed-there, same-feed}

-- nothing arrives as a core is settled
none-arrive : (core : CoreState) (h : List Entry) (stream : ℕ) → elements_of stream (finishing true core h) ≡ []
none-arrive core h stream =
    elements-append stream (working true core h) (plain Drain ∷ [])
    ∙ (append-nil (elements_of stream (working true core h))
    ∙ (elements-append stream (probing core h) swept
    ∙ ap₂ (λ (xs ys : List Element). xs ++ ys) (none-from stream (length (nodes_after core h)) 0 (nodes_after core h)) (none-swept stream (nodes_after core behind) (places_from 0 (nodes_after core behind)))))
  where
    behind : List Entry
    behind = h ++ probing core h

    swept : List Entry
    swept = swept_where true core behind

module _ (job : Job) (sound : IsSoundPlan job.nodes) (certified : AllAreCertified (run_nodes job)) (feeds : List FeedState) (acts : List Act) (history : List Entry) (run : IsCrewRun job feeds acts history)
    (old new : CoreState) (outs : List Out) (s : IsSettled job history old new outs) where
  nodes-are : nodes_in old ≡ run_nodes job
  nodes-are = ap nodes_of s.plan

  abbrev whole : List Entry
  whole = history ++ finishing true old history

  stands : StandsFor new whole
  stands = s.finishes.makes.stands history s.stood

  legal : IsLegal (run_nodes job) whole
  legal = subst (λ (p : RunPlan). IsLegal (nodes_of p) whole) (s.finishes.makes.plan ∙ s.plan) stands.legal

  within : StaysWithin job.limit (run_nodes job) [] whole
  within =
      within-append job.limit (run_nodes job) [] history (finishing true old history) run.crew.by_plan.within
      (subst (λ n. StaysWithin n (run_nodes job) history (finishing true old history)) s.limit (subst (λ ns. StaysWithin old.limit ns history (finishing true old history)) nodes-are (s.finishes.makes.within history s.stood)))

  module _ (all : AllWhole acts) where
    feeds-all : FeedsAll (hub_of job) acts
    feeds-all stream lt =
        let there = feed-there job sound feeds acts history run stream lt in
        let fed = run.fed stream there.0 there.1 in
        (there.0, fed.new, fed.end, fed.did)

    ended : HasEndedAll (hub_of job) history
    ended = whole-crews-end (hub_of job) (planned (plan_run job) sound) acts history run.crew feeds-all all

    has-ended : HasEnded old history
    has-ended = subst (λ (p : RunPlan). HasEnded (record old { plan = p }) history) (sym s.plan) (record { closed = ended.closed; given = ended.given })

    complete : IsComplete (run_nodes job) whole
    complete =
        subst (λ ns. IsComplete ns whole) nodes-are
        (settled-is-complete old (subst (λ (p : RunPlan). IsSoundPlan p.nodes) (sym s.plan) sound) (subst AllAreCertified (sym nodes-are) certified) new outs s.finishes history s.stood has-ended)

    arrived : (stream : ℕ) → stream < length (streams_of (run_nodes job)) → elements_of stream whole ≡ closed_list (run_nodes job) (accepted_of (streams_in job.nodes) (files_of feeds)) stream
    arrived stream lt =
        let there = feed-there job sound feeds acts history run stream lt in
        let a = arrives job sound feeds acts history run stream there.0 there.1 in
        elements-append stream history (finishing true old history)
        ∙ (ap (λ (es : List Element). elements_of stream history ++ es) (none-arrive old history stream)
        ∙ (append-nil (elements_of stream history)
        ∙ (a.1.whole (ended-is a.0.end (all stream (Fed there.0 a.0.new a.0.end) a.0.did))
        ∙ brought-is job sound feeds acts history run stream there.0 a.0.new there.1 (same-feed job sound feeds acts history run stream there.0 a.0))))

pub settles-whole : OfCrewRuns SettlesWhole
settles-whole job sound certified feeds acts history run all old new outs s = record {
  legal = legal job sound certified feeds acts history run old new outs s;
  whole = record { complete = complete job sound certified feeds acts history run old new outs s all; arrived = arrived job sound certified feeds acts history run old new outs s all };
  within = within job sound certified feeds acts history run old new outs s;
}

pub hands-out-all : OfCrewRuns HandsOutAll
hands-out-all job sound certified feeds acts history run writer alone old new outs s =
    ap (λ (os : List Out). drained ++ os) handed
    ∙ (sym (append_assoc drained undrained later)
    ∙ (ap (λ (os : List Out). os ++ later) (writer-drains-all (hub_of job) (planned (plan_run job) sound) acts history run.crew writer alone)
    ∙ (ap (λ (os : List Out). outputs_of job.trace (run_nodes job) history ++ os) (sym drained-too) ∙ sym (outputs-append job.trace (run_nodes job) history (finishing true old history)))))
  where
    drained : List Out
    drained = drained_of job.trace (run_nodes job) history writer

    undrained : List Out
    undrained = (reached_of job.trace (run_nodes job) history).undrained

    later : List Out
    later = outputs_of job.trace (nodes_from (run_nodes job) history) (working true old history)

    handed : outs ≡ undrained ++ later
    handed =
        s.finishes.hands history s.stood
        ∙ (ap (λ (os : List Out). os ++ outputs_of old.plan.trace (nodes_after old history) (working true old history)) s.stood.stands.1
        ∙ ap (λ (p : RunPlan). (reached_of p.trace (nodes_of p) history).undrained ++ outputs_of p.trace (nodes_from (nodes_of p) history) (working true old history)) s.plan)

    drained-too : outputs_of job.trace (nodes_from (run_nodes job) history) (finishing true old history) ≡ later
    drained-too =
        outputs-append job.trace (nodes_from (run_nodes job) history) (working true old history) (plain Drain ∷ [])
        ∙ (ap (λ (os : List Out). later ++ (os ++ [])) (drain-silent job.trace (nodes_from (nodes_from (run_nodes job) history) (working true old history))) ∙ append-nil later)
