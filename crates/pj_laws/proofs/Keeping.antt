-- What a hub keeps of its history, it keeps of the history with one more entry.
use Rattle.std.proofs.Common.{ℕ, List, [], ◌∷◌, ◌++◌, ◌≡◌, None}
use Rattle.pj_events.specs.declared.events.Entry.{Entry}
use Rattle.pj_events.specs.declared.events.Event.{Event}
use Rattle.pj_events.specs.History.{IsLegal}
use Rattle.pj_events.specs.Join.{In}
use Rattle.pj_events.specs.Outcomes.{goes_beyond}
use Rattle.pj_laws.specs.Seats.{HubPlan, IsFedByOwn, KeptByPlan, KeptBySeats, StopsWhereDue, giver_by, seated, takers}
use Rattle.pj_laws.proofs.Lists.{due-more, fed-more, given-more}
use Rattle.pj_laws.proofs.Quiet.{within-more}
use Rattle.pj_laws.proofs.Reseat.{legal-same}

pub keeps-plan : (hub : HubPlan) (h : List Entry) (n : ℕ) (event : Event) (closing : ℕ) → KeptByPlan hub h → IsLegal hub.nodes (h ++ seated 0 event closing ∷ []) → goes_beyond hub.limit hub.nodes h event ≡ None
    → StopsWhereDue hub.limit hub.nodes h event → KeptByPlan hub (h ++ seated n event closing ∷ [])
keeps-plan hub h n event closing k legal within due = record {
  legal = legal-same hub.nodes h event closing 0 n legal;
  within = within-more hub.limit hub.nodes h (seated n event closing) k.within within;
  stops = due-more hub.limit hub.nodes [] h (seated n event closing) k.stops due;
}

pub keeps-seats : (h : List Entry) (n : ℕ) (event : Event) (closing : ℕ) → KeptBySeats h → IsFedByOwn n event → ((j u a : ℕ) → In a (giver_by j u n event) → In a (takers j u h)) → KeptBySeats (h ++ seated n event closing ∷ [])
keeps-seats h n event closing k fed given = record {
  fed = fed-more h (seated n event closing) k.fed fed;
  given = given-more h (seated n event closing) k.given given;
}
