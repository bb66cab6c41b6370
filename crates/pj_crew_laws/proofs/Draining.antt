-- What the drains of the one writer handed out.
use Rattle.std.proofs.Common.{ℕ, Bool, true, false, cond, List, [], ◌∷◌, ◌++◌, ◌≡◌, inl, inr, refl, sym, ap, ◌∙◌, append_assoc, append-nil}
use Rattle.std.proofs.lemmas.Bool.{eq-eqb, false≢true}
use Rattle.pj_value.specs.Lists.{In}
use Rattle.pj_events.specs.declared.events.Entry.{Entry}
use Rattle.pj_events.specs.declared.events.Event.{Event}
use Rattle.pj_events.specs.declared.events.Event.TheVariants.{Arrive, Take as Taken, Give as Given, Sweep as Swept, Drain, Halt, Look as Looked, Stopped, Idle}
use Rattle.pj_events.specs.declared.events.Out.{Out}
use Rattle.pj_events.specs.History.{Reached, begun, gained, next, nodes_by, reached_from, undrained_after}
use Rattle.pj_events.specs.Outcomes.{drained_by, drained_from, outputs_of}
use Rattle.pj_laws.proofs.Nodes.{drain-silent}
use Rattle.pj_crew_laws.specs.Acts.{is_writer}
use Rattle.pj_crew_laws.specs.Crews.{OfCrews, WriterDrainsAll}
use Rattle.pj_crew_laws.proofs.Tests.{IsOfNoRound}
use Rattle.pj_crew_laws.proofs.Makers.{IsMade, made-of, none-made}

abbrev is_drain : Event → Bool
is_drain Drain = true
is_drain _ = false

drains-in-none : IsOfNoRound is_drain
drains-in-none = record {
  looks = λ pending. refl;
  idles = refl;
  takes = λ join ticket. refl;
  gives = λ join ticket. refl;
  sweeps = λ join input. refl;
  arrives = λ stream element. refl;
}

-- each drain among these entries was made by this seat
abbrev AreDrainedBy : ℕ → List Entry → Type 0
AreDrainedBy seat entries = (entry : Entry) → In entry entries → is_drain entry.event ≡ true → entry.seat ≡ seat

drained-all : (trace : Bool) (r : Reached) (h : List Entry) (seat : ℕ) → AreDrainedBy seat h
    → (drained_from trace r h seat ++ (reached_from trace r h).undrained) ≡ r.undrained ++ outputs_of trace r.nodes h
drained-all trace r [] seat by = sym (append-nil r.undrained)
drained-all trace r (entry ∷ h) seat by =
    append_assoc (drained_by seat entry.seat r.undrained entry.event) (drained_from trace (next trace r entry) h seat) (reached_from trace (next trace r entry) h).undrained
    ∙ ap (λ (outs : List Out). drained_by seat entry.seat r.undrained entry.event ++ outs) (drained-all trace (next trace r entry) h seat (λ other i. by other (inr i)))
    ∙ now entry.event (by entry (inl refl))
  where
    rest : List Out
    rest = outputs_of trace (nodes_by r.nodes entry.event) h

    held : (event : Event) → (r.undrained ++ gained trace r.nodes event) ++ rest ≡ r.undrained ++ (gained trace r.nodes event ++ rest)
    held event = append_assoc r.undrained (gained trace r.nodes event) rest

    now : (event : Event) → (is_drain event ≡ true → entry.seat ≡ seat) → drained_by seat entry.seat r.undrained event ++ (undrained_after trace r event ++ rest) ≡ r.undrained ++ (gained trace r.nodes event ++ rest)
    now (Arrive stream e) by = held (Arrive stream e)
    now (Taken join ticket) by = held (Taken join ticket)
    now (Given join ticket) by = held (Given join ticket)
    now (Swept join input) by = held (Swept join input)
    now Drain by =
        ap (λ (b : Bool). cond b r.undrained [] ++ rest) (eq-eqb entry.seat seat (by refl))
        ∙ ap (λ (outs : List Out). r.undrained ++ (outs ++ rest)) (sym (drain-silent trace r.nodes))
    now Halt by = held Halt
    now (Looked pending) by = held (Looked pending)
    now (Stopped stop) by = held (Stopped stop)
    now Idle by = held Idle

pub writer-drains-all : OfCrews WriterDrainsAll
writer-drains-all hub planned acts history crew writer alone =
    drained-all hub.trace (begun hub.nodes) history writer (λ entry i drain. go entry (made-of hub acts history crew entry i) drain)
  where
    go : (entry : Entry) → IsMade hub acts history entry → is_drain entry.event ≡ true → entry.seat ≡ writer
    go entry made drain = alone entry.seat made.act made.did (writes (is_writer made.act) refl)
      where
        writes : (writer : Bool) → is_writer made.act ≡ writer → writer ≡ true
        writes true q = refl
        writes false q = absurd (false≢true (sym (none-made hub acts history crew is_drain drains-in-none entry made (record {
          drains = λ writer. absurd (false≢true (sym q ∙ writer));
          halts = λ fault. refl;
          stops = λ stop told. refl;
        })) ∙ drain))
