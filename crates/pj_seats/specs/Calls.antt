-- What a turn of each call did: the seat with this number had seen one list of entries, and now has seen another.
use Rattle.std.specs.Prelude.{ℕ, List, Option, Result}
use Rattle.std.specs.Bool.{⊤}
use Rattle.pj_pattern.specs.declared.element.Element.{Element}
use Rattle.pj_events.specs.declared.events.Entry.{Entry}
use Rattle.pj_events.specs.declared.events.Event.TheVariants.{Arrive, Give as Given, Sweep as Swept, Drain, Halt, Look as Looked}
use Rattle.pj_events.specs.declared.events.Look.{Look}
use Rattle.pj_events.specs.declared.events.Out.{Out}
use Rattle.pj_events.specs.declared.events.Stop.{Stop}
use Rattle.pj_probe.specs.declared.probe.Found.{Found}
use Rattle.pj_laws.specs.Seats.{HubPlan, seated}
use Rattle.pj_seats.specs.Answers.{Answers, Goes, HandsOut, IsLook, Removes, Turned, call_entry, closing_of}
use Rattle.pj_seats.specs.Probes.{Takes, take_entry}

-- an element came to the stream, or the call was refused
abbrev pub Arrived : HubPlan → ℕ → List Entry → List Entry → ℕ → Element → Result ⊤ Stop → Type 0
Arrived hub seat before after stream element result =
    Turned hub seat before after (call_entry seat (Arrive stream element) 0 result) (Goes hub (Arrive stream element) result)

-- the stream was closed
abbrev pub Closed : HubPlan → ℕ → List Entry → List Entry → ℕ → Result ⊤ Stop → Type 0
Closed hub seat before after stream result =
    let closing = Arrive stream (closing_of hub stream) in Turned hub seat before after (call_entry seat closing 1 result) (Goes hub closing result)

-- a ticket was taken, or none was pending
abbrev pub Took : HubPlan → ℕ → List Entry → List Entry → Result (Option Found) Stop → Type 0
Took hub seat before after result = Turned hub seat before after (take_entry seat result) (Takes hub seat result)

-- the ticket was given
abbrev pub Gave : HubPlan → ℕ → List Entry → List Entry → Found → Result ⊤ Stop → Type 0
Gave hub seat before after probe result =
    let event = Given probe.join probe.ticket in Turned hub seat before after (call_entry seat event 0 result) (Goes hub event result)

-- the input of the join was swept
abbrev pub SweptAt : HubPlan → ℕ → List Entry → List Entry → ℕ → ℕ → Result ℕ Stop → Type 0
SweptAt hub seat before after join input result =
    let event = Swept join input in Turned hub seat before after (call_entry seat event 0 result) (Answers hub event (Removes hub join input) result)

-- what was not drained was handed out
abbrev pub Drained : HubPlan → ℕ → List Entry → List Entry → List Out → Type 0
Drained hub seat before after outs = Turned hub seat before after (λ history. seated seat Drain 0) (HandsOut hub outs)

abbrev pub Halted : HubPlan → ℕ → List Entry → List Entry → Type 0
Halted hub seat before after = Turned hub seat before after (λ history. seated seat Halt 0) (λ history. Unit {0})

abbrev pub Told : HubPlan → ℕ → List Entry → List Entry → Look → Type 0
Told hub seat before after look = Turned hub seat before after (λ history. seated seat (Looked look.pending) 0) (IsLook hub look)
