-- An element that a seat may bring to its stream is allowed.
use Rattle.std.proofs.Common.{ℕ, ◌<◌, false, List, [], ◌∷◌, ◌≡◌, length, refl, sym, ap, ap₂, ◌∙◌, subst, inl, inr, arith}
use Rattle.pj_pattern.specs.declared.element.Element.{Element}
use Rattle.pj_pattern.specs.declared.element.Element.TheVariants.{Punct}
use Rattle.pj_events.specs.Patterns.{all_wild}
use Rattle.pj_events.specs.declared.events.Entry.{Entry}
use Rattle.pj_events.specs.declared.events.Event.TheVariants.{Arrive}
use Rattle.pj_events.specs.Plan.{ArePlanned, MayArrive, Node, Operator, Stream, operator_at}
use Rattle.pj_events.specs.History.{Closes, IsEntryAllowed, IsEventAllowed, IsLegal, IsOn, Reached, begun, nodes_by, nodes_from, reached_of, stream_node, streams_of}
use Rattle.pj_events.specs.Outcomes.{elements_of}
use Rattle.pj_laws.specs.HistoryLaws.{schema_at}
use Rattle.pj_laws.proofs.Histories.{reached-nodes}
use Rattle.pj_laws.proofs.OneRun.{stream-node-there}
use Rattle.pj_laws.proofs.OneThreadAnswer.{streams-hold, wilds-fit}
use Rattle.pj_laws.proofs.Probes.{length-from}
use Rattle.pj_laws.proofs.Steps.{stream_node-same}
use Rattle.pj_laws.specs.Seats.{AreFedByOwn, MayFeed, is_closed, made_by, seated}
use Rattle.pj_laws.proofs.Feeding.{closed-own, elements-own, not-closed}

pub stream-node-from : (nodes : List Node) (h : List Entry) (s : ℕ) → stream_node (nodes_from nodes h) s ≡ stream_node nodes s
stream-node-from nodes [] s = refl
stream-node-from nodes (e ∷ h) s = stream-node-from (nodes_by nodes e.event) h s ∙ stream_node-same nodes e.event s

module _ (plan : List Node) (planned : ArePlanned [] plan) (log : List Entry) (legal : IsLegal plan log) (fed : AreFedByOwn log) (on : IsOn (reached_of false plan log)) (s : ℕ) (there : s < length (streams_of plan)) where
  abbrev r : Reached
  r = reached_of false plan log

  nodes-are : r.nodes ≡ nodes_from plan log
  nodes-are = reached-nodes false (begun plan) log

  place : stream_node r.nodes s ≡ stream_node plan s
  place = ap (λ (ns : List Node). stream_node ns s) nodes-are ∙ stream-node-from plan log s

  holds : operator_at r.nodes (stream_node r.nodes s) ≡ Stream (schema_at plan s) (elements_of s (made_by s log))
  holds =
      ap₂ operator_at nodes-are place
      ∙ streams-hold plan planned log legal s there
      ∙ ap (Stream (schema_at plan s)) (elements-own s log fed)

  -- the element may be fed where it may after the seat's own entries
  pub feeds : (e : Element) → MayFeed plan s (made_by s log) e → IsEventAllowed r (Arrive s e)
  feeds e may = (
    on,
    not-closed false (begun plan) log s refl (closed-own s log fed ∙ may.unclosed),
    (
      (let t = (stream-node-there plan s there).0 in let p = place in let l = ap length nodes-are in omega (arith, t, p, l, length-from plan log)),
      subst (λ (o : Operator). MayArrive o e) (sym holds) (may.clear, may.fits),
    ),
  )

  pub feeds-entry : (e : Element) (n : ℕ) → MayFeed plan s (made_by s log) e → IsEntryAllowed r (seated n (Arrive s e) 0)
  feeds-entry e n may = (feeds e may, inl refl)

  abbrev closing : Element
  closing = Punct (all_wild (length (schema_at plan s)))

  may-close : is_closed s (made_by s log) ≡ false → MayFeed plan s (made_by s log) closing
  may-close unclosed = record { fits = wilds-fit (schema_at plan s); clear = tt; unclosed = unclosed }

  pub closes-entry : (n : ℕ) → is_closed s (made_by s log) ≡ false → IsEntryAllowed r (seated n (Arrive s closing) 1)
  closes-entry n unclosed = (feeds closing (may-close unclosed), inr (refl, subst (λ (o : Operator). Closes o closing) (sym holds) refl))
