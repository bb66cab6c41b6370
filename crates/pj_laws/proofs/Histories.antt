-- Histories in two parts.
use Rattle.std.proofs.Common.{ℕ, Bool, false, List, [], ◌∷◌, ◌++◌, ◌≡◌, refl, sym, ap, ◌∙◌, append_assoc}
use Rattle.pj_events.specs.Plan.{Node}
use Rattle.pj_events.specs.declared.events.Entry.{Entry}
use Rattle.pj_events.specs.declared.events.Out.{Out}
use Rattle.pj_events.specs.History.{Reached, next, nodes_by, nodes_from, gained, reached_from, AreEntriesLegal}
use Rattle.pj_events.specs.Outcomes.{Arrival, arrivals_at, arrivals_by, outputs_of}

pub nodes-append : (nodes : List Node) (xs ys : List Entry) → nodes_from nodes (xs ++ ys) ≡ nodes_from (nodes_from nodes xs) ys
nodes-append nodes [] ys = refl
nodes-append nodes (x ∷ xs) ys = nodes-append (nodes_by nodes x.event) xs ys

pub reached-append : (trace : Bool) (r : Reached) (xs ys : List Entry) → reached_from trace r (xs ++ ys) ≡ reached_from trace (reached_from trace r xs) ys
reached-append trace r [] ys = refl
reached-append trace r (x ∷ xs) ys = reached-append trace (next trace r x) xs ys

pub legal-append : (r : Reached) (xs ys : List Entry) → AreEntriesLegal r xs → AreEntriesLegal (reached_from false r xs) ys → AreEntriesLegal r (xs ++ ys)
legal-append r [] ys a b = b
legal-append r (x ∷ xs) ys a b = (a.0, legal-append (next false r x) xs ys a.1 b)

pub outputs-append : (trace : Bool) (nodes : List Node) (xs ys : List Entry) → outputs_of trace nodes (xs ++ ys) ≡ outputs_of trace nodes xs ++ outputs_of trace (nodes_from nodes xs) ys
outputs-append trace nodes [] ys = refl
outputs-append trace nodes (x ∷ xs) ys =
    ap (λ (outs : List Out). gained trace nodes x.event ++ outs) (outputs-append trace (nodes_by nodes x.event) xs ys)
    ∙ sym (append_assoc (gained trace nodes x.event) (outputs_of trace (nodes_by nodes x.event) xs) (outputs_of trace (nodes_from (nodes_by nodes x.event) xs) ys))

pub arrivals-append : (nodes : List Node) (xs ys : List Entry) (n : ℕ) → arrivals_at nodes (xs ++ ys) n ≡ arrivals_at nodes xs n ++ arrivals_at (nodes_from nodes xs) ys n
arrivals-append nodes [] ys n = refl
arrivals-append nodes (x ∷ xs) ys n =
    ap (λ (zs : List Arrival). arrivals_by nodes x.event n ++ zs) (arrivals-append (nodes_by nodes x.event) xs ys n)
    ∙ sym (append_assoc (arrivals_by nodes x.event n) (arrivals_at (nodes_by nodes x.event) xs n) (arrivals_at (nodes_from (nodes_by nodes x.event) xs) ys n))

-- the nodes that a history comes to
pub reached-nodes : (trace : Bool) (r : Reached) (h : List Entry) → (reached_from trace r h).nodes ≡ nodes_from r.nodes h
reached-nodes trace r [] = refl
reached-nodes trace r (entry ∷ h) = reached-nodes trace (next trace r entry) h
