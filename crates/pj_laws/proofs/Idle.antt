-- Entries that do nothing at the nodes: they stay within any limit, and hand out nothing.
use Rattle.std.proofs.Common.{ℕ, zero, suc, Bool, true, false, List, [], ◌∷◌, ◌≡◌, None, map, length, refl, ap, ◌∙◌}
use Rattle.pj_events.specs.Join.{Element}
use Rattle.pj_events.specs.Plan.{Node, Pass}
use Rattle.pj_events.specs.declared.events.Entry.{Entry}
use Rattle.pj_events.specs.declared.events.Stop.{Stop}
use Rattle.pj_events.specs.declared.events.Event.TheVariants.{Drain, Stopped}
use Rattle.pj_events.specs.History.{out_of, root_of, gained, nodes_from}
use Rattle.pj_events.specs.Outcomes.{Level, arrivals_at, beyond_of, climb, goes_beyond, way_up}
use Rattle.pj_laws.proofs.Nodes.{empty-none, quiet}

-- where nothing goes up, nothing goes beyond
nothing-up : (depth limit : ℕ) (levels : List Level) → beyond_of (climb depth limit levels []) ≡ None
nothing-up zero limit levels = refl
nothing-up (suc depth) limit [] = refl
nothing-up (suc depth) limit (level ∷ levels) = refl

-- a drain brings nothing
pub drain-within : (limit : ℕ) (plan : List Node) (history : List Entry) → goes_beyond limit plan history Drain ≡ None
drain-within limit plan history =
    let nodes : List Node = nodes_from plan history in
    let levels = way_up (λ n. length (arrivals_at plan history n)) 0 (length nodes) nodes in
    ap (λ (es : List Element). beyond_of (climb (length nodes) limit levels es)) ((quiet Pass [] nodes empty-none (λ n le lt. refl)).1 (length nodes))
    ∙ nothing-up (length nodes) limit levels

-- a stop hands out nothing
pub stop-silent : (trace : Bool) (nodes : List Node) (stop : Stop) → gained trace nodes (Stopped stop) ≡ []
stop-silent true nodes stop = ap (λ (es : List Element). map out_of es) ((quiet Pass [] nodes empty-none (λ n le lt. refl)).1 (root_of nodes))
stop-silent false nodes stop = ap (λ (es : List Element). map out_of es) ((quiet Pass [] nodes empty-none (λ n le lt. refl)).1 (root_of nodes))
