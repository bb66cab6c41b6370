-- All probes of a core, one node after the other, and at each node one after the other.
use Rattle.std.proofs.Common.{ℕ, zero, suc, ◌+◌, ◌-◌, ◌<◌, List, [], ◌∷◌, ◌++◌, ◌≡◌, length, sym, ap, ap₂, ◌∙◌, subst, append_assoc, arith}
use Rattle.std.proofs.lemmas.List.{append-nil}
use Rattle.pj_events.specs.declared.events.Entry.{Entry}
use Rattle.pj_events.specs.declared.events.Stop.{Stop}
use Rattle.pj_events.specs.Plan.{Node}
use Rattle.pj_events.specs.History.{nodes_from}
use Rattle.pj_events.specs.Limits.{StaysWithin}
use Rattle.pj_events.specs.OneThread.{pending_at, probes_at, probes_from}
use Rattle.pj_laws.proofs.Drains.{probes-append}
use Rattle.pj_laws.proofs.Histories.{nodes-append}
use Rattle.pj_laws.proofs.Limits.{within-append}
use Rattle.pj_laws.proofs.NextProbe.{pending-left}
use Rattle.pj_laws.proofs.Probes.{length-from}
use Rattle.pj_core.specs.Plans.{RunPlan, nodes_of}
use Rattle.pj_core.specs.Cores.{CoreState, StandsFor, nodes_after, nodes_in}
use Rattle.pj_core.specs.Turns.{GoesTo, IsSoundCore, Makes, MakesSome, ProbesAt, SoFar, StopsMaking, StopsProbe, probing, probing_at, probing_upto}
use Rattle.pj_core.proofs.Making.{makes-as, makes-then, nodes-on, some-behind, some-more, stops-as, stops-more, stops-then, then, within-as}
use Rattle.pj_core.proofs.Planned.{nodes-long, planned}

-- ---- at one node

abbrev one : ℕ → ℕ → List Entry
one node ticket = probes_at node (ticket ∷ [])

-- the tickets that are done, and one more
done-more : (h : List Entry) (node ticket : ℕ) (done : List ℕ) → (h ++ probes_at node done) ++ one node ticket ≡ h ++ probes_at node (done ++ ticket ∷ [])
done-more h node ticket done = append_assoc h (probes_at node done) (one node ticket) ∙ ap (λ (es : List Entry). h ++ es) (sym (probes-append node done (ticket ∷ [])))

-- the nodes of a core of the same plan
nodes-same : (a b : CoreState) (h : List Entry) → b.plan ≡ a.plan → nodes_after b h ≡ nodes_after a h
nodes-same a b h p = ap (λ (plan : RunPlan). nodes_from (nodes_of plan) h) p

goes-more : (a b c : CoreState) (node : ℕ) → IsSoundCore a → SoFar a b node → ProbesAt b c node → (h : List Entry) → StandsFor a h → GoesTo a c h node
goes-more a b c node sound f p h S =
    let g = f.goes h S in
    let q = p.probes (h ++ probes_at node g.done) g.stands in
    let same = nodes-same a b (h ++ probes_at node g.done) f.plan in
    let split : g.others ≡ q.ticket ∷ q.others = sym g.pending ∙ ap (λ (ns : List Node). pending_at ns node) (sym same) ∙ q.first in
    let there : pending_at (nodes_after a (h ++ probes_at node g.done)) node ≡ q.ticket ∷ q.others = g.pending ∙ split in
    record {
      done = g.done ++ q.ticket ∷ [];
      others = q.others;
      all = g.all ∙ ap (λ (ts : List ℕ). g.done ++ ts) split ∙ sym (append_assoc g.done (q.ticket ∷ []) q.others);
      pending = ap (λ (es : List Entry). pending_at (nodes_after a es) node) (sym (done-more h node q.ticket g.done))
          ∙ pending-left (nodes_in a) (planned a.plan sound) (h ++ probes_at node g.done) node q.ticket q.others there;
      within = subst (StaysWithin a.limit (nodes_in a) h) (sym (probes-append node g.done (q.ticket ∷ [])))
          (within-append a.limit (nodes_in a) h (probes_at node g.done) (one node q.ticket) g.within (within-as a b (h ++ probes_at node g.done) (one node q.ticket) f.plan f.limit q.within));
      stands = subst (StandsFor c) (done-more h node q.ticket g.done) q.stands;
    }

pub so-far-more : (a b c : CoreState) (node : ℕ) → IsSoundCore a → SoFar a b node → ProbesAt b c node → SoFar a c node
so-far-more a b c node sound f p = record { plan = p.plan ∙ f.plan; limit = p.limit ∙ f.limit; on = p.on; goes = goes-more a b c node sound f p }

-- nothing more is pending
all-done : (a b : CoreState) (node : ℕ) → SoFar a b node → ((h : List Entry) → StandsFor b h → pending_at (nodes_after b h) node ≡ []) → Makes a b (probing_at a node)
all-done a b node f none =
    record { plan = f.plan; limit = f.limit; on = f.on; within = λ h S. subst (StaysWithin a.limit (nodes_in a) h) (is h S) (f.goes h S).within; stands = λ h S. subst (λ (es : List Entry). StandsFor b (h ++ es)) (is h S) (f.goes h S).stands }
  where
    is : (h : List Entry) (S : StandsFor a h) → probes_at node (f.goes h S).done ≡ probing_at a node h
    is h S =
        let g = f.goes h S in
        let end : g.others ≡ [] = sym g.pending ∙ ap (λ (ns : List Node). pending_at ns node) (sym (nodes-same a b (h ++ probes_at node g.done) f.plan)) ∙ none (h ++ probes_at node g.done) g.stands in
        ap (probes_at node) (sym (g.all ∙ ap (λ (ts : List ℕ). g.done ++ ts) end ∙ append-nil g.done))

pub node-done : (a b c : CoreState) (node : ℕ) → SoFar a b node → (c ≡ b) × ((h : List Entry) → StandsFor b h → pending_at (nodes_after b h) node ≡ []) → Makes a c (probing_at a node)
node-done a b c node f p = subst (λ (x : CoreState). Makes a x (probing_at a node)) (sym p.0) (all-done a b node f p.1)

-- a stop in a probe
pub node-stops : (a b c : CoreState) (node : ℕ) (stop : Stop) → SoFar a b node → StopsProbe b c node stop → StopsMaking a c (probing_at a node) stop
node-stops a b c node stop f s = record { plan = s.plan ∙ f.plan; limit = s.limit ∙ f.limit; stopped = s.stopped; stops = some }
  where
    some : (h : List Entry) → StandsFor a h → MakesSome a c h (probing_at a node h) stop
    some h S =
        let g = f.goes h S in
        let z = s.stops (h ++ probes_at node g.done) g.stands in
        let split : g.others ≡ z.ticket ∷ z.others = sym g.pending ∙ ap (λ (ns : List Node). pending_at ns node) (sym (nodes-same a b (h ++ probes_at node g.done) f.plan)) ∙ z.first in
        let here : MakesSome b c (h ++ probes_at node g.done) (one node z.ticket) stop = record { front = z.front; back = z.back; parts = z.parts; within = z.within; stops = z.stops; stands = z.stands } in
        let all : probes_at node g.done ++ (one node z.ticket ++ probes_at node z.others) ≡ probing_at a node h =
        sym (probes-append node g.done (z.ticket ∷ z.others)) ∙ ap (probes_at node) (sym (g.all ∙ ap (λ (ts : List ℕ). g.done ++ ts) split)) in
        subst (λ (es : List Entry). MakesSome a c h es stop) all
        (some-behind a b c h (probes_at node g.done) (one node z.ticket ++ probes_at node z.others) stop f.plan f.limit g.within
        (some-more b c (h ++ probes_at node g.done) (one node z.ticket) (probes_at node z.others) stop here))

-- ---- at so many nodes

-- probes at so many nodes, and at those behind them
from-split : (nodes : List Node) (k m n : ℕ) → probes_from nodes k (m + n) ≡ probes_from nodes k m ++ probes_from (nodes_from nodes (probes_from nodes k m)) (k + m) n
from-split nodes k zero n = let z : k ≡ k + 0 = omega arith in let y : 0 + n ≡ n = omega arith in ap (probes_from nodes k) y ∙ ap (λ (i : ℕ). probes_from nodes i n) z
from-split nodes k (suc m) n =
    let here = probes_at k (pending_at nodes k) in
    let after = nodes_from nodes here in
    let done = probes_from after (k + 1) m in
    let y : suc m + n ≡ suc (m + n) = omega arith in
    let z : k + 1 + m ≡ k + suc m = omega arith in
    ap (probes_from nodes k) y
    ∙ ap (λ (es : List Entry). here ++ es) (from-split after (k + 1) m n)
    ∙ sym (append_assoc here done (probes_from (nodes_from after done) (k + 1 + m) n))
    ∙ ap₂ (λ (ns : List Node) (i : ℕ). (here ++ done) ++ probes_from ns i n) (sym (nodes-append nodes here done)) z

upto-next : (a b : CoreState) (m : ℕ) (h : List Entry) → b.plan ≡ a.plan → then (probing_upto a m) (probing_at b m) h ≡ probing_upto a (m + 1) h
upto-next a b m h p =
    let z : 0 + m ≡ m = omega arith in
    let front = probing_upto a m h in
    ap (λ (ns : List Node). front ++ probes_at m (pending_at ns m)) (nodes-on a b h front p)
    ∙ ap (λ (es : List Entry). front ++ es) (sym (append-nil (probes_at m (pending_at (nodes_from (nodes_after a h) front) m))))
    ∙ ap (λ (i : ℕ). front ++ probes_from (nodes_from (nodes_after a h) front) i 1) (sym z)
    ∙ sym (from-split (nodes_after a h) 0 m 1)

pub probes-more : (a b c : CoreState) (m : ℕ) → Makes a b (probing_upto a m) → Makes b c (probing_at b m) → Makes a c (probing_upto a (m + 1))
probes-more a b c m x y =
    makes-as a c (then (probing_upto a m) (probing_at b m)) (probing_upto a (m + 1)) (λ h S. upto-next a b m h x.plan)
    (makes-then a b c (probing_upto a m) (probing_at b m) x y)

-- as many nodes after any history
long-after : (a : CoreState) (h : List Entry) → length (nodes_after a h) ≡ length a.plan.nodes
long-after a h = length-from (nodes_in a) h ∙ nodes-long a.plan

all-are : (a : CoreState) (count : ℕ) (h : List Entry) → count ≡ length a.plan.nodes → probing_upto a count h ≡ probing a h
all-are a count h e = ap (probes_from (nodes_after a h) 0) (e ∙ sym (long-after a h))

pub probes-end : (a b : CoreState) (count : ℕ) → count ≡ length a.plan.nodes → Makes a b (probing_upto a count) → Makes a b (probing a)
probes-end a b count e x = makes-as a b (probing_upto a count) (probing a) (λ h S. all-are a count h e) x

pub probes-stop : (a b c : CoreState) (m count : ℕ) (stop : Stop) → count ≡ length a.plan.nodes → m < count → Makes a b (probing_upto a m) → StopsMaking b c (probing_at b m) stop
    → StopsMaking a c (probing a) stop
probes-stop a b c m count stop e lt x y =
    let rest = count - (m + 1) in
    let total : m + 1 + rest ≡ count = omega (arith, lt) in
    let more : List Entry → List Entry = λ h. probes_from (nodes_from (nodes_after a h) (probing_upto a (m + 1) h)) (0 + (m + 1)) rest in
    stops-as a c (λ h. probing_upto a (m + 1) h ++ more h) (probing a) stop
    (λ h S. sym (from-split (nodes_after a h) 0 (m + 1) rest) ∙ ap (probes_from (nodes_after a h) 0) total ∙ all-are a count h e)
    (stops-more a c (probing_upto a (m + 1)) more stop
    (stops-as a c (then (probing_upto a m) (probing_at b m)) (probing_upto a (m + 1)) stop (λ h S. upto-next a b m h x.plan)
    (stops-then a b c (probing_upto a m) (probing_at b m) stop x y)))
