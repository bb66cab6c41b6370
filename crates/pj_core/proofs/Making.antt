-- Entries that a core makes one after the other, and how it stops among them.
use Rattle.std.proofs.Common.{ℕ, Bool, cond, List, [], ◌∷◌, ◌++◌, ◌≡◌, refl, sym, ap, ◌∙◌, subst, append_assoc}
use Rattle.std.proofs.lemmas.List.{append-nil}
use Rattle.pj_events.specs.declared.events.Entry.{Entry}
use Rattle.pj_events.specs.declared.events.Event.TheVariants.{Stopped, Sweep as Swept}
use Rattle.pj_events.specs.declared.events.Stop.{Stop}
use Rattle.pj_events.specs.declared.events.Stop.TheVariants.{Limit, NoMemory}
use Rattle.pj_events.specs.Plan.{Node}
use Rattle.pj_events.specs.History.{nodes_from}
use Rattle.pj_events.specs.Limits.{BeginsBeyond, StaysWithin, StopsAt}
use Rattle.pj_events.specs.Outcomes.{goes_beyond}
use Rattle.pj_events.specs.OneThread.{places_from, plain, probes, sweeps_at}
use Rattle.pj_laws.proofs.Histories.{nodes-append}
use Rattle.pj_laws.proofs.Limits.{within-append}
use Rattle.pj_core.specs.Plans.{RunPlan, nodes_of}
use Rattle.pj_core.specs.Cores.{CoreState, StandsFor, nodes_after, nodes_in}
use Rattle.pj_core.specs.Calls.{HasSwept, IsCause, StopsNow}
use Rattle.pj_core.specs.Turns.{Makes, MakesSome, StopsMaking, probing, sweeping, swept_where, working}

-- ---- in general

-- the nodes behind more entries
pub nodes-on : (a b : CoreState) (h es : List Entry) → b.plan ≡ a.plan → nodes_after b (h ++ es) ≡ nodes_from (nodes_after a h) es
nodes-on a b h es p = ap (λ (plan : RunPlan). nodes_from (nodes_of plan) (h ++ es)) p ∙ nodes-append (nodes_in a) h es

pub within-as : (a b : CoreState) (h es : List Entry) → b.plan ≡ a.plan → b.limit ≡ a.limit → StaysWithin b.limit (nodes_in b) h es → StaysWithin a.limit (nodes_in a) h es
within-as a b h es p l w = subst (λ (n : ℕ). StaysWithin n (nodes_in a) h es) l (subst (λ (plan : RunPlan). StaysWithin b.limit (nodes_of plan) h es) p w)

pub stops-at-as : (a b : CoreState) (h es : List Entry) (stop : Stop) → b.plan ≡ a.plan → b.limit ≡ a.limit → StopsAt b.limit (nodes_in b) h es stop → StopsAt a.limit (nodes_in a) h es stop
stops-at-as a b h es stop p l w = subst (λ (n : ℕ). StopsAt n (nodes_in a) h es stop) l (subst (λ (plan : RunPlan). StopsAt b.limit (nodes_of plan) h es stop) p w)

begins-longer : (l : ℕ) (nodes : List Node) (h back more : List Entry) (node : ℕ) → BeginsBeyond l nodes h back node → BeginsBeyond l nodes h (back ++ more) node
begins-longer l nodes h [] more node s = absurd s
begins-longer l nodes h (entry ∷ back) more node s = s

-- a stop before entries is one before these and more
pub stops-longer : (l : ℕ) (nodes : List Node) (h back more : List Entry) (stop : Stop) → StopsAt l nodes h back stop → StopsAt l nodes h (back ++ more) stop
stops-longer l nodes h back more (Limit node) s = begins-longer l nodes h back more node s
stops-longer l nodes h back more NoMemory s = tt

-- these entries, and behind them those
abbrev pub then : (List Entry → List Entry) → (List Entry → List Entry) → List Entry → List Entry
then f g h = f h ++ g (h ++ f h)

pub makes-as : (a b : CoreState) (f g : List Entry → List Entry) → ((h : List Entry) → StandsFor a h → f h ≡ g h) → Makes a b f → Makes a b g
makes-as a b f g e m = record {
  plan = m.plan;
  limit = m.limit;
  on = m.on;
  within = λ h S. subst (StaysWithin a.limit (nodes_in a) h) (e h S) (m.within h S);
  stands = λ h S. subst (λ (es : List Entry). StandsFor b (h ++ es)) (e h S) (m.stands h S);
}

pub makes-then : (a b c : CoreState) (f g : List Entry → List Entry) → Makes a b f → Makes b c g → Makes a c (then f g)
makes-then a b c f g m n = record {
  plan = n.plan ∙ m.plan;
  limit = n.limit ∙ m.limit;
  on = n.on;
  within = λ h S. within-append a.limit (nodes_in a) h (f h) (g (h ++ f h)) (m.within h S) (within-as a b (h ++ f h) (g (h ++ f h)) m.plan m.limit (n.within (h ++ f h) (m.stands h S)));
  stands = λ h S. subst (StandsFor c) (append_assoc h (f h) (g (h ++ f h))) (n.stands (h ++ f h) (m.stands h S));
}

pub stops-as : (a b : CoreState) (f g : List Entry → List Entry) (stop : Stop) → ((h : List Entry) → StandsFor a h → f h ≡ g h) → StopsMaking a b f stop → StopsMaking a b g stop
stops-as a b f g stop e m = record {
  plan = m.plan;
  limit = m.limit;
  stopped = m.stopped;
  stops = λ h S. subst (λ (es : List Entry). MakesSome a b h es stop) (e h S) (m.stops h S);
}

-- a stop among the entries behind those that were made
pub some-behind : (a b c : CoreState) (h front es : List Entry) (stop : Stop) → b.plan ≡ a.plan → b.limit ≡ a.limit → StaysWithin a.limit (nodes_in a) h front → MakesSome b c (h ++ front) es stop
    → MakesSome a c h (front ++ es) stop
some-behind a b c h front es stop p l w z = record {
  front = front ++ z.front;
  back = z.back;
  parts = ap (λ (xs : List Entry). front ++ xs) z.parts ∙ sym (append_assoc front z.front z.back);
  within = within-append a.limit (nodes_in a) h front z.front w (within-as a b (h ++ front) z.front p l z.within);
  stops = subst (λ (g : List Entry). StopsAt a.limit (nodes_in a) g z.back stop) (append_assoc h front z.front) (stops-at-as a b ((h ++ front) ++ z.front) z.back stop p l z.stops);
  stands = subst (λ (xs : List Entry). StandsFor c (xs ++ plain (Stopped stop) ∷ [])) (append_assoc h front z.front) z.stands;
}

-- more entries were to come
pub some-more : (a b : CoreState) (h es more : List Entry) (stop : Stop) → MakesSome a b h es stop → MakesSome a b h (es ++ more) stop
some-more a b h es more stop z = record {
  front = z.front;
  back = z.back ++ more;
  parts = ap (λ (xs : List Entry). xs ++ more) z.parts ∙ append_assoc z.front z.back more;
  within = z.within;
  stops = stops-longer a.limit (nodes_in a) (h ++ z.front) z.back more stop z.stops;
  stands = z.stands;
}

pub stops-then : (a b c : CoreState) (f g : List Entry → List Entry) (stop : Stop) → Makes a b f → StopsMaking b c g stop → StopsMaking a c (then f g) stop
stops-then a b c f g stop m n = record {
  plan = n.plan ∙ m.plan;
  limit = n.limit ∙ m.limit;
  stopped = n.stopped;
  stops = λ h S. some-behind a b c h (f h) (g (h ++ f h)) stop m.plan m.limit (m.within h S) (n.stops (h ++ f h) (m.stands h S));
}

pub stops-more : (a b : CoreState) (f g : List Entry → List Entry) (stop : Stop) → StopsMaking a b f stop → StopsMaking a b (λ h. f h ++ g h) stop
stops-more a b f g stop m = record {
  plan = m.plan;
  limit = m.limit;
  stopped = m.stopped;
  stops = λ h S. some-more a b h (f h) (g h) stop (m.stops h S);
}

-- ---- a sweep, and all probes

abbrev sweep_at : ℕ → ℕ → List Entry
sweep_at join input = plain (Swept join input) ∷ []

makes-sweep : (a b : CoreState) (join input count : ℕ) → HasSwept a b join input count → Makes a b (λ h. sweep_at join input)
makes-sweep a b join input count s = record {
  plan = s.notes.plan;
  limit = s.notes.limit;
  on = s.on.1;
  within = λ h S. (s.within h S, tt);
  stands = s.notes.stands;
}

sweeping-is : (a b : CoreState) (join input : ℕ) (h : List Entry) → b.plan ≡ a.plan → then (λ h. sweep_at join input) (probing b) h ≡ sweeping a join input h
sweeping-is a b join input h p =
    ap (λ (ns : List Node). sweep_at join input ++ probes ns) (nodes-on a b h (sweep_at join input) p)
    ∙ sym (append-nil (sweep_at join input ++ probes (nodes_from (nodes_after a h) (sweep_at join input))))

pub makes-sweeping : (a b c : CoreState) (join input count : ℕ) → HasSwept a b join input count → Makes b c (probing b) → Makes a c (sweeping a join input)
makes-sweeping a b c join input count s m =
    makes-as a c (then (λ h. sweep_at join input) (probing b)) (sweeping a join input) (λ h S. sweeping-is a b join input h s.notes.plan)
    (makes-then a b c (λ h. sweep_at join input) (probing b) (makes-sweep a b join input count s) m)

pub stops-sweeping : (a b c : CoreState) (join input count : ℕ) (stop : Stop) → HasSwept a b join input count → StopsMaking b c (probing b) stop → StopsMaking a c (sweeping a join input) stop
stops-sweeping a b c join input count stop s m =
    stops-as a c (then (λ h. sweep_at join input) (probing b)) (sweeping a join input) stop (λ h S. sweeping-is a b join input h s.notes.plan)
    (stops-then a b c (λ h. sweep_at join input) (probing b) stop (makes-sweep a b join input count s) m)

-- a limit stops the sweep
first-beyond : (a : CoreState) (join input : ℕ) (h : List Entry) (stop : Stop) → IsCause a (Swept join input) stop → StandsFor a h → StopsAt a.limit (nodes_in a) (h ++ []) (sweeping a join input h) stop
first-beyond a join input h (Limit node) c S = ap (λ (g : List Entry). goes_beyond a.limit (nodes_in a) g (Swept join input)) (append-nil h) ∙ c h S
first-beyond a join input h NoMemory c S = tt

pub stops-at-sweep : (a b : CoreState) (join input : ℕ) (stop : Stop) → StopsNow a b stop → IsCause a (Swept join input) stop → StopsMaking a b (sweeping a join input) stop
stops-at-sweep a b join input stop s c = record {
  plan = s.notes.plan;
  limit = s.notes.limit;
  stopped = s.stopped;
  stops = λ h S. record {
    front = [];
    back = sweeping a join input h;
    parts = refl;
    within = tt;
    stops = first-beyond a join input h stop c S;
    stands = subst (λ (es : List Entry). StandsFor b (es ++ plain (Stopped stop) ∷ [])) (sym (append-nil h)) (s.notes.stands h S);
  };
}

-- ---- probes and sweeps

where-same : (a b : CoreState) (sweeps : Bool) (h : List Entry) → b.plan ≡ a.plan → swept_where sweeps b h ≡ swept_where sweeps a h
where-same a b sweeps h p = ap (λ (plan : RunPlan). cond sweeps (sweeps_at (nodes_from (nodes_of plan) h) (places_from 0 (nodes_from (nodes_of plan) h))) []) p

pub makes-working : (a b c : CoreState) (sweeps : Bool) → Makes a b (probing a) → Makes b c (swept_where sweeps b) → Makes a c (working sweeps a)
makes-working a b c sweeps x y =
    makes-as a c (then (probing a) (swept_where sweeps b)) (working sweeps a) (λ h S. ap (λ (es : List Entry). probing a h ++ es) (where-same a b sweeps (h ++ probing a h) x.plan))
    (makes-then a b c (probing a) (swept_where sweeps b) x y)

pub stops-working : (a b c : CoreState) (sweeps : Bool) (stop : Stop) → Makes a b (probing a) → StopsMaking b c (swept_where sweeps b) stop → StopsMaking a c (working sweeps a) stop
stops-working a b c sweeps stop x y =
    stops-as a c (then (probing a) (swept_where sweeps b)) (working sweeps a) stop (λ h S. ap (λ (es : List Entry). probing a h ++ es) (where-same a b sweeps (h ++ probing a h) x.plan))
    (stops-then a b c (probing a) (swept_where sweeps b) stop x y)

pub stops-at-probes : (a b : CoreState) (sweeps : Bool) (stop : Stop) → StopsMaking a b (probing a) stop → StopsMaking a b (working sweeps a) stop
stops-at-probes a b sweeps stop x = stops-more a b (probing a) (λ h. swept_where sweeps a (h ++ probing a h)) stop x
