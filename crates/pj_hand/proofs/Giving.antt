-- Giving all that is under way, one probe after the other.
use Rattle.std.proofs.Common.{◌<◌, true, List, [], ◌∷◌, ◌++◌, ◌≡◌, ◌⊎◌, None, length, refl, sym, ap, ◌∙◌, subst, inl, inr, arith, append_assoc}
use Rattle.std.proofs.lemmas.List.{append-nil}
use Rattle.pj_value.specs.Lists.{In}
use Rattle.pj_events.specs.declared.events.Entry.{Entry}
use Rattle.pj_events.specs.declared.events.Stop.{Stop}
use Rattle.pj_events.specs.declared.events.Stop.TheVariants.{Limit, NoMemory}
use Rattle.pj_events.specs.Limits.{StaysWithin, StopsAt}
use Rattle.pj_laws.proofs.Limits.{within-append}
use Rattle.pj_plan.specs.Sound.{IsSoundPlan}
use Rattle.pj_probe.specs.declared.probe.Found.{Found}
use Rattle.pj_core.specs.Calls.{IsGiveCause}
use Rattle.pj_core.specs.Cores.{nodes_in}
use Rattle.pj_core.specs.Plans.{RunPlan}
use Rattle.pj_core.proofs.Making.{stops-at-as, within-as}
use Rattle.pj_hand.specs.Hands.{HandState, HandStandsFor, StandsForOne}
use Rattle.pj_hand.specs.Settling.{HandMakes, HandStopsMaking, LacksMemoryAmong, RefusesMaking, giving}
use Rattle.pj_hand.specs.Held.{without}
use Rattle.pj_hand.specs.Steps.{GivesFirst, GivesProbe, LacksMemory, StopsGive, StopsGiveFirst}
use Rattle.pj_hand.proofs.InOrder.{first-found}
use Rattle.pj_hand.proofs.Keys.{give_of, gives-are, gives_of, key_of}
use Rattle.pj_hand.proofs.Standing.{found-in, given-stands}

-- the first of the gives are made, and the others are those of the probes that are still held
pub record GivesTo (old now : HandState) (history : List Entry) : Type 0 where
  pub done : List Entry
  pub parts : giving old history ≡ done ++ gives_of now.taken
  pub within : StaysWithin old.core.limit (nodes_in old.core) history done
  pub stands : HandStandsFor now (history ++ done)

pub record GivesSoFar (old now : HandState) : Type 0 where
  pub sound : IsSoundPlan old.core.plan.nodes
  pub on : (old.core.kept.stop ≡ None) × (now.core.kept.stop ≡ None)
  pub plan : now.core.plan ≡ old.core.plan
  pub limit : now.core.limit ≡ old.core.limit
  pub one : StandsForOne old
  pub goes : (history : List Entry) → HandStandsFor old history → GivesTo old now history

pub gives-begin : (old : HandState) → IsSoundPlan old.core.plan.nodes → old.core.kept.stop ≡ None → StandsForOne old → GivesSoFar old old
gives-begin old sound on one = record {
  sound = sound;
  on = (on, on);
  plan = refl;
  limit = refl;
  one = one;
  goes = λ h H. record { done = []; parts = gives-are old sound on h H; within = tt; stands = subst (HandStandsFor old) (sym (append-nil h)) H };
}

-- the hand stands for a history now
pub one-now : (old now : HandState) → GivesSoFar old now → StandsForOne now
one-now old now s = let g = s.goes s.one.0 s.one.1 in (s.one.0 ++ g.done, g.stands)

module _ (old now next : HandState) (s : GivesSoFar old now) where
  now-sound : IsSoundPlan now.core.plan.nodes
  now-sound = subst (λ (p : RunPlan). IsSoundPlan p.nodes) (sym s.plan) s.sound

  -- one more
  pub gives-more : GivesFirst true now next → GivesSoFar old next
  gives-more f = record {
    sound = s.sound;
    on = (s.on.0, g.given.on.1);
    plan = g.given.plan ∙ s.plan;
    limit = g.given.limit ∙ s.limit;
    one = s.one;
    goes = λ h H.
        let t = s.goes h H in
        let W = t.stands.held s.on.1 in
        let e = give_of (key_of g.probe) in
        let beyond = g.given.within (h ++ t.done) t.stands.stands (W.finds g.probe (found-in now.taken f.0.0 f.0.1 g.probe g.stood)) in
        let one : StaysWithin now.core.limit (nodes_in now.core) (h ++ t.done) (e ∷ []) = (beyond, tt) in
        record {
          done = t.done ++ e ∷ [];
          parts = t.parts
              ∙ ap (λ (ps : List Found). t.done ++ gives_of ps) first.1
              ∙ sym (append_assoc t.done (e ∷ []) (gives_of first.0))
              ∙ ap (λ (ps : List Found). (t.done ++ e ∷ []) ++ gives_of ps) (sym (g.left ∙ first.2));
          within = within-append old.core.limit (nodes_in old.core) h t.done (e ∷ []) t.within (within-as old.core now.core (h ++ t.done) (e ∷ []) s.plan s.limit one);
          stands = subst (HandStandsFor next) (append_assoc h t.done (e ∷ [])) (given-stands now next f.0.0 f.0.1 now-sound g (h ++ t.done) t.stands);
        };
  }
    where
      g : GivesProbe now next f.0.0 f.0.1
      g = f.2

      first : (back : List Found) × (now.taken ≡ g.probe ∷ back) × (without now.taken f.0.0 f.0.1 ≡ back)
      first = first-found now.taken f.0 g.probe f.1 g.stood

  -- there is none left
  pub gives-end : (now.taken ≡ []) × (next ≡ now) → HandMakes old next (giving old)
  gives-end z = subst (λ (n : HandState). HandMakes old n (giving old)) (sym z.1) (record {
    on = s.on;
    plan = s.plan;
    limit = s.limit;
    within = λ h H. subst (StaysWithin old.core.limit (nodes_in old.core) h) (sym (all h H)) (s.goes h H).within;
    stands = λ h H. subst (λ (es : List Entry). HandStandsFor now (h ++ es)) (sym (all h H)) (s.goes h H).stands;
  })
    where
      all : (h : List Entry) (H : HandStandsFor old h) → giving old h ≡ (s.goes h H).done
      all h H = (s.goes h H).parts ∙ ap (λ (ps : List Found). (s.goes h H).done ++ gives_of ps) z.0 ∙ append-nil (s.goes h H).done

  -- memory is wanting in the work of the next
  lacks : (stop : Stop) → LacksMemory now next stop → LacksMemoryAmong old next (giving old) stop
  lacks stop l = record {
    on = (s.on.0, ap (λ (n : HandState). n.core.kept.stop) l.stays ∙ s.on.1);
    memory = l.memory;
    plan = ap (λ (n : HandState). n.core.plan) l.stays ∙ s.plan;
    limit = ap (λ (n : HandState). n.core.limit) l.stays ∙ s.limit;
    makes = λ h H. let t = s.goes h H in record { front = t.done; back = gives_of now.taken; parts = t.parts; within = t.within; stands = subst (λ (n : HandState). HandStandsFor n (h ++ t.done)) (sym l.stays) t.stands };
  }

  -- the core stops at the next
  stops-at : (h : List Entry) (p : Found) (es : List Entry) (stop : Stop) → HandStandsFor now h → In p now.taken → IsGiveCause now.core p p stop → StopsAt now.core.limit (nodes_in now.core) h (give_of (key_of p) ∷ es) stop
  stops-at h p es (Limit node) H i c = c h H.stands ((H.held s.on.1).finds p i)
  stops-at h p es NoMemory H i c = tt

  ends : (stop : Stop) → StopsGiveFirst now next stop → HandStopsMaking old next (giving old) stop
  ends stop f = record {
    plan = z.stops.notes.plan ∙ s.plan;
    limit = z.stops.notes.limit ∙ s.limit;
    stopped = z.stops.stopped;
    stops = λ h H.
        let t = s.goes h H in
        let e = give_of (key_of z.probe) in
        record {
          front = t.done;
          back = e ∷ gives_of first.0;
          parts = t.parts ∙ ap (λ (ps : List Found). t.done ++ gives_of ps) first.1;
          within = t.within;
          stops = stops-at-as old.core now.core (h ++ t.done) (e ∷ gives_of first.0) stop s.plan s.limit
              (stops-at (h ++ t.done) z.probe (gives_of first.0) stop t.stands (found-in now.taken f.0.0 f.0.1 z.probe z.stood) z.cause);
          stands = z.stops.notes.stands (h ++ t.done) t.stands.stands;
        };
  }
    where
      z : StopsGive now next f.0.0 f.0.1 stop
      z = f.2

      first : (back : List Found) × (now.taken ≡ z.probe ∷ back) × (without now.taken f.0.0 f.0.1 ≡ back)
      first = first-found now.taken f.0 z.probe f.1 z.stood

  pub gives-stop : (stop : Stop) → LacksMemory now next stop ⊎ StopsGiveFirst now next stop → RefusesMaking old next (giving old) stop
  gives-stop stop (inl l) = inr (lacks stop l)
  gives-stop stop (inr z) = inl (ends stop z)

-- fewer probes are held
pub fewer : (now next : HandState) → GivesFirst true now next → length next.taken < length now.taken
fewer now next f = let g = f.2 in let first = first-found now.taken f.0 g.probe f.1 g.stood in let a = ap length first.1 in let b = ap length (g.left ∙ first.2) in omega (arith, a, b)
