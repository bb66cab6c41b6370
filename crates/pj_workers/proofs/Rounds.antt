-- Rounds, one behind the other.
use Rattle.std.proofs.Common.{ℕ, Bool, true, List, [], ◌∷◌, ◌++◌, ◌≡◌, Option, Some, None, refl, sym, ap, ◌∙◌, subst, append_assoc, append-nil}
use Rattle.pj_events.specs.declared.events.Entry.{Entry}
use Rattle.pj_events.specs.declared.events.Event.{Event}
use Rattle.pj_events.specs.declared.events.Look.{Look}
use Rattle.pj_events.specs.declared.events.Stop.{Stop}
use Rattle.pj_events.specs.declared.events.Stop.TheVariants.{NoMemory}
use Rattle.pj_laws.specs.Seats.{HubPlan, made_by, seated}
use Rattle.pj_seats.specs.Answers.{IsCauseOf, IsLook, IsRefusal, Turned}
use Rattle.pj_workers.specs.declared.ends.Broken.{Broken}
use Rattle.pj_workers.specs.declared.ends.Broken.TheVariants.{NoMemory as BrokenMemory, Stopped as BrokenStop}
use Rattle.pj_workers.specs.Rounds.{AreRounds, IsRound, Whole, joined, looked}
use Rattle.pj_workers.specs.Ends.{Ending, Ends, IsBreak, IsEnd, IsHalt, IsOver, IsRefused, work_end}

pub joined-more : (rounds : List (List Entry)) (round : List Entry) → joined (rounds ++ round ∷ []) ≡ joined rounds ++ round
joined-more [] round = append-nil round
joined-more (r ∷ rounds) round = ap (λ (l : List Entry). r ++ l) (joined-more rounds round) ∙ sym (append_assoc r (joined rounds) round)

pub rounds-more : (part : List Entry → Type 0) (rounds : List (List Entry)) (round : List Entry) → AreRounds part rounds → part round → AreRounds part (rounds ++ round ∷ [])
rounds-more part [] round all is = (is, tt)
rounds-more part (r ∷ rounds) round all is = (all.0, rounds-more part rounds round all.1 is)

-- no round yet
pub whole-none : (part : List Entry → Type 0) (own : List Entry) → Whole part own own
whole-none part own = record { rounds = []; each = tt; adds = sym (append-nil own) }

-- one round more
pub whole-more : (part : List Entry → Type 0) (before now after round : List Entry) → Whole part before now → part round → after ≡ now ++ round → Whole part before after
whole-more part before now after round w is adds = record {
  rounds = w.rounds ++ round ∷ [];
  each = rounds-more part w.rounds round w.each is;
  adds = adds ∙ (ap (λ (l : List Entry). l ++ round) w.adds ∙ (append_assoc before (joined w.rounds) round ∙ ap (λ (l : List Entry). before ++ l) (sym (joined-more w.rounds round))));
}

-- ---- entries that calls add

pub two-added : (xs ys zs : List Entry) (a b : Entry) → ys ≡ xs ++ a ∷ [] → zs ≡ ys ++ b ∷ [] → zs ≡ xs ++ a ∷ b ∷ []
two-added xs ys zs a b p q = q ∙ (ap (λ (l : List Entry). l ++ b ∷ []) p ∙ append_assoc xs (a ∷ []) (b ∷ []))

pub more-added : (xs ys zs : List Entry) (a : Entry) (bs : List Entry) → ys ≡ xs ++ a ∷ [] → zs ≡ ys ++ bs → zs ≡ xs ++ a ∷ bs
more-added xs ys zs a bs p q = q ∙ (ap (λ (l : List Entry). l ++ bs) p ∙ append_assoc xs (a ∷ []) bs)

-- ---- refusals

-- a refusal of a take has the cause of any event
pub take-refused : (hub : HubPlan) (history : List Entry) (event : Event) (before : Option Stop) (stop : Stop) → IsRefusal before stop (stop ≡ NoMemory) → IsRefusal before stop (IsCauseOf hub history event stop)
take-refused hub history event None stop is = subst (λ (s : Stop). IsCauseOf hub history event s) (sym is) tt
take-refused hub history event (Some old) stop is = is

-- ---- ends

-- What follows on a look with this many pending makes a round of it
pub look-first : (follows : ℕ → ℕ → List Entry → Type 0) (seat pending : ℕ) (rest : List Entry) → follows seat pending rest → IsRound follows seat (looked seat pending ∷ rest)
look-first follows seat pending rest is = record { pending = pending; rest = rest; begins = refl; goes_on = is }

-- an ending behind some entries more of its round
abbrev pub behind : List Entry → Ending → Ending
behind firsts ending = record { history = ending.history; front = firsts ++ ending.front; last = ending.last }

-- a part that broke off, behind the first entries of a greater part, of which this tail was to follow
module _ (part whole : List Entry → Type 0) (firsts tail : List Entry) (lift : (entries : List Entry) → part entries → whole (firsts ++ (entries ++ tail))) where
  pub part-behind : (front rest : List Entry) → part (front ++ rest) → whole ((firsts ++ front) ++ (rest ++ tail))
  part-behind front rest is =
      subst whole (ap (λ (l : List Entry). firsts ++ l) (append_assoc front rest tail) ∙ sym (append_assoc firsts front (rest ++ tail))) (lift (front ++ rest) is)

  pub halt-behind : (seat : ℕ) (ending : Ending) → IsHalt seat part ending → IsHalt seat whole (behind firsts ending)
  halt-behind seat ending is = record { rest = is.rest ++ tail; begins = part-behind ending.front is.rest is.begins; is_last = is.is_last }

  abbrev pub refused-behind : (hub : HubPlan) (seat : ℕ) (stop : Stop) (ending : Ending) → IsRefused hub seat part stop ending → IsRefused hub seat whole stop (behind firsts ending)
  refused-behind hub seat stop ending is = record {
    event = is.event;
    mark = is.mark;
    rest = is.rest ++ tail;
    begins = part-behind ending.front (seated seat is.event is.mark ∷ is.rest) is.begins;
    may = is.may;
    is_last = is.is_last;
    cause = is.cause;
  }

-- how a round of a prober ends that broke off behind its look
pub ends-behind : (hub : HubPlan) (seat : ℕ) (part whole : List Entry → Type 0) (over : Look → Bool) (own mid after : List Entry) (first : Entry) (broken : Broken) → mid ≡ own ++ first ∷ []
    → ((entries : List Entry) → part entries → whole (first ∷ (entries ++ []))) → Ends seat (IsBreak hub seat part broken) mid after → Ends seat (IsEnd hub seat whole over (work_end broken)) own after
ends-behind hub seat part whole over own mid after first broken added lift e = record {
  ending = behind (first ∷ []) e.ending;
  seen = e.seen;
  adds = more-added own mid (made_by seat after) first (e.ending.front ++ e.ending.last ∷ []) added e.adds;
  is = go broken e.is;
}
  where
    go : (broken : Broken) → IsBreak hub seat part broken e.ending → IsEnd hub seat whole over (work_end broken) (behind (first ∷ []) e.ending)
    go BrokenMemory is = halt-behind part whole (first ∷ []) [] lift seat e.ending is
    go (BrokenStop stop) is = refused-behind part whole (first ∷ []) [] lift hub seat stop e.ending is

-- a look that shows that the work is over ends the call, whatever it is
pub look-ends : (hub : HubPlan) (seat : ℕ) (over : Look → Bool) (is_end : Ending → Type 0) (before after : List Entry) (look : Look) → ((ending : Ending) → IsOver hub seat over ending → is_end ending)
    → Turned hub seat before after (λ history. looked seat look.pending) (IsLook hub look) → over look ≡ true → Ends seat is_end (made_by seat before) after
look-ends hub seat over is_end before after look lift t shows = record {
  ending = record { history = t.history; front = []; last = looked seat look.pending };
  seen = t.seen;
  adds = t.own;
  is = lift _ (record { none = refl; look = look; is_last = refl; told = t.answers; shows = shows });
}
