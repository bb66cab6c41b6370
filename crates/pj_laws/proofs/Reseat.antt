-- The number of the seat changes nothing of what a core keeps.
use Rattle.std.proofs.Common.{ℕ, Bool, List, [], ◌∷◌, ◌++◌, ◌≡◌, map, length, sym, ap, ◌∙◌}
use Rattle.pj_events.specs.declared.events.Entry.{Entry}
use Rattle.pj_events.specs.declared.events.Event.{Event}
use Rattle.pj_events.specs.Join.{upto_from}
use Rattle.pj_events.specs.Plan.{Node, operator_at}
use Rattle.pj_events.specs.History.{IsLegal, Reached, nodes_from, reached_of}
use Rattle.pj_events.specs.Outcomes.{arrivals_at, counted, peak_of}
use Rattle.pj_events.specs.CoreKept.{CoreKept, Stands, core_kept, kept_in}
use Rattle.pj_laws.proofs.HistoryAnswers.{adds-entry, grows-legally}
use Rattle.pj_laws.specs.Seats.{seated}

module _ (plan : List Node) (h : List Entry) (event : Event) (closing a b : ℕ) where
  abbrev pub one : List Entry
  one = h ++ seated a event closing ∷ []

  abbrev pub other : List Entry
  other = h ++ seated b event closing ∷ []

  pub reached-same : (trace : Bool) → reached_of trace plan one ≡ reached_of trace plan other
  reached-same trace = (adds-entry plan h (seated a event closing)).reached trace ∙ sym ((adds-entry plan h (seated b event closing)).reached trace)

  pub nodes-same : nodes_from plan one ≡ nodes_from plan other
  nodes-same = (adds-entry plan h (seated a event closing)).nodes ∙ sym (adds-entry plan h (seated b event closing)).nodes

  arrivals-same : (n : ℕ) → arrivals_at plan one n ≡ arrivals_at plan other n
  arrivals-same n = (adds-entry plan h (seated a event closing)).arrivals n ∙ sym ((adds-entry plan h (seated b event closing)).arrivals n)

  peaks-same : (n : ℕ) → peak_of plan one n ≡ peak_of plan other n
  peaks-same n = (adds-entry plan h (seated a event closing)).peak n ∙ sym ((adds-entry plan h (seated b event closing)).peak n)

  pub kept-same : (trace : Bool) → core_kept trace plan one ≡ core_kept trace plan other
  kept-same trace = λ i. record {
    nodes = map (λ (node : Node). kept_in node.operator) (nodes-same i);
    counts = map (λ n. counted (operator_at plan n) (length (arrivals-same n i))) (upto_from 0 (length plan));
    peaks = map (λ n. peaks-same n i) (upto_from 0 (length plan));
    closed = (reached-same trace i).closed;
    undrained = (reached-same trace i).undrained;
    halted = (reached-same trace i).halted;
    stop = (reached-same trace i).stop;
  }

  pub legal-same : IsLegal plan one → IsLegal plan other
  legal-same l = (grows-legally plan h (seated b event closing)).1 ((grows-legally plan h (seated a event closing)).0 l)

  pub stands-same : (trace : Bool) (k : CoreKept) → Stands trace plan k one → Stands trace plan k other
  stands-same trace k s = (
    (λ on. s.0 (ap (λ (r : Reached). r.stop) (reached-same trace) ∙ on) ∙ kept-same trace),
    s.1 ∙ ap (λ (r : Reached). r.undrained) (reached-same trace),
    s.2 ∙ ap (λ (r : Reached). r.halted) (reached-same trace),
    s.3 ∙ ap (λ (r : Reached). r.stop) (reached-same trace),
  )
