-- The history of a script over a plan, and what it hands out.
use Rattle.std.proofs.Common.{ℕ, ◌<◌, Bool, true, false, List, [], ◌∷◌, ◌++◌, ◌≡◌, Option, Some, None, is_some, if◌then◌else◌, length, map, get_or, refl, sym, ap, ap₂, ◌∙◌, subst, inl, inr, arith, append_assoc, append-nil}
use Rattle.pj_value.specs.declared.values.Value.{Value}
use Rattle.pj_value.specs.Bags.{SameBag}
use Rattle.pj_pattern.specs.declared.element.Element.{Element}
use Rattle.pj_pattern.specs.declared.element.Element.TheVariants.{Punct}
use Rattle.pj_events.specs.Patterns.{Pattern, all_wild}
use Rattle.pj_events.specs.declared.events.Entry.{Entry}
use Rattle.pj_events.specs.CoreKept.{core_kept}
use Rattle.pj_events.specs.Join.{has, puncts_of, rows_of, upto_from}
use Rattle.pj_events.specs.Plan.{ArePlanned, Node}
use Rattle.pj_events.specs.History.{IsLegal, nodes_from, reached_of, streams_of}
use Rattle.pj_events.specs.Limits.{ReachesLimit}
use Rattle.pj_events.specs.Outcomes.{answer_of, elements_of, elements_out, lists_of, outputs_of, rows_out}
use Rattle.pj_events.specs.OneThread.{Turn, one_thread_of, places_from, probes, sweeps_at}
use Rattle.pj_events.specs.Punctuations.{puncts_answer, puncts_lists}
use Rattle.pj_plan.specs.Sound.{IsSoundPlan}
use Rattle.pj_laws.specs.Climb.{IsTree}
use Rattle.pj_laws.specs.HistoryLaws.{AllAreCertified, AreAcceptedLists, closed_list, closed_lists, schema_at}
use Rattle.pj_laws.specs.Reaching.{IsCounted, elements_to}
use Rattle.pj_laws.specs.SettlingHistories.{EachTakeIsGiven, IsSettling}
use Rattle.pj_join_laws.proofs.Upto.{map-upto}
use Rattle.pj_laws.proofs.Answers.{map-twice}
use Rattle.pj_laws.proofs.Histories.{nodes-append}
use Rattle.pj_laws.proofs.HistoryAnswers.{complete-is-answer, hands_out-lawfully}
use Rattle.pj_laws.proofs.HistoryPuncts.{complete-is-puncts}
use Rattle.pj_laws.proofs.OneThreadAnswer.{lists-are, swept-whole}
use Rattle.pj_laws.proofs.Reaching.{complete-limits-tell}
use Rattle.pj_core.specs.Cores.{CoreState, StandsFor}
use Rattle.pj_core.specs.Plans.{RunPlan, nodes_of}
use Rattle.pj_core.proofs.Planned.{not-empty, planned, tree}
use Rattle.pj_core_laws.proofs.Settles.{work-settles}
use Rattle.pj_script.specs.declared.step.ScriptStep.{ScriptStep}
use Rattle.pj_script.specs.Playing.{Played, all_left, goes_on, played_of, scripted_of}
use Rattle.pj_script_laws.specs.Laws.{AllAreEnabled, BringsFront, HandsOutAnswer, IsFrontOf, IsWholeOf, MayPlay, ScriptedIsAnswer, ScriptedIsComplete, ScriptedIsLawful, ScriptedIsLegal, ScriptedLimitsTell}
use Rattle.pj_script_laws.proofs.Acts.{worked}
use Rattle.pj_script_laws.proofs.Arrivals.{Leaves}
use Rattle.pj_script_laws.proofs.Steps.{Stands, play-stands, start-stands}
use Rattle.pj_script_laws.proofs.Ending.{Ends, Turning, ended-at, goes-on-ends}

-- ---- what arrived

front-of : (plan : List Node) (lists : List (List Element)) (h : List Entry) (s : ℕ) (turns : List Turn) → Leaves plan lists h s turns → BringsFront plan lists h s
front-of plan lists h s turns (inl o) =
    let last : List Element = Punct (all_wild (length (schema_at plan s))) ∷ [] in
    (o.later ++ last, sym (append_assoc (elements_of s h) o.later last) ∙ ap (λ (xs : List Element). xs ++ last) (sym o.parts))
front-of plan lists h s turns (inr e) = ([], append-nil (elements_of s h) ∙ e.whole)

front-turning : (plan : List Node) (lists : List (List Element)) (h : List Entry) → Turning plan lists h [] → IsFrontOf plan lists h
front-turning plan lists h k = record { legal = k.going.legal; on = k.going.on; arrived = λ s lt. front-of plan lists h s [] (k.each s lt) }

front-standing : (plan : List Node) (lists : List (List Element)) (h : List Entry) (left : List (List Turn)) → Stands plan lists h left → IsFrontOf plan lists h
front-standing plan lists h left k = record { legal = k.going.legal; on = k.going.on; arrived = λ s lt. front-of plan lists h s (get_or left s []) (k.each s lt) }

whole-of : (plan : List Node) (lists : List (List Element)) (h : List Entry) → Ends plan lists h → IsWholeOf plan lists h
whole-of plan lists h e = record { complete = e.complete; arrived = λ s lt. (ended-at plan lists h s (e.turning.each s lt)).arrived }

-- ---- limits

-- a longer history goes beyond a limit where this one does
longer-reaches : (plan : List Node) (h back : List Entry) (limit node : ℕ) → ReachesLimit limit plan h node → ReachesLimit limit plan (h ++ back) node
longer-reaches plan h back limit node r = record {
  front = r.front;
  next = r.next;
  back = r.back ++ back;
  parts = ap (λ (es : List Entry). es ++ back) r.parts ∙ append_assoc r.front (r.next ∷ r.back) back;
  within = r.within;
  beyond = r.beyond;
}

-- ---- one plan

module _ (plan : RunPlan) (sound : IsSoundPlan plan.nodes) (certified : AllAreCertified (nodes_of plan)) where
  abbrev nodes : List Node
  nodes = nodes_of plan

  made : ArePlanned [] nodes
  made = planned plan sound

  -- all probes and all sweeps settle any history in which every stream is closed and every take has its give
  settles : (h : List Entry) → IsLegal nodes h → ((s : ℕ) → s < length (streams_of nodes) → has (reached_of false nodes h).closed s ≡ true) → EachTakeIsGiven nodes h
      → IsSettling nodes (h ++ worked (nodes_from nodes h))
  settles h legal closed given =
      subst (λ (ns : List Node). IsSettling nodes (h ++ (probes (nodes_from nodes h) ++ sweeps_at ns (places_from 0 ns)))) (nodes-append nodes h (probes (nodes_from nodes h)))
      (work-settles core sound h stands (record { closed = closed; given = given }))
    where
      core : CoreState
      core = record { plan = plan; limit = 0; kept = core_kept plan.trace nodes h }

      stands : StandsFor core h
      stands = record { legal = legal; stands = (λ e. refl, refl, refl, refl) }

  module _ (lists : List (List Element)) (steps : List (ℕ × ScriptStep)) (may : MayPlay nodes lists steps) where
    abbrev played : Played
    played = played_of nodes lists steps

    stand : Stands nodes lists played.entries played.left
    stand = play-stands nodes made lists may.accepted certified steps [] (all_left nodes lists) (start-stands nodes made lists may.accepted) may.fit

    ends : Ends nodes lists (played.entries ++ goes_on (nodes_from nodes played.entries) played.left)
    ends = goes-on-ends nodes made certified lists may.accepted settles played.entries played.left stand

    abbrev ending : Option ℕ → List Entry
    ending refused = if is_some refused then [] else goes_on (nodes_from nodes played.entries) played.left

    legal-with : (refused : Option ℕ) → IsFrontOf nodes lists (played.entries ++ ending refused)
    legal-with None = front-turning nodes lists (played.entries ++ goes_on (nodes_from nodes played.entries) played.left) ends.turning
    legal-with (Some line) = subst (IsFrontOf nodes lists) (sym (append-nil played.entries)) (front-standing nodes lists played.entries played.left stand)

    pub legal-of : IsFrontOf nodes lists (scripted_of nodes lists steps)
    legal-of = legal-with played.refused

    pub whole-where : AllAreEnabled nodes lists steps → IsWholeOf nodes lists (scripted_of nodes lists steps)
    whole-where enabled =
        subst (λ (refused : Option ℕ). IsWholeOf nodes lists (played.entries ++ ending refused)) (sym enabled)
        (whole-of nodes lists (played.entries ++ goes_on (nodes_from nodes played.entries) played.left) ends)

    -- the history that goes on behind the steps that were made, whether or not they are all
    abbrev going : List Entry
    going = played.entries ++ goes_on (nodes_from nodes played.entries) played.left

    behind-with : (refused : Option ℕ) → (back : List Entry) × ((played.entries ++ ending refused) ++ back ≡ going)
    behind-with None = ([], append-nil going)
    behind-with (Some line) = (
      goes_on (nodes_from nodes played.entries) played.left,
      ap (λ (h : List Entry). h ++ goes_on (nodes_from nodes played.entries) played.left) (append-nil played.entries),
    )

    pub going-legal : IsLegal nodes going
    going-legal = ends.turning.going.legal

    pub going-whole : IsWholeOf nodes lists going
    going-whole = whole-of nodes lists going ends

    -- it goes beyond a limit where the history of the script does
    pub going-reaches : (limit node : ℕ) → ReachesLimit limit nodes (scripted_of nodes lists steps) node → ReachesLimit limit nodes going node
    going-reaches limit node r =
        let rest = behind-with played.refused in
        subst (λ (h : List Entry). ReachesLimit limit nodes h node) rest.1 (longer-reaches nodes (scripted_of nodes lists steps) rest.0 limit node r)

  -- ---- what a whole history hands out

  module _ (lists : List (List Element)) (accepted : AreAcceptedLists nodes lists) (h : List Entry) (legal : IsLegal nodes h) (whole : IsWholeOf nodes lists h) where
    abbrev one : List Entry
    one = one_thread_of true nodes lists

    rows-are : lists_of nodes h ≡ map rows_of lists
    rows-are =
        map-upto (λ s. rows_of (elements_of s h)) (λ s. rows_of (elements_of s one)) 0 (length (streams_of nodes))
        (λ s lt. ap rows_of (whole.arrived s (omega (arith, lt)) ∙ sym ((swept-whole nodes made certified lists accepted).elements s (omega (arith, lt)))))
        ∙ lists-are true nodes made (λ e. certified) lists accepted

    puncts-are : puncts_lists nodes h ≡ map puncts_of (closed_lists nodes lists)
    puncts-are =
        map-upto (λ s. puncts_of (elements_of s h)) (λ s. puncts_of (closed_list nodes lists s)) 0 (length (streams_of nodes)) (λ s lt. ap puncts_of (whole.arrived s (omega (arith, lt))))
        ∙ sym (map-twice puncts_of (closed_list nodes lists) (upto_from 0 (length (streams_of nodes))))

    pub answer-of : (trace : Bool) → HandsOutAnswer trace nodes lists h
    answer-of trace = record {
      rows = subst (λ (all : List (List (List Value))). SameBag (rows_out (outputs_of trace nodes h)) (answer_of nodes all)) rows-are (complete-is-answer nodes made (not-empty plan sound) trace h legal whole.complete);
      punctuations = subst (λ (all : List (List (List Pattern))). SameBag (puncts_of (elements_out (outputs_of trace nodes h))) (puncts_answer nodes all)) puncts-are
          (complete-is-puncts nodes made (not-empty plan sound) trace h legal whole.complete);
    }

    pub limits-of : IsTree nodes → (limit node : ℕ) → ReachesLimit limit nodes h node
        → IsCounted nodes node × (limit < elements_to nodes (map rows_of lists) (map puncts_of (closed_lists nodes lists)) node)
    limits-of tree limit node r =
        let t = complete-limits-tell nodes made tree h legal whole.complete limit node r in
        (t.0, subst (λ (n : ℕ). limit < n) (ap₂ (λ (rows : List (List (List Value))) (puncts : List (List (List Pattern))). elements_to nodes rows puncts node) rows-are puncts-are) t.1)

-- ---- the laws

pub scripted-is-legal : (plan : RunPlan) → IsSoundPlan plan.nodes → AllAreCertified (nodes_of plan) → ScriptedIsLegal (nodes_of plan)
scripted-is-legal plan sound certified lists steps may = legal-of plan sound certified lists steps may

pub scripted-is-complete : (plan : RunPlan) → IsSoundPlan plan.nodes → AllAreCertified (nodes_of plan) → ScriptedIsComplete (nodes_of plan)
scripted-is-complete plan sound certified lists steps may enabled = whole-where plan sound certified lists steps may enabled

pub scripted-is-answer : (plan : RunPlan) → IsSoundPlan plan.nodes → AllAreCertified (nodes_of plan) → ScriptedIsAnswer (nodes_of plan)
scripted-is-answer plan sound certified lists steps may enabled trace =
    answer-of plan sound certified lists may.accepted (scripted_of (nodes_of plan) lists steps) (legal-of plan sound certified lists steps may).legal (whole-where plan sound certified lists steps may enabled) trace

pub scripted-is-lawful : (plan : RunPlan) → IsSoundPlan plan.nodes → AllAreCertified (nodes_of plan) → ScriptedIsLawful (nodes_of plan)
scripted-is-lawful plan sound certified lists steps may trace =
    hands_out-lawfully (nodes_of plan) (planned plan sound) (not-empty plan sound) trace (scripted_of (nodes_of plan) lists steps) (legal-of plan sound certified lists steps may).legal

pub scripted-limits-tell : (plan : RunPlan) → IsSoundPlan plan.nodes → AllAreCertified (nodes_of plan) → ScriptedLimitsTell (nodes_of plan)
scripted-limits-tell plan sound certified lists steps may limit node r =
    limits-of plan sound certified lists may.accepted (going plan sound certified lists steps may) (going-legal plan sound certified lists steps may) (going-whole plan sound certified lists steps may)
    (tree plan sound) limit node (going-reaches plan sound certified lists steps may limit node r)
