-- The punctuations that complete histories hand out.
use Rattle.std.proofs.Common.{ℕ, ◌+◌, ◌<◌, Bool, true, false, cond, List, [], ◌∷◌, ◌++◌, ◌≡◌, map, length, get_or, refl, sym, ap, ◌∙◌, subst, inl, inr, arith}
use Rattle.std.proofs.lemmas.Bool.{false≢true}
use Rattle.std.proofs.lemmas.List.{length_push}
use Rattle.pj_value.specs.Bags.{weigh, SameBag}
use Rattle.pj_events.specs.Patterns.{Pattern}
use Rattle.pj_events.specs.Join.{In, puncts_of, upto_from}
use Rattle.pj_events.specs.Plan.{Operator, Stream, Select, Project, Union, Join, Group, Node, fed_to, ArePlanned}
use Rattle.pj_events.specs.declared.events.Entry.{Entry}
use Rattle.pj_events.specs.History.{is_stream, streams_from, streams_of, root_of, begun, steps_from, IsLegal}
use Rattle.pj_events.specs.Outcomes.{elements_out, elements_of, outputs_of, place_in}
use Rattle.pj_events.specs.OneThread.{one_thread_of}
use Rattle.pj_events.specs.Punctuations.{operator_puncts, puncts_in, puncts_from, puncts_at, puncts_answers, puncts_answer, puncts_lists}
use Rattle.pj_laws.specs.HistoryLaws.{AllAreCertified, closed_list, closed_lists, CompleteIsPuncts, SweptIsPuncts}
use Rattle.pj_join_laws.proofs.Upto.{get_or-upto, map-upto}
use Rattle.pj_laws.proofs.Steps.{legal-steps, outputs-handed, all-rise, rising-place, member-place, fed-elements}
use Rattle.pj_laws.proofs.Answers.{map-twice}
use Rattle.pj_laws.proofs.Puncts.{complete-puncts}
use Rattle.pj_laws.proofs.HistoryAnswers.{root-there, complete-run}
use Rattle.pj_laws.proofs.OneThreadAnswer.{swept-whole}
use Rattle.pj_laws.proofs.SweptRun.{swept-complete}

-- ---- the punctuations look at what arrived at the streams alone

operator-agree : (m : Operator) (xs ys : List (List Pattern)) (lists : List (List (List Pattern))) → (is_stream m ≡ true → xs ≡ ys) → operator_puncts m xs lists ≡ operator_puncts m ys lists
operator-agree (Stream schema sent) xs ys lists e = e refl
operator-agree (Select test) xs ys lists e = refl
operator-agree (Project columns) xs ys lists e = refl
operator-agree (Union n u) xs ys lists e = refl
operator-agree (Join spec s) xs ys lists e = refl
operator-agree (Group spec rows) xs ys lists e = refl

puncts-agree : (f g : ℕ → List (List Pattern)) (n : ℕ) (done : List (List (List Pattern))) (nodes : List Node) → length done ≡ n → ((k : ℕ) → In k (streams_from n nodes) → f k ≡ g k) → puncts_from f done nodes ≡ puncts_from g done nodes
puncts-agree f g n done [] long same = refl
puncts-agree f g n done (node ∷ nodes) long same =
    ap (λ (list : List (List Pattern)). puncts_from f (done ++ list ∷ []) nodes) (operator-agree node.operator (f (length done)) (g (length done)) (puncts_in node done) here)
    ∙ puncts-agree f g (n + 1) (done ++ operator_puncts node.operator (g (length done)) (puncts_in node done) ∷ []) nodes (omega (arith, long, length_push done (operator_puncts node.operator (g (length done)) (puncts_in node done)))) (λ k h. same k (later (is_stream node.operator) k h))
  where
    later : (b : Bool) (k : ℕ) → In k (streams_from (n + 1) nodes) → In k (cond b (n ∷ streams_from (n + 1) nodes) (streams_from (n + 1) nodes))
    later true k h = inr h
    later false k h = h

    first : (b : Bool) → b ≡ true → In n (cond b (n ∷ streams_from (n + 1) nodes) (streams_from (n + 1) nodes))
    first true e = inl refl
    first false e = absurd (false≢true e)

    here : is_stream node.operator ≡ true → f (length done) ≡ g (length done)
    here e = ap f long ∙ same n (first (is_stream node.operator) e) ∙ ap g (sym long)

pub puncts-are : (plan : List Node) (h : List Entry) → IsLegal plan h → puncts_from (λ n. puncts_of (fed_to n (steps_from plan h))) [] plan ≡ puncts_answers plan (puncts_lists plan h)
puncts-are plan h l = puncts-agree f g 0 [] plan refl same
  where
    S : List ℕ
    S = streams_of plan

    f : ℕ → List (List Pattern)
    f n = puncts_of (fed_to n (steps_from plan h))

    g : ℕ → List (List Pattern)
    g n = puncts_at (puncts_lists plan h) (place_in 0 S n)

    same : (k : ℕ) → In k (streams_from 0 plan) → f k ≡ g k
    same k m =
        let p = member-place S (length plan) k m in
        let z : 0 + p.0 ≡ p.0 = omega arith in
        ap f (sym p.2)
        ∙ ap puncts_of (fed-elements (begun plan) h p.0 p.1 l)
        ∙ ap (λ s. puncts_of (elements_of s h)) (sym z)
        ∙ sym (get_or-upto (λ s. puncts_of (elements_of s h)) 0 (length S) p.0 [] p.1)
        ∙ ap (λ n. get_or (puncts_lists plan h) n []) (sym z)
        ∙ sym (ap (puncts_at (puncts_lists plan h)) (rising-place 0 0 S (length plan) p.0 (all-rise plan) p.1))
        ∙ ap g p.2

-- ---- complete histories

pub complete-is-puncts : (plan : List Node) → ArePlanned [] plan → 0 < length plan → CompleteIsPuncts plan
complete-is-puncts plan planned lt trace h l complete =
    (λ f.
    ap (λ es. weigh f (puncts_of es)) (outputs-handed trace plan h)
    ∙ complete-puncts plan planned (steps_from plan h) (legal-steps (begun plan) h l) (complete-run plan h l complete) (root_of plan) (root-there plan lt) f
    ∙ ap (λ evs. weigh f (get_or evs (root_of plan) [])) (puncts-are plan h l))

pub swept-is-puncts : (plan : List Node) → ArePlanned [] plan → 0 < length plan → AllAreCertified plan → SweptIsPuncts plan
swept-is-puncts plan planned lt certs lists accepted trace =
    subst (λ (all : List (List (List Pattern))). SameBag (puncts_of (elements_out (outputs_of trace plan h))) (puncts_answer plan all)) arrived
    (complete-is-puncts plan planned lt trace h (swept-whole plan planned certs lists accepted).legal (swept-complete plan planned lt certs lists accepted))
  where
    h : List Entry
    h = one_thread_of true plan lists

    arrived : puncts_lists plan h ≡ map puncts_of (closed_lists plan lists)
    arrived =
        map-upto (λ s. puncts_of (elements_of s h)) (λ s. puncts_of (closed_list plan lists s)) 0 (length (streams_of plan))
        (λ s l. ap puncts_of ((swept-whole plan planned certs lists accepted).elements s (omega (arith, l))))
        ∙ sym (map-twice puncts_of (closed_list plan lists) (upto_from 0 (length (streams_of plan))))
