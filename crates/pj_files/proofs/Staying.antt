-- First outputs of a plan's history stay right.
use Rattle.pj_run.specs.Jobs.{Job}
use Rattle.pj_plan.specs.declared.node.PlanNode.{PlanNode}
use Rattle.pj_shape.specs.declared.columns.Column.{Column}
use Rattle.pj_plan.specs.Nodes.{stream_columns, streams_in}
use Rattle.std.proofs.Common.{◌≡◌, ◌<◌, ◌≤◌, ◌+◌, ℕ, zero, suc, Bool, ◌⊎◌, inl, inr, List, [], ◌∷◌, ◌++◌, length, map, get_or, refl, ap, sym, ◌∙◌, subst, append_assoc, append-nil, arith}
use Rattle.std.proofs.lemmas.Bool.{cases_lt}
use Rattle.std.proofs.lemmas.List.{get_or-map, length-append, length-map}
use Rattle.pj_value.specs.Bags.{weigh, SubBag}
use Rattle.pj_value.specs.Lists.{In}
use Rattle.pj_value.specs.declared.values.Value.{Value}
use Rattle.pj_value.proofs.Bags.{sub-front}
use Rattle.pj_value.proofs.Members.{In-append_right}
use Rattle.pj_pattern.specs.declared.element.Element.{Element}
use Rattle.pj_pattern.specs.Elements.{IsLawful, rows_of}
use Rattle.pj_pattern.proofs.Elements.{rows_of-append}
use Rattle.pj_pattern.proofs.Lawful.{none_at}
use Rattle.pj_events.specs.Join.{upto_from}
use Rattle.pj_events.specs.Plan.{Node}
use Rattle.pj_events.specs.declared.events.Entry.{Entry}
use Rattle.pj_events.specs.History.{nodes_from, IsLegal}
use Rattle.pj_events.specs.Outcomes.{elements_out}
use Rattle.pj_events.specs.Outcomes.{outputs_of as handed_out, elements_of as arrived_at}
use Rattle.pj_laws.specs.Finality.{GoOnLawfully}
use Rattle.pj_laws.proofs.Histories.{outputs-append}
use Rattle.pj_laws.proofs.HistoryAnswers.{fronts-are-legal}
use Rattle.pj_laws.proofs.Extensions.{none-behind}
use Rattle.pj_laws.proofs.Groups.{row-in}
use Rattle.pj_laws.proofs.FinalRows.{is-final}
use Rattle.pj_join_laws.proofs.Upto.{length-upto}
use Rattle.pj_laws.proofs.Steps.{elements-append}
use Rattle.pj_core_laws.proofs.PlainAnswers.{answers-are-plain}
use Rattle.pj_run.specs.Runs.{outs_by, plan_run, run_nodes}
use Rattle.pj_report.specs.declared.writer.Form.{Form}
use Rattle.pj_report.specs.declared.writer.Form.TheVariants.{AsTheyCome, Sorted, Summed}
use Rattle.pj_report.specs.Forms.{in_form}
use Rattle.pj_report.proofs.Forms.{formed_at_most}
use Rattle.pj_files.specs.Staying.{AllLawful, AreOfWidth, answer_after, arrived_in, gone_on, streams_after, ReachesSo, StaysRight}
use Rattle.pj_run.proofs.Accepting.{count-streams, schema-is}
use Rattle.pj_run.proofs.Planned.{IsPlanned}

-- ---- what a history hands out grows

-- the elements that a history hands out
abbrev given_out : Bool → List Node → List Entry → List Element
given_out trace nodes h = elements_out (handed_out trace nodes h)

given-append : (trace : Bool) (nodes : List Node) (xs ys : List Entry) → given_out trace nodes (xs ++ ys) ≡ given_out trace nodes xs ++ given_out trace (nodes_from nodes xs) ys
given-append trace nodes xs ys = ap elements_out (outputs-append trace nodes xs ys) ∙ elements-append (handed_out trace nodes xs) (handed_out trace (nodes_from nodes xs) ys)

-- ---- the least front that hands out so many elements

-- a front with one more entry hands out so many elements, and the front alone fewer
record IsLeast (trace : Bool) (nodes : List Node) (history : List Entry) (count : ℕ) : Type 0 where
  front : List Entry
  last : Entry
  back : List Entry
  run : (front ++ last ∷ []) ++ back ≡ history
  before : length (given_out trace nodes front) < count
  enough : count ≤ length (given_out trace nodes (front ++ last ∷ []))

least : (trace : Bool) (nodes : List Node) (done rest : List Entry) (count : ℕ) → length (given_out trace nodes done) < count → count ≤ length (given_out trace nodes (done ++ rest)) → IsLeast trace nodes (done ++ rest) count
least trace nodes done [] count lt le = absurd (omega (arith, lt, le, ap (λ (h : List Entry). length (given_out trace nodes h)) (append-nil done)))
least trace nodes done (entry ∷ rest) count lt le =
    let same = append_assoc done (entry ∷ []) rest in
    elim (cases_lt (length (given_out trace nodes (done ++ entry ∷ []))) count) [
      | inr enough ↦ record { front = done; last = entry; back = rest; run = same; before = lt; enough = enough }
      | inl fewer ↦ subst (λ (h : List Entry). IsLeast trace nodes h count) same
          (least trace nodes (done ++ entry ∷ []) rest count fewer (subst (λ (h : List Entry). count ≤ length (given_out trace nodes h)) (sym same) le))
    ]

-- a list that is not longer than another front of the same list is its front
front-of : (xs ys us vs : List Element) → xs ++ ys ≡ us ++ vs → length xs ≤ length us → (zs : List Element) × (xs ++ zs ≡ us)
front-of [] ys us vs e le = (us, refl)
front-of (x ∷ xs) ys [] vs e le = absurd (omega (arith, le))
front-of (x ∷ xs) ys (u ∷ us) vs e le =
    let head : x ≡ u = cc e in
    let tail : xs ++ ys ≡ us ++ vs = cc e in
    let more = front-of xs ys us vs tail (omega (arith, le)) in
    (more.0, ap (λ (z : Element). z ∷ xs ++ more.0) head ∙ ap (λ (zs : List Element). u ∷ zs) more.1)

-- ---- the streams go on

goes-on : (f : ℕ → List Element) (k n : ℕ) (more : List (List Element)) (s : ℕ) → s < n → (rest : List Element) × (get_or (gone_on (map f (upto_from k n)) more) s [] ≡ f (k + s) ++ rest)
goes-on f k zero more s lt = absurd (omega arith)
goes-on f k (suc n) [] zero lt = let z : k ≡ k + 0 = omega arith in ([], ap f z ∙ sym (append-nil (f (k + 0))))
goes-on f k (suc n) (m ∷ more) zero lt = let z : k ≡ k + 0 = omega arith in (m, ap (λ (i : ℕ). f i ++ m) z)
goes-on f k (suc n) [] (suc s) lt =
    let z : k + 1 + s ≡ k + suc s = omega arith in
    subst (λ (i : ℕ). (rest : List Element) × (get_or (gone_on (map f (upto_from (k + 1) n)) []) s [] ≡ f i ++ rest)) z (goes-on f (k + 1) n [] s (omega arith))
goes-on f k (suc n) (m ∷ more) (suc s) lt =
    let z : k + 1 + s ≡ k + suc s = omega arith in
    subst (λ (i : ℕ). (rest : List Element) × (get_or (gone_on (map f (upto_from (k + 1) n)) more) s [] ≡ f i ++ rest)) z (goes-on f (k + 1) n more s (omega arith))

gone-long : (fs more : List (List Element)) → length (gone_on fs more) ≡ length fs
gone-long [] more = refl
gone-long (f ∷ fs) [] = ap suc (gone-long fs [])
gone-long (f ∷ fs) (m ∷ more) = ap suc (gone-long fs more)

arrived-long : (n : ℕ) (h : List Entry) (more : List (List Element)) → length (gone_on (arrived_in n h) more) ≡ n
arrived-long n h more =
    gone-long (arrived_in n h) more ∙ (length-map (upto_from 0 n) (λ stream. arrived_at stream h) ∙ length-upto 0 n)

-- what is so of the elements of a stream
record IsLawfulStream (columns : List Column) (es : List Element) : Type 0 where
  lawful : IsLawful es
  wide : AreOfWidth (length columns) (rows_of es)

lawful-at : (streams : List PlanNode) (lists : List (List Element)) (k : ℕ) → AllLawful streams lists → k < length streams → k < length lists → IsLawfulStream (stream_columns streams k) (get_or lists k [])
lawful-at [] lists k all lt there = absurd (omega (arith, lt))
lawful-at (stream ∷ streams) [] k all lt there = absurd (omega (arith, there))
lawful-at (stream ∷ streams) (es ∷ lists) zero all lt there = record { lawful = all.0; wide = all.1 }
lawful-at (stream ∷ streams) (es ∷ lists) (suc k) all lt there = lawful-at streams lists k all.2 (omega (arith, lt)) (omega (arith, there))

go_on : (job : Job) (h : List Entry) (more : List (List Element)) → AllLawful (streams_in job.nodes) (streams_after job h more) → GoOnLawfully (run_nodes job) h (map rows_of (streams_after job h more))
go_on job h more all s lt = record {
  later = rows_of g.0;
  whole = get_or-map rows_of lists s [] [] inside ∙ rows;
  fit = λ row m. a.wide row (subst (λ (rs : List (List Value)). In row rs) (sym rows) (In-append_right row (rows_of came) (rows_of g.0) m)) ∙ ap length (sym (schema-is job s (length (run_nodes job)) there));
  clear = λ row m ps p. none_at ps g.0 (none-behind came g.0 (subst IsLawful parts a.lawful) ps p) row (row-in row g.0 m);
}
  where
    n : ℕ
    n = length (streams_in job.nodes)

    lists : List (List Element)
    lists = streams_after job h more

    came : List Element
    came = arrived_at s h

    there : s < n
    there = omega (arith, lt, count-streams job)

    inside : s < length lists
    inside = let long = arrived-long n h more in omega (arith, there, long)

    g : (rest : List Element) × (get_or lists s [] ≡ arrived_at (0 + s) h ++ rest)
    g = goes-on (λ (stream : ℕ). arrived_at stream h) 0 n more s there

    parts : get_or lists s [] ≡ came ++ g.0
    parts = let z : 0 + s ≡ s = omega arith in g.1 ∙ ap (λ (i : ℕ). arrived_at i h ++ g.0) z

    rows : rows_of (get_or lists s []) ≡ rows_of came ++ rows_of g.0
    rows = ap rows_of parts ∙ rows_of-append came g.0

    a : IsLawfulStream (stream_columns (streams_in job.nodes) s) (get_or lists s [])
    a = lawful-at (streams_in job.nodes) lists s all there inside

-- ---- first outputs stay right

-- first elements weigh no more than all
rows_front : (xs ys zs : List Element) → xs ++ ys ≡ zs → SubBag (rows_of xs) (rows_of zs)
rows_front xs ys zs e f =
    let all = ap (λ (es : List Element). weigh f (rows_of es)) e in
    let parts = ap (weigh f) (rows_of-append xs ys) in
    let front = sub-front (rows_of xs) (rows_of ys) f in
    omega (arith, all, parts, front)

right_front : (job : Job) (history : List Entry) (first others : List Element) (front back : List Entry) → IsPlanned job → IsLegal (run_nodes job) history → front ++ back ≡ history
    → first ++ others ≡ in_form job.form (given_out job.trace (run_nodes job) front)
    → (more : List (List Element)) → AllLawful (streams_in job.nodes) (streams_after job front more) → SubBag (rows_of first) (answer_after job front more)
right_front job history first others front back p legal run among more lawful f =
    let legal = fronts-are-legal (run_nodes job) front back (subst (IsLegal (run_nodes job)) (sym run) legal) in
    let sub = is-final (run_nodes job) p.well_made p.some job.trace front legal (map rows_of (streams_after job front more)) (go_on job front more lawful) f in
    let plain = ap (weigh f) (answers-are-plain (plan_run job) (map rows_of (streams_after job front more))).answer in
    let given = given_out job.trace (run_nodes job) front in
    omega (arith, sub, plain, rows_front first others (in_form job.form given) among f, formed_at_most job.form given f)

-- the form in which they are written
module _ (job : Job) (history : List Entry) (first others : List Element) (p : IsPlanned job) (legal : IsLegal (run_nodes job) history) where
  least_front : job.form ≡ AsTheyCome → first ++ others ≡ given_out job.trace (run_nodes job) history → IsLeast job.trace (run_nodes job) history (length first) → StaysRight job history first
  least_front is e cut =
      let now = cut.front ++ cut.last ∷ [] in
      let all = e ∙ (ap (given_out job.trace (run_nodes job)) (sym cut.run) ∙ given-append job.trace (run_nodes job) now cut.back) in
      let part = front-of first others (given_out job.trace (run_nodes job) now) (given_out job.trace (nodes_from (run_nodes job) now) cut.back) all cut.enough in
      let among = part.1 ∙ ap (λ (form : Form). in_form form (given_out job.trace (run_nodes job) now)) (sym is) in
      record {
        front = now;
        back = cut.back;
        run = cut.run;
        others = part.0;
        among = among;
        reaches = subst (λ (form : Form). ReachesSo form job now cut.back (length first)) (sym is) (inr (cut.front, cut.last, refl, cut.before));
        right = right_front job history first part.0 now cut.back p legal cut.run among;
      }

  whole_front : job.form ≡ Sorted → first ++ others ≡ in_form job.form (given_out job.trace (run_nodes job) history) → StaysRight job history first
  whole_front is e =
      let run = append-nil history in
      record {
        front = history;
        back = [];
        run = run;
        others = others;
        among = e;
        reaches = subst (λ (form : Form). ReachesSo form job history [] (length first)) (sym is) refl;
        right = right_front job history first others history [] p legal run e;
      }

  stays_in : (form : Form) → job.form ≡ form → first ++ others ≡ in_form job.form (given_out job.trace (run_nodes job) history) → 0 < length first → StaysRight job history first
  stays_in AsTheyCome is e some =
      let same = e ∙ ap (λ (form : Form). in_form form (given_out job.trace (run_nodes job) history)) is in
      least_front is same (least job.trace (run_nodes job) [] history (length first) some (omega (arith, ap length same, length-append first others)))
  stays_in Sorted is e some = whole_front is e
  stays_in Summed is e some =
      let none = ap length (e ∙ ap (λ (form : Form). in_form form (given_out job.trace (run_nodes job) history)) is) in
      absurd (omega (arith, none, length-append first others, some))

-- first outputs of a legal history stay right, in the order in which they are written
pub stays : (job : Job) (history : List Entry) (first others : List Element) → IsPlanned job → IsLegal (run_nodes job) history → first ++ others ≡ in_form job.form (elements_out (outs_by job history)) → (first ≡ []) ⊎ StaysRight job history first
stays job history [] others p legal e = inl refl
stays job history (x ∷ first) others p legal e = inr (stays_in job history (x ∷ first) others p legal job.form refl e (omega arith))
