-- A run on one thread over accepted elements.
use Rattle.std.proofs.Common.{Bool, ℕ, zero, suc, ◌+◌, ◌-◌, ◌<◌, true, false, List, [], ◌∷◌, ◌++◌, ◌≡◌, map, length, get_or, refl, sym, ap, ap₂, ◌∙◌, subst, inl, inr, eqb, arith, append_assoc, append-nil}
use Rattle.pj_value.proofs.Members.{In-append_right, In-filter}
use Rattle.pj_shape.specs.Columns.{domains_of}
use Rattle.pj_pattern.specs.Fitting.{FitsDomains, punct_fits}
use Rattle.std.proofs.lemmas.Bool.{false≢true}
use Rattle.pj_value.specs.declared.values.Value.{Value}
use Rattle.pj_shape.specs.declared.columns.Column.{Column}
use Rattle.pj_events.specs.Patterns.{Pattern, all_wild, matches_row}
use Rattle.pj_value.specs.Bags.{SameBag}
use Rattle.pj_events.specs.Join.{In, Element, Tuple, Punct, JoinState, AllGiven, start, rows_of, upto_from}
use Rattle.pj_events.specs.Plan.{Operator, Stream, Select, Project, Union, Join, Group, Node, operator_at, IsClearOf, IsWellMade, node_width, ArePlanned}
use Rattle.pj_events.specs.declared.events.Entry.{Entry}
use Rattle.pj_events.specs.History.{is_stream, streams_of, stream_node, state_in, begun, reached_of, nodes_from}
use Rattle.pj_events.specs.Outcomes.{elements_of, outputs_of, rows_out, answer_of, lists_of}
use Rattle.pj_events.specs.OneThread.{Turn, heads, tails, rounds, longest, turn_entries, turns_of, in_rounds, turns_entries, schema_of, all_turns, one_thread_of}
use Rattle.pj_laws.specs.HistoryLaws.{AllAreCertified, Certified, HasNoGroup, schema_at, AreAcceptedLists, IsWholeRun, OneThreadIsAnswer, StreamsHold, TurnsGoOn, RoundsGoOn}
use Rattle.pj_pattern.specs.Elements.{IsLawful}
use Rattle.pj_pattern.proofs.Lawful.{none_at}
use Rattle.pj_pattern.proofs.Fitting.{wild_fits}
use Rattle.pj_shape.proofs.DomainsOf.{domains_length}
use Rattle.pj_pattern.proofs.Elements.{rows_of-append}
use Rattle.pj_laws.proofs.Histories.{reached-nodes, nodes-append}
use Rattle.pj_laws.proofs.Rounds.{mine, mine-in_rounds, in_rounds-below, all-tagged, length-all, all-at}
use Rattle.pj_laws.proofs.Probes.{all-from, IsSteady, Rested, AllOperators, all-at as operators-at, length-from}
use Rattle.pj_laws.proofs.OneRun.{AllProbed, FitsFrom, IsReady, IsRun, turns-run, stream-node-there, streams-hold-from}
use Rattle.pj_laws.proofs.HistoryAnswers.{given-is-answer}
use Rattle.pj_join_laws.proofs.Upto.{map-upto}

-- ---- accepted elements fit

clear-of : (sent es : List Element) (e : Element) → IsLawful (sent ++ e ∷ es) → IsClearOf sent e
clear-of sent es (Punct patterns) l = tt
clear-of sent es (Tuple row) l = go sent l
  where
    go : (sent : List Element) → IsLawful (sent ++ Tuple row ∷ es) → (patterns : List Pattern) → In (Punct patterns) sent → matches_row patterns row ≡ false
    go [] l patterns h = absurd h
    go (Tuple r ∷ sent) l patterns (inl q) = cc
    go (Tuple r ∷ sent) l patterns (inr h) = go sent l patterns h
    go (Punct ps ∷ sent) l patterns (inl q) = let same : ps ≡ patterns = cc q in ap (λ (qs : List Pattern). matches_row qs row) (sym same) ∙ none_at ps (sent ++ Tuple row ∷ es) l.0 row (In-append_right (Tuple row) sent (Tuple row ∷ es) (inl refl))
    go (Punct ps ∷ sent) l patterns (inr h) = go sent l.1 patterns h

-- a punctuation of wildcards alone fits
pub wilds-fit : (schema : List Column) → punct_fits (domains_of schema) (all_wild (length schema)) ≡ true
wilds-fit schema = subst (λ (n : ℕ). punct_fits (domains_of schema) (all_wild n) ≡ true) (domains_length schema) (wild_fits (domains_of schema))

turns-fit : (s : ℕ) (schema : List Column) (sent es : List Element) → IsLawful (sent ++ es) → ((e : Element) → In e es → FitsDomains (domains_of schema) e) → FitsFrom schema sent (turns_of s schema es)
turns-fit s schema sent [] l f = (tt, wilds-fit schema, inr (refl, refl, refl), tt)
turns-fit s schema sent (e ∷ es) l f = (
  clear-of sent es e l,
  f e (inl refl),
  inl refl,
  turns-fit s schema (sent ++ e ∷ []) es (subst IsLawful (sym (append_assoc sent (e ∷ []) es)) l) (λ x h. f x (inr h)),
)

-- ---- a plan at its start is ready

abbrev Fresh : Operator → Type 0
Fresh (Stream schema sent) = sent ≡ []
Fresh _ = Unit {0}

start-rests : IsSteady start × AllGiven start
start-rests = (record { below = λ x h. absurd h; distinct = tt; even = refl }, λ x h. absurd h)

made-rests : (m : Operator) (ws : List ℕ) → IsWellMade m ws → Rested m × Fresh m
made-rests (Stream schema sent) ws made = (tt, made.1)
made-rests (Select test) ws made = (tt, tt)
made-rests (Project columns) ws made = (tt, tt)
made-rests (Union n u) ws made = (tt, tt)
made-rests (Join spec s) ws made = (subst (λ (z : JoinState). IsSteady z × AllGiven z) (sym made.2) start-rests, tt)
made-rests (Group spec rows) ws made = (tt, tt)

planned-rests : (ws : List ℕ) (nodes : List Node) → ArePlanned ws nodes → AllOperators Rested nodes × AllOperators Fresh nodes
planned-rests ws [] p = (tt, tt)
planned-rests ws (node ∷ nodes) p =
    let a = made-rests node.operator (map (λ m. get_or ws m 0) node.inputs) p.1 in
    let b = planned-rests (ws ++ node_width ws node ∷ []) nodes p.2 in
    ((a.0, b.0), (a.1, b.1))

stream-form : (m : Operator) → is_stream m ≡ true → Fresh m → m ≡ Stream (schema_of m) []
stream-form (Stream schema sent) e f = ap (Stream schema) f
stream-form (Select test) e f = absurd (false≢true e)
stream-form (Project columns) e f = absurd (false≢true e)
stream-form (Union n u) e f = absurd (false≢true e)
stream-form (Join spec s) e f = absurd (false≢true e)
stream-form (Group spec rows) e f = absurd (false≢true e)

begun-ready : (sweeps : Bool) (plan : List Node) → ArePlanned [] plan → (sweeps ≡ true → AllAreCertified plan) → IsReady sweeps plan (begun plan) (λ s. [])
begun-ready sweeps plan planned sure =
    let p = planned-rests [] plan planned in
    record {
      on = refl;
      rested = p.0;
      certified = λ on. all-from Certified plan (sure on);
      streams = refl;
      long = refl;
      holds = λ s lt. let q = stream-node-there plan s lt in stream-form (operator_at plan (stream_node plan s)) q.1 (operators-at Fresh plan (stream_node plan s) q.0 p.1);
    }

pub rested-given : (m : Operator) → Rested m → AllGiven (state_in m)
rested-given (Stream schema sent) r = λ x h. absurd h
rested-given (Select test) r = λ x h. absurd h
rested-given (Project columns) r = λ x h. absurd h
rested-given (Union n u) r = λ x h. absurd h
rested-given (Join spec s) r = r.1
rested-given (Group spec rows) r = λ x h. absurd h

-- ---- the run

abbrev closing_of : ℕ → List Column → Turn
closing_of s schema = record { stream = s; element = Punct (all_wild (length schema)); closing = 1 }

turn-elements : (s : ℕ) (schema : List Column) (es : List Element) → map (λ t. t.element) (turns_of s schema es) ≡ es ++ Punct (all_wild (length schema)) ∷ []
turn-elements s schema [] = refl
turn-elements s schema (e ∷ es) = ap (λ (xs : List Element). e ∷ xs) (turn-elements s schema es)

turn-closing : (s : ℕ) (schema : List Column) (es : List Element) → In (closing_of s schema) (turns_of s schema es)
turn-closing s schema [] = inl refl
turn-closing s schema (e ∷ es) = inr (turn-closing s schema es)

module _ (sweeps : Bool) (plan : List Node) (planned : ArePlanned [] plan) (sure : sweeps ≡ true → AllAreCertified plan) (lists : List (List Element)) (accepted : AreAcceptedLists plan lists) where
  turns : List Turn
  turns = in_rounds (all_turns plan 0 (streams_of plan) lists)

  count : ℕ
  count = length (streams_of plan)

  mine-is : (s : ℕ) → s < count → mine s turns ≡ turns_of s (schema_at plan s) (get_or lists s [])
  unfolding turns count
  mine-is s lt =
      let z : 0 + s ≡ s = omega arith in
      mine-in_rounds s (all_turns plan 0 (streams_of plan) lists) (all-tagged plan 0 (streams_of plan) lists) (omega (arith, lt, length-all plan 0 (streams_of plan) lists))
      ∙ all-at plan 0 s (length plan) (streams_of plan) lists lt
      ∙ ap (λ (n : ℕ). turns_of n (schema_at plan s) (get_or lists s [])) z

  fits : (s : ℕ) → s < count → FitsFrom (schema_at plan s) [] (mine s turns)
  unfolding count
  fits s lt = let a = accepted.1 s lt in subst (FitsFrom (schema_at plan s) []) (sym (mine-is s lt)) (turns-fit s (schema_at plan s) [] (get_or lists s []) a.1 a.0)

  ran : IsRun sweeps (begun plan) turns
  unfolding turns count
  ran = turns-run sweeps plan turns (begun plan) (λ s. []) (begun-ready sweeps plan planned sure)
      (λ t h. let r = in_rounds-below (all_turns plan 0 (streams_of plan) lists) (all-tagged plan 0 (streams_of plan) lists) t h in omega (arith, r, length-all plan 0 (streams_of plan) lists))
      fits (λ s lt h. absurd (false≢true h))

  pub all-probed : AllProbed sweeps plan (in_rounds (all_turns plan 0 (streams_of plan) lists))
  unfolding turns
  all-probed = ran.probed

  pub whole-run : IsWholeRun sweeps plan lists
  unfolding turns count
  whole-run = record {
    legal = ran.legal;
    given = λ n lt. subst (λ (nodes : List Node). AllGiven (state_in (operator_at nodes n))) (reached-nodes false (begun plan) (turns_entries sweeps plan turns))
        (rested-given (operator_at (reached_of false plan (turns_entries sweeps plan turns)).nodes n) (at n lt));
    closed = λ s lt.
        ran.closed (closing_of s (schema_at plan s))
        (In-filter (λ t. eqb t.stream s) (closing_of s (schema_at plan s)) turns (subst (In (closing_of s (schema_at plan s))) (sym (mine-is s lt)) (turn-closing s (schema_at plan s) (get_or lists s [])))).0
        refl;
    on = ran.on;
    elements = λ s lt. ran.elements s ∙ ap (map (λ t. t.element)) (mine-is s lt) ∙ turn-elements s (schema_at plan s) (get_or lists s []);
  }
    where
      at : (n : ℕ) → n < length plan → Rested (operator_at (reached_of false plan (turns_entries sweeps plan turns)).nodes n)
      at n lt = go n (omega (arith, lt, ap length (reached-nodes false (begun plan) (turns_entries sweeps plan turns)), length-from plan (turns_entries sweeps plan turns)))
        where
          go : (n : ℕ) → n < length (reached_of false plan (turns_entries sweeps plan turns)).nodes → Rested (operator_at (reached_of false plan (turns_entries sweeps plan turns)).nodes n)
          go n l = operators-at Rested (reached_of false plan (turns_entries sweeps plan turns)).nodes n l ran.rested

-- ---- the lists of rows

upto-shift : {A : Type 0} (g : ℕ → A) (k n : ℕ) → map g (upto_from (k + 1) n) ≡ map (λ s. g (suc s)) (upto_from k n)
upto-shift g k zero = refl
upto-shift {A} g k (suc n) = let z : k + 1 ≡ suc k = omega arith in ap₂ (λ (x : A) (xs : List A). x ∷ xs) (ap g z) (upto-shift g (k + 1) n)

rows-upto : (lists : List (List Element)) → map (λ s. rows_of (get_or lists s [])) (upto_from 0 (length lists)) ≡ map rows_of lists
rows-upto [] = refl
rows-upto (es ∷ lists) =
    ap (λ (xs : List (List (List Value))). rows_of es ∷ xs) (upto-shift (λ s. rows_of (get_or (es ∷ lists) s [])) 0 (length lists) ∙ rows-upto lists)

pub lists-are : (sweeps : Bool) (plan : List Node) (planned : ArePlanned [] plan) (sure : sweeps ≡ true → AllAreCertified plan) (lists : List (List Element)) → AreAcceptedLists plan lists → lists_of plan (one_thread_of sweeps plan lists) ≡ map rows_of lists
lists-are sweeps plan planned sure lists accepted =
    map-upto (λ s. rows_of (elements_of s (one_thread_of sweeps plan lists))) (λ s. rows_of (get_or lists s [])) 0 (length (streams_of plan))
    (λ s lt. ap rows_of ((whole-run sweeps plan planned sure lists accepted).elements s (omega arith)) ∙ rows_of-append (get_or lists s []) (Punct (all_wild (length (schema_at plan s))) ∷ []) ∙ append-nil (rows_of (get_or lists s [])))
    ∙ ap (λ (n : ℕ). map (λ s. rows_of (get_or lists s [])) (upto_from 0 n)) (sym accepted.0)
    ∙ rows-upto lists

pub one-thread-is-answer : (sweeps : Bool) (plan : List Node) → ArePlanned [] plan → 0 < length plan → HasNoGroup plan → (sweeps ≡ true → AllAreCertified plan) → OneThreadIsAnswer sweeps plan
one-thread-is-answer sweeps plan planned lt groups sure lists accepted trace =
    subst (λ (all : List (List (List Value))). SameBag (rows_out (outputs_of trace plan (one_thread_of sweeps plan lists))) (answer_of plan all)) (lists-are sweeps plan planned sure lists accepted)
    (given-is-answer plan planned lt groups trace (one_thread_of sweeps plan lists) (whole-run sweeps plan planned sure lists accepted).legal (whole-run sweeps plan planned sure lists accepted).given)

-- ---- turns one by one

pub turns-go-on : TurnsGoOn
turns-go-on sweeps nodes [] back = refl
turns-go-on sweeps nodes (t ∷ front) back =
    ap (λ (es : List Entry). turn_entries sweeps nodes t ++ es) (turns-go-on sweeps (nodes_from nodes (turn_entries sweeps nodes t)) front back)
    ∙ sym (append_assoc (turn_entries sweeps nodes t) (turns_entries sweeps (nodes_from nodes (turn_entries sweeps nodes t)) front) (turns_entries sweeps (nodes_from (nodes_from nodes (turn_entries sweeps nodes t)) (turns_entries sweeps (nodes_from nodes (turn_entries sweeps nodes t)) front)) back))
    ∙ ap (λ (last : List Node). (turn_entries sweeps nodes t ++ turns_entries sweeps (nodes_from nodes (turn_entries sweeps nodes t)) front) ++ turns_entries sweeps last back)
    (sym (nodes-append nodes (turn_entries sweeps nodes t) (turns_entries sweeps (nodes_from nodes (turn_entries sweeps nodes t)) front)))

pub shorter : (lists : List (List Turn)) → longest (tails lists) ≡ longest lists - 1
shorter [] = refl
shorter ([] ∷ lists) = let r = shorter lists in omega arith
shorter ((x ∷ xs) ∷ lists) = let r = shorter lists in omega arith

none-first : (lists : List (List Turn)) → longest lists ≡ 0 → heads lists ≡ []
none-first [] e = refl
none-first ([] ∷ lists) e = none-first lists (omega (arith, e))
none-first ((x ∷ xs) ∷ lists) e = absurd (omega (arith, e))

pub rounds-go-on : RoundsGoOn
rounds-go-on lists = go (longest lists) refl
  where
    go : (n : ℕ) → longest lists ≡ n → rounds n lists ≡ heads lists ++ rounds (longest (tails lists)) (tails lists)
    go zero e = ap₂ (λ (xs ys : List Turn). xs ++ ys) (sym (none-first lists e)) (ap (λ (k : ℕ). rounds k (tails lists)) (let z : 0 ≡ longest (tails lists) = omega (arith, shorter lists, e) in z))
    go (suc n) e = ap (λ (k : ℕ). heads lists ++ rounds k (tails lists)) (let z : n ≡ longest (tails lists) = omega (arith, shorter lists, e) in z)

pub streams-hold : (plan : List Node) → ArePlanned [] plan → StreamsHold plan
streams-hold plan planned h l s lt =
    let q = stream-node-there plan s lt in
    streams-hold-from plan h s l lt (stream-form (operator_at plan (stream_node plan s)) q.1 (operators-at Fresh plan (stream_node plan s) q.0 (planned-rests [] plan planned).1))

-- ---- without sweeps, and with them

pub unswept-whole : (plan : List Node) → ArePlanned [] plan → (lists : List (List Element)) → AreAcceptedLists plan lists → IsWholeRun false plan lists
unswept-whole plan planned lists accepted = whole-run false plan planned (λ e. absurd (false≢true e)) lists accepted

pub unswept-answer : (plan : List Node) → ArePlanned [] plan → 0 < length plan → HasNoGroup plan → OneThreadIsAnswer false plan
unswept-answer plan planned lt groups = one-thread-is-answer false plan planned lt groups (λ e. absurd (false≢true e))

pub swept-whole : (plan : List Node) → ArePlanned [] plan → AllAreCertified plan → (lists : List (List Element)) → AreAcceptedLists plan lists → IsWholeRun true plan lists
swept-whole plan planned certified lists accepted = whole-run true plan planned (λ e. certified) lists accepted

pub swept-answer : (plan : List Node) → ArePlanned [] plan → 0 < length plan → HasNoGroup plan → AllAreCertified plan → OneThreadIsAnswer true plan
swept-answer plan planned lt groups certified = one-thread-is-answer true plan planned lt groups (λ e. certified)
