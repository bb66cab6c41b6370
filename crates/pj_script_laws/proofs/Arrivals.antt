-- What arrived at a stream, what is left of it, and the next arrival there.
use Rattle.std.proofs.Common.{ℕ, ◌<◌, ◌≢◌, Bool, true, false, cond, ◌||◌, List, [], ◌∷◌, ◌++◌, ◌≡◌, ◌⊎◌, length, get_or, refl, sym, ap, ap₂, ◌∙◌, subst, inl, inr, eqb, arith, append_assoc, append-nil}
use Rattle.std.proofs.lemmas.Bool.{eq-eqb, ne_eqb, or_left}
use Rattle.pj_value.proofs.Members.{In-append_right}
use Rattle.pj_shape.specs.declared.columns.Column.{Column}
use Rattle.pj_shape.specs.Columns.{domains_of}
use Rattle.pj_pattern.specs.declared.element.Element.{Element}
use Rattle.pj_pattern.specs.declared.element.Element.TheVariants.{Tuple, Punct}
use Rattle.pj_pattern.specs.Elements.{IsLawful}
use Rattle.pj_pattern.specs.Fitting.{FitsDomains}
use Rattle.pj_pattern.proofs.Lawful.{none_at}
use Rattle.pj_events.specs.Patterns.{Pattern, all_wild, matches_row}
use Rattle.pj_events.specs.declared.events.Entry.{Entry}
use Rattle.pj_events.specs.Join.{In, has}
use Rattle.pj_events.specs.Plan.{ArePlanned, IsClearOf, MayArrive, Node, Operator, Stream, operator_at}
use Rattle.pj_events.specs.History.{Closes, IsEntryAllowed, Reached, begun, nodes_from, reached_of, stream_node, streams_of}
use Rattle.pj_events.specs.Outcomes.{elements_of}
use Rattle.pj_events.specs.OneThread.{Turn, arrival_of, turns_of}
use Rattle.pj_laws.specs.HistoryLaws.{AreAccepted, AreAcceptedLists, closed_list, schema_at}
use Rattle.pj_laws.proofs.Arriving.{stream-node-from}
use Rattle.pj_laws.proofs.HistoryAnswers.{grows-legally}
use Rattle.pj_laws.proofs.Histories.{reached-append, reached-nodes}
use Rattle.pj_laws.proofs.OneRun.{elements-append, stream-node-there}
use Rattle.pj_laws.proofs.OneThreadAnswer.{streams-hold, wilds-fit}
use Rattle.pj_laws.proofs.Probes.{length-from}
use Rattle.pj_script_laws.proofs.Acts.{Follow, IsGoing}

-- the turn that closes a stream
abbrev closing_turn : ℕ → List Column → Turn
closing_turn stream schema = record { stream = stream; element = Punct (all_wild (length schema)); closing = 1 }

-- the turn that brings an element to it
abbrev element_turn : ℕ → Element → Turn
element_turn stream e = record { stream = stream; element = e; closing = 0 }

-- an element of a lawful list is clear of those before it
clear-at : (front : List Element) (e : Element) (back : List Element) → IsLawful (front ++ e ∷ back) → IsClearOf front e
clear-at front (Punct patterns) back l = tt
clear-at front (Tuple row) back l = go front l
  where
    go : (front : List Element) → IsLawful (front ++ Tuple row ∷ back) → (patterns : List Pattern) → In (Punct patterns) front → matches_row patterns row ≡ false
    go [] l patterns i = absurd i
    go (Tuple other ∷ front) l patterns (inl q) = cc
    go (Tuple other ∷ front) l patterns (inr i) = go front l patterns i
    go (Punct first ∷ front) l patterns (inl q) =
        let same : first ≡ patterns = cc q in
        subst (λ (ps : List Pattern). matches_row ps row ≡ false) same (none_at first (front ++ Tuple row ∷ back) l.0 row (In-append_right (Tuple row) front (Tuple row ∷ back) (inl refl)))
    go (Punct first ∷ front) l patterns (inr i) = go front l.1 patterns i

-- these turns are left of the stream: elements that did not arrive, and the closing
pub record IsOpen (plan : List Node) (lists : List (List Element)) (h : List Entry) (s : ℕ) (turns : List Turn) : Type 0 where
  pub later : List Element
  pub turns_are : turns ≡ turns_of s (schema_at plan s) later
  pub parts : get_or lists s [] ≡ elements_of s h ++ later
  pub unclosed : has (reached_of false plan h).closed s ≡ false

-- none is left, and all arrived
pub record IsEnded (plan : List Node) (lists : List (List Element)) (h : List Entry) (s : ℕ) (turns : List Turn) : Type 0 where
  pub none : turns ≡ []
  pub whole : elements_of s h ≡ closed_list plan lists s
  pub closed : has (reached_of false plan h).closed s ≡ true

abbrev pub Leaves : List Node → List (List Element) → List Entry → ℕ → List Turn → Type 0
Leaves plan lists h s turns = IsOpen plan lists h s turns ⊎ IsEnded plan lists h s turns

-- the next turn of a stream is made
pub record Arrives (plan : List Node) (lists : List (List Element)) (h : List Entry) (s : ℕ) (t : Turn) (turns : List Turn) : Type 0 where
  pub stream : t.stream ≡ s
  pub going : IsGoing plan (h ++ arrival_of t ∷ [])
  pub leaves : Leaves plan lists (h ++ arrival_of t ∷ []) s turns

module _ (plan : List Node) (planned : ArePlanned [] plan) (lists : List (List Element)) (accepted : AreAcceptedLists plan lists) where
  -- where nothing arrives at the stream, and its closing stays as it is, the same are left
  pub leaves-same : (h g : List Entry) (s : ℕ) (turns : List Turn) → elements_of s g ≡ elements_of s h → has (reached_of false plan g).closed s ≡ has (reached_of false plan h).closed s → Leaves plan lists h s turns → Leaves plan lists g s turns
  leaves-same h g s turns e c (inl o) = inl (record {
    later = o.later;
    turns_are = o.turns_are;
    parts = o.parts ∙ ap (λ (xs : List Element). xs ++ o.later) (sym e);
    unclosed = c ∙ o.unclosed;
  })
  leaves-same h g s turns e c (inr o) = inr (record { none = o.none; whole = e ∙ o.whole; closed = c ∙ o.closed })

  -- ---- one arrival

  arrived-closed : (h : List Entry) (t : Turn) → (reached_of false plan (h ++ arrival_of t ∷ [])).closed ≡ cond (eqb t.closing 1) (t.stream ∷ (reached_of false plan h).closed) (reached_of false plan h).closed
  arrived-closed h t = ap (λ (r : Reached). r.closed) (reached-append false (begun plan) h (arrival_of t ∷ []))

  arrived-elements : (h : List Entry) (t : Turn) (s : ℕ) → elements_of s (h ++ arrival_of t ∷ []) ≡ elements_of s h ++ cond (eqb t.stream s) (t.element ∷ []) []
  arrived-elements h t s = elements-append s h (arrival_of t ∷ []) ∙ ap (λ (xs : List Element). elements_of s h ++ xs) (append-nil (cond (eqb t.stream s) (t.element ∷ []) []))

  -- an element may arrive at a stream that is not closed
  may-arrive : (h : List Entry) (s closing : ℕ) (e : Element) → IsGoing plan h → s < length (streams_of plan) → has (reached_of false plan h).closed s ≡ false
      → IsClearOf (elements_of s h) e → FitsDomains (domains_of (schema_at plan s)) e → (closing ≡ 0) ⊎ ((closing ≡ 1) × Closes (Stream (schema_at plan s) (elements_of s h)) e)
      → IsEntryAllowed (reached_of false plan h) (arrival_of (record { stream = s; element = e; closing = closing }))
  may-arrive h s closing e g lt unclosed clear fits mark = (
    (
      g.on,
      unclosed,
      (
        (let t = (stream-node-there plan s lt).0 in let l = ap length nodes-are in omega (arith, t, place, l, length-from plan h)),
        subst (λ (o : Operator). MayArrive o e) (sym holds) (clear, fits),
      ),
    ),
    elim mark [ inl z ↦ inl z | inr z ↦ inr (z.0, subst (λ (o : Operator). Closes o e) (sym holds) z.1) ],
  )
    where
      r : Reached
      r = reached_of false plan h

      nodes-are : r.nodes ≡ nodes_from plan h
      nodes-are = reached-nodes false (begun plan) h

      place : stream_node r.nodes s ≡ stream_node plan s
      place = ap (λ (ns : List Node). stream_node ns s) nodes-are ∙ stream-node-from plan h s

      holds : operator_at r.nodes (stream_node r.nodes s) ≡ Stream (schema_at plan s) (elements_of s h)
      holds = ap₂ operator_at nodes-are place ∙ streams-hold plan planned h g.legal s lt

  going-more : (h : List Entry) (t : Turn) → IsGoing plan h → IsEntryAllowed (reached_of false plan h) (arrival_of t) → IsGoing plan (h ++ arrival_of t ∷ [])
  going-more h t g a = record {
    legal = (grows-legally plan h (arrival_of t)).1 (g.legal, a);
    on = ap (λ (r : Reached). r.stop) (reached-append false (begun plan) h (arrival_of t ∷ [])) ∙ g.on;
  }

  closing-arrives : (h : List Entry) (s : ℕ) → IsGoing plan h → s < length (streams_of plan) → get_or lists s [] ≡ elements_of s h → has (reached_of false plan h).closed s ≡ false
      → Arrives plan lists h s (closing_turn s (schema_at plan s)) []
  closing-arrives h s g lt parts unclosed = record {
    stream = refl;
    going = going-more h t g (may-arrive h s 1 t.element g lt unclosed tt (wilds-fit (schema_at plan s)) (inr (refl, refl)));
    leaves = inr (record { none = refl; whole = whole; closed = closed });
  }
    where
      t : Turn
      t = closing_turn s (schema_at plan s)

      whole : elements_of s (h ++ arrival_of t ∷ []) ≡ closed_list plan lists s
      whole =
          arrived-elements h t s
          ∙ ap (λ (b : Bool). elements_of s h ++ cond b (t.element ∷ []) []) (eq-eqb s s refl)
          ∙ ap (λ (xs : List Element). xs ++ t.element ∷ []) (sym parts)

      closed : has (reached_of false plan (h ++ arrival_of t ∷ [])).closed s ≡ true
      closed = ap (λ (ns : List ℕ). has ns s) (arrived-closed h t) ∙ or_left (eqb s s) (has (reached_of false plan h).closed s) (eq-eqb s s refl)

  element-arrives : (h : List Entry) (s : ℕ) (e : Element) (later : List Element) → IsGoing plan h → s < length (streams_of plan) → get_or lists s [] ≡ elements_of s h ++ e ∷ later
      → has (reached_of false plan h).closed s ≡ false → Arrives plan lists h s (element_turn s e) (turns_of s (schema_at plan s) later)
  element-arrives h s e later g lt parts unclosed = record {
    stream = refl;
    going = going-more h t g (may-arrive h s 0 e g lt unclosed
        (clear-at (elements_of s h) e later (subst IsLawful parts fine.1))
        (fine.0 e (subst (λ (xs : List Element). In e xs) (sym parts) (In-append_right e (elements_of s h) (e ∷ later) (inl refl))))
        (inl refl));
    leaves = inl (record { later = later; turns_are = refl; parts = parts ∙ more; unclosed = ap (λ (ns : List ℕ). has ns s) (arrived-closed h t) ∙ unclosed });
  }
    where
      t : Turn
      t = element_turn s e

      fine : AreAccepted (schema_at plan s) (get_or lists s [])
      fine = accepted.1 s lt

      more : elements_of s h ++ e ∷ later ≡ elements_of s (h ++ arrival_of t ∷ []) ++ later
      more =
          sym (append_assoc (elements_of s h) (e ∷ []) later)
          ∙ ap (λ (xs : List Element). xs ++ later) (sym (arrived-elements h t s ∙ ap (λ (b : Bool). elements_of s h ++ cond b (e ∷ []) []) (eq-eqb s s refl)))

  pub turn-arrives : (h : List Entry) (s : ℕ) (t : Turn) (turns : List Turn) → IsGoing plan h → s < length (streams_of plan) → Leaves plan lists h s (t ∷ turns) → Arrives plan lists h s t turns
  turn-arrives h s t turns g lt (inr o) = absurd (omega (arith, ap length o.none))
  turn-arrives h s t turns g lt (inl o) = go o.later o.turns_are o.parts
    where
      go : (later : List Element) → t ∷ turns ≡ turns_of s (schema_at plan s) later → get_or lists s [] ≡ elements_of s h ++ later → Arrives plan lists h s t turns
      go [] q parts =
          let first : t ≡ closing_turn s (schema_at plan s) = cc q in
          let rest : turns ≡ [] = cc q in
          subst (λ (u : Turn). Arrives plan lists h s u turns) (sym first) (subst (Arrives plan lists h s (closing_turn s (schema_at plan s))) (sym rest) (closing-arrives h s g lt (parts ∙ append-nil (elements_of s h)) o.unclosed))
      go (e ∷ later) q parts =
          let first : t ≡ element_turn s e = cc q in
          let rest : turns ≡ turns_of s (schema_at plan s) later = cc q in
          subst (λ (u : Turn). Arrives plan lists h s u turns) (sym first) (subst (Arrives plan lists h s (element_turn s e)) (sym rest) (element-arrives h s e later g lt parts o.unclosed))

  -- the other streams stay
  pub others-stay : (h : List Entry) (t : Turn) (s : ℕ) (turns : List Turn) → t.stream ≢ s → Leaves plan lists h s turns → Leaves plan lists (h ++ arrival_of t ∷ []) s turns
  others-stay h t s turns ne = leaves-same h (h ++ arrival_of t ∷ []) s turns
      (arrived-elements h t s ∙ ap (λ (b : Bool). elements_of s h ++ cond b (t.element ∷ []) []) (ne_eqb t.stream s ne) ∙ append-nil (elements_of s h))
      (ap (λ (ns : List ℕ). has ns s) (arrived-closed h t) ∙ same (eqb t.closing 1))
    where
      same : (b : Bool) → has (cond b (t.stream ∷ (reached_of false plan h).closed) (reached_of false plan h).closed) s ≡ has (reached_of false plan h).closed s
      same true = ap (λ (b : Bool). b || has (reached_of false plan h).closed s) (ne_eqb t.stream s ne)
      same false = refl

  -- entries that bring nothing leave all as they are
  pub follow-leaves : (h es : List Entry) (s : ℕ) (turns : List Turn) → Follow plan h es → Leaves plan lists h s turns → Leaves plan lists (h ++ es) s turns
  follow-leaves h es s turns f = leaves-same h (h ++ es) s turns (f.elements s) (ap (λ (ns : List ℕ). has ns s) f.closed)
