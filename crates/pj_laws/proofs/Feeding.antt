-- What arrived at a stream is what its seat made arrive.
use Rattle.std.proofs.Common.{ℕ, Bool, true, false, cond, ◌&&◌, ◌||◌, List, [], ◌∷◌, ◌++◌, ◌≡◌, eqb, refl, sym, ap, ◌∙◌}
use Rattle.std.proofs.lemmas.Bool.{false≢true, or_parts}
use Rattle.pj_events.specs.declared.events.Entry.{Entry}
use Rattle.pj_events.specs.declared.events.Event.{Event}
use Rattle.pj_events.specs.declared.events.Event.TheVariants.{Arrive, Take as Taken, Give as Given, Sweep as Swept, Drain, Halt, Look, Stopped, Idle}
use Rattle.pj_events.specs.Join.{Element, has}
use Rattle.pj_events.specs.History.{Reached, closed_after, next, reached_from}
use Rattle.pj_events.specs.Outcomes.{element_at, elements_of}
use Rattle.pj_events.specs.Plan.{Node}
use Rattle.pj_laws.specs.Seats.{AreFedByOwn, MayFeedAll, IsFedByOwn, closes, is_closed, made_by, seated}

-- an entry of another seat brings nothing to the stream, and does not close it
other-brings : (stream seat mark : ℕ) (event : Event) → eqb seat stream ≡ false → IsFedByOwn seat event → (element_at stream event ≡ []) × (closes stream mark event ≡ false)
other-brings stream seat mark (Arrive s e) o f =
    let no : eqb s stream ≡ false = ap (λ (n : ℕ). eqb n stream) (sym f) ∙ o in
    (ap (λ (b : Bool). cond b (e ∷ []) []) no, ap (λ (b : Bool). b && eqb mark 1) no)
other-brings stream seat mark (Taken j u) o f = (refl, refl)
other-brings stream seat mark (Given j u) o f = (refl, refl)
other-brings stream seat mark (Swept j i) o f = (refl, refl)
other-brings stream seat mark Drain o f = (refl, refl)
other-brings stream seat mark Halt o f = (refl, refl)
other-brings stream seat mark (Look p) o f = (refl, refl)
other-brings stream seat mark (Stopped s) o f = (refl, refl)
other-brings stream seat mark Idle o f = (refl, refl)

pub elements-own : (stream : ℕ) (h : List Entry) → AreFedByOwn h → elements_of stream h ≡ elements_of stream (made_by stream h)
elements-own stream [] f = refl
elements-own stream (e ∷ h) f = go (eqb e.seat stream) refl (elements-own stream h f.1)
  where
    go : (b : Bool) → eqb e.seat stream ≡ b → elements_of stream h ≡ elements_of stream (made_by stream h) → elements_of stream (e ∷ h) ≡ elements_of stream (cond b (e ∷ made_by stream h) (made_by stream h))
    go true q ih = ap (λ (es : List Element). element_at stream e.event ++ es) ih
    go false q ih = ap (λ (es : List Element). es ++ elements_of stream h) (other-brings stream e.seat e.closing e.event q f.0).0 ∙ ih

pub closed-own : (stream : ℕ) (h : List Entry) → AreFedByOwn h → is_closed stream h ≡ is_closed stream (made_by stream h)
closed-own stream [] f = refl
closed-own stream (e ∷ h) f = go (eqb e.seat stream) refl (closed-own stream h f.1)
  where
    go : (b : Bool) → eqb e.seat stream ≡ b → is_closed stream h ≡ is_closed stream (made_by stream h) → is_closed stream (e ∷ h) ≡ is_closed stream (cond b (e ∷ made_by stream h) (made_by stream h))
    go true q ih = ap (λ (b : Bool). closes stream e.closing e.event || b) ih
    go false q ih = ap (λ (b : Bool). b || is_closed stream h) (other-brings stream e.seat e.closing e.event q f.0).1 ∙ ih

-- ---- closed streams

closed-next : (stream mark : ℕ) (closed : List ℕ) (event : Event) → has closed stream ≡ false → closes stream mark event ≡ false → has (closed_after closed mark event) stream ≡ false
closed-next stream mark closed (Arrive s e) h c = go (eqb mark 1) (eqb s stream) refl c
  where
    go : (m q : Bool) → eqb s stream ≡ q → (q && m) ≡ false → has (cond m (s ∷ closed) closed) stream ≡ false
    go true true r d = absurd (false≢true (sym d))
    go true false r d = ap (λ (b : Bool). b || has closed stream) r ∙ h
    go false q r d = h
closed-next stream mark closed (Taken j u) h c = h
closed-next stream mark closed (Given j u) h c = h
closed-next stream mark closed (Swept j i) h c = h
closed-next stream mark closed Drain h c = h
closed-next stream mark closed Halt h c = h
closed-next stream mark closed (Look p) h c = h
closed-next stream mark closed (Stopped s) h c = h
closed-next stream mark closed Idle h c = h

pub not-closed : (trace : Bool) (r : Reached) (h : List Entry) (stream : ℕ) → has r.closed stream ≡ false → is_closed stream h ≡ false → has (reached_from trace r h).closed stream ≡ false
not-closed trace r [] stream h c = h
not-closed trace r (e ∷ es) stream h c =
    let p = or_parts (closes stream e.closing e.event) (is_closed stream es) c in
    not-closed trace (next trace r e) es stream (closed-next stream e.closing r.closed e.event h p.0) p.1

-- ---- one entry more

pub closed-more : (stream : ℕ) (h : List Entry) (e : Entry) → is_closed stream h ≡ false → closes stream e.closing e.event ≡ false → is_closed stream (h ++ e ∷ []) ≡ false
closed-more stream [] e o c = ap (λ (b : Bool). b || false) c
closed-more stream (x ∷ h) e o c =
    let p = or_parts (closes stream x.closing x.event) (is_closed stream h) o in
    ap (λ (b : Bool). b || is_closed stream (h ++ e ∷ [])) p.0 ∙ closed-more stream h e p.1 c

-- an arrival that is no closing leaves a stream as it is
pub arrived-unclosed : (stream n : ℕ) (element : Element) (h es : List Entry) → is_closed stream h ≡ false → es ≡ h ++ seated n (Arrive stream element) 0 ∷ [] → is_closed stream es ≡ false
arrived-unclosed stream n element h es o is =
    ap (is_closed stream) is ∙ closed-more stream h (seated n (Arrive stream element) 0) o (none (eqb stream stream))
  where
    none : (b : Bool) → (b && eqb 0 1) ≡ false
    none true = refl
    none false = refl

-- a stream to which elements may come is not closed
pub feeds-unclosed : (nodes : List Node) (stream : ℕ) (own : List Entry) (es : List Element) → MayFeedAll nodes stream own es → is_closed stream own ≡ false
feeds-unclosed nodes stream own [] may = may
feeds-unclosed nodes stream own (e ∷ es) may = may.0.unclosed
