-- What becomes of a line goes by its position and the lines before it.
use Rattle.std.proofs.Common.{◌≡◌, ◌<◌, ℕ, zero, suc, ◌+◌, true, false, cond, List, [], ◌∷◌, ◌++◌, Option, Some, None, take, refl, ap, sym, ◌∙◌, arith, append_assoc, slice_get, append-nil}
use Rattle.pj_value.specs.declared.values.Value.{Value}
use Rattle.pj_element.specs.declared.element.Read.{Read}
use Rattle.pj_element.specs.declared.element.Read.TheVariants.{Skip, Tuple, Punct, Bad}
use Rattle.pj_element.specs.declared.element.Reject.TheVariants.{Closed}
use Rattle.pj_pattern.specs.declared.element.Element.{Element}
use Rattle.pj_pattern.specs.declared.element.Element.TheVariants.{Tuple as AcceptedTuple, Punct as AcceptedPunct}
use Rattle.pj_element.specs.Accepted.{closes, closing_line, ClosedBy, IsAccepted, Fate, Taken, Refused, tuple_fate, fate_behind, fates}

-- none of the lines closes the row
abbrev NoneCloses : List Read → List Value → Type 0
NoneCloses xs row = (k : ℕ) (r : Read) → slice_get xs k ≡ Some r → closes r row ≡ false

none-cons : (x : Read) (xs : List Read) (row : List Value) → closes x row ≡ false → NoneCloses xs row → NoneCloses (x ∷ xs) row
none-cons x xs row here later zero r is = let e : x ≡ r = cc in rw (sym e) here
none-cons x xs row here later (suc k) r is = later k r is

open_none : (n : ℕ) (xs : List Read) (row : List Value) → closing_line n xs row ≡ None → NoneCloses xs row
open_none n [] row e = λ k r is. absurd (cc)
open_none n (x ∷ xs) row e =
    elim (closes x row) as (λ b. closes x row ≡ b → cond b (Some n) (closing_line (n + 1) xs row) ≡ None → NoneCloses (x ∷ xs) row)
    [ true ↦ λ _ none. absurd (cc) | false ↦ λ here none. none-cons x xs row here (open_none (n + 1) xs row none) ] refl e

none_open : (n : ℕ) (xs : List Read) (row : List Value) → NoneCloses xs row → closing_line n xs row ≡ None
none_open n [] row none = refl
none_open n (x ∷ xs) row none = rw (none zero x refl) (none_open (n + 1) xs row (λ k r is. none (suc k) r is))

-- the first line that closes the row, counted from 0
record First (xs : List Read) (k : ℕ) (row : List Value) : Type 0 where
  it : Read
  here : slice_get xs k ≡ Some it
  closed : closes it row ≡ true
  before : (j : ℕ) → j < k → (r : Read) → slice_get xs j ≡ Some r → closes r row ≡ false

first-cons : (x : Read) (xs : List Read) (row : List Value) (k : ℕ) → closes x row ≡ false → First xs k row → First (x ∷ xs) (suc k) row
first-cons x xs row k openly f = record { it = f.it; here = f.here; closed = f.closed; before = go }
  where
    go : (j : ℕ) → j < suc k → (r : Read) → slice_get (x ∷ xs) j ≡ Some r → closes r row ≡ false
    go zero lt r is = let e : x ≡ r = cc in rw (sym e) openly
    go (suc j) lt r is = f.before j (omega arith) r is

found : (n line : ℕ) (xs : List Read) (row : List Value) → closing_line n xs row ≡ Some line → (k : ℕ) × (line ≡ n + k) × First xs k row
found n line [] row e = absurd (cc)
found n line (x ∷ xs) row e =
    elim (closes x row) as (λ b. closes x row ≡ b → cond b (Some n) (closing_line (n + 1) xs row) ≡ Some line → (k : ℕ) × (line ≡ n + k) × First (x ∷ xs) k row) [
      | true ↦ λ here is. let same : n ≡ line = cc in (zero, omega arith, record { it = x; here = refl; closed = here; before = λ j lt r get. absurd (omega arith) })
      | false ↦ λ here is. let f = found (n + 1) line xs row is in (suc f.0, omega (arith, f.1), first-cons x xs row f.0 here f.2)
    ] refl e

first_found : (n k : ℕ) (xs : List Read) (row : List Value) → First xs k row → closing_line n xs row ≡ Some (n + k)
first_found n k [] row f = absurd (let e = f.here in cc)
first_found n zero (x ∷ xs) row f =
    let same : x ≡ f.it = let e = f.here in cc in
    rw (ap (λ (r : Read). closes r row) same ∙ f.closed) (ap Some (omega arith))
first_found n (suc k) (x ∷ xs) row f =
    rw (f.before zero (omega arith) x refl)
    (first_found (n + 1) k xs row (record { it = f.it; here = f.here; closed = f.closed; before = λ j lt r is. f.before (suc j) (omega arith) r is })
    ∙ ap Some (omega arith))

-- ---- the lines before one

front_get : (n k : ℕ) (xs : List Read) (r : Read) → slice_get (take n xs) k ≡ Some r → (k < n) × (slice_get xs k ≡ Some r)
front_get zero k xs r e = absurd (cc)
front_get (suc n) k [] r e = absurd (cc)
front_get (suc n) zero (x ∷ xs) r e = (omega arith, e)
front_get (suc n) (suc k) (x ∷ xs) r e = let g = front_get n k xs r e in (omega (arith, g.0), g.1)

get_front : (n k : ℕ) (xs : List Read) (r : Read) → k < n → slice_get xs k ≡ Some r → slice_get (take n xs) k ≡ Some r
get_front zero k xs r lt e = absurd (omega arith)
get_front (suc n) k [] r lt e = absurd (cc)
get_front (suc n) zero (x ∷ xs) r lt e = e
get_front (suc n) (suc k) (x ∷ xs) r lt e = get_front n k xs r (omega arith) e

fate_at : (earlier rs : List Read) (n : ℕ) (r : Read) → slice_get rs n ≡ Some r → slice_get (fates earlier rs) n ≡ Some (fate_behind (earlier ++ take n rs) r)
fate_at earlier [] n r e = absurd (cc)
fate_at earlier (x ∷ xs) zero r e = let same : x ≡ r = cc in rw (append-nil, same) refl
fate_at earlier (x ∷ xs) (suc n) r e =
    fate_at (earlier ++ x ∷ []) xs n r e ∙ ap (λ (front : List Read). Some (fate_behind front r)) (append_assoc earlier (x ∷ []) (take n xs))

read_at : (earlier rs : List Read) (n : ℕ) (f : Fate) → slice_get (fates earlier rs) n ≡ Some f → (r : Read) × (slice_get rs n ≡ Some r) × (f ≡ fate_behind (earlier ++ take n rs) r)
read_at earlier [] n f e = absurd (cc)
read_at earlier (x ∷ xs) zero f e = (x, refl, rw append-nil (cc))
read_at earlier (x ∷ xs) (suc n) f e =
    let g = read_at (earlier ++ x ∷ []) xs n f e in
    (g.0, g.1, g.2 ∙ ap (λ (front : List Read). fate_behind front g.0) (append_assoc earlier (x ∷ []) (take n xs)))

-- ---- accepted lines

taken_tuple : (row : List Value) (closing : Option ℕ) (e : Element) → Taken e ≡ tuple_fate row closing → (closing ≡ None) × (e ≡ AcceptedTuple row)
taken_tuple row None e is = (refl, cc)
taken_tuple row (Some n) e is = absurd (cc)

taken_line : (reads : List Read) (n : ℕ) (r : Read) (e : Element) → slice_get reads n ≡ Some r → Taken e ≡ fate_behind (take n reads) r → IsAccepted reads n e
taken_line reads n Skip e get is = absurd (cc)
taken_line reads n (Tuple row) e get is =
    let t = taken_tuple row (closing_line 1 (take n reads) row) e is in
    rw t.1 (get, λ k lt r here. open_none 1 (take n reads) row t.0 k r (get_front n k reads r lt here))
taken_line reads n (Punct punct) e get is = let same : e ≡ AcceptedPunct punct = cc in rw same get
taken_line reads n (Bad why) e get is = absurd (cc)

pub taken_accepted : (reads : List Read) (n : ℕ) (e : Element) → slice_get (fates [] reads) n ≡ Some (Taken e) → IsAccepted reads n e
taken_accepted reads n e is = let g = read_at [] reads n (Taken e) is in taken_line reads n g.0 e g.1 g.2

pub accepted_taken : (reads : List Read) (n : ℕ) (e : Element) → IsAccepted reads n e → slice_get (fates [] reads) n ≡ Some (Taken e)
accepted_taken reads n (AcceptedPunct punct) is = fate_at [] reads n (Punct punct) is
accepted_taken reads n (AcceptedTuple row) is =
    fate_at [] reads n (Tuple row) is.0
    ∙ ap (λ (closing : Option ℕ). Some (tuple_fate row closing)) (none_open 1 (take n reads) row (λ k r here. let g = front_get n k reads r here in is.1 k g.0 r g.1))

-- ---- closed lines

pub closed_refused : (reads : List Read) (m n : ℕ) (row : List Value) → ClosedBy reads m n row → slice_get (fates [] reads) m ≡ Some (Refused (Closed (1 + n)))
closed_refused reads m n row c =
    fate_at [] reads m (Tuple row) c.tuple
    ∙ ap (λ (closing : Option ℕ). Some (tuple_fate row closing)) (first_found 1 n (take m reads) row (record {
      it = c.closing_read;
      here = get_front m n reads c.closing_read c.before c.reads_so;
      closed = c.closed;
      before = λ j lt r here. c.first j lt r (front_get m j reads r here).1;
    }))

refused_tuple : (row : List Value) (closing : Option ℕ) (line : ℕ) → Refused (Closed line) ≡ tuple_fate row closing → closing ≡ Some line
refused_tuple row None line is = absurd (cc)
refused_tuple row (Some n) line is = cc

pub refused_closed : (reads : List Read) (m line : ℕ) (row : List Value) → slice_get reads m ≡ Some (Tuple row) → slice_get (fates [] reads) m ≡ Some (Refused (Closed line)) → (n : ℕ) × (line ≡ 1 + n) × ClosedBy reads m n row
refused_closed reads m line row get is =
    let at = fate_at [] reads m (Tuple row) get in
    let same : Refused (Closed line) ≡ tuple_fate row (closing_line 1 (take m reads) row) = cc in
    let f = found 1 line (take m reads) row (refused_tuple row (closing_line 1 (take m reads) row) line same) in
    let g = front_get m f.0 reads f.2.it f.2.here in (
      f.0,
      f.1,
      record {
        tuple = get;
        before = g.0;
        closing_read = f.2.it;
        reads_so = g.1;
        closed = f.2.closed;
        first = λ k lt r here. f.2.before k lt r (get_front m k reads r (omega (arith, g.0)) here);
      },
    )
