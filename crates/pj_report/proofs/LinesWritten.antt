-- Lines that were written, one after another.
use Rattle.std.proofs.Common.{◌≡◌, ◌<◌, ℕ, List, [], ◌∷◌, ◌++◌, length, take, drop, map, Result, Ok, Err, refl, ap, sym, ◌∙◌, append_assoc, append-nil, subst, IsErrAnd, get_or, ◌+◌}
use Rattle.std.proofs.lemmas.List.{take-append-drop, take_more, map-append}
use Rattle.pj_io.specs.Pieces.{GrewByLess}
use Rattle.pj_io.specs.States.{SinkState}
use Rattle.pj_report.specs.Written.{anywhere, between}
use Rattle.pj_report.specs.Written.{flat, Cut, Leaves, WritesBy}

pub flat-append : (xs ys : List (List ℕ)) → flat (xs ++ ys) ≡ flat xs ++ flat ys
flat-append [] ys = refl
flat-append (x ∷ xs) ys = ap (λ (rest : List ℕ). x ++ rest) (flat-append xs ys) ∙ sym (append_assoc x (flat xs) (flat ys))

pub piece_written : (lines : List (List ℕ)) (old new : SinkState) (piece : List ℕ) → flat lines ≡ piece → new.written ≡ old.written ++ piece → new.written ≡ old.written ++ flat lines
piece_written lines old new piece is grew = grew ∙ ap (λ (xs : List ℕ). old.written ++ xs) (sym is)

pub piece_cut : (lines : List (List ℕ)) (before after piece : List ℕ) → flat lines ≡ piece → GrewByLess before after piece → Leaves anywhere lines before after
piece_cut lines before after piece is grew = record { front = take grew.0 piece; others = drop grew.0 piece; all = take-append-drop grew.0 piece ∙ sym is; written = grew.1.grew }

-- nothing was written
pub none_written : (cut : Cut) (lines : List (List ℕ)) (before : List ℕ) → Leaves cut lines before before
none_written anywhere lines before = record { front = []; others = flat lines; all = refl; written = sym (append-nil before) }
none_written between lines before = record { first = []; others = lines; all = refl; written = sym (append-nil before) }

-- some first lines were
pub first_written : (cut : Cut) (xs ys zs : List (List ℕ)) (before after : List ℕ) → after ≡ before ++ flat xs → xs ++ ys ≡ zs → Leaves cut zs before after
first_written anywhere xs ys zs before after written all = record { front = flat xs; others = flat ys; all = sym (flat-append xs ys) ∙ ap flat all; written = written }
first_written between xs ys zs before after written all = record { first = xs; others = ys; all = all; written = written }

-- these lines, and then those
pub written_then : (xs ys : List (List ℕ)) (before mid after : List ℕ) → mid ≡ before ++ flat xs → after ≡ mid ++ flat ys → after ≡ before ++ flat (xs ++ ys)
written_then xs ys before mid after first then =
    then ∙ (ap (λ (zs : List ℕ). zs ++ flat ys) first ∙ (append_assoc before (flat xs) (flat ys) ∙ ap (λ (zs : List ℕ). before ++ zs) (sym (flat-append xs ys))))

-- these lines, and then a stop
pub stop_then : (cut : Cut) (xs ys : List (List ℕ)) (before mid after : List ℕ) → mid ≡ before ++ flat xs → Leaves cut ys mid after → Leaves cut (xs ++ ys) before after
stop_then anywhere xs ys before mid after first stop = record {
  front = flat xs ++ stop.front;
  others = stop.others;
  all = append_assoc (flat xs) stop.front stop.others ∙ (ap (λ (zs : List ℕ). flat xs ++ zs) stop.all ∙ sym (flat-append xs ys));
  written = stop.written ∙ (ap (λ (zs : List ℕ). zs ++ stop.front) first ∙ append_assoc before (flat xs) stop.front);
}
stop_then between xs ys before mid after first stop = record {
  first = xs ++ stop.first;
  others = stop.others;
  all = append_assoc xs stop.first stop.others ∙ ap (λ (zs : List (List ℕ)). xs ++ zs) stop.all;
  written = written_then xs stop.first before mid after first stop.written;
}

-- a stop among the first lines
pub stop_before : (cut : Cut) (xs ys : List (List ℕ)) (before after : List ℕ) → Leaves cut xs before after → Leaves cut (xs ++ ys) before after
stop_before anywhere xs ys before after stop = record {
  front = stop.front;
  others = stop.others ++ flat ys;
  all = sym (append_assoc stop.front stop.others (flat ys)) ∙ (ap (λ (zs : List ℕ). zs ++ flat ys) stop.all ∙ sym (flat-append xs ys));
  written = stop.written;
}
stop_before between xs ys before after stop = record {
  first = stop.first;
  others = stop.others ++ ys;
  all = sym (append_assoc stop.first stop.others ys) ∙ ap (λ (zs : List (List ℕ)). zs ++ ys) stop.all;
  written = stop.written;
}

-- these lines, and then a stop among more, behind which others would have come
pub stop_among : (cut : Cut) (xs ys more zs : List (List ℕ)) (before mid after : List ℕ) → mid ≡ before ++ flat xs → Leaves cut ys mid after → (xs ++ ys) ++ more ≡ zs → Leaves cut zs before after
stop_among cut xs ys more zs before mid after first stop all =
    subst (λ (ls : List (List ℕ)). Leaves cut ls before after) all (stop_before cut (xs ++ ys) more before after (stop_then cut xs ys before mid after first stop))

-- a stop among the first of all lines
pub stop_first : (cut : Cut) (xs more zs : List (List ℕ)) (before after : List ℕ) → Leaves cut xs before after → xs ++ more ≡ zs → Leaves cut zs before after
stop_first cut xs more zs before after stop all = subst (λ (ls : List (List ℕ)). Leaves cut ls before after) all (stop_before cut xs more before after stop)

-- ---- the result of a call that ends with a stop

-- some lines were written before it
pub stopped_none : {T E : Type 0} (cut : E → Cut) (result : Result T E) (stop : E) (xs ys zs : List (List ℕ)) (old new : SinkState) → new.written ≡ old.written ++ flat xs → xs ++ ys ≡ zs → IsErrAnd result (λ x. x ≡ stop)
    → WritesBy cut zs old new result
stopped_none cut (Ok u) stop xs ys zs old new first all is = absurd is
stopped_none cut (Err e) stop xs ys zs old new first all is = first_written (cut e) xs ys zs old.written new.written first all

-- some lines were written, and then it came among more
pub stopped_then : {T E : Type 0} (cut : E → Cut) (result : Result T E) (stop : E) (xs ys more zs : List (List ℕ)) (old mid new : SinkState) → mid.written ≡ old.written ++ flat xs → Leaves (cut stop) ys mid.written new.written
    → (xs ++ ys) ++ more ≡ zs → IsErrAnd result (λ x. x ≡ stop) → WritesBy cut zs old new result
stopped_then cut (Ok u) stop xs ys more zs old mid new first stops all is = absurd is
stopped_then cut (Err e) stop xs ys more zs old mid new first stops all is =
    subst (λ s. Leaves (cut s) zs old.written new.written) (sym is) (stop_among (cut stop) xs ys more zs old.written mid.written new.written first stops all)

-- it came among the first
pub stopped_first : {T E : Type 0} (cut : E → Cut) (result : Result T E) (stop : E) (xs more zs : List (List ℕ)) (old new : SinkState) → Leaves (cut stop) xs old.written new.written → xs ++ more ≡ zs → IsErrAnd result (λ x. x ≡ stop)
    → WritesBy cut zs old new result
stopped_first cut (Ok u) stop xs more zs old new stops all is = absurd is
stopped_first cut (Err e) stop xs more zs old new stops all is =
    subst (λ s. Leaves (cut s) zs old.written new.written) (sym is) (stop_first (cut stop) xs more zs old.written new.written stops all)

-- ---- lines of texts and lists

-- a line that a text holds
pub one_line : (line text : List ℕ) → text ≡ line → flat (line ∷ []) ≡ text
one_line line text is = append-nil line ∙ sym is

-- one item more of a list whose items are a line each
pub map_more : {A B : Type 0} (f : A → B) (xs : List A) (i : ℕ) (d : A) → i < length xs → map f (take i xs) ++ f (get_or xs i d) ∷ [] ≡ map f (take (i + 1) xs)
map_more f xs i d lt = sym (map-append f (take i xs) (get_or xs i d ∷ [])) ∙ ap (map f) (sym (take_more xs i d lt))

pub map_rest : {A B : Type 0} (f : A → B) (xs : List A) (i : ℕ) → map f (take i xs) ++ map f (drop i xs) ≡ map f xs
map_rest f xs i = sym (map-append f (take i xs) (drop i xs)) ∙ ap (map f) (take-append-drop i xs)
