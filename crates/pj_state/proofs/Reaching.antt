-- Blocks that are reached one from the other.
use Rattle.std.proofs.Common.{◌≡◌, ℕ, ◌+◌, ◌-◌, ◌<◌, ◌≤◌, List, [], ◌++◌, Some, length, get_or, take, drop, ap, sym, ◌∙◌, arith}
use Rattle.std.specs.List.{slice_get}
use Rattle.std.proofs.lemmas.List.{get_or_default, length-append}
use Rattle.pj_value.proofs.Slices.{get_front, get_behind}
use Rattle.pj_state.specs.Reaching.{AreBefore, StandsIn}
use Rattle.pj_state.specs.Stores.{flat}
use Rattle.pj_state.specs.declared.cursor.Reached.{Reached}
use Rattle.pj_state.specs.declared.places.Place.{Place}
use Rattle.pj_state.proofs.Blocks.{flat-drop, flat-split, flat-take, take-all}

-- behind the last block
pub before_last : (bs : List (List Place)) (i count : ℕ) → i ≡ length bs → count ≡ length (flat bs) → AreBefore bs i count
before_last bs i count e is = (omega (arith, e), is ∙ sym (ap (λ n. length (flat (take n bs))) e ∙ ap (λ (cs : List (List Place)). length (flat cs)) (take-all bs)))

length-next : (bs : List (List Place)) (i : ℕ) (b : List Place) → i < length bs → b ≡ get_or bs i b → length (flat (take (i + 1) bs)) ≡ length (flat (take i bs)) + length b
length-next bs i b lt is = ap length (flat-take bs i b lt is) ∙ length-append (flat (take i bs)) b

-- the item at a place is it with any other default
pub item-is : (bs : List (List Place)) (i : ℕ) (b : List Place) → i < length bs → b ≡ get_or bs i b → b ≡ get_or bs i []
item-is bs i b lt is = is ∙ get_or_default bs i b [] lt

-- one block on
pub before-on : (bs : List (List Place)) (i before : ℕ) (b : List Place) → i < length bs → b ≡ get_or bs i b → AreBefore bs i before → AreBefore bs (i + 1) (before + length b)
before-on bs i before b lt is h = (omega (arith, lt), omega (arith, h.1, length-next bs i b lt is))

-- one block back
pub before-back : (bs : List (List Place)) (i j before : ℕ) (b : List Place) → i + 1 ≡ j → i < length bs → b ≡ get_or bs i b → AreBefore bs j before
    → (length b ≤ before) × AreBefore bs i (before - length b)
before-back bs i j before b e lt is h =
    let long : before ≡ length (flat (take i bs)) + length b = h.1 ∙ (ap (λ n. length (flat (take n bs))) (sym e) ∙ length-next bs i b lt is) in
    (omega (arith, long), (omega (arith, lt), omega (arith, long)))

-- the place at a position stands in its block
pub place-in : (bs : List (List Place)) (i before at : ℕ) (b : List Place) (p : Place) → AreBefore bs i before → i < length bs → before ≤ at → at < before + length b → b ≡ get_or bs i b
    → slice_get b (at - before) ≡ Some p → slice_get (flat bs) at ≡ Some p
place-in bs i before at b p h lt from to is there =
    let front = flat (take i bs) in
    let long : length front ≡ before = sym h.1 in
    let past : length front ≤ at = omega (arith, long, from) in
    let less : at - length front ≡ at - before = omega (arith, long) in
    ap (λ (ps : List Place). slice_get ps at) (flat-split bs i)
    ∙ (get_behind front (flat (drop i bs)) at past
    ∙ (ap (slice_get (flat (drop i bs))) less
    ∙ (ap (λ (ps : List Place). slice_get ps (at - before)) (flat-drop bs i b lt ∙ ap (λ (ps : List Place). ps ++ flat (drop (i + 1) bs)) (sym is))
    ∙ (get_front b (flat (drop (i + 1) bs)) (at - before) (omega (arith, from, to)) ∙ there))))

-- the place at a position is found in the block that was reached
pub found-in : (bs : List (List Place)) (r : Reached) (at : ℕ) (b : List Place) (p : Place) → StandsIn bs r at → b ≡ get_or bs r.block b → slice_get (get_or bs r.block b) (at - r.before) ≡ Some p
    → slice_get (flat bs) at ≡ Some p
found-in bs r at b p h is there =
    place-in bs r.block r.before at b p h.reached h.there h.from (omega (arith, h.to, ap length (item-is bs r.block b h.there is))) is
    (ap (λ (ps : List Place). slice_get ps (at - r.before)) is ∙ there)
