-- Values in shared parts.
use Rattle.std.proofs.Common.{◌≡◌, ℕ, zero, suc, ◌+◌, ◌-◌, ◌<◌, ◌≤◌, List, [], ◌∷◌, Some, length, drop, get_or, ap, sym, ◌∙◌, subst, arith, length-append}
use Rattle.std.specs.List.{slice_get}
use Rattle.std.specs.Arc.{arc_value}
use Rattle.std.specs.declared.alloc.Global.{Global}
use Rattle.std.specs.declared.sync.Arc.{Arc}
use Rattle.std.proofs.lemmas.Option.{slice_get-get_or}
use Rattle.pj_value.specs.declared.values.Value.{Value}
use Rattle.pj_value.specs.Parts.{flat_parts}
use Rattle.pj_value.proofs.Slices.{flat_drop, item_here, item_behind}

-- the value stands in this part
pub value_here : (parts : List (Arc (List Value) Global)) (row : List Value) (i at left : ℕ) (part : Arc (List Value) Global) (values : List Value) (v : Value) → row ≡ flat_parts parts
    → slice_get (flat_parts parts) at ≡ slice_get (flat_parts (drop i parts)) left → i < length parts → part ≡ get_or parts i part → values ≡ arc_value part → left < length values → v ≡ get_or values left v
    → slice_get row at ≡ Some v
value_here parts row i at left part values v all before lt is holds here then =
    ap (λ (vs : List Value). slice_get vs at) all
    ∙ (item_here arc_value parts i at left part before lt is (subst (λ (vs : List Value). left < length vs) holds here)
    ∙ (ap (λ (vs : List Value). slice_get vs left) (sym holds)
    ∙ (slice_get-get_or values left v here
    ∙ ap Some (sym then))))

-- it stands behind this part
pub value_behind : (parts : List (Arc (List Value) Global)) (i at left : ℕ) (part : Arc (List Value) Global) (values : List Value)
    → slice_get (flat_parts parts) at ≡ slice_get (flat_parts (drop i parts)) left → i < length parts → part ≡ get_or parts i part → values ≡ arc_value part → length values ≤ left
    → slice_get (flat_parts parts) at ≡ slice_get (flat_parts (drop (i + 1) parts)) (left - length values)
value_behind parts i at left part values before lt is holds behind =
    item_behind arc_value parts i at left part before lt is (subst (λ (vs : List Value). length vs ≤ left) holds behind)
    ∙ ap (λ (vs : List Value). slice_get (flat_parts (drop (i + 1) parts)) (left - length vs)) (sym holds)

-- and is among those behind it
pub still_within : (parts : List (Arc (List Value) Global)) (i left : ℕ) (part : Arc (List Value) Global) (values : List Value) → left < length (flat_parts (drop i parts)) → i < length parts → part ≡ get_or parts i part → values ≡ arc_value part → length values ≤ left
    → left - length values < length (flat_parts (drop (i + 1) parts))
still_within parts i left part values within lt is holds behind =
    omega (arith, within, behind, ap length (flat_drop arc_value parts i part lt), length-append (arc_value (get_or parts i part)) (flat_parts (drop (i + 1) parts)), ap (λ (p : Arc (List Value) Global). length (arc_value p)) is, ap length holds)

-- what stands from a part on has values only where that part is there
pub part_there : (parts : List (Arc (List Value) Global)) (i left : ℕ) → left < length (flat_parts (drop i parts)) → i < length parts
part_there [] zero left lt = absurd (omega (arith, lt))
part_there [] (suc i) left lt = absurd (omega (arith, lt))
part_there (p ∷ ps) zero left lt = omega arith
part_there (p ∷ ps) (suc i) left lt = omega (arith, part_there ps i left lt)
