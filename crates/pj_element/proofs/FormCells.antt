-- What spells a pattern is one cell: its quotes are closed, and it has no blank outside them.
use Rattle.std.proofs.Common.{ℕ, ◌<◌, List, [], ◌∷◌, ◌++◌, Option, length, refl, sym, subst, append_assoc, arith}
use Rattle.pj_value.specs.declared.values.Value.{Value}
use Rattle.pj_pattern.specs.declared.pattern.Form.{Form}
use Rattle.pj_element.specs.Reading.{AreParts, no_part, plain_byte, quoted_part, IsCell, SpellsValue, SpellsMembers, one_member, more_members, SpellsEnd, no_end, value_end, SpellsForm, spells_star, spells_empty, spells_list, spells_range, spells_constant}
use Rattle.pj_element.proofs.ReadForms.{value_quiet, quiet_parts, value_some}

parts_append : (front back : List ℕ) → AreParts front → AreParts back → AreParts (front ++ back)
parts_append _ back no_part q = q
parts_append _ back (plain_byte b {bytes} no_blank no_quote p) q = plain_byte b no_blank no_quote (parts_append bytes back p q)
parts_append _ back (quoted_part part {bytes} ends p) q =
    subst AreParts (sym (append_assoc (34 ∷ part) bytes back)) (quoted_part part ends (parts_append bytes back p q))

value_parts : (cell : List ℕ) (value : Value) → SpellsValue cell value → AreParts cell
value_parts cell value s = quiet_parts cell (value_quiet cell value s)

members_parts : (bytes : List ℕ) (values : List Value) → SpellsMembers bytes values → AreParts bytes
members_parts _ _ (one_member {cell} {value} s) = value_parts cell value s
members_parts _ _ (more_members {cell} {cells} {value} {values} s more) =
    parts_append cell (124 ∷ cells) (value_parts cell value s) (plain_byte 124 refl (λ e. omega (arith, e)) (members_parts cells values more))

end_parts : (bytes : List ℕ) (end : Option Value) → SpellsEnd bytes end → AreParts bytes
end_parts _ _ no_end = no_part
end_parts _ _ (value_end {cell} {value} s) = value_parts cell value s

pub value_cell : (cell : List ℕ) (value : Value) → SpellsValue cell value → IsCell cell
value_cell cell value s =
    let some = value_some cell value s in
    (subst (λ (bs : List ℕ). 0 < length bs) (sym some.2) (omega arith), value_parts cell value s)

pub form_cell : (cell : List ℕ) (form : Form) → SpellsForm cell form → IsCell cell
form_cell _ _ spells_star = (omega arith, plain_byte 42 refl (λ e. omega (arith, e)) no_part)
form_cell _ _ spells_empty = (omega arith, plain_byte 123 refl (λ e. omega (arith, e)) (plain_byte 125 refl (λ e. omega (arith, e)) no_part))
form_cell _ _ (spells_list {cells} {values} s) =
    (omega arith, plain_byte 123 refl (λ e. omega (arith, e)) (parts_append cells (125 ∷ []) (members_parts cells values s) (plain_byte 125 refl (λ e. omega (arith, e)) no_part)))
form_cell _ _ (spells_range {low} {high} {from} {to} s t) =
    let last = plain_byte 93 refl (λ e. omega (arith, e)) no_part in
    let dots = plain_byte 46 refl (λ e. omega (arith, e)) (plain_byte 46 refl (λ e. omega (arith, e)) (end_parts high to t)) in
    (omega arith, plain_byte 91 refl (λ e. omega (arith, e)) (parts_append (low ++ 46 ∷ 46 ∷ high) (93 ∷ []) (parts_append low (46 ∷ 46 ∷ high) (end_parts low from s) dots) last))
form_cell _ _ (spells_constant {cell} {value} s) = value_cell cell value s
