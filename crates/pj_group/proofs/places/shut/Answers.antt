use Rattle.std.proofs.Common.{◌≡◌, ℕ, zero, suc, List, [], ◌∷◌, None, refl, sym, ap}
use Rattle.std.specs.List.{slice_get}
use Rattle.std.specs.Map.{values_of}
use Rattle.indexmap.specs.IndexMap.{set_value_at}
use Rattle.pj_group.specs.Slots.{GroupSlot}
use Rattle.pj_group.proofs.places.shut.Goals as goal

beyond : (slots : List GroupSlot) (at : ℕ) → slice_get (values_of slots) at ≡ None → slots ≡ set_value_at slots at None
beyond [] at e = refl
beyond (s ∷ slots) zero e = absurd (cc)
beyond (s ∷ slots) (suc at) e = ap (λ (es : List GroupSlot). s ∷ es) (beyond slots at e)

pub returns-in-None : goal.returns-in-None
returns-in-None c = beyond c.args.slots.now.entries c.args.at (sym c.in-None.ensures.value)
