use Rattle.std.proofs.Common.{◌≡◌, [], map, take}
use Rattle.pj_shape.specs.Sound.{arities_of}
use Rattle.pj_events.specs.Join.{upto_from}
use Rattle.pj_join.specs.Sides.{held_in, heard_of}
use Rattle.pj_join.proofs.starting.empty_stores.Given as goal

abbrev pub invariant-loop-schema : goal.invariant-loop-schema
invariant-loop-schema l = (held_in 0 l.punct_stores.items ≡ map (λ k. heard_of k []) (upto_from 0 l.schema-index)) × (map (λ s. s.arity) l.punct_stores.items ≡ arities_of (take l.schema-index l.schemas))
