use Rattle.std.proofs.Common.{◌≡◌, List, [], ◌∷◌, ◌++◌, length}
use Rattle.pj_shape.specs.declared.joins.CertStep.{CertStep}
use Rattle.pj_shape.specs.Certificates.{inputs_of}
use Rattle.pj_graph.specs.Certificates.{IsSaturation}
use Rattle.pj_graph.proofs.Saturations.{unknown}
use Rattle.pj_graph.proofs.saturation.saturate.Given as goal

abbrev pub invariant-adding : goal.invariant-adding
invariant-adding l =
    (l.known ≡ l.input ∷ inputs_of l.steps)
    × ((rest : List CertStep) → IsSaturation l.spec l.schemes l.known rest → IsSaturation l.spec l.schemes (l.input ∷ []) (l.steps ++ rest))

abbrev pub decreases-adding : goal.decreases-adding
decreases-adding l = unknown l.known (length l.schemes)
