-- What may be asked about a join.
use Rattle.std.specs.Prelude.{Bool, List}
use Rattle.pj_shape.specs.declared.joins.JoinSpec.{JoinSpec}
use Rattle.pj_shape.specs.Sound.{FitSchemes, IsSoundSpec}
use Rattle.pj_graph.specs.Reaching.{AreFewSchemes}

-- it is sound, and these are schemes of its inputs, at most 256 of each
pub record IsAskable (spec : JoinSpec) (schemes : List (List (List Bool))) : Type 0 where
  pub sound : IsSoundSpec spec
  pub fitting : FitSchemes spec.inputs schemes
  pub few : AreFewSchemes schemes
