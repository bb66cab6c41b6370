-- The routes by which the tuples of each input of a join are judged.
use Rattle.std.specs.Prelude.{ℕ, ◌≡◌, List, Some, length, slice_get}
use Rattle.pj_events.specs.Join.{JoinData, steps_of}
use Rattle.pj_cover.specs.Routes.{IsPurgeRoute, RouteView}

-- they are those of the first so many inputs
pub record ArePurgeRoutes (spec : JoinData) (upto : ℕ) (routes : List RouteView) : Type 0 where
  pub count : length routes ≡ upto
  pub each : (input : ℕ) (route : RouteView) → slice_get routes input ≡ Some route → IsPurgeRoute spec.shape spec.schemes (steps_of spec input) input route
