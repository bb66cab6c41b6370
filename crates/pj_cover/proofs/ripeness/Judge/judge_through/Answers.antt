use Rattle.std.proofs.Common.{◌≡◌, ◌∷◌, ◌++◌, [], ◌∙◌, sym, subst, List, map, ap}
use Rattle.pj_events.specs.Join.{TupleAt}
use Rattle.pj_cover.specs.Asking.{IsJudgedThrough, IsOnWalk, entries, inputs_of, known_of, tuple_of}
use Rattle.pj_cover.specs.Routes.{AreSteps, steps_in}
use Rattle.pj_cover.proofs.ripeness.Judge.judge_through.Goals as goal

pub seek_through-requires : goal.seek_through-requires
seek_through-requires g c =
    let alone : c.push.new.self.items ≡ c.args.own ∷ [] = c.push.ensures.items ∙ ap (λ (xs : List TupleAt). xs ++ c.args.own ∷ []) c.new-parts.ensures in
    record {
      parts = c.requires.parts;
      walk = subst (λ (xs : List TupleAt). IsOnWalk c.args.self.now.spec.now c.args.self.now.schemes.now (steps_in c.args.self.now.route.now) xs) (sym alone) c.requires.walk;
      route = subst (λ (xs : List TupleAt). AreSteps c.args.self.now.spec.now.classes c.args.self.now.schemes.now c.args.self.now.route.now.links (inputs_of xs) c.args.self.now.route.now.steps) (sym alone) c.requires.route;
      step = c.requires.step;
    }

pub returns : goal.returns
returns g c =
    let k = known_of c.args.self.now.spec.now (g.R.StoredRows.rows c.args.self.now.rows.now) c.args.self.now.punct_stores.now c.args.self.now.low in
    let alone : c.push.new.self.items ≡ c.args.own ∷ [] = c.push.ensures.items ∙ ap (λ (xs : List TupleAt). xs ++ c.args.own ∷ []) c.new-parts.ensures in
    subst (λ (xs : List TupleAt). IsJudgedThrough k (entries c.args.self.now.schemes.now (steps_in c.args.self.now.route.now)) xs (map (tuple_of c.args.step.step.input) (g.R.StoredRows.rows c.args.self.now.rows.now c.args.step.step.input)) c.seek_through.result) alone c.seek_through.ensures.judged
