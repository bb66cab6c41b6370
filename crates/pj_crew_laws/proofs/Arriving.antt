-- What arrived at the stream of a feeder.
use Rattle.std.proofs.Common.{List, ◌++◌, ◌≡◌, sym, ap, ◌∙◌}
use Rattle.pj_pattern.specs.declared.element.Element.{Element}
use Rattle.pj_events.specs.Outcomes.{elements_of}
use Rattle.pj_laws.specs.Seats.{made_by}
use Rattle.pj_laws.proofs.Feeding.{elements-own}
use Rattle.pj_workers.specs.Feeds.{has_ended}
use Rattle.pj_crew_laws.specs.Acts.{Fed}
use Rattle.pj_crew_laws.specs.Crews.{FeedersBring, OfCrews}
use Rattle.pj_crew_laws.proofs.Makers.{own-seen}

pub feeders-bring : OfCrews FeedersBring
feeders-bring hub planned acts history crew stream old new end did told =
    let each = crew.each stream (Fed old new end) did in
    let fed = each.2.2 in
    let own : elements_of stream history ≡ elements_of stream (made_by stream each.0) =
    elements-own stream history crew.by_seats.fed ∙ ap (elements_of stream) (own-seen stream each.0 history each.1) in
    let front = fed.front told in record {
      front = (front.0, front.1 ∙ ap (λ (es : List Element). es ++ front.0) (sym own));
      whole = λ is. own ∙ fed.whole (ap has_ended is) told;
      less = λ is. let less = fed.less is told in (less.0, less.1 ∙ ap (λ (es : List Element). es ++ less.0) (sym own));
    }
