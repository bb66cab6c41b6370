-- Duties are taken back one after the other.
use Rattle.std.proofs.Common.{◌≡◌, List, [], ◌∷◌, ◌++◌, sym, ap, ◌∙◌, subst, append_assoc, append-nil}
use Rattle.pj_value.specs.declared.values.Value.{Value}
use Rattle.pj_feed.specs.Feeds.{FeedState}
use Rattle.pj_crew.specs.declared.duties.Duty.{Duty}
use Rattle.pj_roster.specs.declared.causes.Causes.{Causes}
use Rattle.pj_roster.specs.Dismissed.{causes_from, causes_in, feed_of_duty, feeds_in, no_causes, rows_in, rows_of_duty, with_duty}

-- of all of these some were taken back, and these are left
pub record IsTaking {S : Type 0} (all rest : List (Duty S)) (feeds : List FeedState) (rows : List (List (List Value))) (causes : Causes) : Type 0 where
  pub fed : feeds ++ feeds_in rest ≡ feeds_in all
  pub kept : rows ++ rows_in rest ≡ rows_in all
  pub counted : causes_from causes rest ≡ causes_in all

pub taking_begins : {S : Type 0} (all rest : List (Duty S)) (feeds : List FeedState) (rows : List (List (List Value))) (causes : Causes) → rest ≡ all → feeds ≡ [] → rows ≡ [] → causes ≡ no_causes → IsTaking all rest feeds rows causes
taking_begins all rest feeds rows causes is f r c = record {
  fed = ap (λ fs. fs ++ feeds_in rest) f ∙ ap feeds_in is;
  kept = ap (λ rs. rs ++ rows_in rest) r ∙ ap rows_in is;
  counted = ap (λ cs. causes_from cs rest) c ∙ ap causes_in is;
}

pub taking_ends : {S : Type 0} (all rest : List (Duty S)) (feeds : List FeedState) (rows : List (List (List Value))) (causes : Causes) → IsTaking all rest feeds rows causes → rest ≡ []
    → (feeds ≡ feeds_in all) × (rows ≡ rows_in all) × (causes ≡ causes_in all)
taking_ends {S = S} all rest feeds rows causes is none = (
  sym (append-nil feeds) ∙ (ap (λ ds. feeds ++ feeds_in ds) (sym none) ∙ is.fed),
  sym (append-nil rows) ∙ (ap (λ ds. rows ++ rows_in ds) (sym none) ∙ is.kept),
  ap (λ ds. causes_from causes ds) (sym none) ∙ is.counted,
)
