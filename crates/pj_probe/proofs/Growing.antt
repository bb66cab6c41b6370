-- How the list of a visitor grows along a walk.
use Rattle.std.proofs.Common.{◌≡◌, Bool, IsTrue, List, [], ◌++◌, sym, ap, ◌∙◌, append_assoc, append-nil}
use Rattle.pj_events.specs.Join.{Value}
use Rattle.pj_probe.specs.Visits.{Grows, GrowsByFront}

-- first by some rows, and then by others
pub grows-more : (before after : Bool) (old mid new rows more : List (List Value)) → (IsTrue after → IsTrue before) → Grows before old mid rows → Grows after mid new more → Grows after old new (rows ++ more)
grows-more before after old mid new rows more told first then t =
    then t ∙ ap (λ (rs : List (List Value)). rs ++ more) (first (told t)) ∙ append_assoc old rows more

-- first by some rows, and then by a front of others
pub front-more : (before after : Bool) (old mid new rows more all : List (List Value)) → (IsTrue after → IsTrue before) → Grows before old mid rows → GrowsByFront after mid new more
    → ((later : List (List Value)) × (all ≡ (rows ++ more) ++ later)) → GrowsByFront after old new all
front-more before after old mid new rows more all told first then behind t =
    let f = then t in (
      rows ++ f.0,
      f.1 ++ behind.0,
      behind.1 ∙ ap (λ (rs : List (List Value)). (rows ++ rs) ++ behind.0) f.2 ∙ ap (λ (rs : List (List Value)). rs ++ behind.0) (sym (append_assoc rows f.0 f.1)) ∙ append_assoc (rows ++ f.0) f.1 behind.0,
      f.3 ∙ ap (λ (rs : List (List Value)). rs ++ f.0) (first (told t)) ∙ append_assoc old rows f.0,
    )

-- nothing changed
pub grows-none : (told : Bool) (old rows : List (List Value)) → rows ≡ [] → Grows told old old rows
grows-none told old rows none t = sym (append-nil old) ∙ ap (λ (rs : List (List Value)). old ++ rs) (sym none)

-- the same rows, said otherwise
pub grows-same : (told : Bool) (old new rows same : List (List Value)) → rows ≡ same → Grows told old new rows → Grows told old new same
grows-same told old new rows same e grown t = grown t ∙ ap (λ (rs : List (List Value)). old ++ rs) e
