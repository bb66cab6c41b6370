-- What a row asks for does not depend on its own ticket.
use Rattle.std.proofs.Common.{ℕ, ◌+◌, Bool, true, false, cond, List, [], ◌∷◌, ◌++◌, ◌≡◌, Option, Some, None, map, filter, flat_map, refl, sym, ap, ap₂, ◌∙◌}
use Rattle.std.specs.List.{list_all}
use Rattle.pj_value.specs.declared.values.Value.{Value}
use Rattle.pj_events.specs.Join.{TupleAt, ClassCol, CertEntry, Demand, Part, part_of, joins, agree, demand, need, of_input, older, instance_from, class_with, values, value_at}
use Rattle.pj_cover.specs.declared.ripeness.Verdict.{Verdict}
use Rattle.pj_cover.specs.declared.ripeness.Verdict.TheVariants.{Ripe, Open, Lagging}
use Rattle.pj_cover.specs.Asking.{Known, AsksBy, IsAsked, IsJudged, all_covered, below_low, is_covered}

abbrev Same : List TupleAt → List TupleAt → Type 0
Same xs ys = map part_of xs ≡ map part_of ys

agree-same : (classes : List (List ClassCol)) (xs ys : List TupleAt) → Same xs ys → agree classes xs ≡ agree classes ys
agree-same classes xs ys e = ap (λ (ps : List Part). joins classes ps) e

instance-same : (classes : List (List ClassCol)) (input column : ℕ) (marks : List Bool) (xs ys : List TupleAt) → Same xs ys → instance_from classes input column marks xs ≡ instance_from classes input column marks ys
instance-same classes input column [] xs ys e = refl
instance-same classes input column (true ∷ marks) xs ys e =
    ap₂ (λ v cells. Some v ∷ cells) (ap (λ (ps : List Part). value_at (values ps (class_with classes input column)) 0) e) (instance-same classes input (column + 1) marks xs ys e)
instance-same classes input column (false ∷ marks) xs ys e = ap (λ cells. None ∷ cells) (instance-same classes input (column + 1) marks xs ys e)

demand-same : (classes : List (List ClassCol)) (e : CertEntry) (xs ys : List TupleAt) → Same xs ys → demand classes e xs ≡ demand classes e ys
demand-same classes e xs ys s = ap (λ (i : List (Option Value)). record { input = e.input; instance = i }) (instance-same classes e.input 0 e.marks xs ys s)

front-same : (z : TupleAt) (xs ys : List TupleAt) → Same xs ys → Same (z ∷ xs) (z ∷ ys)
front-same z xs ys s = ap (λ (ps : List Part). part_of z ∷ ps) s

each-same : (classes : List (List ClassCol)) (f : List TupleAt → List Demand) (zs xs ys : List TupleAt) → ((us vs : List TupleAt) → Same us vs → f us ≡ f vs) → Same xs ys
    → flat_map f (filter (agree classes) (map (λ x. x ∷ xs) zs)) ≡ flat_map f (filter (agree classes) (map (λ x. x ∷ ys) zs))
each-same classes f [] xs ys same s = refl
each-same classes f (z ∷ zs) xs ys same s = go (agree classes (z ∷ xs)) (agree classes (z ∷ ys)) (agree-same classes (z ∷ xs) (z ∷ ys) (front-same z xs ys s)) (each-same classes f zs xs ys same s)
  where
    mine : List (List TupleAt)
    mine = filter (agree classes) (map (λ x. x ∷ xs) zs)

    theirs : List (List TupleAt)
    theirs = filter (agree classes) (map (λ x. x ∷ ys) zs)

    go : (a b : Bool) → a ≡ b → flat_map f mine ≡ flat_map f theirs → flat_map f (cond a ((z ∷ xs) ∷ mine) mine) ≡ flat_map f (cond b ((z ∷ ys) ∷ theirs) theirs)
    go true true e ih = ap₂ (λ ds es. ds ++ es) (same (z ∷ xs) (z ∷ ys) (front-same z xs ys s)) ih
    go true false e ih = absurd (cc)
    go false true e ih = absurd (cc)
    go false false e ih = ih

need-same : (classes : List (List ClassCol)) (rows : List TupleAt) (cert : List CertEntry) (xs ys : List TupleAt) → Same xs ys → need classes rows cert xs ≡ need classes rows cert ys
need-same classes rows [] xs ys s = refl
need-same classes rows (e ∷ cert) xs ys s =
    ap₂ (λ d ds. d ∷ ds) (demand-same classes e xs ys s) (each-same classes (need classes rows cert) (of_input e.input rows) xs ys (λ us vs t. need-same classes rows cert us vs t) s)

asked-same : (classes : List (List ClassCol)) (cert : List CertEntry) (through xs ys : List TupleAt) (d : Demand) → Same xs ys → IsAsked classes cert through xs d → IsAsked classes cert through ys d
asked-same classes [] through xs ys d s a = absurd a
asked-same classes (e ∷ cert) [] xs ys d s a = sym (demand-same classes e xs ys s) ∙ a
asked-same classes (e ∷ cert) (z ∷ through) xs ys d s a =
    (a.0, sym (agree-same classes (z ∷ xs) (z ∷ ys) (front-same z xs ys s)) ∙ a.1, asked-same classes cert through (z ∷ xs) (z ∷ ys) d (front-same z xs ys s) a.2)

-- ---- the whole

covered-same : (k : Known) (cert : List CertEntry) (xs ys : List TupleAt) → Same xs ys → all_covered k cert xs ≡ all_covered k cert ys
covered-same k cert xs ys s = ap (λ (ds : List Demand). list_all (is_covered k) ds) (need-same k.classes (older k.low k.stored) cert xs ys s)

asks-same : (k : Known) (cert : List CertEntry) (xs ys rows : List TupleAt) (asks : Demand) → Same xs ys → AsksBy k cert xs rows asks → AsksBy k cert ys rows asks
asks-same k cert xs ys rows asks s by = record { there = by.there; below = by.below; asked = asked-same k.classes cert rows xs ys asks s by.asked; uncovered = by.uncovered }

pub any_ticket : (k : Known) (cert : List CertEntry) (x y : TupleAt) (v : Verdict) → part_of x ≡ part_of y → IsJudged k cert (x ∷ []) v → IsJudged k cert (y ∷ []) v
any_ticket k cert x y Ripe p t = sym (covered-same k cert (x ∷ []) (y ∷ []) (ap (λ (q : Part). q ∷ []) p)) ∙ t
any_ticket k cert x y Open p (rows, asks, by) = (rows, asks, asks-same k cert (x ∷ []) (y ∷ []) rows asks (ap (λ (q : Part). q ∷ []) p) by)
any_ticket k cert x y Lagging p (rows, asks, by, late) = (rows, asks, asks-same (below_low k) cert (x ∷ []) (y ∷ []) rows asks (ap (λ (q : Part). q ∷ []) p) by, late)
