-- Lists of elements whose rows match no punctuation before them.
use Rattle.std.proofs.Common.{◌≡◌, false, List, [], ◌∷◌, ◌++◌, map, refl, ap, subst, inl, inr}
use Rattle.pj_value.specs.declared.values.Value.{Value}
use Rattle.pj_value.specs.Lists.{In}
use Rattle.pj_pattern.specs.declared.element.Element.{Element}
use Rattle.pj_pattern.specs.declared.element.Element.TheVariants.{Tuple, Punct}
use Rattle.pj_pattern.specs.Patterns.{Pattern}
use Rattle.pj_pattern.specs.Columns.{matches_row}
use Rattle.pj_pattern.specs.Elements.{NoneMatches, IsLawful}
use Rattle.pj_pattern.specs.Laws.{LawfulByPosition}

-- ---- no row matches

pub none_at : (punct : List Pattern) (es : List Element) → NoneMatches punct es → (row : List Value) → In (Tuple row) es → matches_row punct row ≡ false
none_at punct [] none row h = absurd h
none_at punct (Tuple other ∷ es) none row (inl e) = let same : other ≡ row = cc e in subst (λ (r : List Value). matches_row punct r ≡ false) same none.0
none_at punct (Tuple other ∷ es) none row (inr h) = none_at punct es none.1 row h
none_at punct (Punct other ∷ es) none row (inl e) = absurd (cc)
none_at punct (Punct other ∷ es) none row (inr h) = none_at punct es none row h

pub none_from : (punct : List Pattern) (es : List Element) → ((row : List Value) → In (Tuple row) es → matches_row punct row ≡ false) → NoneMatches punct es
none_from punct [] f = tt
none_from punct (Tuple row ∷ es) f = (f row (inl refl), none_from punct es (λ r h. f r (inr h)))
none_from punct (Punct other ∷ es) f = none_from punct es (λ r h. f r (inr h))

pub none_append : (punct : List Pattern) (xs ys : List Element) → NoneMatches punct xs → NoneMatches punct ys → NoneMatches punct (xs ++ ys)
none_append punct [] ys p q = q
none_append punct (Tuple row ∷ xs) ys p q = (p.0, none_append punct xs ys p.1 q)
none_append punct (Punct other ∷ xs) ys p q = none_append punct xs ys p q

pub none_front : (punct : List Pattern) (xs ys : List Element) → NoneMatches punct (xs ++ ys) → NoneMatches punct xs
none_front punct [] ys n = tt
none_front punct (Tuple row ∷ xs) ys n = (n.0, none_front punct xs ys n.1)
none_front punct (Punct other ∷ xs) ys n = none_front punct xs ys n

-- ---- lawful lists

-- each row is behind no punctuation that it matches
lawful_from : (es : List Element) → ((front back : List Element) (punct : List Pattern) → es ≡ front ++ Punct punct ∷ back → (row : List Value) → In (Tuple row) back → matches_row punct row ≡ false) → IsLawful es
lawful_from [] f = tt
lawful_from (Tuple row ∷ es) f = lawful_from es (λ front back punct e. f (Tuple row ∷ front) back punct (ap (λ (xs : List Element). Tuple row ∷ xs) e))
lawful_from (Punct punct ∷ es) f =
    (none_from punct es (f [] es punct refl), lawful_from es (λ front back other e. f (Punct punct ∷ front) back other (ap (λ (xs : List Element). Punct punct ∷ xs) e)))

-- what comes behind a punctuation does not match it
lawful_at : (front : List Element) (punct : List Pattern) (back : List Element) → IsLawful (front ++ Punct punct ∷ back) → (row : List Value) → In (Tuple row) back → matches_row punct row ≡ false
lawful_at [] punct back l row h = none_at punct back l.0 row h
lawful_at (Tuple r ∷ front) punct back l row h = lawful_at front punct back l row h
lawful_at (Punct p ∷ front) punct back l row h = lawful_at front punct back l.1 row h

pub lawful_where : LawfulByPosition
lawful_where es = (
  λ l front back punct row e h. lawful_at front punct back (subst (λ (xs : List Element). IsLawful xs) e l) row h,
  λ f. lawful_from es (λ front back punct e row h. f front back punct row e h),
)

pub lawful_tail : (e : Element) (es : List Element) → IsLawful (e ∷ es) → IsLawful es
lawful_tail (Tuple row) es l = l
lawful_tail (Punct punct) es l = l.1

pub lawful_front : (xs ys : List Element) → IsLawful (xs ++ ys) → IsLawful xs
lawful_front [] ys l = tt
lawful_front (Tuple row ∷ xs) ys l = lawful_front xs ys l
lawful_front (Punct punct ∷ xs) ys l = (none_front punct xs ys l.0, lawful_front xs ys l.1)

pub lawful_append : (xs ys : List Element) → IsLawful xs → IsLawful ys → ((punct : List Pattern) → In (Punct punct) xs → NoneMatches punct ys) → IsLawful (xs ++ ys)
lawful_append [] ys l m f = m
lawful_append (Tuple row ∷ xs) ys l m f = lawful_append xs ys l m (λ p h. f p (inr h))
lawful_append (Punct punct ∷ xs) ys l m f =
    (none_append punct xs ys l.0 (f punct (inl refl)), lawful_append xs ys l.1 m (λ p h. f p (inr h)))

-- ---- rows alone, and punctuations alone

pub rows_lawful : {A : Type 0} (f : A → List Value) (xs : List A) → IsLawful (map (λ x. Tuple (f x)) xs)
rows_lawful f [] = tt
rows_lawful f (x ∷ xs) = rows_lawful f xs

pub no_punct : {A : Type 0} (f : A → List Value) (xs : List A) (punct : List Pattern) → In (Punct punct) (map (λ x. Tuple (f x)) xs) → ⊥
no_punct f [] punct h = h
no_punct f (x ∷ xs) punct (inl e) = cc
no_punct f (x ∷ xs) punct (inr h) = no_punct f xs punct h

pub no_row : {A : Type 0} (f : A → List Pattern) (xs : List A) (row : List Value) → In (Tuple row) (map (λ x. Punct (f x)) xs) → ⊥
no_row f [] row h = h
no_row f (x ∷ xs) row (inl e) = cc
no_row f (x ∷ xs) row (inr h) = no_row f xs row h

pub puncts_lawful : {A : Type 0} (f : A → List Pattern) (xs : List A) → IsLawful (map (λ x. Punct (f x)) xs)
puncts_lawful f [] = tt
puncts_lawful f (x ∷ xs) = (none_from (f x) (map (λ y. Punct (f y)) xs) (λ row h. absurd (no_row f xs row h)), puncts_lawful f xs)
