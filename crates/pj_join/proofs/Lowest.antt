-- The low-water ticket never falls.
use Rattle.std.proofs.Common.{ℕ, ◌+◌, ◌≤◌, not, List, [], ◌∷◌, ◌++◌, ◌≡◌, ◌⊎◌, Some, drop, length, refl, sym, ap, ◌∙◌, subst, inl, inr, eqb, arith}
use Rattle.std.specs.List.{slice_get}
use Rattle.std.proofs.lemmas.List.{map-append}
use Rattle.pj_value.proofs.Members.{In-append_cases, In-append_left, In-append_right, In-filter}
use Rattle.pj_events.specs.Join.{In, TupleAt}
use Rattle.pj_events.specs.KeptState.{least, without}
use Rattle.pj_join.specs.Insides.{lowest, tickets}
use Rattle.pj_join.proofs.Orders.{drop-more_end}
use Rattle.pj_recheck.proofs.Picked.{drop_one}

least-within : (next : ℕ) (ts : List ℕ) → least next ts ≤ next
least-within next [] = omega arith
least-within next (t ∷ ts) = omega (arith, least-within next ts)

least-of : (next : ℕ) (ts : List ℕ) (t : ℕ) → In t ts → least next ts ≤ t
least-of next [] t h = absurd h
least-of next (u ∷ ts) t (inl e) = omega (arith, e)
least-of next (u ∷ ts) t (inr h) = omega (arith, least-of next ts t h)

least_rises : (next next' : ℕ) (ts ts' : List ℕ) → next ≤ next' → ((t : ℕ) → In t ts' → In t ts ⊎ (next ≤ t)) → least next ts ≤ least next' ts'
least_rises next next' ts [] le from = omega (arith, le, least-within next ts)
least_rises next next' ts (t ∷ ts') le from = go (least_rises next next' ts ts' le (λ u h. from u (inr h))) (from t (inl refl))
  where
    go : least next ts ≤ least next' ts' → In t ts ⊎ (next ≤ t) → least next ts ≤ least next' (t ∷ ts')
    go rest (inl h) = omega (arith, rest, least-of next ts t h)
    go rest (inr l) = omega (arith, rest, l, least-within next ts)

-- a tuple comes
pub lowest_tuple : (next done : ℕ) (log : List TupleAt) (taken : List ℕ) (x : TupleAt) → x.ticket ≡ next → done ≤ length log → lowest next done log taken ≤ lowest (next + 1) done (log ++ x ∷ []) taken
lowest_tuple next done log taken x is le =
    least_rises next (next + 1) (taken ++ tickets (drop done log)) (taken ++ tickets (drop done (log ++ x ∷ []))) (omega arith) (λ t h. go t (In-append_cases t taken (tickets (drop done (log ++ x ∷ []))) h))
  where
    more : tickets (drop done (log ++ x ∷ [])) ≡ tickets (drop done log) ++ x.ticket ∷ []
    more = ap tickets (drop-more_end done log x le) ∙ map-append (λ (y : TupleAt). y.ticket) (drop done log) (x ∷ [])

    last : (t : ℕ) → In t (tickets (drop done log)) ⊎ In t (x.ticket ∷ []) → In t (taken ++ tickets (drop done log)) ⊎ (next ≤ t)
    last t (inl k) = inl (In-append_right t taken (tickets (drop done log)) k)
    last t (inr (inl e)) = inr (omega (arith, e, is))
    last t (inr (inr n)) = absurd n

    go : (t : ℕ) → In t taken ⊎ In t (tickets (drop done (log ++ x ∷ []))) → In t (taken ++ tickets (drop done log)) ⊎ (next ≤ t)
    go t (inl h) = inl (In-append_left t taken (tickets (drop done log)) h)
    go t (inr h) = last t (In-append_cases t (tickets (drop done log)) (x.ticket ∷ []) (subst (λ (ns : List ℕ). In t ns) more h))

-- a punctuation comes
pub lowest_punct : (next done : ℕ) (log : List TupleAt) (taken : List ℕ) → lowest next done log taken ≤ lowest (next + 1) done log taken
lowest_punct next done log taken = least_rises next (next + 1) (taken ++ tickets (drop done log)) (taken ++ tickets (drop done log)) (omega arith) (λ t h. inl h)

-- the first that is pending is taken and given
pub lowest_probe : (next done : ℕ) (log : List TupleAt) (taken : List ℕ) (x : TupleAt) → Some x ≡ slice_get log done → lowest next done log taken ≤ lowest next (done + 1) log taken
lowest_probe next done log taken x here =
    least_rises next next (taken ++ tickets (drop done log)) (taken ++ tickets (drop (done + 1) log)) (omega arith) (λ t h. inl (go t (In-append_cases t taken (tickets (drop (done + 1) log)) h)))
  where
    go : (t : ℕ) → In t taken ⊎ In t (tickets (drop (done + 1) log)) → In t (taken ++ tickets (drop done log))
    go t (inl h) = In-append_left t taken (tickets (drop done log)) h
    go t (inr h) = In-append_right t taken (tickets (drop done log)) (subst (λ (ys : List TupleAt). In t (tickets ys)) (sym (drop_one log done x (sym here))) (inr h))

-- it is taken
pub lowest_take : (next done : ℕ) (log : List TupleAt) (taken taken' : List ℕ) (x : TupleAt) → Some x ≡ slice_get log done → taken' ≡ taken ++ x.ticket ∷ [] → lowest next done log taken ≤ lowest next (done + 1) log taken'
lowest_take next done log taken taken' x here is =
    least_rises next next (taken ++ tickets (drop done log)) (taken' ++ tickets (drop (done + 1) log)) (omega arith) (λ t h. inl (go t (In-append_cases t taken' (tickets (drop (done + 1) log)) h)))
  where
    first : drop done log ≡ x ∷ drop (done + 1) log
    first = drop_one log done x (sym here)

    old : (t : ℕ) → In t taken ⊎ In t (x.ticket ∷ []) → In t (taken ++ tickets (drop done log))
    old t (inl h) = In-append_left t taken (tickets (drop done log)) h
    old t (inr (inl e)) = In-append_right t taken (tickets (drop done log)) (subst (λ (ys : List TupleAt). In t (tickets ys)) (sym first) (inl e))
    old t (inr (inr n)) = absurd n

    go : (t : ℕ) → In t taken' ⊎ In t (tickets (drop (done + 1) log)) → In t (taken ++ tickets (drop done log))
    go t (inl h) = old t (In-append_cases t taken (x.ticket ∷ []) (subst (λ (ns : List ℕ). In t ns) is h))
    go t (inr h) = In-append_right t taken (tickets (drop done log)) (subst (λ (ys : List TupleAt). In t (tickets ys)) (sym first) (inr h))

-- a ticket is given
pub lowest_give : (next done : ℕ) (log : List TupleAt) (taken : List ℕ) (u : ℕ) → lowest next done log taken ≤ lowest next done log (without taken u)
lowest_give next done log taken u =
    least_rises next next (taken ++ tickets (drop done log)) (without taken u ++ tickets (drop done log)) (omega arith) (λ t h. inl (go t (In-append_cases t (without taken u) (tickets (drop done log)) h)))
  where
    go : (t : ℕ) → In t (without taken u) ⊎ In t (tickets (drop done log)) → In t (taken ++ tickets (drop done log))
    go t (inl h) = In-append_left t taken (tickets (drop done log)) (In-filter (λ m. not (eqb m u)) t taken h).0
    go t (inr h) = In-append_right t taken (tickets (drop done log)) h
