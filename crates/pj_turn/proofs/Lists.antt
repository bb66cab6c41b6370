-- Histories, and weights of lists read by `get_elem?`.
use Rattle.std.proofs.Common.{◌≡◌, ◌≢◌, ℕ, zero, suc, ◌+◌, ◌<◌, ◌≤◌, Bool, true, false, cond, ◌==◌, ltb, true≢false, List, [], ◌∷◌, ◌++◌, length, set, refl, sym, ap, ◌∙◌, subst, append_assoc, append-nil, le_refl, arith, eq-eqb, ne_eqb, ltb-true}
use mathlib.Core.Option.{some, some-injective, some-ne-none}
use lib.ListN.{get_elem?}
use Rattle.std.proofs.lemmas.List.Elements.{filter-append}
use Rattle.pj_value.specs.Bags.{weigh}
use Rattle.pj_turn.specs.History.{own, HasSeen}
use Rattle.pj_turn.specs.Rule.{longer_if, longer}

pub off : false ≡ true → ⊥
off e = true≢false (sym e)

module _ {V : Type 0} where
  pub weigh_set : (f : V → ℕ) (vs : List V) (i : ℕ) (v w : V) → get_elem? vs i ≡ some v → weigh f (set vs i w) + f v ≡ weigh f vs + f w
  weigh_set f [] i v w e = absurd (some-ne-none v (sym e))
  weigh_set f (x ∷ xs) zero v w e = let h : f x ≡ f v = ap f (some-injective x v e) in omega (arith, h)
  weigh_set f (x ∷ xs) (suc i) v w e = let h = weigh_set f xs i v w e in omega (arith, h)

  pub weigh_le : (f g : V → ℕ) (vs : List V) → ((i : ℕ) (v : V) → get_elem? vs i ≡ some v → f v ≤ g v) → weigh f vs ≤ weigh g vs
  weigh_le f g [] h = le_refl 0
  weigh_le f g (x ∷ xs) h = let a = h zero x refl in let b = weigh_le f g xs (λ i v e. h (suc i) v e) in omega (arith, a, b)

module _ {E : Type 0} (number : E → ℕ) where
  pub own_same : (n : ℕ) (e : E) → number e ≡ n → own number n (e ∷ []) ≡ e ∷ []
  own_same n e is = ap (λ b. cond b (e ∷ []) []) (eq-eqb (number e) n is)

  pub own_other : (n : ℕ) (e : E) → number e ≢ n → own number n (e ∷ []) ≡ []
  own_other n e is = ap (λ b. cond b (e ∷ []) []) (ne_eqb (number e) n is)

  pub own-append : (n : ℕ) (xs ys : List E) → own number n (xs ++ ys) ≡ own number n xs ++ own number n ys
  own-append n xs ys = filter-append (λ e. number e == n) xs ys

  pub seen_all : (n : ℕ) (log : List E) → HasSeen number n log log
  seen_all n log = record { behind = []; begins = sym (append-nil log); no_own = refl }

  -- an entry of another seat changes nothing
  pub seen_more : (n : ℕ) (seen log : List E) (e : E) → number e ≢ n → HasSeen number n seen log → HasSeen number n seen (log ++ e ∷ [])
  seen_more n seen log e other h = record {
    behind = h.behind ++ e ∷ [];
    begins = ap (λ l. l ++ e ∷ []) h.begins ∙ append_assoc seen h.behind (e ∷ []);
    no_own = own-append n h.behind (e ∷ []) ∙ (ap (λ l. l ++ own number n (e ∷ [])) h.no_own ∙ own_other n e other);
  }

  pub own_seen : (n : ℕ) (seen log : List E) → HasSeen number n seen log → own number n log ≡ own number n seen
  own_seen n seen log h = ap (own number n) h.begins ∙ (own-append n seen h.behind ∙ (ap (λ l. own number n seen ++ l) h.no_own ∙ append-nil (own number n seen)))

  pub tail_own : (n : ℕ) (e : E) (es : List E) (b : Bool) → cond b (e ∷ own number n es) (own number n es) ≡ [] → own number n es ≡ []
  tail_own n e es true h = absurd (cc)
  tail_own n e es false h = h

  cons_inj : (x y : E) (xs ys : List E) → x ∷ xs ≡ y ∷ ys → xs ≡ ys
  cons_inj x y xs ys e = ap (λ (l : List E). tail_of l) e
    where
      tail_of : List E → List E
      tail_of [] = []
      tail_of (z ∷ zs) = zs

  -- of two beginnings of one list, what is behind the longer has no own entry where what is behind the shorter has none
  pub behind_longer : (n : ℕ) (xs bx ys by : List E) → xs ++ bx ≡ ys ++ by → length xs ≤ length ys → own number n bx ≡ [] → own number n by ≡ []
  behind_longer n [] bx [] by e le h = subst (λ l. own number n l ≡ []) e h
  behind_longer n [] [] (y ∷ ys) by e le h = absurd (cc)
  behind_longer n [] (b ∷ bx) (y ∷ ys) by e le h = behind_longer n [] bx ys by (cons_inj b y bx (ys ++ by) e) (omega arith) (tail_own n b bx (number b == n) h)
  behind_longer n (x ∷ xs) bx [] by e le h = absurd (omega arith)
  behind_longer n (x ∷ xs) bx (y ∷ ys) by e le h = behind_longer n xs bx ys by (cons_inj x y (xs ++ bx) (ys ++ by) e) (omega arith) h

  longer_by : (b : Bool) (n m : ℕ) (xs ys log : List E) → ltb (length xs) (length ys) ≡ b → HasSeen number n xs log → HasSeen number m ys log → HasSeen number n (longer_if b xs ys) log
  longer_by true n m xs ys log is hx hy =
      let lt : length xs < length ys = ltb-true (length xs) (length ys) is in
      record { behind = hy.behind; begins = hy.begins; no_own = behind_longer n xs hx.behind ys hy.behind (sym hx.begins ∙ hy.begins) (omega arith) hx.no_own }
  longer_by false n m xs ys log is hx hy = hx

  pub seen_longer : (n m : ℕ) (xs ys log : List E) → HasSeen number n xs log → HasSeen number m ys log → HasSeen number n (longer xs ys) log
  seen_longer n m xs ys log hx hy = longer_by (ltb (length xs) (length ys)) n m xs ys log refl hx hy
