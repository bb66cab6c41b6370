-- Walking over two lists of values that stand in order, each once.
use Rattle.std.proofs.Common.{◌≡◌, Bool, true, false, ◌&&◌, ◌||◌, List, [], ◌∷◌, length, refl, ap, ap₂, sym, subst, ◌∙◌, arith}
use Rattle.std.specs.Ordering.{is_eq}
use Rattle.std.specs.declared.cmp.Ordering.TheVariants.{Less, Equal, Greater}
use Rattle.pj_value.specs.declared.values.Value.{Value}
use Rattle.pj_value.specs.Values.{value_cmp}
use Rattle.pj_value.proofs.Orders.{eq_is, less_if_greater, same_if_tied}
use Rattle.pj_pattern.specs.declared.pattern.Form.TheVariants.{Members}
use Rattle.pj_pattern.specs.Patterns.{has_value, matches_all}
use Rattle.pj_pattern.specs.Normal.{IsNormal}
use Rattle.pj_pattern.proofs.NormalMeets.{rising_if_normal}
use Rattle.pj_pattern.proofs.Rising.{IsBelow, IsRising, below_has, below_next}

-- what is left of the members and of the values decides
pub record IsWalked (members values left rest : List Value) : Type 0 where
  pub left_rises : IsRising left
  pub rest_rises : IsRising rest
  pub same : matches_all (Members members) values ≡ matches_all (Members left) rest

pub begins : (ms vs : List Value) → IsNormal (Members ms) → IsNormal (Members vs) → IsWalked ms vs ms vs
begins ms vs m v = record { left_rises = rising_if_normal ms m; rest_rises = rising_if_normal vs v; same = refl }

-- a member that is below all values is none of them
skipped : (m : Value) (ms vs : List Value) → IsBelow m vs → IsRising vs → matches_all (Members (m ∷ ms)) vs ≡ matches_all (Members ms) vs
skipped m ms [] b r = refl
skipped m ms (v ∷ vs) b r =
    ap₂ (λ (x y : Bool). x && y) (ap (λ t. t || has_value ms v) (eq_is m v ∙ ap is_eq b)) (skipped m ms vs (below_next m v vs b r.0) r.1)

pub lesser_passed : (members values left rest : List Value) (m v : Value) (ms vs : List Value) → IsWalked members values left rest → left ≡ m ∷ ms → rest ≡ v ∷ vs → value_cmp m v ≡ Less → IsWalked members values ms rest
lesser_passed members values left rest m v ms vs w l r e =
    let rises : IsRising (v ∷ vs) = subst IsRising r w.rest_rises in
    record {
      left_rises = (subst IsRising l w.left_rises).1;
      rest_rises = w.rest_rises;
      same = w.same ∙ ap₂ (λ (xs ys : List Value). matches_all (Members xs) ys) l r ∙ (skipped m ms (v ∷ vs) e rises ∙ ap (matches_all (Members ms)) (sym r));
    }

pub equal_passed : (members values left rest : List Value) (m v : Value) (ms vs : List Value) → IsWalked members values left rest → left ≡ m ∷ ms → rest ≡ v ∷ vs → value_cmp m v ≡ Equal → IsWalked members values ms vs
equal_passed members values left rest m v ms vs w l r e =
    let here : has_value (m ∷ ms) v ≡ true = ap (λ b. b || has_value ms v) (eq_is m v ∙ ap is_eq e) in
    let rises : IsRising (v ∷ vs) = subst IsRising r w.rest_rises in
    let below : IsBelow m vs = subst (λ (u : Value). IsBelow u vs) (sym (same_if_tied m v e)) rises.0 in
    record {
      left_rises = (subst IsRising l w.left_rises).1;
      rest_rises = rises.1;
      same = w.same ∙ ap₂ (λ (xs ys : List Value). matches_all (Members xs) ys) l r ∙ (ap (λ b. b && matches_all (Members (m ∷ ms)) vs) here ∙ skipped m ms vs below rises.1);
    }

pub greater_missing : (members values left rest : List Value) (m v : Value) (ms vs : List Value) → IsWalked members values left rest → left ≡ m ∷ ms → rest ≡ v ∷ vs → value_cmp m v ≡ Greater → false ≡ matches_all (Members members) values
greater_missing members values left rest m v ms vs w l r e =
    let missing : has_value (m ∷ ms) v ≡ false = below_has v (m ∷ ms) (less_if_greater m v e) (subst IsRising l w.left_rises) in
    sym (w.same ∙ ap₂ (λ (xs ys : List Value). matches_all (Members xs) ys) l r ∙ ap (λ b. b && matches_all (Members (m ∷ ms)) vs) missing)

pub none_left : (members values left rest : List Value) (v : Value) (vs : List Value) → IsWalked members values left rest → length left ≡ 0 → rest ≡ v ∷ vs → false ≡ matches_all (Members members) values
none_left members values [] rest v vs w l r = sym (w.same ∙ ap (matches_all (Members [])) r)
none_left members values (m ∷ ms) rest v vs w l r = absurd (omega (arith, l))

pub all_passed : (members values left rest : List Value) → IsWalked members values left rest → length rest ≡ 0 → true ≡ matches_all (Members members) values
all_passed members values left [] w r = sym w.same
all_passed members values left (v ∷ vs) w r = absurd (omega (arith, r))
