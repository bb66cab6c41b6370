-- The operands of a call: those that stand before the streams' files, and the files'.
use Rattle.std.proofs.Common.{◌≡◌, ◌<◌, ◌+◌, ℕ, suc, ◌⊎◌, inl, inr, List, [], ◌∷◌, ◌++◌, length, take, Option, Some, None, IsTrue, refl, ap, sym, ◌∙◌, subst, arith}
use Rattle.std.specs.Prelude.{slice_index_or}
use Rattle.std.proofs.Math.Seq.{get_or-append-add, take-append-add}
use Rattle.std.proofs.lemmas.List.{get_or_append_left, length-append, take_all}
use Rattle.pj_value.specs.Lists.{In}
use Rattle.pj_value.proofs.Members.{In-append_cases, In-append_left, In-append_right}
use Rattle.pj_io.specs.States.{FolderState}
use Rattle.pj_feed.specs.Named.{IsAlone}
use Rattle.pj_feed.specs.Opened.{OpensFirst, StayOutside}
use Rattle.pj_feed.proofs.Outside.{stay_then, stay_wider}
use Rattle.pj_prepare.specs.Calls.{first_by, leading, operand}

-- the files stand behind the plan and a script
pub count_leading : (plan : List ℕ) (script : Option (List ℕ)) → first_by script ≡ suc (length (leading plan script))
count_leading plan None = refl
count_leading plan (Some name) = refl

-- ---- their names

-- the name at a place behind the first ones
pub name_at : (lead files : List (List ℕ)) (place stream : ℕ) → place ≡ length lead + stream → slice_index_or (lead ++ files) place [] ≡ slice_index_or files stream []
name_at lead files place stream at = ap (λ (m : ℕ). slice_index_or (lead ++ files) m []) at ∙ get_or-append-add lead files stream []

pub operand_at : (lead files : List (List ℕ)) (n stream : ℕ) → n ≡ suc (length lead) + stream → operand (lead ++ files) n ≡ slice_index_or files stream []
operand_at lead files n stream at =
    let next : n ≡ suc (length lead + stream) = omega (arith, at) in
    ap (λ (m : ℕ). slice_index_or ([] ∷ lead ++ files) m []) next ∙ get_or-append-add lead files stream []

-- the place of a name
place-of : (name : List ℕ) (names : List (List ℕ)) → In name names → (i : ℕ) × (i < length names) × (slice_index_or names i [] ≡ name)
place-of name [] there = absurd there
place-of name (n ∷ names) (inl is) = (0, (omega arith), is)
place-of name (n ∷ names) (inr there) = let p = place-of name names there in let lt = p.1 in (suc p.0, (omega (arith, lt)), p.2)

module _ (lead files : List (List ℕ)) (place stream : ℕ) (at : place ≡ length lead + stream) (alone : IsAlone place (lead ++ files)) where
  -- a name that no other operand has is no other file's
  pub alone_among : IsAlone stream files
  alone_among other low unlike same =
      alone (length lead + other) (let all = length-append lead files in omega (arith, low, all)) (λ e. unlike (omega (arith, e, at)))
      (name_at lead files (length lead + other) other refl ∙ (same ∙ sym (name_at lead files place stream at)))

  -- and none of the first ones
  pub unlike_lead : In (slice_index_or files stream []) lead → ⊥
  unlike_lead there =
      let p = place-of (slice_index_or files stream []) lead there in
      let lt = p.1 in
      let all = length-append lead files in
      alone p.0 (omega (arith, lt, all)) (λ e. omega (arith, e, lt, at))
      (get_or_append_left lead files [] p.0 p.1 ∙ (p.2 ∙ sym (name_at lead files place stream at)))

-- ---- what is opened and touched

-- the first ones, and then some of the files
pub opens_on : (lead files : List (List ℕ)) (count : ℕ) (old mid new : FolderState) → OpensFirst (length lead) lead old mid → OpensFirst count files mid new → OpensFirst (length lead + count) (lead ++ files) old new
opens_on lead files count old mid new one more name = (
  λ t. subst (λ (ns : List (List ℕ)). IsTrue (old.opened name) ⊎ In name ns) (sym parts) (elim ((more name).0 t) [
    | inl before ↦ elim ((one name).0 before) [ inl was ↦ inl was | inr there ↦ inr (In-append_left name lead (take count files) (subst (In name) whole there)) ]
    | inr there ↦ inr (In-append_right name lead (take count files) there)
  ]),
  λ t. elim t [
    | inl was ↦ (more name).1 (inl ((one name).1 (inl was)))
    | inr there ↦ elim (In-append_cases name lead (take count files) (subst (In name) parts there)) [
      | inl first ↦ (more name).1 (inl ((one name).1 (inr (subst (In name) (sym whole) first))))
      | inr later ↦ (more name).1 (inr later)
    ]
  ],
)
  where
    parts : take (length lead + count) (lead ++ files) ≡ lead ++ take count files
    parts = take-append-add lead files count

    whole : take (length lead) lead ≡ lead
    whole = take_all (length lead) lead (omega arith)

-- what is so of names that are no tried file's is so of those that are no tried operand
pub tried_on : (lead files : List (List ℕ)) (count : ℕ) (old mid new : FolderState) → StayOutside lead old mid → StayOutside (take count files) mid new → StayOutside (take (length lead + count) (lead ++ files)) old new
tried_on lead files count old mid new before then =
    subst (λ (ns : List (List ℕ)). StayOutside ns old new) (sym (take-append-add lead files count))
    (stay_then (lead ++ take count files) old mid new
    (stay_wider lead (lead ++ take count files) old mid (λ name there. In-append_left name lead (take count files) there) before)
    (stay_wider (take count files) (lead ++ take count files) mid new (λ name there. In-append_right name lead (take count files) there) then))
