-- The first stuck input of a join.
use Rattle.std.proofs.Common.{ℕ, ◌+◌, ◌<◌, ◌≡◌, length, arith, true, List, [], ◌∷◌, ◌++◌, Option, Some, None, refl, sym, ap, ◌∙◌, subst, below_more}
use Rattle.std.proofs.lemmas.List.FromFn.{map-range_with_len_more}
use Rattle.pj_shape.specs.declared.joins.CertStep.{CertStep}
use Rattle.pj_graph.specs.declared.answers.Reach.{Reach}
use Rattle.pj_graph.specs.declared.answers.Reach.TheVariants.{All, Stuck as StuckAt}
use Rattle.pj_shape.specs.Sets.{IsSafe, Reaches}
use Rattle.pj_shape.specs.Certificates.{IsCertificate}
use Rattle.pj_graph.specs.Laws.{SaturationsAreTold}
use Rattle.pj_graph.specs.Saturation.{certificate_of}
use Rattle.pj_graph.specs.Reaching.{IsReach, IsStuck, IsWhole}
use Rattle.pj_safety.specs.declared.risk.PlanRisk.{PlanRisk}
use Rattle.pj_safety.specs.declared.risk.PlanRisk.TheVariants.{Stuck}
use Rattle.pj_safety.specs.Safety.{FirstReachAll, IsFirstStuck}
use Rattle.pj_judge.specs.declared.safety.Unsafe.{Unsafe}
use Rattle.pj_judge.specs.declared.safety.Verdict.TheVariants.{Refused}
use Rattle.pj_judge.specs.Asked.{AreCertified, AreRiskLines, Asked, IsAtRisk, IsFirstOf, IsJoinJudged, first_certificates, or_stuck, stuck_lines}
use Rattle.pj_judge.specs.Judgments.{HasUnsafeLines}
use Rattle.pj_value.specs.Lists.{has}
use Rattle.pj_value.proofs.Numbers.{in-has}

module _ (asked : Asked) where
  abbrev FirstReach : ℕ → Type 0
  FirstReach count = FirstReachAll asked.spec asked.schemes count

  pub one_more : (n : ℕ) (cert : List CertStep) → FirstReach n → IsWhole asked.spec asked.schemes n cert → FirstReach (n + 1)
  one_more n cert before whole from lt to there = below_more (λ (k : ℕ). (m : ℕ) → m < length asked.spec.inputs → Reaches asked.spec asked.schemes k m) n before whole.all from lt to there

  pub all_safe : FirstReach (length asked.spec.inputs) → IsSafe asked.spec asked.schemes
  all_safe before from to lt there = before from lt to there

  pub stuck_at : (n missing : ℕ) (reached : List ℕ) → FirstReach n → n < length asked.spec.inputs → IsStuck asked.spec asked.schemes n reached missing
      → IsFirstStuck asked.spec asked.schemes n missing
  stuck_at n missing reached before lt stuck = record {
    before = before;
    input_there = lt;
    missing_there = stuck.missing_is_input;
    stuck = stuck.missed;
    least = stuck.least;
  }

  pub first_more : (n : ℕ) (first : Option PlanRisk) (found : Reach) → IsFirstOf asked n first → n < length asked.spec.inputs
      → IsReach asked.spec asked.schemes n found → IsFirstOf asked (n + 1) (or_stuck first n found)
  first_more n (Some (Stuck input missing)) found is lt reach = is
  first_more n None (All cert) is lt whole = one_more n cert is whole
  first_more n None (StuckAt reached missing) is lt stuck = stuck_at n missing reached is lt stuck

-- an input reaches itself
pub inside : (asked : Asked) (n missing : ℕ) (reached : List ℕ) → n < length asked.spec.inputs → IsStuck asked.spec asked.schemes n reached missing → has reached n ≡ true
inside asked n missing reached lt stuck = in-has reached n ((stuck.exactly n).1 (lt, λ set closed here. here))

-- ---- what is found of a join

pub none_yet : (asked : Asked) → AreCertified asked 0 []
none_yet asked = record {
  everywhere = λ from lt. absurd (omega (arith, lt));
  in_order = refl;
  valid = λ input lt. absurd (omega (arith, lt));
}

pub one_certified : (asked : Asked) (n : ℕ) (cert : List CertStep) (certs more : List (List CertStep)) → SaturationsAreTold → AreCertified asked n certs
    → IsReach asked.spec asked.schemes n (All cert) → more ≡ certs ++ cert ∷ [] → AreCertified asked (n + 1) more
one_certified asked n cert certs more told before whole e = record {
  everywhere = one_more asked n cert before.everywhere whole;
  in_order =
      e ∙ ap (λ (cs : List (List CertStep)). cs ++ cert ∷ []) before.in_order ∙ ap (λ (c : List CertStep). first_certificates asked n ++ c ∷ []) this
      ∙ sym (map-range_with_len_more (certificate_of asked.spec asked.schemes) 0 n n (omega arith));
  valid = below_more (λ (k : ℕ). IsCertificate asked.spec asked.schemes k (certificate_of asked.spec asked.schemes k)) n before.valid
      (subst (IsCertificate asked.spec asked.schemes n) this whole.certified);
}
  where
    this : cert ≡ certificate_of asked.spec asked.schemes n
    this = told asked.spec asked.schemes n cert whole

-- the first stuck input of a join was found, with its lines
pub judged : (asked : Asked) (node n missing : ℕ) (reached : List ℕ) (found : Unsafe) (certs : List (List CertStep)) → AreCertified asked n certs → n < length asked.spec.inputs
    → IsStuck asked.spec asked.schemes n reached missing → found.node ≡ node → found.risk ≡ Stuck n missing → found.lines ≡ stuck_lines asked n missing reached
    → HasUnsafeLines found → IsJoinJudged asked node (Refused found)
judged asked node n missing reached found certs before lt stuck e f lines notes = record {
  same = e;
  at_risk = subst (IsAtRisk asked) (sym f) (stuck_at asked n missing reached before.everywhere lt stuck);
  told = subst (λ (risk : PlanRisk). AreRiskLines asked risk found.lines) (sym f) (record { reached = reached; stuck = stuck; told = lines });
  notes = notes;
}
