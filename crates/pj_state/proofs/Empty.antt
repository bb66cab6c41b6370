-- Indexes of no rows.
use Rattle.std.proofs.Common.{◌≡◌, ℕ, ◌+◌, List, [], ◌∷◌, ◌++◌, length, ap, ◌∙◌}
use Rattle.std.specs.List.{All}
use Rattle.std.proofs.lemmas.List.{length-append}
use Rattle.std.proofs.lemmas.List.Elements.{All-push}
use Rattle.pj_value.specs.declared.values.Value.{Value}
use Rattle.pj_state.specs.Indexes.{told}
use Rattle.pj_state.specs.declared.index.ValueIndex.{ValueIndex}

-- so many indexes, of no tickets
pub record AreEmpty (indexes : List ValueIndex) (count : ℕ) : Type 0 where
  pub long : length indexes ≡ count
  pub empty : All (λ (x : ValueIndex). (v : Value) → told x v ≡ []) indexes

pub empty-more : (xs : List ValueIndex) (i : ℕ) (x : ValueIndex) → AreEmpty xs i → ((v : Value) → told x v ≡ []) → AreEmpty (xs ++ x ∷ []) (i + 1)
empty-more xs i x h e = record {
  long = length-append xs (x ∷ []) ∙ ap (λ n. n + 1) h.long;
  empty = All-push (λ (y : ValueIndex). (v : Value) → told y v ≡ []) xs x h.empty e;
}
