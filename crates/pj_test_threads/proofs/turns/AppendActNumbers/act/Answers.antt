use Rattle.std.proofs.Common.{ℕ, refl, sym, ap, ◌∙◌, append-nil, [], ◌∷◌, ◌++◌, Some, None}
use Rattle.std.proofs.lemmas.List.Elements.{filter_map-append}
use Rattle.pj_test_threads.proofs.turns.AppendActNumbers.act.Goals as goal

pub returns-in-Ok-clause-done : goal.returns-in-Ok-clause-done
returns-in-Ok-clause-done c = λ limit n seen log r.
    let one : ℕ × ℕ = (c.args.self.by, c.args.self.value) in
    record {
      by_seat = refl;
      standing = c.in-Ok.ensures.ok ∙ (ap (λ l. l ++ one ∷ []) r.standing ∙ sym (filter_map-append (λ e. e.1) log ((n, Some one) ∷ [])));
      keeps = tt;
      given = refl;
    }

pub returns-in-Err-clause-done : goal.returns-in-Err-clause-done
returns-in-Err-clause-done c = λ limit n seen log r. record {
  by_seat = refl;
  standing = c.in-Err.ensures.err ∙ (r.standing ∙ (sym (append-nil _) ∙ sym (filter_map-append (λ e. e.1) log ((n, None) ∷ []))));
  keeps = tt;
  given = tt;
}
