-- Text that is appended piece by piece.
use Rattle.std.proofs.Common.{ℕ, ◌+◌, ◌<◌, ◌≡◌, ◌≢◌, Bool, cond, List, [], ◌∷◌, ◌++◌, Some, drop, get_or, length, slice_get, flat_map, sym, ap, ◌∙◌, append_assoc, append-nil}
use Rattle.std.specs.List.{concat}
use Rattle.std.proofs.lemmas.Bool.{eq-eqb, ne_eqb}
use Rattle.std.proofs.lemmas.List.Folds.{concat-append}
use Rattle.pj_value.specs.declared.values.Value.{Value}
use Rattle.std.specs.Prelude.{codes}
use Rattle.pj_shape.specs.declared.joins.CertStep.{CertStep}
use Rattle.pj_graph.proofs.Steps.{drop_at, drop_got}
use Rattle.pj_cert.specs.Partners.{partner_line, partner_of, partners_from}
use Rattle.pj_cert.specs.Verdicts.{mark_text, more_text, name_of, step_text}

pub marks_more : (text more whole : List ℕ) (marks : List Bool) (k : ℕ) (m : Bool) → text ++ flat_map mark_text (drop k marks) ≡ whole
    → slice_get marks k ≡ Some m → more ≡ text ++ mark_text m → more ++ flat_map mark_text (drop (k + 1) marks) ≡ whole
marks_more text more whole marks k m e at added =
    ap (λ (t : List ℕ). t ++ flat_map mark_text (drop (k + 1) marks)) added
    ∙ append_assoc text (mark_text m) (flat_map mark_text (drop (k + 1) marks))
    ∙ sym (ap (λ (ms : List Bool). text ++ flat_map mark_text ms) (drop_got marks k m at))
    ∙ e

pub steps_more : (schemes : List (List (List Bool))) (names : List (List ℕ)) (text comma more whole : List ℕ) (steps : List CertStep) (k : ℕ) (step : CertStep)
    → text ++ more_text schemes names (drop k steps) ≡ whole → slice_get steps k ≡ Some step → comma ≡ text ++ codes "," → more ≡ comma ++ step_text schemes names step
    → more ++ more_text schemes names (drop (k + 1) steps) ≡ whole
steps_more schemes names text comma more whole steps k step e at pushed added =
    ap (λ (t : List ℕ). t ++ more_text schemes names (drop (k + 1) steps)) (added ∙ ap (λ (t : List ℕ). t ++ step_text schemes names step) pushed)
    ∙ append_assoc (text ++ codes ",") (step_text schemes names step) (more_text schemes names (drop (k + 1) steps))
    ∙ append_assoc text (codes ",") (step_text schemes names step ++ more_text schemes names (drop (k + 1) steps))
    ∙ sym (ap (λ (ss : List CertStep). text ++ more_text schemes names ss) (drop_got steps k step at))
    ∙ e

-- the lines of one more row
pub partners_more : (names : List (List ℕ)) (input : ℕ) (text more whole : List ℕ) (rows : List (List Value)) (k : ℕ) (row : List Value)
    → text ++ concat (partners_from names input k (drop k rows)) ≡ whole → k < length rows → row ≡ get_or rows k row
    → more ≡ text ++ concat (partner_of names input k row) → more ++ concat (partners_from names input (k + 1) (drop (k + 1) rows)) ≡ whole
partners_more names input text more whole rows k row e lt is added =
    ap (λ (t : List ℕ). t ++ concat (partners_from names input (k + 1) (drop (k + 1) rows))) added
    ∙ append_assoc text (concat (partner_of names input k row)) (concat (partners_from names input (k + 1) (drop (k + 1) rows)))
    ∙ ap (λ (t : List ℕ). text ++ t) (sym (concat-append (partner_of names input k row) (partners_from names input (k + 1) (drop (k + 1) rows))))
    ∙ sym (ap (λ (rs : List (List Value)). text ++ concat (partners_from names input k rs)) (drop_at rows k row lt is))
    ∙ e

-- the line of the other input, and none of this one
pub partner_same : (names : List (List ℕ)) (input other : ℕ) (row : List Value) (text : List ℕ) → other ≡ input → text ≡ text ++ concat (partner_of names input other row)
partner_same names input other row text e =
    sym (ap (λ (b : Bool). text ++ concat (cond b [] (partner_line (name_of names other) row ∷ []))) (eq-eqb other input e) ∙ append-nil text)

pub partner_other : (names : List (List ℕ)) (input other : ℕ) (row : List Value) (text more : List ℕ) → other ≢ input
    → more ≡ text ++ partner_line (name_of names other) row → more ≡ text ++ concat (partner_of names input other row)
partner_other names input other row text more differ e =
    e ∙ ap (λ (t : List ℕ). text ++ t) (sym (append-nil (partner_line (name_of names other) row)))
    ∙ sym (ap (λ (b : Bool). text ++ concat (cond b [] (partner_line (name_of names other) row ∷ []))) (ne_eqb other input differ))

pub two_parts : (first one two a b : List ℕ) → one ≡ first ++ a → two ≡ one ++ b → two ≡ first ++ (a ++ b)
two_parts first one two a b e f = f ∙ ap (λ (t : List ℕ). t ++ b) e ∙ append_assoc first a b

pub three_parts : (first one two three a b c : List ℕ) → one ≡ first ++ a → two ≡ one ++ b → three ≡ two ++ c → three ≡ first ++ (a ++ b ++ c)
three_parts first one two three a b c e f g =
    g ∙ ap (λ (t : List ℕ). t ++ c) (f ∙ ap (λ (t : List ℕ). t ++ b) e)
    ∙ ap (λ (t : List ℕ). t ++ c) (append_assoc first a b) ∙ append_assoc first (a ++ b) c
