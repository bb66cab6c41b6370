-- Fronts of histories that stay within a limit.
use Rattle.std.proofs.Common.{ℕ, List, [], ◌∷◌, ◌++◌, ◌≡◌, sym, ap, ◌∙◌, subst, append_assoc}
use Rattle.std.proofs.lemmas.List.{append-nil}
use Rattle.pj_events.specs.declared.events.Entry.{Entry}
use Rattle.pj_events.specs.Plan.{Node}
use Rattle.pj_events.specs.Limits.{BeginsBeyond, ReachesLimit, StaysWithin}

module _ (limit : ℕ) (nodes : List Node) where
  -- entries stay within where a front does, and the others do behind it
  pub within-append : (history front back : List Entry) → StaysWithin limit nodes history front → StaysWithin limit nodes (history ++ front) back → StaysWithin limit nodes history (front ++ back)
  within-append history [] back f b = subst (λ (h : List Entry). StaysWithin limit nodes h back) (append-nil history) b
  within-append history (entry ∷ front) back f b =
      (f.0, within-append (history ++ entry ∷ []) front back f.1 (subst (λ (h : List Entry). StaysWithin limit nodes h back) (sym (append_assoc history (entry ∷ []) front)) b))

  pub within-front : (history front back : List Entry) → StaysWithin limit nodes history (front ++ back) → StaysWithin limit nodes history front
  within-front history [] back w = tt
  within-front history (entry ∷ front) back w = (w.0, within-front (history ++ entry ∷ []) front back w.1)

  pub within-back : (history front back : List Entry) → StaysWithin limit nodes history (front ++ back) → StaysWithin limit nodes (history ++ front) back
  within-back history [] back w = subst (λ (h : List Entry). StaysWithin limit nodes h back) (sym (append-nil history)) w
  within-back history (entry ∷ front) back w =
      subst (λ (h : List Entry). StaysWithin limit nodes h back) (append_assoc history (entry ∷ []) front) (within-back (history ++ entry ∷ []) front back w.1)

  -- a history within the limit reaches it where a front of more entries stays within, and the first that follows goes beyond
  pub reaches : (whole done front back rest : List Entry) (node : ℕ) → whole ≡ done ++ ((front ++ back) ++ rest) → StaysWithin limit nodes [] done
      → StaysWithin limit nodes done front → BeginsBeyond limit nodes (done ++ front) back node → ReachesLimit limit nodes whole node
  reaches whole done front [] rest node e d w b = absurd b
  reaches whole done front (entry ∷ back) rest node e d w b = record {
    front = done ++ front;
    next = entry;
    back = back ++ rest;
    parts =
        e ∙ ap (λ (es : List Entry). done ++ es) (append_assoc front (entry ∷ back) rest)
        ∙ sym (append_assoc done front (entry ∷ (back ++ rest)));
    within = within-append [] done front d w;
    beyond = b;
  }
