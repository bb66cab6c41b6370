-- The nodes of a plan under steps: what stays as it is, and what only receives.
use Rattle.std.proofs.Common.{ℕ, zero, suc, ◌+◌, ◌<◌, ◌≤◌, Bool, true, false, List, [], ◌∷◌, ◌++◌, ◌≡◌, map, length, get_or, refl, sym, ap, ap₂, ◌∙◌, arith}
use Rattle.std.proofs.lemmas.List.{length_push}
use Rattle.pj_events.specs.Join.{Element}
use Rattle.pj_events.specs.Plan.{Operator, Stream, Select, Project, Union, Join, Group, Node, Local, Comes, Fed, Own, PlanStep, Pass, after, after_all, hands_all, own, brought_from, locals, handed_at, batches, moved, operator_at}
use Rattle.pj_events.specs.declared.events.Entry.{Entry}
use Rattle.pj_events.specs.declared.events.Event.TheVariants.{Drain}
use Rattle.pj_events.specs.History.{root_of, step_of, nodes_by, out_of, gained, nodes_from, data_in}
use Rattle.pj_events.specs.Outcomes.{counts}
use Rattle.pj_events.specs.OneThread.{schema_of}
use Rattle.pj_laws.specs.HistoryLaws.{IsNoGroup}
use Rattle.pj_laws.proofs.Glue.{length-moved, after-append}

-- ---- a node after a step is its operator after some locals

operator-moved : (e : PlanStep) (done : List (List Element)) (nodes : List Node) (n : ℕ) → n < length nodes → (ls : List Local) × (operator_at (moved e done nodes) n ≡ after_all (operator_at nodes n) ls)
operator-moved e done [] n lt = absurd (omega arith)
operator-moved e done (node ∷ nodes) zero lt = (locals e done node, refl)
operator-moved e done (node ∷ nodes) (suc n) lt = operator-moved e (done ++ handed_at e done node ∷ []) nodes n (omega arith)

pub operator-from : (nodes : List Node) (h : List Entry) (n : ℕ) → n < length nodes → (ls : List Local) × (operator_at (nodes_from nodes h) n ≡ after_all (operator_at nodes n) ls)
operator-from nodes [] n lt = ([], refl)
operator-from nodes (entry ∷ h) n lt =
    let a = operator-moved (step_of nodes entry.event) [] nodes n lt in
    let b = operator-from (nodes_by nodes entry.event) h n (omega (arith, lt, length-moved (step_of nodes entry.event) [] nodes)) in
    (a.0 ++ b.0, b.1 ∙ ap (λ (m : Operator). after_all m b.0) a.1 ∙ sym (after-append (operator_at nodes n) a.0 b.0))

-- ---- what an operator is stays

schema-after : (m : Operator) (l : Local) → schema_of (after m l) ≡ schema_of m
schema-after (Stream schema sent) (Comes k e) = refl
schema-after (Stream schema sent) (Fed e) = refl
schema-after (Stream schema sent) (Own s) = refl
schema-after (Select test) l = refl
schema-after (Project columns) l = refl
schema-after (Union n u) (Comes k e) = refl
schema-after (Union n u) (Fed e) = refl
schema-after (Union n u) (Own s) = refl
schema-after (Join spec s) l = refl
schema-after (Group spec rows) (Comes k e) = refl
schema-after (Group spec rows) (Fed e) = refl
schema-after (Group spec rows) (Own s) = refl

pub schema-all : (m : Operator) (ls : List Local) → schema_of (after_all m ls) ≡ schema_of m
schema-all m [] = refl
schema-all m (l ∷ ls) = schema-all (after m l) ls ∙ schema-after m l

data-after : (m : Operator) (l : Local) → data_in (after m l) ≡ data_in m
data-after (Stream schema sent) (Comes k e) = refl
data-after (Stream schema sent) (Fed e) = refl
data-after (Stream schema sent) (Own s) = refl
data-after (Select test) l = refl
data-after (Project columns) l = refl
data-after (Union n u) (Comes k e) = refl
data-after (Union n u) (Fed e) = refl
data-after (Union n u) (Own s) = refl
data-after (Join spec s) l = refl
data-after (Group spec rows) (Comes k e) = refl
data-after (Group spec rows) (Fed e) = refl
data-after (Group spec rows) (Own s) = refl

pub data-all : (m : Operator) (ls : List Local) → data_in (after_all m ls) ≡ data_in m
data-all m [] = refl
data-all m (l ∷ ls) = data-all (after m l) ls ∙ data-after m l

no_group-after : (m : Operator) (l : Local) → IsNoGroup m → IsNoGroup (after m l)
no_group-after (Stream schema sent) (Comes k e) g = tt
no_group-after (Stream schema sent) (Fed e) g = tt
no_group-after (Stream schema sent) (Own s) g = tt
no_group-after (Select test) l g = tt
no_group-after (Project columns) l g = tt
no_group-after (Union n u) (Comes k e) g = tt
no_group-after (Union n u) (Fed e) g = tt
no_group-after (Union n u) (Own s) g = tt
no_group-after (Join spec s) l g = tt
no_group-after (Group spec rows) l g = absurd g

pub no_group-all : (m : Operator) (ls : List Local) → IsNoGroup m → IsNoGroup (after_all m ls)
no_group-all m [] g = g
no_group-all m (l ∷ ls) g = no_group-all (after m l) ls (no_group-after m l g)

pub counts-after : (m : Operator) (l : Local) → counts (after m l) ≡ counts m
counts-after (Stream schema sent) (Comes k e) = refl
counts-after (Stream schema sent) (Fed e) = refl
counts-after (Stream schema sent) (Own s) = refl
counts-after (Select test) l = refl
counts-after (Project columns) l = refl
counts-after (Union n u) (Comes k e) = refl
counts-after (Union n u) (Fed e) = refl
counts-after (Union n u) (Own s) = refl
counts-after (Join spec s) l = refl
counts-after (Group spec rows) (Comes k e) = refl
counts-after (Group spec rows) (Fed e) = refl
counts-after (Group spec rows) (Own s) = refl

pub counts-all : (m : Operator) (ls : List Local) → counts (after_all m ls) ≡ counts m
counts-all m [] = refl
counts-all m (l ∷ ls) = counts-all (after m l) ls ∙ counts-after m l

pub counts-from : (nodes : List Node) (h : List Entry) (n : ℕ) → n < length nodes → counts (operator_at (nodes_from nodes h) n) ≡ counts (operator_at nodes n)
counts-from nodes h n lt = let f = operator-from nodes h n lt in ap counts f.1 ∙ counts-all (operator_at nodes n) f.0

-- ---- nodes that a step does not reach

-- nothing was handed up before
abbrev pub AreEmpty : List (List Element) → Type 0
AreEmpty done = (n : ℕ) → get_or done n [] ≡ []

pub empty-none : AreEmpty []
empty-none n = refl

pub empty-push : (done : List (List Element)) → AreEmpty done → AreEmpty (done ++ [] ∷ [])
empty-push [] a zero = refl
empty-push [] a (suc n) = refl
empty-push (x ∷ done) a zero = a 0
empty-push (x ∷ done) a (suc n) = empty-push done (λ k. a (suc k)) n

pub brought-none : (k : ℕ) (ms : List ℕ) (done : List (List Element)) → AreEmpty done → brought_from k ms done ≡ []
brought-none k [] done a = refl
brought-none k (m ∷ ms) done a = ap₂ (λ (xs ys : List Local). xs ++ ys) (ap (map (Comes k)) (a m)) (brought-none (k + 1) ms done a)

-- nodes at which the step does nothing of its own, and before which nothing was handed up, stay and hand up nothing
pub quiet : (e : PlanStep) (done : List (List Element)) (nodes : List Node) → AreEmpty done → ((n : ℕ) → length done ≤ n → n < length done + length nodes → own e n ≡ [])
    → (moved e done nodes ≡ nodes) × AreEmpty (batches e done nodes)
quiet e done [] a none = (refl, a)
quiet e done (node ∷ nodes) a none =
    let ih = quiet e (done ++ [] ∷ []) nodes (empty-push done a) (λ n le lt. none n (omega (arith, le, length_push done [])) (omega (arith, lt, length_push done []))) in (
      ap₂ (λ (ls : List Local) (xs : List Element). record { inputs = node.inputs; operator = after_all node.operator ls } ∷ moved e (done ++ xs ∷ []) nodes) still silent
          ∙ ap (λ (rest : List Node). node ∷ rest) ih.0,
      λ n. ap (λ (xs : List Element). get_or (batches e (done ++ xs ∷ []) nodes) n []) silent ∙ ih.1 n,
    )
  where
    still : locals e done node ≡ []
    still = ap₂ (λ (xs ys : List Local). xs ++ ys) (none (length done) (omega arith) (omega arith)) (brought-none 0 node.inputs done a)

    silent : handed_at e done node ≡ []
    silent = ap (hands_all node.operator) still

pub drain-still : (nodes : List Node) → nodes_by nodes Drain ≡ nodes
drain-still nodes = (quiet Pass [] nodes empty-none (λ n le lt. refl)).0

pub drain-silent : (trace : Bool) (nodes : List Node) → gained trace nodes Drain ≡ []
drain-silent true nodes = ap (λ (es : List Element). map out_of es) ((quiet Pass [] nodes empty-none (λ n le lt. refl)).1 (root_of nodes))
drain-silent false nodes = ap (λ (es : List Element). map out_of es) ((quiet Pass [] nodes empty-none (λ n le lt. refl)).1 (root_of nodes))
