-- What a place sees of a run: what its inputs hand up, and its own steps.
use Rattle.std.proofs.Common.{ℕ, zero, suc, ◌+◌, ◌<◌, Bool, true, false, cond, List, [], ◌∷◌, ◌++◌, ◌≡◌, map, length, get_or, refl, sym, ap, ap₂, ◌∙◌, eqb, arith, append_assoc, append-nil}
use Rattle.std.proofs.lemmas.Bool.{eq-eqb, ne_eqb}
use Rattle.std.proofs.lemmas.List.{get_or_append_left, get_or_at, length_push}
use Rattle.pj_events.specs.Join.{Element}
use Rattle.pj_events.specs.Plan.{Operator, Node, Local, Comes, Fed, Own, after, hands, after_all, hands_all, PlanStep, Feed, Act, Pass, own, brought_from, locals, handed_at, batches, moved, plan_run, handed}

-- ---- the nodes before a place do not see it

pub batches-append : (e : PlanStep) (done : List (List Element)) (front back : List Node) → batches e done (front ++ back) ≡ batches e (batches e done front) back
batches-append e done [] back = refl
batches-append e done (node ∷ front) back = batches-append e (done ++ handed_at e done node ∷ []) front back

pub moved-append : (e : PlanStep) (done : List (List Element)) (front back : List Node) → moved e done (front ++ back) ≡ moved e done front ++ moved e (batches e done front) back
moved-append e done [] back = refl
moved-append e done (node ∷ front) back =
    ap (λ nodes. record { inputs = node.inputs; operator = after_all node.operator (locals e done node) } ∷ nodes) (moved-append e (done ++ handed_at e done node ∷ []) front back)

pub length-batches : (e : PlanStep) (done : List (List Element)) (nodes : List Node) → length (batches e done nodes) ≡ length done + length nodes
length-batches e done [] = omega arith
length-batches e done (node ∷ nodes) = omega (arith, length-batches e (done ++ handed_at e done node ∷ []) nodes, length_push done (handed_at e done node))

pub length-moved : (e : PlanStep) (done : List (List Element)) (nodes : List Node) → length (moved e done nodes) ≡ length nodes
length-moved e done [] = refl
length-moved e done (node ∷ nodes) = ap suc (length-moved e (done ++ handed_at e done node ∷ []) nodes)

-- what was handed up stands at its place
pub batches-keep : (e : PlanStep) (done : List (List Element)) (nodes : List Node) (n : ℕ) → n < length done → get_or (batches e done nodes) n [] ≡ get_or done n []
batches-keep e done [] n lt = refl
batches-keep e done (node ∷ nodes) n lt =
    batches-keep e (done ++ handed_at e done node ∷ []) nodes n (omega (arith, lt, length_push done (handed_at e done node)))
    ∙ get_or_append_left done (handed_at e done node ∷ []) [] n lt

-- what the run brings to a place behind these, and what it does there itself
abbrev pub locals_all : List Node → Node → List PlanStep → List Local
locals_all front node [] = []
locals_all front node (e ∷ es) = locals e (batches e [] front) node ++ locals_all (moved e [] front) node es

pub hands-append : (m : Operator) (ls ks : List Local) → hands_all m (ls ++ ks) ≡ hands_all m ls ++ hands_all (after_all m ls) ks
hands-append m [] ks = refl
hands-append m (l ∷ ls) ks = ap (λ es. hands m l ++ es) (hands-append (after m l) ls ks) ∙ sym (append_assoc (hands m l) (hands_all (after m l) ls) (hands_all (after_all (after m l) ls) ks))

pub after-append : (m : Operator) (ls ks : List Local) → after_all m (ls ++ ks) ≡ after_all (after_all m ls) ks
after-append m [] ks = refl
after-append m (l ∷ ls) ks = after-append (after m l) ls ks

-- the locals go by the inputs of the place alone
pub locals-inputs : (front : List Node) (node other : Node) (es : List PlanStep) → node.inputs ≡ other.inputs → locals_all front node es ≡ locals_all front other es
locals-inputs front node other [] q = refl
locals-inputs front node other (e ∷ es) q =
    ap₂ (λ (ls ks : List Local). ls ++ ks) (ap (λ (ms : List ℕ). own e (length (batches e [] front)) ++ brought_from 0 ms (batches e [] front)) q) (locals-inputs (moved e [] front) node other es q)

-- a place hands up what its operator makes of its locals
pub handed-is : (front : List Node) (node : Node) (back : List Node) (es : List PlanStep) → handed (length front) (front ++ node ∷ back) es ≡ hands_all node.operator (locals_all front node es)
handed-is front node back [] = refl
handed-is front node back (e ∷ es) =
    ap₂ (λ (xs ys : List Element). xs ++ ys) now (later (handed-is (moved e [] front) next rest es)) ∙ sym (hands-append node.operator ls (locals_all (moved e [] front) node es))
  where
    done : List (List Element)
    done = batches e [] front

    ls : List Local
    ls = locals e done node

    next : Node
    next = record { inputs = node.inputs; operator = after_all node.operator ls }

    rest : List Node
    rest = moved e (done ++ handed_at e done node ∷ []) back

    long : length done ≡ length front
    long = length-batches e [] front ∙ omega arith

    now : get_or (batches e [] (front ++ node ∷ back)) (length front) [] ≡ handed_at e done node
    now =
        ap (λ bs. get_or bs (length front) []) (batches-append e [] front (node ∷ back))
        ∙ batches-keep e (done ++ handed_at e done node ∷ []) back (length front) (omega (arith, long, length_push done (handed_at e done node)))
        ∙ get_or_at done (handed_at e done node) [] [] (length front) long

    later : handed (length (moved e [] front)) (moved e [] front ++ next ∷ rest) es ≡ hands_all next.operator (locals_all (moved e [] front) next es)
        → handed (length front) (moved e [] (front ++ node ∷ back)) es ≡ hands_all next.operator (locals_all (moved e [] front) node es)
    later ih =
        ap₂ (λ (n : ℕ) (nodes : List Node). handed n nodes es) (sym (length-moved e [] front)) (moved-append e [] front (node ∷ back))
        ∙ ih ∙ ap (hands_all next.operator) (locals-inputs (moved e [] front) next node es refl)

-- a place's operator is what its locals make of it
pub operator-is : (front : List Node) (node : Node) (back : List Node) (es : List PlanStep) (d : Node) → (get_or (plan_run (front ++ node ∷ back) es) (length front) d).operator ≡ after_all node.operator (locals_all front node es)
operator-is front node back [] d = ap (λ (s : Node). s.operator) (get_or_at front node back d (length front) refl)
operator-is front node back (e ∷ es) d =
    ap₂ (λ (n : ℕ) (nodes : List Node). (get_or (plan_run nodes es) n d).operator) (sym (length-moved e [] front)) (moved-append e [] front (node ∷ back))
    ∙ operator-is (moved e [] front) (record { inputs = node.inputs; operator = after_all node.operator (locals e (batches e [] front) node) }) (moved e (batches e [] front ++ handed_at e (batches e [] front) node ∷ []) back) es d
    ∙ ap (after_all (after_all node.operator (locals e (batches e [] front) node))) (locals-inputs (moved e [] front) (record { inputs = node.inputs; operator = after_all node.operator (locals e (batches e [] front) node) }) node es refl)
    ∙ sym (after-append node.operator (locals e (batches e [] front) node) (locals_all (moved e [] front) node es))

-- what the nodes behind do is nothing to a place
pub handed-front : (front back : List Node) (es : List PlanStep) (n : ℕ) → n < length front → handed n (front ++ back) es ≡ handed n front es
handed-front front back [] n lt = refl
handed-front front back (e ∷ es) n lt =
    ap₂ (λ (xs ys : List Element). xs ++ ys)
    (ap (λ bs. get_or bs n []) (batches-append e [] front back) ∙ batches-keep e (batches e [] front) back n (omega (arith, lt, length-batches e [] front)))
    (ap (λ (nodes : List Node). handed n nodes es) (moved-append e [] front back) ∙ handed-front (moved e [] front) (moved e (batches e [] front) back) es n (omega (arith, lt, length-moved e [] front)))

-- ---- what comes from an input is what that place handed up

abbrev pub from_input : ℕ → List Local → List Element
from_input k [] = []
from_input k (Comes i e ∷ ls) = cond (eqb i k) (e ∷ from_input k ls) (from_input k ls)
from_input k (Fed e ∷ ls) = from_input k ls
from_input k (Own s ∷ ls) = from_input k ls

pub from-append : (k : ℕ) (ls ks : List Local) → from_input k (ls ++ ks) ≡ from_input k ls ++ from_input k ks
from-append k [] ks = refl
from-append k (Comes i e ∷ ls) ks = go (eqb i k) (from-append k ls ks)
  where
    go : (b : Bool) → from_input k (ls ++ ks) ≡ from_input k ls ++ from_input k ks → cond b (e ∷ from_input k (ls ++ ks)) (from_input k (ls ++ ks)) ≡ cond b (e ∷ from_input k ls) (from_input k ls) ++ from_input k ks
    go true ih = ap (λ ys. e ∷ ys) ih
    go false ih = ih
from-append k (Fed e ∷ ls) ks = from-append k ls ks
from-append k (Own s ∷ ls) ks = from-append k ls ks

from-own : (k : ℕ) (e : PlanStep) (n : ℕ) → from_input k (own e n) ≡ []
from-own k (Feed s x) n = go (eqb s n)
  where
    go : (b : Bool) → from_input k (cond b (Fed x ∷ []) []) ≡ []
    go true = refl
    go false = refl
from-own k (Act j s) n = go (eqb j n)
  where
    go : (b : Bool) → from_input k (cond b (Own s ∷ []) []) ≡ []
    go true = refl
    go false = refl
from-own k Pass n = refl

from-same : (k : ℕ) (xs : List Element) → from_input k (map (Comes k) xs) ≡ xs
from-same k [] = refl
from-same k (x ∷ xs) = ap (λ b. cond b (x ∷ from_input k (map (Comes k) xs)) (from_input k (map (Comes k) xs))) (eq-eqb k k refl) ∙ ap (λ ys. x ∷ ys) (from-same k xs)

from-other : (k i : ℕ) (xs : List Element) → eqb i k ≡ false → from_input k (map (Comes i) xs) ≡ []
from-other k i [] n = refl
from-other k i (x ∷ xs) n = ap (λ b. cond b (x ∷ from_input k (map (Comes i) xs)) (from_input k (map (Comes i) xs))) n ∙ from-other k i xs n

from-later : (k j : ℕ) (ms : List ℕ) (done : List (List Element)) → k < j → from_input k (brought_from j ms done) ≡ []
from-later k j [] done lt = refl
from-later k j (m ∷ ms) done lt =
    from-append k (map (Comes j) (get_or done m [])) (brought_from (j + 1) ms done)
    ∙ ap₂ (λ (xs ys : List Element). xs ++ ys) (from-other k j (get_or done m []) (ne_eqb j k (λ q. let l : k < k = omega (arith, lt, q) in omega arith))) (from-later k (j + 1) ms done (omega arith))

pub from-brought : (j i : ℕ) (ms : List ℕ) (done : List (List Element)) → i < length ms → from_input (j + i) (brought_from j ms done) ≡ get_or done (get_or ms i 0) []
from-brought j i [] done lt = absurd (omega arith)
from-brought j zero (m ∷ ms) done lt =
    let z : j + 0 ≡ j = omega arith in
    ap (λ k. from_input k (brought_from j (m ∷ ms) done)) z
    ∙ from-append j (map (Comes j) (get_or done m [])) (brought_from (j + 1) ms done)
    ∙ ap₂ (λ (xs ys : List Element). xs ++ ys) (from-same j (get_or done m [])) (from-later j (j + 1) ms done (omega arith))
    ∙ append-nil (get_or done m [])
from-brought j (suc i) (m ∷ ms) done lt =
    let z : j + suc i ≡ j + 1 + i = omega arith in
    from-append (j + suc i) (map (Comes j) (get_or done m [])) (brought_from (j + 1) ms done)
    ∙ ap₂ (λ (xs ys : List Element). xs ++ ys) (from-other (j + suc i) j (get_or done m []) (ne_eqb j (j + suc i) (λ q. omega (arith, q))))
    (ap (λ k. from_input k (brought_from (j + 1) ms done)) z ∙ from-brought (j + 1) i ms done (omega arith))

pub from-is : (front : List Node) (node : Node) (es : List PlanStep) (k : ℕ) → k < length node.inputs → from_input k (locals_all front node es) ≡ handed (get_or node.inputs k 0) front es
from-is front node [] k lt = refl
from-is front node (e ∷ es) k lt =
    from-append k (locals e (batches e [] front) node) (locals_all (moved e [] front) node es)
    ∙ ap₂ (λ (xs ys : List Element). xs ++ ys) now (from-is (moved e [] front) node es k lt)
  where
    now : from_input k (locals e (batches e [] front) node) ≡ get_or (batches e [] front) (get_or node.inputs k 0) []
    now =
        from-append k (own e (length (batches e [] front))) (brought_from 0 node.inputs (batches e [] front))
        ∙ ap₂ (λ (xs ys : List Element). xs ++ ys) (from-own k e (length (batches e [] front))) (let z : k ≡ 0 + k = omega arith in ap (λ j. from_input j (brought_from 0 node.inputs (batches e [] front))) z ∙ from-brought 0 k node.inputs (batches e [] front) lt)
