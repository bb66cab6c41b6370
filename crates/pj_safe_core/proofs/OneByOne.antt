-- Certificates that are looked at one after the other.
use Rattle.std.proofs.Common.{ℕ, zero, suc, ◌+◌, ◌<◌, ◌≡◌, Bool, true, false, cond, List, [], ◌∷◌, Option, length, get_or, refl, ap, sym, ◌∙◌, subst, below_more, arith}
use Rattle.std.specs.Prelude.{◌↔◌, IsTrue, MatchOption}
use Rattle.std.proofs.lemmas.List.{get_or_default}
use Rattle.pj_shape.specs.declared.joins.CertStep.{CertStep}
use Rattle.pj_shape.specs.declared.joins.JoinSpec.{JoinSpec}
use Rattle.pj_shape.specs.Certificates.{IsCertificate}
use Rattle.pj_plan.specs.declared.node.Node.TheVariants.{Join as JoinNode}
use Rattle.pj_plan.specs.declared.node.PlanNode.{PlanNode}
use Rattle.pj_plan.specs.Canonical.{node_at}
use Rattle.pj_plan.specs.Nodes.{inputs_of, is_join, join_in, joins_of, numbers_from}
use Rattle.pj_scheme.specs.Derived.{inputs_schemes, schemes_of}
use Rattle.pj_safe_core.specs.Verified.{AreCertificatesFor, AreVerified, AreVerifiedAt}

-- ---- the nodes of the joins

-- the number is that of a join among these nodes, of which the first has this number
record IsJoinAmong (k : ℕ) (nodes : List PlanNode) (number : ℕ) : Type 0 where
  place : ℕ
  number_is : number ≡ k + place
  there : place < length nodes
  is : is_join (node_at nodes place) ≡ true

join_among : (k : ℕ) (nodes : List PlanNode) (m : ℕ) → m < length (numbers_from is_join k nodes) → IsJoinAmong k nodes (get_or (numbers_from is_join k nodes) m 0)
join_among k [] m lt = absurd (omega (arith, lt))
join_among k (node ∷ nodes) m lt = go (is_join node.node) refl m lt (λ l less. join_among (k + 1) nodes l less)
  where
    others : List ℕ
    others = numbers_from is_join (k + 1) nodes

    more : (number : ℕ) → IsJoinAmong (k + 1) nodes number → IsJoinAmong k (node ∷ nodes) number
    more number j =
        record { place = suc j.place; number_is = let e = j.number_is in omega (arith, e); there = let lt = j.there in omega (arith, lt); is = j.is }

    go : (b : Bool) → is_join node.node ≡ b → (m : ℕ) → m < length (cond b (k ∷ others) others) → ((l : ℕ) → l < length others → IsJoinAmong (k + 1) nodes (get_or others l 0))
        → IsJoinAmong k (node ∷ nodes) (get_or (cond b (k ∷ others) others) m 0)
    go true e zero less ih = record { place = 0; number_is = omega arith; there = omega arith; is = e }
    go true e (suc m) less ih = more (get_or others m 0) (ih m (omega (arith, less)))
    go false e m less ih = more (get_or others m 0) (ih m less)

pub join_below : (nodes : List PlanNode) (place : ℕ) → place < length (joins_of nodes) → get_or (joins_of nodes) place 0 < length nodes
join_below nodes place lt = let j = join_among 0 nodes place lt in let e = j.number_is in let low = j.there in omega (arith, e, low)

pub join_is : (nodes : List PlanNode) (place : ℕ) → place < length (joins_of nodes) → is_join (node_at nodes (get_or (joins_of nodes) place 0)) ≡ true
join_is nodes place lt =
    let j = join_among 0 nodes place lt in
    let same : j.place ≡ get_or (joins_of nodes) place 0 = let e = j.number_is in omega (arith, e) in
    subst (λ (m : ℕ). is_join (node_at nodes m) ≡ true) same j.is

-- ---- one after the other

-- the first so many of these are certificates of the inputs of their numbers
abbrev pub FirstAre : JoinSpec → List (List (List Bool)) → List (List CertStep) → ℕ → Type 0
FirstAre spec schemes certs n = (input : ℕ) → input < n → IsCertificate spec schemes input (get_or certs input [])

pub one_more : (spec : JoinSpec) (schemes : List (List (List Bool))) (certs : List (List CertStep)) (n : ℕ) → FirstAre spec schemes certs n
    → IsCertificate spec schemes n (get_or certs n []) → FirstAre spec schemes certs (n + 1)
one_more spec schemes certs n before is = below_more (λ (k : ℕ). IsCertificate spec schemes k (get_or certs k [])) n before is

-- what is told of a join with the schemes that are derived for its inputs is told of the node
pub at_join : (nodes : List PlanNode) (join : ℕ) (inputs : List ℕ) (spec : JoinSpec) (schemes : List (List (List Bool))) (certs : List (List CertStep)) (b : Bool) → node_at nodes join ≡ JoinNode inputs spec
    → schemes ≡ inputs_schemes (schemes_of nodes) inputs → IsTrue b ↔ AreCertificatesFor spec schemes certs → IsTrue b ↔ AreVerifiedAt nodes join certs
at_join nodes join inputs spec schemes certs b e made told = (
  λ t other shape at.
      let same : JoinNode inputs spec ≡ JoinNode other shape = sym e ∙ at in
      subst (λ (ns : List ℕ). AreCertificatesFor shape (inputs_schemes (schemes_of nodes) ns) certs) (ap inputs_of same)
      (subst (λ (o : Option JoinSpec). MatchOption o (Unit {0}) (λ (own : JoinSpec). AreCertificatesFor own (inputs_schemes (schemes_of nodes) inputs) certs)) (ap join_in same)
      (subst (λ (ss : List (List (List Bool))). AreCertificatesFor spec ss certs) made (told.0 t))),
  λ are. told.1 (subst (λ (ss : List (List (List Bool))). AreCertificatesFor spec ss certs) (sym made) (are inputs spec e)),
)

-- the first so many of these lists are certificates of the inputs of the joins of their places
abbrev pub FirstVerified : List PlanNode → List (List (List CertStep)) → ℕ → Type 0
FirstVerified nodes certs n = (place : ℕ) → place < n → AreVerifiedAt nodes (get_or (joins_of nodes) place 0) (get_or certs place [])

pub one_more_join : (nodes : List PlanNode) (certs : List (List (List CertStep))) (n : ℕ) → FirstVerified nodes certs n
    → AreVerifiedAt nodes (get_or (joins_of nodes) n 0) (get_or certs n []) → FirstVerified nodes certs (n + 1)
one_more_join nodes certs n before is = below_more (λ (k : ℕ). AreVerifiedAt nodes (get_or (joins_of nodes) k 0) (get_or certs k [])) n before is

-- what is told of a join and its certificates is told of their place
pub at_place : (nodes : List PlanNode) (joins : List ℕ) (certs : List (List (List CertStep))) (n : ℕ) (item own : List (List CertStep)) (b : Bool) → joins ≡ joins_of nodes → own ≡ item
    → item ≡ get_or certs n item → n < length certs → IsTrue b ↔ AreVerifiedAt nodes (get_or joins n 0) own
    → IsTrue b ↔ AreVerifiedAt nodes (get_or (joins_of nodes) n 0) (get_or certs n [])
at_place nodes joins certs n item own b e whole is lt told =
    subst (λ (js : List ℕ). IsTrue b ↔ AreVerifiedAt nodes (get_or js n 0) (get_or certs n [])) e
    (subst (λ (cs : List (List CertStep)). IsTrue b ↔ AreVerifiedAt nodes (get_or joins n 0) cs) (whole ∙ is ∙ get_or_default certs n item [] lt) told)

-- all joins have theirs
pub all_verified : (nodes : List PlanNode) (certs : List (List (List CertStep))) → length certs ≡ length (joins_of nodes) → FirstVerified nodes certs (length (joins_of nodes))
    → AreVerified nodes certs
all_verified nodes certs long each = record { one_each = long; each = each }

-- one join has not
pub one_unverified : (nodes : List PlanNode) (certs : List (List (List CertStep))) (n : ℕ) → n < length (joins_of nodes)
    → ¬ AreVerifiedAt nodes (get_or (joins_of nodes) n 0) (get_or certs n []) → ¬ AreVerified nodes certs
one_unverified nodes certs n lt out are = out (are.each n lt)
