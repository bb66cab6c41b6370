-- The route of a purge, as it is made.
use Rattle.std.proofs.Common.{ℕ, zero, suc, ◌+◌, ◌<◌, ◌≤◌, ◌≡◌, Bool, true, false, cond, ◌||◌, List, [], ◌∷◌, ◌++◌, Option, Some, None, drop, get_or, length, map, sum, take, refl, sym, ap, ap₂, ◌∙◌, subst, inl, inr, eqb, arith, append_assoc, length-append}
use Rattle.std.specs.List.{fold}
use Rattle.std.specs.Prelude.{IfSome, slice_get}
use Rattle.std.proofs.lemmas.Bool.{cases_lt, eqb-true, eq-eqb, false_from_ne_true, ne_eqb}
use Rattle.std.proofs.lemmas.List.{append-nil, take_more}
use Rattle.std.proofs.lemmas.Option.{get_or_from_slice_get, slice_get_within}
use Rattle.pj_value.specs.Lists.{In, has}
use Rattle.pj_value.proofs.Members.{In-append_cases, In-append_left, In-append_right, any_at}
use Rattle.pj_shape.specs.declared.joins.JoinSpec.{JoinSpec}
use Rattle.pj_shape.specs.Sound.{IsSoundSpec, FitSchemes, arities_of}
use Rattle.pj_shape.specs.Certificates.{IsCertificate}
use Rattle.pj_join_laws.specs.Walks.{AreListedOnce, IsWalk}
use Rattle.pj_join_laws.proofs.Walks.{is_certified}
use Rattle.pj_events.specs.Join.{CertEntry, CertStep, ClassCol, class_with, entry_of}
use Rattle.pj_puncts.proofs.Lent.{drop_here}
use Rattle.pj_cover.specs.declared.route.PurgeLink.{PurgeLink}
use Rattle.pj_cover.specs.declared.route.PurgeStep.{PurgeStep}
use Rattle.pj_cover.specs.Routes.{AddsLinks, AreLinks, AreSteps, IsLink, IsPurgeStep, IsSingle, RouteView, column_of, links_of, marked_columns, marked_links, step_of, steps_in}
use Rattle.pj_cover.specs.Making.{AddsLink, AreMarksKnown, FindsLink, IsBegun, IsStepMade, columns_known, entry_with, known_after, listed}
use Rattle.pj_cover.proofs.Bound.{bound-at}
use Rattle.pj_cover.proofs.Steps.{certified_few, length-map}

-- ---- links

-- what holds of those before holds with one more
pub taken_more : {A : Type 0} (P : A → Type 0) (xs : List A) (n : ℕ) (d : A) → n < length xs → ((x : A) → In x (take n xs) → P x) → P (get_or xs n d) → (x : A) → In x (take (n + 1) xs) → P x
taken_more P xs n d lt before here x h =
    elim (In-append_cases x (take n xs) (get_or xs n d ∷ []) (subst (λ ys. In x ys) (take_more xs n d lt) h)) [
      | inl k ↦ before x k
      | inr k ↦ elim k [ inl e ↦ subst P e here | inr none ↦ absurd none ]
    ]

pub marked_more : (from : ℕ) (marks : List Bool) (k : ℕ) (mark : Bool) → slice_get marks k ≡ Some mark → marked_columns from (take (k + 1) marks) ≡ marked_columns from (take k marks) ++ cond mark ((from + k) ∷ []) []
marked_more from [] k mark e = absurd (cc)
marked_more from (m ∷ marks) zero mark e =
    let a : m ≡ mark = get_or_from_slice_get (m ∷ marks) 0 mark mark e in
    let n : from + 0 ≡ from = omega arith in
    append-nil (cond m (from ∷ []) []) ∙ ap (λ b. cond b (from ∷ []) []) a ∙ ap (λ c. cond mark (c ∷ []) []) (sym n)
marked_more from (m ∷ marks) (suc k) mark e =
    let n : suc k + 1 ≡ suc (k + 1) = omega arith in
    let o : from + 1 + k ≡ from + suc k = omega arith in
    ap (λ i. marked_columns from (take i (m ∷ marks))) n
    ∙ ap (λ cs. cond m (from ∷ []) [] ++ cs) (marked_more (from + 1) marks k mark e)
    ∙ sym (append_assoc (cond m (from ∷ []) []) (marked_columns (from + 1) (take k marks)) (cond mark ((from + 1 + k) ∷ []) []))
    ∙ ap (λ c. cond m (from ∷ []) [] ++ marked_columns (from + 1) (take k marks) ++ cond mark (c ∷ []) []) o

marked-append : (xs ys : List PurgeLink) → map column_of (marked_links (xs ++ ys)) ≡ map column_of (marked_links xs) ++ map column_of (marked_links ys)
marked-append [] ys = refl
marked-append (x ∷ xs) ys = go x.is_marked (marked-append xs ys)
  where
    go : (b : Bool) → map column_of (marked_links (xs ++ ys)) ≡ map column_of (marked_links xs) ++ map column_of (marked_links ys) → map column_of (cond b (x ∷ marked_links (xs ++ ys)) (marked_links (xs ++ ys))) ≡ map column_of (cond b (x ∷ marked_links xs) (marked_links xs)) ++ map column_of (marked_links ys)
    go true ih = ap (λ cs. x.column ∷ cs) ih
    go false ih = ih

marked-one : (link : PurgeLink) (column : ℕ) (mark : Bool) → link.column ≡ column → link.is_marked ≡ mark → map column_of (marked_links (link ∷ [])) ≡ cond mark (column ∷ []) []
marked-one link column mark c m = go link.is_marked mark m
  where
    go : (a b : Bool) → a ≡ b → map column_of (cond a (link ∷ []) []) ≡ cond b (column ∷ []) []
    go true true e = ap (λ k. k ∷ []) c
    go true false e = absurd (cc)
    go false true e = absurd (cc)
    go false false e = refl

-- the link of one column more, where it has one
links-more : (classes : List (List ClassCol)) (known : List ℕ) (e : CertEntry) (column : ℕ) (mark : Bool) (more : List PurgeLink) (told : Option PurgeLink) → slice_get e.marks column ≡ Some mark → AreMarksKnown classes e known
    → AreLinks classes known e column more → FindsLink classes (record { input = e.input; column = column }) mark known told → AreLinks classes known e (column + 1) (more ++ listed told)
links-more classes known e column mark more None here bound are none =
    let same : more ++ [] ≡ more = append-nil more in
    record {
      right = λ link h. are.right link (subst (λ ls. In link ls) same h);
      all = λ k c lt hc hk. elim (cases_lt k column) [
        | inl less ↦ let r = are.all k c less hc hk in (r.0, In-append_left r.0 more [] r.1, r.2)
        | inr le ↦
            let at : k ≡ column = omega (arith, lt, le) in
            absurd (none c (subst (λ n. In c (class_with classes e.input n)) at hc) hk)
      ];
      marked = ap (λ ls. map column_of (marked_links ls)) same ∙ are.marked ∙ sym (marked_more 0 e.marks column mark here ∙ unmarked mark here);
      few = let l : length (more ++ []) ≡ length more = ap length same in let f = are.few in omega (arith, l, f);
    }
  where
    unmarked : (b : Bool) → slice_get e.marks column ≡ Some b → marked_columns 0 (take column e.marks) ++ cond b ((0 + column) ∷ []) [] ≡ marked_columns 0 (take column e.marks)
    unmarked true t = let c = bound column t in absurd (none c.0 c.1 c.2)
    unmarked false t = append-nil (marked_columns 0 (take column e.marks))
links-more classes known e column mark more (Some link) here bound are (of, is, right) = record {
  right = λ l h. elim (In-append_cases l more (link ∷ []) h) [ inl k ↦ are.right l k | inr k ↦ elim k [ inl q ↦ subst (λ (z : PurgeLink). IsLink classes known e.input z) q right | inr none ↦ absurd none ] ];
  all = λ k c lt hc hk. elim (cases_lt k column) [
    | inl less ↦ let r = are.all k c less hc hk in (r.0, In-append_left r.0 more (link ∷ []) r.1, r.2)
    | inr le ↦ let at : k ≡ column = omega (arith, lt, le) in (link, In-append_right link more (link ∷ []) (inl refl), of ∙ sym at)
  ];
  marked = let n : column ≡ 0 + column = omega arith in marked-append more (link ∷ []) ∙ ap₂ (λ a b. a ++ b) are.marked (marked-one link (0 + column) mark (of ∙ n) is) ∙ sym (marked_more 0 e.marks column mark here);
  few = let l : length (more ++ link ∷ []) ≡ length more + 1 = length-append more (link ∷ []) in let f = are.few in omega (arith, l, f);
}

pub more_links : (classes : List (List ClassCol)) (known : List ℕ) (input : ℕ) (marks : List Bool) (column : ℕ) (mark : Bool) (old mid new : List PurgeLink) → slice_get marks column ≡ Some mark
    → AreMarksKnown classes (entry_with input marks) known → AddsLinks classes known (entry_with input marks) column old mid → AddsLink classes (record { input = input; column = column }) mark known mid new
    → AddsLinks classes known (entry_with input marks) (column + 1) old new
more_links classes known input marks column mark old mid new here bound (more, is, are) (told, finds, added) = (
  more ++ listed told,
  added ∙ ap (λ ls. ls ++ listed told) is ∙ append_assoc old more (listed told),
  links-more classes known (entry_with input marks) column mark more told here bound are finds,
)

-- ---- steps

take-drop-front : {A : Type 0} (xs ys : List A) (first count : ℕ) → first + count ≤ length xs → take count (drop first (xs ++ ys)) ≡ take count (drop first xs)
take-drop-front xs ys first zero le = refl
take-drop-front [] ys first (suc count) le = absurd (omega (arith, le))
take-drop-front (x ∷ xs) ys zero (suc count) le = ap (λ ls. x ∷ ls) (take-drop-front xs ys 0 count (omega (arith, le)))
take-drop-front (x ∷ xs) ys (suc first) (suc count) le = take-drop-front xs ys first (suc count) (omega (arith, le))

step-keeps : (classes : List (List ClassCol)) (e : CertEntry) (known : List ℕ) (old more : List PurgeLink) (s : PurgeStep) → IsPurgeStep classes e known old s → IsPurgeStep classes e known (old ++ more) s
step-keeps classes e known old more s is =
    let same : links_of (old ++ more) s ≡ links_of old s = take-drop-front old more s.first s.count is.within in
    record {
      within = let l : length (old ++ more) ≡ length old + length more = length-append old more in let w = is.within in omega (arith, l, w);
      leads = subst (λ (ls : List PurgeLink). AreLinks classes known e (length e.marks) ls) (sym same) is.leads;
      single = subst (λ (ls : List PurgeLink). IfSome s.single (IsSingle ls e.marks)) (sym same) is.single;
      determined = is.determined;
    }

steps-more : (classes : List (List ClassCol)) (schemes : List (List (List Bool))) (known : List ℕ) (old more : List PurgeLink) (steps : List PurgeStep) (s : PurgeStep)
    → AreSteps classes schemes old known steps → IsPurgeStep classes (entry_of schemes s.step) (known_after known (map step_of steps)) (old ++ more) s → AreSteps classes schemes (old ++ more) known (steps ++ s ∷ [])
steps-more classes schemes known old more [] s are is = (is, tt)
steps-more classes schemes known old more (t ∷ steps) s are is = (step-keeps classes (entry_of schemes t.step) known old more t are.0, steps-more classes schemes (t.step.input ∷ known) old more steps s are.1 is)

known-more : (known : List ℕ) (steps : List CertStep) (s : CertStep) → known_after known (steps ++ s ∷ []) ≡ s.input ∷ known_after known steps
known-more known [] s = refl
known-more known (t ∷ steps) s = known-more (t.input ∷ known) steps s

length-known : (known : List ℕ) (steps : List CertStep) → length (known_after known steps) ≡ length known + length steps
length-known known [] = omega arith
length-known known (t ∷ steps) = let e : length (known_after (t.input ∷ known) steps) ≡ suc (length known) + length steps = length-known (t.input ∷ known) steps in omega (arith, e)

map-append : {A B : Type 0} (f : A → B) (xs ys : List A) → map f (xs ++ ys) ≡ map f xs ++ map f ys
map-append f [] ys = refl
map-append f (x ∷ xs) ys = ap (λ zs. f x ∷ zs) (map-append f xs ys)

-- ---- room

has-not : (known : List ℕ) (i : ℕ) → (In i known → ⊥) → has known i ≡ false
has-not known i f = false_from_ne_true (has known i) (λ t. let m = any_at (λ n. eqb n i) known t in f (subst (λ n. In n known) (eqb-true m.0 i m.2) m.1))

before-same : (from : ℕ) (arities : List ℕ) (i : ℕ) (known : List ℕ) → i < from → columns_known from arities (i ∷ known) ≡ columns_known from arities known
before-same from [] i known lt = refl
before-same from (n ∷ arities) i known lt =
    ap₂ (λ a b. a + b) (ap (λ b. cond (b || has known from) n 0) (ne_eqb i from (λ e. absurd (omega (arith, lt, e))))) (before-same (from + 1) arities i known (omega (arith, lt)))

columns-more : (from : ℕ) (arities : List ℕ) (k : ℕ) (known : List ℕ) → k < length arities → (In (from + k) known → ⊥) → columns_known from arities ((from + k) ∷ known) ≡ columns_known from arities known + get_or arities k 0
columns-more from [] k known lt f = absurd (omega (arith, lt))
columns-more from (n ∷ arities) zero known lt f =
    let z : from + 0 ≡ from = omega arith in
    let own : cond (eqb (from + 0) from || has known from) n 0 ≡ n = ap (λ b. cond (b || has known from) n 0) (eq-eqb (from + 0) from z) in
    let not : cond (has known from) n 0 ≡ 0 = ap (λ b. cond b n 0) (has-not known from (λ h. f (subst (λ j. In j known) (sym z) h))) in
    let rest : columns_known (from + 1) arities ((from + 0) ∷ known) ≡ columns_known (from + 1) arities known = before-same (from + 1) arities (from + 0) known (omega (arith)) in
    omega (arith, own, not, rest)
columns-more from (n ∷ arities) (suc k) known lt f =
    let z : from + suc k ≡ from + 1 + k = omega arith in
    let head : cond (eqb (from + suc k) from || has known from) n 0 ≡ cond (has known from) n 0 = ap (λ b. cond (b || has known from) n 0) (ne_eqb (from + suc k) from (λ e. absurd (omega (arith, e)))) in
    let rest : columns_known (from + 1) arities ((from + suc k) ∷ known) ≡ columns_known (from + 1) arities known + get_or arities k 0 =
    ap (λ j. columns_known (from + 1) arities (j ∷ known)) z ∙ columns-more (from + 1) arities k known (omega (arith, lt)) (λ h. f (subst (λ j. In j known) (sym z) h)) in
    omega (arith, head, rest)

columns-most : (acc from : ℕ) (arities known : List ℕ) → acc + columns_known from arities known ≤ fold (λ a b. a + b) acc arities
columns-most acc from [] known = omega arith
columns-most acc from (n ∷ arities) known = go (has known from) (columns-most (acc + n) (from + 1) arities known)
  where
    go : (b : Bool) → acc + n + columns_known (from + 1) arities known ≤ fold (λ a b. a + b) (acc + n) arities → acc + (cond b n 0 + columns_known (from + 1) arities known) ≤ fold (λ a b. a + b) (acc + n) arities
    go true le = omega (arith, le)
    go false le = omega (arith, le)

-- ---- the whole

-- the next step of the certificate
abbrev Rest : List CertStep → ℕ → CertStep → Type 0
Rest cert done step = drop done cert ≡ step ∷ drop (done + 1) cert

module _ (spec : JoinSpec) (schemes : List (List (List Bool))) (cert : List CertStep) (own done : ℕ) (known : List ℕ) (route : RouteView) (step : CertStep) (sound : IsSoundSpec spec) (begun : IsBegun spec schemes cert own done known route)
    (here : slice_get cert done ≡ Some step) where
  rest : Rest cert done step
  rest = drop_here cert done step here

  walk : IsWalk spec (map (entry_of schemes) (step ∷ drop (done + 1) cert)) known
  walk = subst (λ (steps : List CertStep). IsWalk spec (map (entry_of schemes) steps) known) rest begun.walk

  once : AreListedOnce schemes (step ∷ drop (done + 1) cert) known
  once = subst (λ (steps : List CertStep). AreListedOnce schemes steps known) rest begun.listed_once

  left : length (drop done cert) ≡ suc (length (drop (done + 1) cert))
  left = ap length rest

  abbrev arity : ℕ
  arity = get_or (arities_of spec.inputs) step.input 0

  wide : length (entry_of schemes step).marks ≡ arity
  wide = walk.1

  columns : columns_known 0 (arities_of spec.inputs) (step.input ∷ known) ≡ columns_known 0 (arities_of spec.inputs) known + arity
  columns = let z : 0 + step.input ≡ step.input = omega arith in
      ap (λ j. columns_known 0 (arities_of spec.inputs) (j ∷ known)) (sym z) ∙ columns-more 0 (arities_of spec.inputs) step.input known walk.0 (λ h. once.1 (subst (λ j. In j known) z h))

  -- its scheme
  pub next_scheme : step.scheme < length (get_or schemes step.input [])
  next_scheme = once.0

  pub next_bound : (classes : List (List ClassCol)) (scheme : List Bool) (before : List ℕ) → classes ≡ spec.classes → scheme ≡ (entry_of schemes step).marks → before ≡ known → AreMarksKnown classes (entry_with step.input scheme) before
  next_bound classes scheme before same is knowns =
      subst (λ (cs : List (List ClassCol)). AreMarksKnown cs (entry_with step.input scheme) before) (sym same)
      (subst (λ (ns : List ℕ). AreMarksKnown spec.classes (entry_with step.input scheme) ns) (sym knowns) (subst (λ (marks : List Bool). AreMarksKnown spec.classes (entry_with step.input marks) known) (sym is) (λ column t.
      let n : 0 + column ≡ column = omega arith in
      subst (λ (i : ℕ). (c : ClassCol) × In c (class_with spec.classes step.input i) × In c.input known) n (bound-at spec.classes step.input 0 (entry_of schemes step).marks known column walk.2 t))))

  pub next_fits : length known < 16
  next_fits = let few = begun.few in omega (arith, few, left)

  pub next_few : length route.steps < 16
  next_few =
      let n : length known ≡ 1 + length (steps_in route) = ap length begun.knows ∙ length-known (own ∷ []) (steps_in route) in
      let m : length (steps_in route) ≡ length route.steps = length-map step_of route.steps in
      let fits = next_fits in
      omega (arith, n, m, fits)

  pub next_room : (scheme : List Bool) → scheme ≡ (entry_of schemes step).marks → length route.links + length scheme ≤ 120
  next_room scheme is =
      let room : length route.links ≤ columns_known 0 (arities_of spec.inputs) known = begun.room in
      let most : 0 + columns_known 0 (arities_of spec.inputs) (step.input ∷ known) ≤ sum (arities_of spec.inputs) = columns-most 0 0 (arities_of spec.inputs) (step.input ∷ known) in
      let all : sum (arities_of spec.inputs) ≤ 120 = sound.few_columns in
      let n : length scheme ≡ arity = ap length is ∙ wide in
      let c = columns in
      omega (arith, room, most, all, n, c)

  pub begun_more : (classes : List (List ClassCol)) (scheme : List Bool) (before next : List ℕ) (new : RouteView) → classes ≡ spec.classes → scheme ≡ (entry_of schemes step).marks → before ≡ known → next ≡ step.input ∷ known
      → IsStepMade classes (entry_with step.input scheme) step before route new → IsBegun spec schemes cert own (done + 1) next new
  begun_more classes scheme before next new same is knowns nexts made =
      let m : IsStepMade spec.classes (entry_of schemes step) step known route new =
      subst (λ (marks : List Bool). IsStepMade spec.classes (entry_with step.input marks) step known route new) is
      (subst (λ (ns : List ℕ). IsStepMade spec.classes (entry_with step.input scheme) step ns route new) knowns (subst (λ (cs : List (List ClassCol)). IsStepMade cs (entry_with step.input scheme) step before route new) same made)) in
      let of : steps_in new ≡ steps_in route ++ step ∷ [] = ap (map step_of) m.steps ∙ map-append step_of route.steps (m.added ∷ []) ∙ ap (λ s. steps_in route ++ s ∷ []) m.follows in
      record {
        follows = of ∙ ap (λ ss. ss ++ step ∷ []) begun.follows ∙ sym (take_more cert done step (slice_get_within cert done step here) ∙ ap (λ s. take done cert ++ s ∷ []) (get_or_from_slice_get cert done step step here));
        knows = nexts ∙ ap (λ ns. step.input ∷ ns) begun.knows ∙ sym (ap (known_after (own ∷ [])) of ∙ known-more (own ∷ []) (steps_in route) step);
        leads = subst (λ (r : RouteView). AreSteps spec.classes schemes r.links (own ∷ []) r.steps) (sym (ap₂ (λ ss ls. record { steps = ss; links = ls }) m.steps m.links)) (steps-more spec.classes schemes (own ∷ []) route.links m.more route.steps m.added begun.leads
            (subst (λ (ns : List ℕ). IsPurgeStep spec.classes (entry_of schemes m.added.step) ns (route.links ++ m.more) m.added) begun.knows
            (subst (λ (ls : List PurgeLink). IsPurgeStep spec.classes (entry_of schemes m.added.step) known ls m.added) m.links
            (subst (λ (s : CertStep). IsPurgeStep spec.classes (entry_of schemes s) known new.links m.added) (sym m.follows) m.right))));
        few = let few = begun.few in let l = ap length nexts in let e = left in omega (arith, few, l, e);
        room =
            let room : length route.links ≤ columns_known 0 (arities_of spec.inputs) known = begun.room in
            let links : length new.links ≡ length route.links + length m.more = ap length m.links ∙ length-append route.links m.more in
            let few : length m.more ≤ length (entry_of schemes step).marks = m.few in
            let w = wide in
            let c : columns_known 0 (arities_of spec.inputs) next ≡ columns_known 0 (arities_of spec.inputs) known + arity = ap (columns_known 0 (arities_of spec.inputs)) nexts ∙ columns in
            omega (arith, room, links, few, w, c);
        walk = subst (λ (ns : List ℕ). IsWalk spec (map (entry_of schemes) (drop (done + 1) cert)) ns) (sym nexts) walk.3;
        listed_once = subst (λ (ns : List ℕ). AreListedOnce schemes (drop (done + 1) cert) ns) (sym nexts) once.2;
      }

pub begun_none : (spec : JoinSpec) (schemes : List (List (List Bool))) (cert : List CertStep) (own : ℕ) (known : List ℕ) (route : RouteView) → IsSoundSpec spec → own < length spec.inputs → FitSchemes spec.inputs schemes → IsCertificate spec schemes own cert
    → known ≡ own ∷ [] → route.steps ≡ [] → route.links ≡ [] → IsBegun spec schemes cert own 0 known route
begun_none spec schemes cert own known route sound within schemed certificate knows steps links =
    let is = is_certified spec schemes own cert sound.apart schemed certificate in
    let none : steps_in route ≡ [] = ap (map step_of) steps in
    record {
      follows = none;
      knows = knows ∙ sym (ap (known_after (own ∷ [])) none);
      leads = subst (λ (ss : List PurgeStep). AreSteps spec.classes schemes route.links (own ∷ []) ss) (sym steps) tt;
      few = let few : 1 + length cert ≤ 16 = certified_few spec schemes cert own sound within is in let l = ap length knows in omega (arith, few, l);
      room = let l : length route.links ≡ 0 = ap length links in omega (arith, l);
      walk = subst (λ (ns : List ℕ). IsWalk spec (map (entry_of schemes) cert) ns) (sym knows) is.walk;
      listed_once = subst (λ (ns : List ℕ). AreListedOnce schemes cert ns) (sym knows) is.listed;
    }
