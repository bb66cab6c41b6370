-- What is declared stays sound from statement to statement, and the plan at the end is sound.
use Rattle.std.proofs.Common.{ℕ, zero, suc, ◌+◌, ◌<◌, ◌≤◌, ◌≡◌, ◌⊎◌, length, arith, Bool, true, false, cond, not, ◌&&◌, ◌==◌, List, [], ◌∷◌, ◌++◌, Some, None, Option, Ok, MatchOption, map, filter, nat_le, refl, sym, ap, ◌∙◌, subst, inl, inr, append-nil, length-append}
use Rattle.std.specs.Str.{bytes_eq}
use Rattle.std.specs.List.{list_all, list_any}
use Rattle.std.proofs.lemmas.Bool.{and_parts, or_parts, not-false, leb-false, eqb-true, cases_lt, false≢true}
use Rattle.std.proofs.lemmas.List.{map-append}
use Rattle.std.proofs.lemmas.List.Concat.{flat_map-append}
use Rattle.std.proofs.lemmas.List.Elements.{filter-append}
use Rattle.pj_value.specs.Lists.{In, has}
use Rattle.pj_value.proofs.Members.{In-append_cases, In-map, any_at, any_from}
use Rattle.pj_value.proofs.Numbers.{has-in}
use Rattle.pj_plan.specs.declared.fault.PlanWhy.{PlanWhy}
use Rattle.pj_plan.specs.declared.node.PlanNode.{PlanNode}
use Rattle.pj_plan.specs.declared.node.Draft.{Draft}
use Rattle.pj_plan.specs.declared.node.Outline.{Outline}
use Rattle.pj_plan.specs.declared.statement.Statement.{Statement}
use Rattle.pj_plan.specs.declared.statement.Statement.TheVariants.{Plan, Stream, Scheme, Select, Project, Union, Join, Group, Output, Bad}
use Rattle.pj_plan.specs.declared.statement.Stated.{Stated}
use Rattle.pj_plan.specs.Names.{is_spelled, AreSpelled}
use Rattle.pj_plan.specs.Nodes.{inputs_of, is_stream}
use Rattle.pj_plan.specs.Made.{number_of, schema_of, node_of, after}
use Rattle.pj_plan.specs.Faults.{is_known, is_there, uses, output_use, has_unused, is_marked, stream_count, scheme_count, fault_of}
use Rattle.pj_plan.specs.Built.{with_output, ended, built_if, built_from}
use Rattle.pj_plan.specs.Sound.{AreDistinct, name_of_node, all_inputs, IsSoundScheme, IsSoundNode}
use Rattle.pj_plan.specs.Laws.{what_of}
use Rattle.pj_plan.proofs.Lists.{same_bytes, distinct_append}
use Rattle.pj_plan.proofs.Places.{old_node, new_node, scheme_length, scheme_names, scheme_inputs, scheme_streams, scheme_sound}
use Rattle.pj_plan.proofs.NoFaults.{HasNone, has_none, AreFree, inputs_free}
use Rattle.pj_plan.proofs.Declared.{IsGoodNode, AreSound, stream_good, select_good, project_good, union_good, join_good, group_good}

-- the node of this number feeds none, and each other node feeds one
pub record IsEnd (nodes : List PlanNode) (output : ℕ) : Type 0 where
  pub there : output < length nodes
  pub feeds_none : ¬ In output (all_inputs nodes)
  pub others_feed : (n : ℕ) → n < length nodes → (n ≡ output → ⊥) → In n (all_inputs nodes)

-- what is declared is sound so far
pub record IsSoundDraft (draft : Draft) : Type 0 where
  pub few : length draft.nodes ≤ 64
  pub few_streams : stream_count draft.nodes ≤ 16
  pub names : AreDistinct (map name_of_node draft.nodes)
  pub each : AreSound draft.nodes
  pub once : AreDistinct (all_inputs draft.nodes)
  pub ended : MatchOption draft.output (Unit {0}) (IsEnd draft.nodes)

-- ---- one node more

known_from : (nodes : List PlanNode) (name : List ℕ) → In name (map name_of_node nodes) → is_known nodes name ≡ true
known_from nodes name h = let r = In-map name_of_node name nodes h in any_from (λ (node : PlanNode). bytes_eq name node.name) nodes r.0 r.1 (same_bytes name r.0.name (sym r.2))

not_there : (o : Option ℕ) → is_there o ≡ false → o ≡ None
not_there None e = refl
not_there (Some n) e = absurd (false≢true (sym e))

streams_after : (nodes : List PlanNode) (node : PlanNode) → stream_count nodes ≤ 16 → (is_stream node.node ≡ true → stream_count nodes < 16) → stream_count (nodes ++ node ∷ []) ≤ 16
streams_after nodes node few room = go (is_stream node.node) room
  where
    both : length (filter (λ n. is_stream n.node) (nodes ++ node ∷ [])) ≡ length (filter (λ n. is_stream n.node) nodes) + length (filter (λ n. is_stream n.node) (node ∷ []))
    both = ap length (filter-append (λ (n : PlanNode). is_stream n.node) nodes (node ∷ [])) ∙ length-append (filter (λ (n : PlanNode). is_stream n.node) nodes) (filter (λ (n : PlanNode). is_stream n.node) (node ∷ []))

    one : (b : Bool) → (b ≡ true → stream_count nodes < 16) → stream_count nodes + length (cond b (node ∷ []) []) ≤ 16
    one true f = let h : stream_count nodes < 16 = f refl in omega (arith, h)
    one false f = omega (arith, few)

    go : (b : Bool) → (is_stream node.node ≡ true → stream_count nodes < 16) → stream_count (nodes ++ node ∷ []) ≤ 16
    go b f = let h : stream_count nodes + length (cond (is_stream node.node) (node ∷ []) []) ≤ 16 = one (is_stream node.node) f in omega (arith, both, h)

each_after : (nodes : List PlanNode) (node : PlanNode) → AreSound nodes → IsGoodNode nodes node → AreSound (nodes ++ node ∷ [])
each_after nodes node each good n lt = go (cases_lt n (length nodes))
  where
    go : (n < length nodes) ⊎ (length nodes ≤ n) → IsSoundNode (nodes ++ node ∷ []) n
    go (inl below) = old_node nodes (node ∷ []) n below (each n below)
    go (inr above) =
        let same : length nodes ≡ n = omega (arith, above, lt, length-append nodes (node ∷ [])) in
        subst (IsSoundNode (nodes ++ node ∷ [])) same (new_node nodes node good.schema good.inputs.before good.operator)

inputs_after : (nodes : List PlanNode) (node : PlanNode) → all_inputs (nodes ++ node ∷ []) ≡ all_inputs nodes ++ inputs_of node.node
inputs_after nodes node = flat_map-append (λ n. inputs_of n.node) nodes (node ∷ []) ∙ ap (λ (xs : List ℕ). all_inputs nodes ++ xs) (append-nil (inputs_of node.node))

with_node : (draft : Draft) (node : PlanNode) → IsSoundDraft draft → is_there draft.output ≡ false → IsGoodNode draft.nodes node → IsSoundDraft (record { version = draft.version; nodes = draft.nodes ++ node ∷ []; output = draft.output })
with_node draft node sound open_yet good =
    let nodes : List PlanNode = draft.nodes in
    let room : length nodes < 64 = good.room in
    record {
      few = omega (arith, room, length-append nodes (node ∷ []));
      few_streams = streams_after nodes node sound.few_streams good.streams;
      names = rw (map-append name_of_node nodes (node ∷ []))
          (distinct_append (map name_of_node nodes) (node.name ∷ []) sound.names ((λ h. h), tt) (λ name h k. other name h k));
      each = each_after nodes node sound.each good;
      once = rw (inputs_after nodes node) (distinct_append (all_inputs nodes) (inputs_of node.node) sound.once good.inputs.distinct (λ m h k. good.inputs.free m k h));
      ended = rw (not_there draft.output open_yet) tt;
    }
  where
    other : (name : List ℕ) → In name (map name_of_node draft.nodes) → In name (node.name ∷ []) → ⊥
    other name h (inl e) = false≢true (sym good.fresh ∙ subst (λ (n : List ℕ). is_known draft.nodes n ≡ true) (sym e) (known_from draft.nodes name h))
    other name h (inr k) = k

-- ---- one scheme more

marked : (marks : List Bool) → list_any is_marked marks ≡ true → In true marks
marked marks t = let r = any_at is_marked marks t in subst (λ (b : Bool). In b marks) r.2 r.1

scheme_suits : (draft : Draft) (stream : List ℕ) (marks : List Bool) → HasNone draft (Scheme stream marks) → IsSoundScheme (schema_of draft.nodes stream) marks
scheme_suits draft stream marks none =
    let both = or_parts (not (length marks == length (schema_of draft.nodes stream))) (not (list_any is_marked marks)) none.scheme in
    (eqb-true (length marks) (length (schema_of draft.nodes stream)) (not-false (length marks == length (schema_of draft.nodes stream)) both.0), marked marks (not-false (list_any is_marked marks) both.1))

and_true : (b : Bool) → (b && true) ≡ false → b ≡ false
and_true true e = e
and_true false e = e

with_marks : (draft : Draft) (stream : List ℕ) (marks : List Bool) → IsSoundDraft draft → HasNone draft (Scheme stream marks) → IsSoundDraft (after draft (Scheme stream marks))
with_marks draft stream marks sound none =
    let nodes : List PlanNode = draft.nodes in
    record {
      few = rw (scheme_length stream marks nodes) sound.few;
      few_streams = rw (scheme_streams stream marks nodes) sound.few_streams;
      names = rw (scheme_names stream marks nodes) sound.names;
      each = λ n lt. scheme_sound stream marks nodes n (leb-false 16 (scheme_count nodes stream) (or_parts (nat_le 16 (scheme_count nodes stream)) false none.few).0) (scheme_suits draft stream marks none) (sound.each n (subst (λ (k : ℕ). n < k) (scheme_length stream marks nodes) lt));
      once = rw (scheme_inputs stream marks nodes) sound.once;
      ended = rw (not_there draft.output (and_true (is_there draft.output) none.last)) tt;
    }

-- ---- the output

used_or : (used : List ℕ) (from : ℕ) (nodes : List PlanNode) → has_unused used from nodes ≡ false → (n : ℕ) → n < length nodes → has used (from + n) ≡ true
used_or used from [] e n lt = absurd (omega (arith, lt))
used_or used from (node ∷ nodes) e zero lt =
    let both = or_parts (not (has used from)) (has_unused used (from + 1) nodes) e in
    let same : from + 0 ≡ from = omega arith in
    rw same (not-false (has used from) both.0)
used_or used from (node ∷ nodes) e (suc n) lt =
    let both = or_parts (not (has used from)) (has_unused used (from + 1) nodes) e in
    let same : from + 1 + n ≡ from + suc n = omega arith in
    subst (λ (k : ℕ). has used k ≡ true) same (used_or used (from + 1) nodes both.1 n (omega (arith, lt)))

pub in_uses : (draft : Draft) (n : ℕ) → draft.output ≡ None → In n (uses draft) → In n (all_inputs draft.nodes)
in_uses draft n e h = go (In-append_cases n (all_inputs draft.nodes) (output_use draft.output) h)
  where
    go : In n (all_inputs draft.nodes) ⊎ In n (output_use draft.output) → In n (all_inputs draft.nodes)
    go (inl k) = k
    go (inr k) = absurd (subst (λ (o : Option ℕ). In n (output_use o)) e k)

with_end : (draft : Draft) (name : List ℕ) → IsSoundDraft draft → HasNone draft (Output name) → AreFree draft.nodes (map (number_of draft.nodes) (name ∷ [])) → IsSoundDraft (after draft (Output name))
with_end draft name sound none free = record {
  few = sound.few;
  few_streams = sound.few_streams;
  names = sound.names;
  each = sound.each;
  once = sound.once;
  ended = record {
    there = free.before output (inl refl);
    feeds_none = free.free output (inl refl);
    others_feed = λ n lt other. feeds n other (has-in (output ∷ uses draft) n (used n lt));
  };
}
  where
    output : ℕ
    output = number_of draft.nodes name

    used : (n : ℕ) → n < length draft.nodes → has (number_of draft.nodes name ∷ uses draft) n ≡ true
    used n lt =
        let same : 0 + n ≡ n = omega arith in
        subst (λ (k : ℕ). has (number_of draft.nodes name ∷ uses draft) k ≡ true) same (used_or (number_of draft.nodes name ∷ uses draft) 0 draft.nodes none.all_used n lt)

    feeds : (n : ℕ) → (n ≡ number_of draft.nodes name → ⊥) → In n (number_of draft.nodes name ∷ uses draft) → In n (all_inputs draft.nodes)
    feeds n other (inl e) = absurd (other (sym e))
    feeds n other (inr h) = in_uses draft n (not_there draft.output (and_true (is_there draft.output) none.last)) h

-- ---- statement after statement

pub after_sound : (draft : Draft) (statement : Statement) → is_spelled statement ≡ true → IsSoundDraft draft → fault_of draft statement ≡ None → IsSoundDraft (after draft statement)
after_sound draft statement spelled sound e = go statement spelled (has_none draft statement e)
  where
    go : (s : Statement) → is_spelled s ≡ true → HasNone draft s → IsSoundDraft (after draft s)
    go (Plan version) p none = record { few = sound.few; few_streams = sound.few_streams; names = sound.names; each = sound.each; once = sound.once; ended = sound.ended }
    go (Stream name columns) p none = with_node draft (node_of draft name (Stream name columns)) sound (and_true (is_there draft.output) none.last) (stream_good draft name columns p none)
    go (Scheme stream marks) p none = with_marks draft stream marks sound none
    go (Select name input tests) p none = with_node draft (node_of draft name (Select name input tests)) sound (and_true (is_there draft.output) none.last) (select_good draft name input tests sound.each none)
    go (Project name input columns) p none = with_node draft (node_of draft name (Project name input columns)) sound (and_true (is_there draft.output) none.last) (project_good draft name input columns p none)
    go (Union name inputs) p none = with_node draft (node_of draft name (Union name inputs)) sound (and_true (is_there draft.output) none.last) (union_good draft name inputs p sound.each none)
    go (Join name inputs classes) p none = with_node draft (node_of draft name (Join name inputs classes)) sound (and_true (is_there draft.output) none.last) (join_good draft name inputs classes p sound.each none)
    go (Group name input keys aggs) p none = with_node draft (node_of draft name (Group name input keys aggs)) sound (and_true (is_there draft.output) none.last) (group_good draft name input keys aggs p none)
    go (Output name) p none = with_end draft name sound none (inputs_free draft (Output name) none)
    go (Bad why) p none = sound

-- ---- every invariant

-- what holds before and after each statement without fault holds of what is declared at the end
pub record IsDone (P : Draft → Type 0) (plan : Outline) : Type 0 where
  pub final : Draft
  pub holds : P final
  pub output : ℕ
  pub ended : final.output ≡ Some output
  pub version : final.version ≡ Some plan.version
  pub nodes : final.nodes ≡ plan.nodes

with_output_done : (P : Draft → Type 0) (draft : Draft) (end version : ℕ) (plan : Outline) → P draft → draft.version ≡ Some version → (o : Option ℕ) → draft.output ≡ o → with_output end version draft.nodes o ≡ Ok plan → IsDone P plan
with_output_done P draft end version plan p v None e is = cc
with_output_done P draft end version plan p v (Some output) e is =
    let same : record { version = version; nodes = draft.nodes } ≡ plan = cc in
    record { final = draft; holds = p; output = output; ended = e; version = v ∙ ap (λ (x : Outline). Some x.version) same; nodes = ap (λ (x : Outline). x.nodes) same }

ended_done : (P : Draft → Type 0) (draft : Draft) (end : ℕ) (plan : Outline) → P draft → (v : Option ℕ) → draft.version ≡ v → ended v draft end ≡ Ok plan → IsDone P plan
ended_done P draft end plan p None e is = cc
ended_done P draft end plan p (Some version) e is = with_output_done P draft end version plan p e draft.output refl is

pub built_keeps : (P : Draft → Type 0) → ((draft : Draft) (statement : Statement) → is_spelled statement ≡ true → P draft → fault_of draft statement ≡ None → P (after draft statement))
    → (statements : List Stated) (draft : Draft) (end : ℕ) (plan : Outline) → AreSpelled (map what_of statements) → P draft → built_from draft statements end ≡ Ok plan → IsDone P plan
built_keeps P step [] draft end plan spelled p is = ended_done P draft end plan p draft.version refl is
built_keeps P step (stated ∷ rest) draft end plan spelled p is = go (fault_of draft stated.what) refl is
    (λ q r. built_keeps P step rest (after draft stated.what) end plan (and_parts (is_spelled stated.what) (list_all is_spelled (map what_of rest)) spelled).1 q r)
  where
    go : (o : Option PlanWhy) → fault_of draft stated.what ≡ o → built_if o stated.line (built_from (after draft stated.what) rest end) ≡ Ok plan → (P (after draft stated.what) → built_from (after draft stated.what) rest end ≡ Ok plan → IsDone P plan) → IsDone P plan
    go None e r ih = ih (step draft stated.what (and_parts (is_spelled stated.what) (list_all is_spelled (map what_of rest)) spelled).0 p e) r
    go (Some why) e r ih = cc
