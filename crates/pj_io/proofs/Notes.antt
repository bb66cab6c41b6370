-- Notes of names, after one was added or changed.
use Rattle.std.proofs.Common.{◌≡◌, ℕ, suc, zero, Bool, true, false, cond, List, [], ◌∷◌, ◌++◌, Option, Some, None, get_or, set, refl, ap, sym, ◌∙◌, arith, IsTrue, is_some}
use Rattle.std.proofs.lemmas.Bool.{false≢true}
use Rattle.std.proofs.lemmas.Slice.Eq.{bytes_eq-Decides}
use Rattle.std.specs.Str.{bytes_eq}
use Rattle.pj_io.specs.declared.book.Note.{Note}
use Rattle.std.proofs.lemmas.Option.{same_Some}
use Rattle.std.proofs.Common.{◌≤◌}
use Rattle.pj_io.specs.Folders.{SameElsewhere, NoneFalls, KeepsNames}
use Rattle.pj_io.specs.Books.{place_of, noted, opened_in, has_note, behind}
use Rattle.pj_value.proofs.Bytes.{other_bytes}

pub same_bytes : (xs : List ℕ) → bytes_eq xs xs ≡ true
same_bytes xs = (bytes_eq-Decides xs xs).1 refl

-- a note with nothing yet, added at the end
pub noted_push : {A : Type 0} (f : Note → A) (z : A) (ns : List Note) (n : Note) (name : List ℕ) → f n ≡ z → noted f z (ns ++ n ∷ []) name ≡ noted f z ns name
noted_push {A} f z [] n name none = elim (bytes_eq name n.name) as (λ b. cond b (f n) z ≡ z) [ true ↦ none | false ↦ refl ]
noted_push {A} f z (m ∷ ns) n name none = ap (λ (x : A). cond (bytes_eq name m.name) (f m) x) (noted_push f z ns n name none)

some_behind : (o : Option ℕ) → IsTrue (is_some o) → IsTrue (is_some (behind o))
some_behind None h = h
some_behind (Some i) h = refl

pub has_new : (ns : List Note) (n : Note) (name : List ℕ) → n.name ≡ name → IsTrue (has_note (ns ++ n ∷ []) name)
has_new [] n name is = rw (ap (bytes_eq name) is ∙ same_bytes name) refl
has_new (m ∷ ns) n name is = elim (bytes_eq name m.name) as (λ b. IsTrue (is_some (cond b (Some 0) (behind (place_of (ns ++ n ∷ []) name))))) [ true ↦ refl | false ↦ some_behind _ (has_new ns n name is) ]

first_behind : (b : Bool) (o : Option ℕ) (i : ℕ) → cond b (Some 0) (behind o) ≡ Some (suc i) → (b ≡ false) × (o ≡ Some i)
first_behind true o i e = absurd (cc)
first_behind false None i e = absurd (cc)
first_behind false (Some j) i e = (refl, ap Some (omega (arith, same_Some (suc j) (suc i) e)))

first_here : (b : Bool) (o : Option ℕ) → cond b (Some 0) (behind o) ≡ Some 0 → b ≡ true
first_here true o e = refl
first_here false None e = absurd (cc)
first_here false (Some j) e = absurd (omega (arith, same_Some (suc j) 0 e))

same_name : (name other : List ℕ) → bytes_eq name other ≡ true → other ≡ name
same_name name other e = sym ((bytes_eq-Decides name other).0 e)

pub name_at : (ns : List Note) (i : ℕ) (d : Note) (name : List ℕ) → place_of ns name ≡ Some i → (get_or ns i d).name ≡ name
name_at [] i d name place = absurd (cc)
name_at (m ∷ ns) zero d name place = same_name name m.name (first_here (bytes_eq name m.name) (place_of ns name) place)
name_at (m ∷ ns) (suc i) d name place = name_at ns i d name (first_behind (bytes_eq name m.name) (place_of ns name) i place).1

pub noted_at : {A : Type 0} (f : Note → A) (z : A) (ns : List Note) (i : ℕ) (d : Note) (name : List ℕ) → place_of ns name ≡ Some i → noted f z ns name ≡ f (get_or ns i d)
noted_at {A} f z [] i d name place = absurd (cc)
noted_at {A} f z (m ∷ ns) zero d name place = rw (first_here (bytes_eq name m.name) (place_of ns name) place) refl
noted_at {A} f z (m ∷ ns) (suc i) d name place =
    let h = first_behind (bytes_eq name m.name) (place_of ns name) i place in
    rw h.0 (noted_at f z ns i d name h.1)

-- a note of the same name in the place of the first one
pub noted_set : {A : Type 0} (f : Note → A) (z : A) (ns : List Note) (i : ℕ) (n : Note) (name : List ℕ) → place_of ns name ≡ Some i → n.name ≡ name → noted f z (set ns i n) name ≡ f n
noted_set {A} f z [] i n name place is = absurd (cc)
noted_set {A} f z (m ∷ ns) zero n name place is = rw (ap (bytes_eq name) is ∙ same_bytes name) refl
noted_set {A} f z (m ∷ ns) (suc i) n name place is =
    let h = first_behind (bytes_eq name m.name) (place_of ns name) i place in
    rw h.0 (noted_set f z ns i n name h.1 is)

pub noted_set_other : {A : Type 0} (f : Note → A) (z : A) (ns : List Note) (i : ℕ) (n : Note) (name other : List ℕ) → place_of ns name ≡ Some i → n.name ≡ name → (other ≡ name → ⊥) → noted f z (set ns i n) other ≡ noted f z ns other
noted_set_other {A} f z [] i n name other place is differ = absurd (cc)
noted_set_other {A} f z (m ∷ ns) zero n name other place is differ =
    let old : m.name ≡ name = same_name name m.name (first_here (bytes_eq name m.name) (place_of ns name) place) in
    rw (ap (bytes_eq other) is ∙ other_bytes other name differ, ap (bytes_eq other) old ∙ other_bytes other name differ) refl
noted_set_other {A} f z (m ∷ ns) (suc i) n name other place is differ =
    ap (λ (x : A). cond (bytes_eq other m.name) (f m) x) (noted_set_other f z ns i n name other (first_behind (bytes_eq name m.name) (place_of ns name) i place).1 is differ)

-- with the same number in it
pub noted_set_same : {A : Type 0} (f : Note → A) (z : A) (ns : List Note) (i : ℕ) (n d : Note) (name other : List ℕ) → place_of ns name ≡ Some i → n.name ≡ name → f n ≡ f (get_or ns i d) → noted f z (set ns i n) other ≡ noted f z ns other
noted_set_same {A} f z [] i n d name other place is same = absurd (cc)
noted_set_same {A} f z (m ∷ ns) zero n d name other place is same =
    let old : m.name ≡ name = same_name name m.name (first_here (bytes_eq name m.name) (place_of ns name) place) in
    ap (λ (xs : List ℕ). cond (bytes_eq other xs) (f n) (noted f z ns other)) (is ∙ sym old) ∙ ap (λ (x : A). cond (bytes_eq other m.name) x (noted f z ns other)) same
noted_set_same {A} f z (m ∷ ns) (suc i) n d name other place is same =
    ap (λ (x : A). cond (bytes_eq other m.name) (f m) x) (noted_set_same f z ns i n d name other (first_behind (bytes_eq name m.name) (place_of ns name) i place).1 is same)

pub place_set : (ns : List Note) (i : ℕ) (n : Note) (name other : List ℕ) → place_of ns name ≡ Some i → n.name ≡ name → place_of (set ns i n) other ≡ place_of ns other
place_set [] i n name other place is = absurd (cc)
place_set (m ∷ ns) zero n name other place is =
    let old : m.name ≡ name = same_name name m.name (first_here (bytes_eq name m.name) (place_of ns name) place) in
    rw (is, old) refl
place_set (m ∷ ns) (suc i) n name other place is =
    ap (λ (o : Option ℕ). cond (bytes_eq other m.name) (Some 0) (behind o)) (place_set ns i n name other (first_behind (bytes_eq name m.name) (place_of ns name) i place).1 is)

-- none falls, where one doesn't and the others stay
pub none_falls : (before now : List ℕ → ℕ) (name : List ℕ) → before name ≤ now name → SameElsewhere name before now → NoneFalls before now
none_falls before now name here others other =
    elim (bytes_eq other name) as (λ b. bytes_eq other name ≡ b → before other ≤ now other) [
      | true ↦ λ e. let same : other ≡ name = (bytes_eq-Decides other name).0 e in rw same here
      | false ↦ λ e. let stays : now other ≡ before other = others other (λ same. false≢true (sym e ∙ (bytes_eq-Decides other name).1 same)) in omega arith
    ] refl

-- a name under which a file was opened has a note
pub opened_has : (ns : List Note) (name : List ℕ) → IsTrue (opened_in ns name) → IsTrue (has_note ns name)
opened_has [] name opened = opened
opened_has (n ∷ ns) name opened =
    elim (bytes_eq name n.name) as (λ b. IsTrue (cond b n.opened (opened_in ns name)) → IsTrue (is_some (cond b (Some 0) (behind (place_of ns name))))) [ true ↦ λ h. refl | false ↦ λ h. some_behind _ (opened_has ns name h) ] opened

-- no name is lost, where one is there and the others stay
pub keeps_names : (before now : List ℕ → Bool) (name : List ℕ) → IsTrue (now name) → SameElsewhere name before now → KeepsNames before now
keeps_names before now name here others other =
    elim (bytes_eq other name) as (λ b. bytes_eq other name ≡ b → IsTrue (before other) → IsTrue (now other)) [
      | true ↦ λ e h. let same : other ≡ name = (bytes_eq-Decides other name).0 e in rw same here
      | false ↦ λ e h. others other (λ same. false≢true (sym e ∙ (bytes_eq-Decides other name).1 same)) ∙ h
    ] refl
