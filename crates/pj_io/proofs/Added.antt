-- What a folder in memory has under a name, after a file was added at the end.
use Rattle.std.proofs.Common.{◌≡◌, Bool, true, false, cond, ℕ, List, [], ◌∷◌, ◌++◌, Option, Some, None, refl, ap, ◌∙◌}
use Rattle.std.specs.Str.{bytes_eq}
use Rattle.pj_io.specs.declared.memory_file.MemFile.{MemFile}
use Rattle.pj_io.specs.MemoryFolders.{Added, added_of}
use Rattle.pj_io.specs.Plans.{fresh_plan}
use Rattle.pj_io.proofs.Notes.{same_bytes}
use Rattle.pj_value.proofs.Bytes.{other_bytes}

-- where the first choice is none, the second is the answer
behind_none : (b : Bool) (here there : Added) (o p : Option Added) → (o ≡ None → p ≡ Some there) → cond b (Some here) o ≡ None → cond b (Some here) p ≡ Some there
behind_none true here there o p f h = absurd (cc)
behind_none false here there o p f h = f h

pub added_push : (fs : List MemFile) (k : MemFile) (name : List ℕ) → k.name ≡ name → added_of fs name ≡ None → added_of (fs ++ k ∷ []) name ≡ Some (record { bytes = k.bytes; plan = fresh_plan k.fails k.cut })
added_push [] k name is none = rw (ap (bytes_eq name) is ∙ same_bytes name) refl
added_push (m ∷ fs) k name is none =
    behind_none (bytes_eq name m.name) (record { bytes = m.bytes; plan = fresh_plan m.fails m.cut }) (record { bytes = k.bytes; plan = fresh_plan k.fails k.cut }) (added_of fs name) (added_of (fs ++ k ∷ []) name) (added_push fs k name is) none

pub added_push_other : (fs : List MemFile) (k : MemFile) (name other : List ℕ) → k.name ≡ name → (other ≡ name → ⊥) → added_of (fs ++ k ∷ []) other ≡ added_of fs other
added_push_other [] k name other is differ = rw (ap (bytes_eq other) is ∙ other_bytes other name differ) refl
added_push_other (m ∷ fs) k name other is differ =
    ap (λ (o : Option Added). cond (bytes_eq other m.name) (Some (record { bytes = m.bytes; plan = fresh_plan m.fails m.cut })) o) (added_push_other fs k name other is differ)
