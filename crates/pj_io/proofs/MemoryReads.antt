-- What a read from memory gives.
use Rattle.std.proofs.Common.{◌≡◌, ℕ, ◌+◌, ◌-◌, ◌<◌, ◌≤◌, min, List, [], ◌++◌, length, take, drop, ap, sym, ◌∙◌, arith}
use Rattle.std.proofs.Math.Seq.{take-add}
use Rattle.std.proofs.lemmas.List.{take_all, take_at, drop_all, take-append-drop, drop-drop, length-drop, length-take, length-append}
use Rattle.pj_io.specs.Memory.{source_at}
use Rattle.pj_io.specs.Pieces.{Consumes}

pub memory_read : (bytes buf copied slice name : List ℕ) (at n m cut faults : ℕ) → slice ≡ bytes → at ≤ length bytes → 0 < cut → m ≡ min (length buf) cut → n ≡ min (length (take (length slice - at) (drop at slice))) m → copied ≡ take n (take (length slice - at) (drop at slice))
    → Consumes (source_at bytes at faults name) (source_at bytes (at + n) faults name) (take n (copied ++ drop n buf)) × (n ≡ 0 → 0 < length (copied ++ drop n buf) → drop (at + n) bytes ≡ [])
memory_read bytes buf copied slice name at n m cut faults same within cuts m_is n_is after =
    let tail : take (length slice - at) (drop at slice) ≡ drop at bytes = take_all (length slice - at) (drop at slice) (omega (arith, length-drop at slice)) ∙ ap (drop at) same in
    let n_is' : n ≡ min (length (drop at bytes)) m = n_is ∙ ap (λ (xs : List ℕ). min (length xs) m) tail in
    let copy : copied ≡ take n (drop at bytes) = after ∙ ap (take n) tail in
    let long : length copied ≡ n = ap length copy ∙ (length-take n (drop at bytes) ∙ omega (arith, n_is', m_is)) in
    let piece : take n (copied ++ drop n buf) ≡ take n (drop at bytes) = take_at copied (drop n buf) n long ∙ copy in (
      record {
        left = sym (ap (λ (xs : List ℕ). xs ++ drop (at + n) bytes) piece ∙ (ap (λ (xs : List ℕ). take n (drop at bytes) ++ xs) (sym (drop-drop n at bytes)) ∙ take-append-drop n (drop at bytes)));
        taken = take-add at n bytes ∙ ap (λ (xs : List ℕ). take at bytes ++ xs) (sym piece);
      },
      λ none some. drop_all (at + n) bytes (omega (arith, n_is', m_is, length-drop at bytes, length-append copied (drop n buf), length-drop n buf, long)),
    )
