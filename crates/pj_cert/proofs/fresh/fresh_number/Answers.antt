use Rattle.std.proofs.Common.{◌≡◌, ℕ, Bool, false, List, length, replicate, take, drop, ◌++◌, ◌∙◌, ap, arith}
use Rattle.std.proofs.Math.Seq.{take-append_seam}
use Rattle.pj_value.specs.declared.values.Value.{Value}
use Rattle.pj_cert.specs.Fresh.{first_free, free_number, with_marks}
use Rattle.pj_cert.specs.Instances.{constants_of}
use Rattle.pj_cert.proofs.FreeValues.{first_is_free}
use Rattle.pj_cert.proofs.fresh.fresh_number.Goals as goal

-- the first free place of the table that was marked
from_table : (values : List Value) (n count : ℕ) (table items seen : List Bool) → count ≡ length values → items ≡ replicate count false → table ≡ with_marks items values
    → n ≡ length table → seen ≡ take n (table ++ drop (length table) items) → first_free 0 seen ≡ free_number values
from_table values n count table items seen e f g h k =
    ap (first_free 0)
    (k ∙ (ap (λ (m : ℕ). take m (table ++ drop (length table) items)) h
    ∙ (take-append_seam table (drop (length table) items)
    ∙ (g ∙ ap (λ (t : List Bool). with_marks t values) (f ∙ ap (λ (m : ℕ). replicate m false) e)))))
    ∙ first_is_free values

pub returns : goal.returns
returns c =
    c.first_free.ensures
    ∙ from_table (constants_of c.args.listed.now) c.in_ok-taken.taken.len c.count_of-count.result c.mark_listed.new.taken c.in_ok-taken.taken.items c.as_slice.result.now
    c.count_of-count.ensures (c.in_ok-taken.ensures.items_if_clones_equal (λ y q. q))
    (c.mark_listed.ensures ∙ ap (λ (t : List Bool). with_marks t (constants_of c.args.listed.now)) c.as_mut_slice.ensures.value)
    (omega (arith, c.as_mut_slice.ensures.len, c.mark_listed.auto.taken)) c.as_slice.ensures.value
