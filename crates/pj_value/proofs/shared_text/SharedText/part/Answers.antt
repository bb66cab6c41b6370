use Rattle.std.proofs.Common.{ℕ, List, ◌+◌, length, ap, sym, ◌∙◌, arith}
use Rattle.std.specs.Arc.{arc_value}
use Rattle.std.specs.List.{slice_range}
use Rattle.pj_value.proofs.Slices.{length_part, part_of_part}
use Rattle.pj_value.proofs.shared_text.SharedText.part.Goals as goal

pub returns : goal.returns
returns c =
    let first = c.self.inside.start in
    let last = c.self.inside.end in
    let piece = arc_value c.self.inside.piece in
    let size = length_part piece first last c.self.invariant.0 c.self.invariant.1 in
    ap (λ (bytes : List ℕ). slice_range bytes (first + c.args.start) (first + c.args.end)) (c.in_ok-try_clone.ensures)
    ∙ (sym (part_of_part piece first last c.args.start c.args.end c.requires.ordered (omega (arith, c.requires.within, ap length c.self.view_is, size, c.self.invariant.0)))
    ∙ ap (λ (bytes : List ℕ). slice_range bytes c.args.start c.args.end) c.self.view_is)
