-- The line's end goes behind all marks.
use Rattle.std.proofs.Common.{◌≡◌, ℕ, length, take, ap, ◌∙◌, arith}
use Rattle.std.proofs.lemmas.List.Edits.{sets}
use Rattle.display.specs.Compared.{row_marks}
use Rattle.display.proofs.MarkLines.{mark-put, end-put}
use Rattle.display.proofs.comparing.row_marks.Goals as goal

pub loop-i-preserved : goal.loop-i-preserved
loop-i-preserved c = mark-put c.args.marks.now c.args.page.now c.args.at c.loop-i.i (omega arith) c.loop-i.invariant

pub returns : goal.returns
returns c =
    let marks = c.args.marks.now in
    let all : c.loop-i.i ≡ length marks = omega arith in
    end-put marks c.args.page.now c.args.at _ (omega arith) (c.loop-i.invariant ∙ ap (λ (n : ℕ). sets c.args.page.now c.args.at (take n (row_marks marks))) all)
