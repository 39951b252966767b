-- The invariant: putting the rows that are left gives what putting all of them gives.
use mathlib.Core.Path.{◌≡◌, refl, ap, sym, ◌∙◌}
use Prim.Native.Nat.{ℕ, ◌+◌, ◌*◌, ◌-◌, ◌≤◌}
use native.Mathlib.Omega.{arith}
use lib.ListN.{length, take, drop, length-take}
use lib.Seq.{sets}
use Rattle.display.specs.Compared.{row_marks}
use Rattle.display.proofs.MarkLines.{marked_from, all_left, none_left, row_inside, row-marked, one_less}
use Rattle.display.proofs.comparing.all_marks.Statement.{statement}
use Rattle.display.proofs.comparing.all_marks.Tie as tie

abbrev invariant-loop : tie.invariant-loop-row
invariant-loop page₀ rows cols marks row₀ page row =
    (row ≤ rows) × (length page ≡ length page₀) × (marked_from rows cols marks page row ≡ marked_from rows cols marks page₀ 0)

abbrev decreases-loop : tie.decreases-loop-row
decreases-loop page₀ rows cols marks row₀ page row = rows - row

loop-holds : tie.Need-loop-row-init invariant-loop decreases-loop
loop-holds c = (omega arith, refl, refl)

abbrev S : tie.In-loop-row invariant-loop decreases-loop → tie.Start invariant-loop decreases-loop
S l = l.before.before.before.before

-- the row's marks are there
here : (l : tie.In-loop-row invariant-loop decreases-loop) → let s = S l in l.before.loop-row.row * s.args.cols + s.args.cols ≤ length s.args.marks.now
here l = let s = S l in row_inside s.args.rows s.args.cols s.args.marks.now l.before.loop-row.row (omega arith) s.requires.0

width : (from cols : ℕ) → from + cols - from ≡ cols
width from cols = omega arith

mul-from : tie.Need-overflow_mul-from invariant-loop decreases-loop
mul-from c = omega (arith, here c)

add-to : tie.Need-overflow_add-to invariant-loop decreases-loop
add-to c = omega (arith, here c)

add-row-marks : tie.Need-overflow_add-from invariant-loop decreases-loop
add-row-marks c = omega (arith, here c.before, (S c.before).requires.1)

sub-row-marks : tie.Need-slice_bounds-row_marks-count invariant-loop decreases-loop
sub-row-marks c = omega arith

part-row-marks-start : tie.Need-slice_bounds-row_marks-start invariant-loop decreases-loop
part-row-marks-start c = omega arith

part-row-marks-end : tie.Need-slice_bounds-row_marks-end invariant-loop decreases-loop
part-row-marks-end c = here c.before

row-marks-requires : tie.Need-row_marks-requires invariant-loop decreases-loop
row-marks-requires c κs =
    let l = c.before.before in
    let s = S l in
    let marks = s.args.marks.now in
    let cols = s.args.cols in
    let from = l.before.loop-row.row * cols in
    rw (width from cols) (
      omega (arith, length-take cols (drop from marks), here l, s.requires.1, l.before.loop-row.invariant.1),
      row-marked s.args.rows cols marks l.before.loop-row.row (omega arith) s.requires.0 s.requires.2,
    )

add_row : tie.Need-overflow_step-row invariant-loop decreases-loop
add_row c = omega arith

loop-less : tie.Need-loop-row-smaller invariant-loop decreases-loop
loop-less c = omega arith

loop-again : tie.Need-loop-row-preserved invariant-loop decreases-loop
loop-again c =
    let put = c.before.before in
    let l = c.before.before.before.before.before in
    let s = S l in
    let h = l.before.loop-row in
    let marks = s.args.marks.now in
    let cols = s.args.cols in
    let from = h.row * cols in
    let line : put.row_marks.new.page ≡ sets h.page (from + h.row) (row_marks (take cols (drop from marks))) =
    put.row_marks.ensures ∙ ap (λ (n : ℕ). sets h.page (from + h.row) (row_marks (take n (drop from marks)))) (width from cols) in (
      omega arith,
      put.row_marks.auto.page ∙ h.invariant.1,
      one_less s.args.rows cols marks h.row (omega arith) s.requires.0 h.page put.row_marks.new.page line ∙ h.invariant.2,
    )

same_length : tie.Need-shape_of-page invariant-loop decreases-loop
same_length c = c.before.loop-row.invariant.1

returns : tie.Need-returns invariant-loop decreases-loop
returns c =
    let h = c.before.loop-row in
    let s = c.before.before.before.before in
    let rows = s.args.rows in
    let cols = s.args.cols in
    let marks = s.args.marks.now in
    sym (none_left rows cols marks h.page h.row (omega (arith, h.invariant.0))) ∙ h.invariant.2 ∙ all_left rows cols marks s.args.page.now

pub all_marks_spec : {M : Type 1} → statement M
all_marks_spec =
    tie.close
    (tie.spec
    invariant-loop
    decreases-loop
    loop-holds
    mul-from
    add-to
    add-row-marks
    sub-row-marks
    part-row-marks-start
    part-row-marks-end
    row-marks-requires
    add_row
    loop-less
    loop-again
    same_length
    returns)
