-- The invariant: putting the rows that are left gives what putting all of them gives.
use mathlib.Core.Path.{◌≡◌, refl, sym, ap, ◌∙◌}
use Prim.Native.Nat.{ℕ, ◌+◌, ◌*◌, ◌-◌, ◌≤◌}
use native.Mathlib.Nat.{zero-mul, mul-le-mul_right}
use native.Mathlib.Omega.{arith}
use lib.ListN.{length}
use Rattle.roll.specs.Workings.{printed_from}
use Rattle.roll.proofs.Walk.{no-line-left}
use Rattle.roll.proofs.printing.value_lines.Statement.{statement}
use Rattle.roll.proofs.printing.value_lines.Tie as tie

abbrev invariant-loop : tie.invariant-loop-row
invariant-loop page₀ rows cols values pairs row₀ page row =
    (row ≤ rows) × (length page ≡ length page₀) × (printed_from cols values page (row * cols) ≡ printed_from cols values page₀ 0)

abbrev decreases-loop : tie.decreases-loop-row
decreases-loop page₀ rows cols values pairs row₀ page row = rows - row

loop-holds : tie.Need-loop-row-init invariant-loop decreases-loop
loop-holds c =
    let s = c.before in
    (omega arith, refl, ap (printed_from s.args.cols s.args.values.now s.args.page.now) (zero-mul s.args.cols))

row-lines-requires : tie.Need-row_lines-requires invariant-loop decreases-loop
row-lines-requires c κs =
    let s = c.before.before.before.before in
    let h = c.before.before.loop-row in
    let below : h.row + 1 ≤ s.args.rows = omega arith in
    (s.requires.0, omega (arith, mul-le-mul_right s.args.cols below, s.requires.1), omega (arith, s.requires.2, h.invariant.1), s.requires.3)

add_row : tie.Need-overflow_step-row invariant-loop decreases-loop
add_row c = omega arith

loop-less : tie.Need-loop-row-smaller invariant-loop decreases-loop
loop-less c = omega arith

loop-again : tie.Need-loop-row-preserved invariant-loop decreases-loop
loop-again c =
    let put = c.before.before.row_lines in
    let h = c.before.before.before.before.before.loop-row in
    (omega arith, put.ensures.0 ∙ h.invariant.1, put.ensures.1 ∙ h.invariant.2)

same_length : tie.Need-shape_of-page invariant-loop decreases-loop
same_length c = c.before.loop-row.invariant.1

returns : tie.Need-returns invariant-loop decreases-loop
returns c =
    let h = c.before.loop-row in
    let s = c.before.before.before in
    let cols = s.args.cols in
    let values = s.args.values.now in
    let rows : h.row ≡ s.args.rows = omega (arith, h.invariant.0) in
    let all : h.row * cols ≡ length values = ap (λ (r : ℕ). r * cols) rows ∙ s.requires.1 in
    sym (no-line-left cols values h.page (h.row * cols) all) ∙ h.invariant.2

pub value_lines_spec : {M : Type 1} → statement M
value_lines_spec =
    tie.close (tie.spec invariant-loop decreases-loop loop-holds row-lines-requires add_row loop-less loop-again same_length returns)
