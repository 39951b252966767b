-- The figure's line, and the values' lines behind it.
use mathlib.Core.Path.{sym, ap}
use Prim.Native.Nat.{◌*◌, ◌≤◌, ◌^◌}
use native.Mathlib.Nat.{mul-le-mul_left}
use native.Mathlib.Omega.{arith}
use borrow.Author.Rules.{rules}
use lib.ListN.{length}
use lib.Seq.{length-sets}
use Rattle.roll.specs.Page.{figure_line}
use Rattle.text.proofs.Digits.{length_most}
use Rattle.roll.proofs.Walk.{all_lines}
use Rattle.roll.proofs.printing.print.Statement.{statement}
use Rattle.roll.proofs.printing.print.Tie as tie

pairs-requires : tie.Need-pairs-table-requires
pairs-requires c κs = search rules

figure-line-requires : tie.Need-figure_line-requires
figure-line-requires c κs = search rules

-- the rows are no more than the values
few : (s : tie.Start) → s.args.shape.depth * s.args.shape.rows ≤ 10 ^ 4
few s =
    let sh = s.args.shape in
    omega (arith, mul-le-mul_left (sh.depth * sh.rows) s.requires.0.columns, s.requires.0.few, s.requires.1)

mul-value-lines : tie.Need-overflow_mul-shape
mul-value-lines c = omega (arith, few c.before.before.before.before.before.before.before.before.before)

value-lines-requires : tie.Need-value_lines-requires
value-lines-requires c κs =
    let f = c.before.before.before.before.before in
    let p = f.before.before.before in
    let s = p.before.before in
    (s.requires.0, sym s.requires.1, omega (arith, s.requires.2, ap length f.figure_line.ensures, length-sets s.args.page.now 0 (figure_line s.args.figure)), p.pairs-table.ensures)

same_length : tie.Need-shape_of-page
same_length c = search rules

returns : tie.Need-returns
returns c =
    let v = c.before.before in
    let f = v.before.before.before.before.before.before in
    let s = f.before.before.before.before.before in
    all_lines s.args.shape s.args.figure s.args.values.now (omega (arith, length_most s.args.figure (omega arith))) s.args.page.now _ _ f.figure_line.ensures v.value_lines.ensures

pub print_spec : {M : Type 1} → statement M
print_spec =
    tie.close (tie.spec pairs-requires figure-line-requires mul-value-lines value-lines-requires same_length returns)
