-- The line is cleared, and the figure, which has at most 20 characters, put at its end.
use mathlib.Core.Path.{ap}
use Prim.Native.Nat.{◌≤◌}
use native.Mathlib.Omega.{arith}
use borrow.Author.Rules.{rules}
use lib.ListN.{length}
use lib.Seq.{length-sets}
use Rattle.text.specs.Decimal.{decimal}
use Rattle.text.proofs.Digits.{length_most}
use Rattle.roll.specs.Page.{line_places}
use Rattle.roll.specs.Workings.{blank_line}
use Rattle.roll.proofs.Fields.{figure-put}
use Rattle.roll.proofs.printing.figure_line.Statement.{statement}
use Rattle.roll.proofs.printing.figure_line.Tie as tie

fits : (s : tie.Start) → length (decimal s.args.figure) ≤ line_places
fits s = omega (arith, length_most s.args.figure (omega arith))

blank-requires : tie.Need-blank-requires
blank-requires c κs = search rules

put-pairs-requires : tie.Need-put_pairs-requires
put-pairs-requires c κs =
    let b = c.before.before.before in
    let s = b.before.before.before in
    (fits s, omega (arith, s.requires.0, ap length b.blank.ensures, length-sets s.args.page.now 0 blank_line), s.requires.1)

same_length : tie.Need-shape_of-page
same_length c = search rules

returns : tie.Need-returns
returns c =
    let p = c.before.before in
    let b = p.before.before.before.before in
    let s = b.before.before.before in
    figure-put s.args.page.now s.args.figure (fits s) b.blank.ensures p.put_pairs.ensures.1

pub figure_line_spec : {M : Type 1} → statement M
figure_line_spec =
    tie.close (tie.spec blank-requires put-pairs-requires same_length returns)
