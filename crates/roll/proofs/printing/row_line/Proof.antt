-- A blank line, and the row put at the end of its places.
use mathlib.Core.Path.{ap}
use Prim.Native.Nat.{◌+◌}
use native.Mathlib.Omega.{arith}
use borrow.Author.Rules.{rules}
use lib.ListN.{length, replicate}
use lib.Seq.{length-sets}
use Rattle.roll.specs.Page.{line_places}
use Rattle.roll.specs.Workings.{blank_line}
use Rattle.roll.proofs.Fields.{row_made}
use Rattle.roll.proofs.printing.row_line.Statement.{statement}
use Rattle.roll.proofs.printing.row_line.Tie as tie

slice-aggregate-blank : tie.Need-slice_bounds-blank-end
slice-aggregate-blank c = search rules

blank-requires : tie.Need-blank-requires
blank-requires c κs = search rules

slice-aggregate-put-pairs : tie.Need-slice_bounds-put_pairs-end
slice-aggregate-put-pairs c = search rules

put-pairs-requires : tie.Need-put_pairs-requires
put-pairs-requires c κs =
    let b = c.before.before in
    let s = b.before.before in
    (s.requires.0, omega (arith, ap length b.blank.ensures, length-sets (replicate (line_places + 1) 0) 0 blank_line), s.requires.1)

returns : tie.Need-returns
returns c =
    let p = c.before in
    let b = p.before.before.before in
    let s = b.before.before in
    row_made s.args.row s.requires.0 b.blank.ensures p.put_pairs.ensures.1

pub row_line_spec : {M : Type 1} → statement M
row_line_spec =
    tie.close (tie.spec slice-aggregate-blank blank-requires slice-aggregate-put-pairs put-pairs-requires returns)
