-- By the curve: the bytes put are its text, and there is room for them.
use mathlib.Core.Path.{◌∙◌}
use native.Mathlib.Omega.{arith}
use borrow.Author.Rules.{rules}
use Rattle.text.proofs.Fitting.{put-fits}
use Rattle.header.specs.Header.{ascii_from, ascii}
use Rattle.header.proofs.printing.put_curve.Statement.{statement}
use Rattle.header.proofs.printing.put_curve.Tie as tie

enum_told : tie.Need-enum_told-1
enum_told c = search rules

put-requires : tie.Need-put-requires
put-requires c κs = search rules

enum-told-2 : tie.Need-enum_told-in-Cubic
enum-told-2 c = search rules

put-requires-2 : tie.Need-put-requires-in-Cubic
put-requires-2 c κs = search rules

same_length : tie.Need-shape_of-out-in-Linear
same_length c = search rules

returns : tie.Need-returns-in-Linear
unfolding ascii_from
returns c =
    let fits = put-fits c.args.out.now c.args.at (ascii "linear") (omega (arith, rw c.in-Linear.is at c.requires)) in
    rw c.in-Linear.is (c.put.ensures.0 ∙ fits.0, c.put.ensures.1 ∙ fits.1)

same-length-2 : tie.Need-shape_of-out-in-Cubic
same-length-2 c = search rules

returns-2 : tie.Need-returns-in-Cubic
unfolding ascii_from
returns-2 c =
    let fits = put-fits c.args.out.now c.args.at (ascii "cubic") (omega (arith, rw c.in-Cubic.is at c.requires)) in
    rw c.in-Cubic.is (c.put-in-Cubic.ensures.0 ∙ fits.0, c.put-in-Cubic.ensures.1 ∙ fits.1)

pub put_curve_spec : {M : Type 1} → statement M
put_curve_spec =
    tie.close (tie.spec enum_told put-requires enum-told-2 put-requires-2 same_length returns same-length-2 returns-2)
