-- There is room for the number's characters behind the piece's own, so `put_number` puts them there: a u64 has at most `characters_most`.
use mathlib.Core.Path.{◌≡◌, ap₂, ◌∙◌}
use native.Mathlib.Omega.{arith}
use lib.ListN.{length}
use borrow.Author.Rules.{rules}
use Rattle.text.specs.Decimal.{decimal}
use Rattle.text.proofs.Digits.{length_most}
use Rattle.text.proofs.Fitting.{put-fits}
use Rattle.display.specs.Workings.{piece_most}
use Rattle.display.proofs.Behind.{piece}
use Rattle.display.proofs.pieces.with_number.Statement.{statement}
use Rattle.display.proofs.pieces.with_number.Tie as tie

full : (s : tie.Start) → length s.args.piece.bytes ≡ piece_most
full s = search rules

slice-aggregate-put-number : tie.Need-slice_bounds-put_number-end
slice-aggregate-put-number c = search rules

put-number-requires : tie.Need-put_number-length-requires
put-number-requires c κs = search rules

returns : tie.Need-returns
returns c =
    let p = c.before.put_number-length.ensures in
    let s = c.before.before.before.before in
    let fits = put-fits s.args.piece.bytes s.args.piece.length (decimal s.args.n) (omega (arith, full s, s.requires, length_most s.args.n (omega arith))) in
    ap₂ piece (p.1 ∙ fits.1) (p.0 ∙ fits.0)

pub with_number_spec : {M : Type 1} → statement M
with_number_spec =
    tie.close (tie.spec slice-aggregate-put-number put-number-requires returns)
