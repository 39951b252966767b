-- There is room for the text behind the piece's own, so `put` puts it there.
use mathlib.Core.Path.{◌≡◌, ap₂, ◌∙◌}
use native.Mathlib.Omega.{arith}
use lib.ListN.{length}
use borrow.Author.Rules.{rules}
use Rattle.text.proofs.Fitting.{put-fits}
use Rattle.display.specs.Workings.{piece_most}
use Rattle.display.proofs.Behind.{piece}
use Rattle.display.proofs.pieces.with_text.Statement.{statement}
use Rattle.display.proofs.pieces.with_text.Tie as tie

full : (s : tie.Start) → length s.args.piece.bytes ≡ piece_most
full s = search rules

slice-aggregate-put : tie.Need-slice_bounds-put-end
slice-aggregate-put c = search rules

put-requires : tie.Need-put-length-requires
put-requires c κs = search rules

returns : tie.Need-returns
returns c =
    let p = c.before.put-length.ensures in
    let s = c.before.before.before.before.before in
    let fits = put-fits s.args.piece.bytes s.args.piece.length s.args.text.now (omega (arith, full s, s.requires)) in
    ap₂ piece (p.1 ∙ fits.1) (p.0 ∙ fits.0)

pub with_text_spec : {M : Type 1} → statement M
with_text_spec =
    tie.close (tie.spec slice-aggregate-put put-requires returns)
