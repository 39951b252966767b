-- There is room for the numbers' text behind the piece's own, so `put_joined` puts it there.
use Rattle.std.proofs.Common.{◌≡◌, length, ◌∙◌, ap₂, arith, rules}
use Rattle.text.specs.Joined.{joined}
use Rattle.text.proofs.Fitting.{put-fits}
use Rattle.display.specs.Workings.{piece_most}
use Rattle.display.proofs.Behind.{piece}
use Rattle.display.proofs.pieces.with_list.Goals as goal

pub returns : goal.returns
returns c =
    let p = c.put_joined-length.ensures in
    let full : length c.args.piece.bytes ≡ piece_most = search rules in
    let fits = put-fits c.args.piece.bytes c.args.piece.length (joined c.args.numbers.now) (omega (arith, full)) in
    ap₂ piece (p.1 ∙ fits.1) (p.0 ∙ fits.0)
