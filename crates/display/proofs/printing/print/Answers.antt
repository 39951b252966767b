-- Each piece is within its bytes, since it holds its text.
use Rattle.std.proofs.Common.{◌≡◌, length, arith, rules}
use Rattle.display.specs.Workings.{piece_most}
use Rattle.display.proofs.Behind.{holds-within}
use Rattle.display.proofs.printing.print.Goals as goal

pub write-requires : goal.write-requires
write-requires c =
    let full : length c.piece_at.result.bytes ≡ piece_most = search rules in
    omega (arith, full, holds-within _ c.piece_at.ensures)
