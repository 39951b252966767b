-- Each line is within its bytes.
use Rattle.std.proofs.Common.{◌≡◌, length, arith, rules}
use Rattle.display.specs.Workings.{piece_most}
use Rattle.display.proofs.Behind.{holds-within}
use Rattle.display.proofs.printing.compare.Goals as goal

pub write-requires : goal.write-requires
write-requires c =
    let full : length c.line.result.bytes ≡ piece_most = search rules in
    omega (arith, full, holds-within _ c.line.ensures)

pub write-requires-in-Ok : goal.write-requires-in-Ok
write-requires-in-Ok c =
    let full : length c.first_line.result.bytes ≡ piece_most = search rules in
    omega (arith, full, holds-within _ c.first_line.ensures)
