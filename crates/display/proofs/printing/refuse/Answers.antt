-- The line is within its bytes.
use Rattle.std.proofs.Common.{◌≡◌, length, arith, rules}
use Rattle.display.specs.Workings.{piece_most, refused_line}
use Rattle.display.proofs.Behind.{holds-within}
use Rattle.display.proofs.printing.refuse.Goals as goal

pub write-requires : goal.write-requires
write-requires c =
    let full : length c.refused_line.result.bytes ≡ piece_most = search rules in
    omega (arith, full, holds-within (refused_line c.args.number 0) c.refused_line.ensures)
