-- What was opened is a sheet, which has no more points than any.
use Rattle.std.proofs.Common.{arith}
use Rattle.header.proofs.OpenedSize.{opened-small}
use Rattle.display.proofs.Seeing.{points-are}
use Rattle.display.proofs.comparing.points_of.Goals as goal

pub returns-in-Ok : goal.returns-in-Ok
returns-in-Ok c =
    let bs = c.args.bytes.now in
    let long = points-are bs c.in-Ok.opened c.in-Ok.ensures.opens c.points.ensures in
    (long, omega (arith, long, (opened-small bs).1))
