-- A row's place and a sheet's points are few.
use Rattle.std.proofs.Common.{arith}
use Rattle.sheet.proofs.Accepting.{accepted-yes}
use Rattle.sheet.proofs.Fits.{held}
use Rattle.layers.proofs.prediction.columns.Goals as goal

pub overflow_mul-result : goal.overflow_mul-result
overflow_mul-result c =
    let ok = accepted-yes c.args.shape c.requires.0 in
    omega (arith, held ok c.args.sheet c.args.row 0 c.requires.1 c.requires.2 ok.wide)

pub overflow_mul-result-2 : goal.overflow_mul-result-2
overflow_mul-result-2 c =
    let ok = accepted-yes c.args.shape c.requires.0 in
    omega (arith, held ok c.args.sheet c.args.row 0 c.requires.1 c.requires.2 ok.wide)
