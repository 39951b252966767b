-- The part has the numbers.
use Rattle.std.proofs.Common.{◌+◌, ◌-◌, length, arith}
use Rattle.sheet.proofs.Arrays.{put_part}
use Rattle.trace_card.proofs.answer.put.Goals as goal

pub returns : goal.returns
returns c =
    let a = c.args in
    put_part a.at (a.at + length a.numbers.now - a.at) a.out.now c.copy_from_slice.new.self a.numbers.now c.copy_from_slice.ensures.after (omega arith) (omega arith)
