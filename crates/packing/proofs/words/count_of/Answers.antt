-- Where the greatest is past the words of 23 digits the count is 24 (`count-over`); else it is the more digits of the two numbers (`count-is`).
use Rattle.std.proofs.Common.{arith}
use Rattle.packing.proofs.Counting.{digits-of, count-over, count-is}
use Rattle.packing.proofs.words.count_of.Goals as goal

pub returns-then-high-ge-WORDS_END : goal.returns-then-high-ge-WORDS_END
returns-then-high-ge-WORDS_END c = count-over c.args.words.now c.loop-word.word-index _ _ (omega arith) c.loop-word.invariant (omega arith)

pub returns : goal.returns
returns c =
    let low = digits-of c.loop-word.low _ (omega (arith, c.loop-word.invariant.below)) c.digits_needed-below.ensures in
    let high = digits-of c.loop-word.high _ (omega arith) c.digits_needed-above.ensures in
    count-is c.args.words.now c.loop-word.word-index c.loop-word.low c.loop-word.high _ (omega arith) c.loop-word.invariant (omega arith) (omega (arith, c.max.ensures, low, high))
