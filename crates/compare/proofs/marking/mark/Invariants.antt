-- The points before p have their marks, and the number so far counts them.
use Rattle.std.proofs.Common.{◌≡◌, ℕ, ◌<◌, cond, get_or}
use Rattle.sheet.specs.Lists.{count}
use Rattle.compare.specs.Workings.{apart_by}
use Rattle.compare.proofs.marking.mark.Given as goal

abbrev pub invariant-loop-p : goal.invariant-loop-p
invariant-loop-p l = record {
  marked : (q : ℕ) → q < l.p → get_or l.apart q 0 ≡ cond (apart_by l.figure1 l.values1 l.figure2 l.values2 q) 1 0;
  counted : l.number ≡ count (apart_by l.figure1 l.values1 l.figure2 l.values2) l.p;
}
