-- The words have the numbers passed added.
use Rattle.std.proofs.Common.{◌≡◌, ◌+◌, ◌*◌, get_or}
use Rattle.loading.specs.Workings.Words.{words_with}
use Rattle.loading.proofs.adding.add_half.Given as goal

abbrev pub invariant-loop-j : goal.invariant-loop-j
invariant-loop-j l = l.words ≡ words_with l.initial.words l.first l.j 0 (λ i. get_or l.table (4 * l.half + i) 0)
