-- The text so far stands at the place, and its end is where the next number goes.
use Rattle.text.proofs.Coded.{so_far}
use Rattle.text.proofs.Stores.{Put}
use Rattle.text.proofs.joined.put_list.Given as goal

abbrev pub invariant-loop-n : goal.invariant-loop-n
invariant-loop-n l = Put l.fn.out l.fn.at (so_far l.numbers l.n-index) l.out l.end
