-- What the text spells is the numbers read so far in front of what is left of it spells by the limits that are left.
use Rattle.std.proofs.Common.{◌≡◌, ◌≤◌, length, take}
use Rattle.text.specs.Joined.{numbers_in}
use Rattle.text.proofs.Sofar.{prepend, ahead}
use Rattle.text.proofs.joined.read_each.Given as goal

abbrev pub invariant-loop-n : goal.invariant-loop-n
invariant-loop-n l = record {
  inside : length l.rest ≤ length l.s;
  spelt : numbers_in l.fn.numbers l.s ≡ prepend (take l.n-index l.front) (numbers_in (ahead l.front l.last l.n-index) l.rest);
}
