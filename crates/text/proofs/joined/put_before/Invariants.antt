-- What is left of the number, put before the place reached, gives what the whole number gives before the end.
use Rattle.std.proofs.Common.{◌≡◌, ◌≤◌, ◌-◌, length}
use Rattle.std.proofs.lemmas.List.Edits.{sets}
use Rattle.text.specs.Decimal.{decimal}
use Rattle.text.proofs.joined.put_before.Given as goal

abbrev pub invariant-loop-rest : goal.invariant-loop-rest
invariant-loop-rest l = record {
  inside : l.place ≤ l.end;
  room : length (decimal l.rest) ≤ l.place;
  stands : sets l.fn.out (l.end - length (decimal l.n)) (decimal l.n) ≡ sets l.out (l.place - length (decimal l.rest)) (decimal l.rest);
}

abbrev pub decreases-loop-rest : goal.decreases-loop-rest
decreases-loop-rest l = l.rest
