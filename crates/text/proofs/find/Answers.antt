-- The bytes behind the place are what `drop` leaves, and the byte's index in them, if there is one, is below their length.
use Rattle.std.proofs.Common.{arith, ◌≡◌, drop, Some, None}
use Rattle.std.proofs.lemmas.Grind.{common_steps}
use Rattle.text.proofs.Search.{place_at, first_inside}
use Rattle.text.proofs.find.Goals as goal

pub returns-in_err-i : goal.returns-in_err-i
returns-in_err-i c =
    let rest : c.in_ok-get.field-0.now ≡ drop c.args.from c.args.s.now = grind (arith, common_steps, c.in_ok-get.ensures) in
    rw c.from_residual-in_err-i.ensures (place_at _ _ _ _ None rest c.in_err-i.ensures)

pub overflow_add-result : goal.overflow_add-result
overflow_add-result c = omega (arith, c.in_ok-get.ensures, first_inside c.args.x c.in_ok-get.field-0.now c.in_ok-i.i c.in_ok-i.ensures)

pub returns : goal.returns
returns c =
    let rest : c.in_ok-get.field-0.now ≡ drop c.args.from c.args.s.now = grind (arith, common_steps, c.in_ok-get.ensures) in
    place_at _ _ _ _ (Some c.in_ok-i.i) rest c.in_ok-i.ensures
