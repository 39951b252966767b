-- By the sign: a negative value's magnitude stands behind the minus.
use mathlib.Core.Path.{◌≡◌, ap, ◌∙◌}
use native.Mathlib.Omega.{arith}
use lib.IntN.{nat_abs}
use mir.Facts.{to_z-of_z}
use borrow.Author.Rules.{rules}
use Rattle.integers.proofs.Diff.{lit}
use Rattle.text.specs.Decimal.{decimal}
use Rattle.text.proofs.Signs.{signed_below, signed_above}
use Rattle.header.specs.Header.{ascii_from, ascii}
use Rattle.integers.proofs.Machine.{arg, lt_test, not-lt-test}
use Rattle.display.proofs.Behind.{long, extended-more}
use Rattle.display.proofs.pieces.with_value.Statement.{statement}
use Rattle.display.proofs.pieces.with_value.Tie as tie

with-text-requires : tie.Need-with_text-requires
with-text-requires c κs = search rules

magnitude-requires : tie.Need-magnitude-requires
magnitude-requires c κs = search rules

with-number-requires : tie.Need-with_number-requires
with-number-requires c κs = omega (arith, long c.before.with_text.ensures)

magnitude-requires-2 : tie.Need-magnitude-requires-else-value-lt0
magnitude-requires-2 c κs = search rules

with-number-requires-2 : tie.Need-with_number-requires-else-value-lt0
with-number-requires-2 c κs = search rules

returns : tie.Need-returns-then-value-lt0
unfolding ascii_from
returns c =
    let m = c.before in
    let s = m.before.before.before.before in
    let v = s.args.value in
    let size : m.magnitude.result ≡ nat_abs v = m.magnitude.ensures ∙ ap nat_abs (to_z-of_z s.ranges.value) in
    let text = signed_below v (omega (arith, lt_test (arg s.ranges.value) (lit 0) m.before.before.before.if-value-lt0.true)) in
    rw (text, ← size) (extended-more s.args.piece (ascii "-") (decimal m.magnitude.result) m.before.with_text.ensures c.with_number.ensures)

returns-2 : tie.Need-returns-else-value-lt0
returns-2 c =
    let m = c.before in
    let s = m.before.before in
    let v = s.args.value in
    let size : m.magnitude-else-value-lt0.result ≡ nat_abs v = m.magnitude-else-value-lt0.ensures ∙ ap nat_abs (to_z-of_z s.ranges.value) in
    let text = signed_above v (omega (arith, not-lt-test (arg s.ranges.value) (lit 0) m.before.if-value-lt0.false)) in
    rw (text, ← size) c.with_number-else-value-lt0.ensures

pub with_value_spec : {M : Type 1} → statement M
with_value_spec =
    tie.close (tie.spec with-text-requires magnitude-requires with-number-requires magnitude-requires-2 with-number-requires-2 returns returns-2)
