-- By the sign: the digits stand before the place, and the minus sign straight before them.
use mathlib.Core.Path.{◌≡◌, ap, ◌∙◌}
use native.Mathlib.Omega.{arith}
use Prim.Native.Nat.{◌-◌, ◌<◌, ◌≤◌}
use lib.IntN.{nat_abs}
use lib.ListN.{length}
use lib.Seq.{sets}
use mir.Facts.{to_z-of_z}
use borrow.Author.Rules.{rules}
use Rattle.integers.specs.Distance.{up, down}
use Rattle.integers.proofs.Diff.{lit}
use Rattle.integers.proofs.Machine.{arg, lt_test, not-lt-test}
use Rattle.text.specs.Decimal.{decimal}
use Rattle.roll.proofs.Values.{value-above, sign-room, value-below, digits-fit}
use Rattle.roll.proofs.printing.put_value.Statement.{statement}
use Rattle.roll.proofs.printing.put_value.Tie as tie

abbrev S : tie.After-put_pairs-first → tie.Start
S p = p.before.before.before.before

size : (m : tie.After-magnitude) → m.magnitude.result ≡ nat_abs m.before.before.before.args.value
size m = m.magnitude.ensures ∙ ap nat_abs (to_z-of_z m.before.before.before.ranges.value)

-- the digits
put : (p : tie.After-put_pairs-first) → let s = S p in
    (p.put_pairs-first.result ≡ s.args.end - length (decimal (nat_abs s.args.value)))
    × (p.put_pairs-first.new.page ≡ sets s.args.page.now (s.args.end - length (decimal (nat_abs s.args.value))) (decimal (nat_abs s.args.value)))
put p = rw (← size p.before) p.put_pairs-first.ensures

magnitude-requires : tie.Need-magnitude-requires
magnitude-requires c κs = search rules

put-pairs-requires : tie.Need-put_pairs-first-requires
put-pairs-requires m κs =
    let s = m.before.before.before in
    (rw (size m) (omega (arith, s.requires.0, digits-fit s.args.value)), s.requires.1, s.requires.2)

negative : (c : tie.Then-value-lt0) → let v = (S c.before.before.before).args.value in up v < down v
negative c = let s = S c.before.before.before in omega (arith, lt_test (arg s.ranges.value) (lit 0) c.if-value-lt0.true)

room-for-sign : (c : tie.Then-value-lt0) → let p = c.before.before.before in (1 ≤ p.put_pairs-first.result) × (p.put_pairs-first.result - 1 < length p.put_pairs-first.new.page)
room-for-sign c =
    let p = c.before.before.before in
    let s = S p in
    sign-room s.args.page.now s.args.end s.args.value s.requires.0 s.requires.1 (put p).0 (put p).1 (negative c)

sub-page : tie.Need-overflow_sub-page
sub-page c = (room-for-sign c).0

slice-write-page : tie.Need-bounds-page-first
slice-write-page c = (room-for-sign c).1

same_length : tie.Need-shape_of-page-then-value-lt0
same_length c = search rules

returns : tie.Need-returns-then-value-lt0
returns c =
    let p = c.before.before.before in
    let s = S p in
    value-below s.args.page.now s.args.end s.args.value s.requires.0 s.requires.1 (put p).0 (put p).1 (negative c)

same-length-2 : tie.Need-shape_of-page-else-value-lt0
same-length-2 c = search rules

returns-2 : tie.Need-returns-else-value-lt0
returns-2 c =
    let p = c.before.before.before in
    let s = S p in
    value-above s.args.page.now s.args.end s.args.value s.requires.0 s.requires.1 (put p).0 (put p).1 (omega (arith, not-lt-test (arg s.ranges.value) (lit 0) c.if-value-lt0.false))

pub put_value_spec : {M : Type 1} → statement M
put_value_spec =
    tie.close (tie.spec magnitude-requires put-pairs-requires sub-page slice-write-page same_length returns same-length-2 returns-2)
