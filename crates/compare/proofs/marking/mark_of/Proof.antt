-- Values and bound are small, so every sum is that of the integers and fits; the two sums tell the mark.
use Prim.Native.Nat.{ℕ}
use native.Mathlib.Omega.{arith}
use borrow.Author.Rules.{rules}
use lib.IntN.{ℤ, pos, ◌+ℤ◌, ◌-ℤ◌}
use mir.Syntax.{w64}
use mir.Val.{SFits, to_z, of_z}
use Rattle.integers.proofs.Diff.{Diff, ◌⊞◌, ◌⊖◌}
use Rattle.integers.proofs.Machine.{arg, bits, cast, sfits-by, unsigned_by, unsigned_is}
use Rattle.compare.proofs.Sums.{two-sums}
use Rattle.compare.proofs.marking.mark_of.Statement.{statement}
use Rattle.compare.proofs.marking.mark_of.Tie as tie

add-room : tie.Need-overflow_add-room
add-room s = search rules

cast-room : tie.Need-overflow_cast-room
cast-room s = search rules

sub-far : tie.Need-overflow_sub-far
sub-far s = sfits-by (arg s.ranges.value1 ⊖ arg s.ranges.value2) (omega (arith, s.requires.1.size, s.requires.2.size))

sub-result : tie.Need-overflow_sub-result
sub-result s = sfits-by (cast (cast-room s) ⊖ bits (sub-far s) (arg s.ranges.value1 ⊖ arg s.ranges.value2)) (omega (arith, s.requires.1.size, s.requires.2.size))

add-result : tie.Need-overflow_add-result
add-result s = sfits-by (cast (cast-room s) ⊞ bits (sub-far s) (arg s.ranges.value1 ⊖ arg s.ranges.value2)) (omega (arith, s.requires.1.size, s.requires.2.size))

-- what the machine reads of a sum that fits
module _ {k : ℕ} (room : SFits w64 (pos k)) (s : tie.Start) where
  abbrev far : ℤ
  far = to_z w64 (of_z w64 (to_z w64 (of_z w64 s.args.value1) -ℤ to_z w64 (of_z w64 s.args.value2)))

  abbrev less : SFits w64 (to_z w64 k -ℤ far) → Diff (to_z w64 (of_z w64 (to_z w64 k -ℤ far)))
  less f = bits f (cast room ⊖ bits (sub-far s) (arg s.ranges.value1 ⊖ arg s.ranges.value2))

  abbrev more : SFits w64 (to_z w64 k +ℤ far) → Diff (to_z w64 (of_z w64 (to_z w64 k +ℤ far)))
  more f = bits f (cast room ⊞ bits (sub-far s) (arg s.ranges.value1 ⊖ arg s.ranges.value2))

cast-result : tie.Need-overflow_cast-result
cast-result s = unsigned_by (less (cast-room s) s (sub-result s)) (omega (arith, s.requires.1.size, s.requires.2.size))

cast-result-2 : tie.Need-overflow_cast-result-2
cast-result-2 s = unsigned_by (more (cast-room s) s (add-result s)) (omega (arith, s.requires.1.size, s.requires.2.size))

sub-result-2 : tie.Need-overflow_sub-result-2
sub-result-2 s = omega (arith, unsigned_is (less (cast-room s) s (sub-result s)) (omega (arith, s.requires.1.size, s.requires.2.size)), s.requires.1.size, s.requires.2.size)

sub-result-3 : tie.Need-overflow_sub-result-3
sub-result-3 s =
    omega (
      arith,
      unsigned_is (less (cast-room s) s (sub-result s)) (omega (arith, s.requires.1.size, s.requires.2.size)),
      unsigned_is (more (cast-room s) s (add-result s)) (omega (arith, s.requires.1.size, s.requires.2.size)),
      s.requires.1.size,
      s.requires.2.size,
    )

returns : tie.Need-returns
returns s =
    two-sums s.args.value1 s.args.value2 s.args.most _ _ s.requires.1 s.requires.2 (omega arith)
    (omega (arith, unsigned_is (less (cast-room s) s (sub-result s)) (omega (arith, s.requires.1.size, s.requires.2.size))))
    (omega (arith, unsigned_is (more (cast-room s) s (add-result s)) (omega (arith, s.requires.1.size, s.requires.2.size))))

pub mark_of_spec : {M : Type 1} → statement M
mark_of_spec =
    tie.close (tie.spec add-room cast-room sub-far sub-result cast-result sub-result-2 add-result cast-result-2 sub-result-3 returns)
