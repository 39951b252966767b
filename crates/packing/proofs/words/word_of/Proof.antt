-- The sum is past 0 and fits, and its last 32 bits are the word: by whether 23 digits hold the coefficient, which they do where the word is below 2 ^ 23.
use mathlib.Core.Path.{◌≡◌, sym, ap, ◌∙◌}
use mathlib.Core.Bool.{true≢false}
use Prim.Native.Nat.{◌+◌, ◌%◌, ◌^◌}
use native.Mathlib.Decide.{dec_lt}
use native.Mathlib.Omega.{arith}
use lib.IntN.{ℤ, nat_abs, pos, ◌+ℤ◌}
use mir.Syntax.{w32}
use mir.Val.{SFits}
use borrow.Author.Rules.{rules}
use Rattle.integers.proofs.Bools.{by}
use Rattle.integers.proofs.Diff.{#, lit, ◌⊞◌}
use Rattle.integers.proofs.Machine.{arg, bits, sfits-by, sfits-at, unsigned_by, unsigned_is}
use Rattle.integers.proofs.Order.{eq-by}
use Rattle.digits.specs.Digits.{holds}
use Rattle.digits.proofs.Range.{range-23, holds-yes, holds_by}
use Rattle.header.specs.Header.{places_most}
use Rattle.packing.specs.Workings.Words.{offset, word_of}
use Rattle.packing.proofs.words.word_of.Statement.{statement}
use Rattle.packing.proofs.words.word_of.Tie as tie

-- the last 32 bits of the sum are the word
word-is : (q : ℤ) → SFits w32 q → nat_abs (q +ℤ pos (2 ^ 32 + offset)) % 2 ^ 32 ≡ word_of q
unfolding word_of
word-is q f =
    let room = sfits-at (# q) f in
    let sum = unsigned_is (# q ⊞ lit (2 ^ 32 + offset)) (omega (arith, room)) in
    by (holds places_most q)
    (λ y.
    let held = holds-yes places_most q y in
    let word = unsigned_is (# q ⊞ lit offset) (omega (arith, held, range-23)) in
    rw y (omega (arith, room, held, range-23)))
    (λ n.
    elim (dec_lt (nat_abs (q +ℤ pos (2 ^ 32 + offset)) % 2 ^ 32) (2 ^ places_most)) [
      | yes l ↦ absurd (true≢false (sym (holds_by places_most q (record { low = omega (arith, room, range-23); high = omega (arith, room, range-23) })) ∙ n))
      | no l ↦ rw n (omega arith)
    ])

cast-result : tie.Need-overflow_cast-result
cast-result c = sfits-by (arg c.ranges.q) (omega (arith, sfits-at (# c.args.q) c.ranges.q))

add-result : tie.Need-overflow_add-result
add-result c = sfits-by (bits (cast-result c) (arg c.ranges.q) ⊞ lit _) (omega (arith, sfits-at (# c.args.q) c.ranges.q))

cast-result-2 : tie.Need-overflow_cast-result-2
cast-result-2 c = unsigned_by (bits (add-result c) (bits (cast-result c) (arg c.ranges.q) ⊞ lit _)) (omega (arith, sfits-at (# c.args.q) c.ranges.q))

rem-result : tie.Need-nonzero_rem-result
rem-result c = search rules

cast-result-3 : tie.Need-overflow_cast-result-3
cast-result-3 c = search rules

returns : tie.Need-returns
returns c =
    ap (λ (z : ℤ). nat_abs z % 2 ^ 32) (eq-by (bits (add-result c) (bits (cast-result c) (arg c.ranges.q) ⊞ lit _)) (# c.args.q ⊞ lit (2 ^ 32 + offset)) (omega arith))
    ∙ word-is c.args.q c.ranges.q

pub word_of_spec : {M : Type 1} → statement M
word_of_spec =
    tie.close (tie.spec cast-result add-result cast-result-2 rem-result cast-result-3 returns)
