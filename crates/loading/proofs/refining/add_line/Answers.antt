-- A turn adds one weight more, to a coefficient that no turn before it changed; a coefficient of 23 digits and a weight fit an i32.
use Rattle.std.proofs.Common.{◌≡◌, ℕ, ℤ, pos, ◌+ℤ◌, ◌*ℤ◌, ◌+◌, ◌*◌, ◌^◌, ◌<◌, ◌≤◌, sym, subst, ap, ap₂, ◌∙◌, arith}
use mir.Facts.{to_z-of_z, to_z_pos}
use mir.Syntax.{w32}
use mir.Val.{SFits, to_z, of_z}
use Rattle.integers.specs.Distance.{Within}
use Rattle.integers.proofs.Diff.{#, lit, via, ◌⊞◌}
use Rattle.integers.proofs.Machine.{bits, sfits-by}
use Rattle.digits.proofs.Range.{Holds, holds-yes, range-23}
use Rattle.sheet.specs.Lists.{at}
use Rattle.header.specs.Header.{places_most}
use Rattle.loading.specs.InBytes.{bit_at}
use Rattle.loading.proofs.ZeroBits.{bit-most}
use Rattle.loading.proofs.Weights.{digit-small}
use Rattle.loading.proofs.Scatters.{scattered-more, line-new}
use Rattle.loading.proofs.refining.add_line.Goals as goal

-- ---- the digit d of weight `scale`, added to the coefficient q
module _ (q : ℤ) (d : ℕ) (scale : ℤ) (held : Holds places_most q) (few : d ≤ 1) (near : Within (2 ^ places_most) scale) (range : SFits w32 scale) where
  abbrev part : ℤ
  part = pos d *ℤ scale

  small : Within (2 ^ places_most) part
  small = digit-small (2 ^ places_most) d scale few near

  digit-fits : SFits w32 (pos d)
  digit-fits = sfits-by (lit d) (omega (arith, few))

  part-is : to_z w32 d *ℤ to_z w32 (of_z w32 scale) ≡ part
  part-is = ap₂ (λ (x y : ℤ). x *ℤ y) (to_z_pos w32 digit-fits.sfits) (to_z-of_z range)

  part-fits : SFits w32 (to_z w32 d *ℤ to_z w32 (of_z w32 scale))
  part-fits = sfits-by (via part-is (# part)) (omega (arith, small))

  old-fits : SFits w32 q
  old-fits = sfits-by (# q) (omega (arith, held, range-23))

  sum-fits : SFits w32 (to_z w32 (of_z w32 q) +ℤ to_z w32 (of_z w32 (to_z w32 d *ℤ to_z w32 (of_z w32 scale))))
  sum-fits = sfits-by (bits old-fits (# q) ⊞ bits part-fits (via part-is (# part))) (omega (arith, small, held, range-23))

  sum-is : to_z w32 (of_z w32 (to_z w32 (of_z w32 q) +ℤ to_z w32 (of_z w32 (to_z w32 d *ℤ to_z w32 (of_z w32 scale))))) ≡ q +ℤ part
  sum-is = to_z-of_z sum-fits ∙ ap₂ (λ (x y : ℤ). x +ℤ y) (to_z-of_z old-fits) (to_z-of_z part-fits ∙ part-is)

pub overflow_add-coefficients : goal.overflow_add-coefficients
overflow_add-coefficients c =
    let j = c.loop-j.j in
    let place = c.args.first + j * c.args.stride in
    let new : (x : ℕ) → x < j → c.args.first + x * c.args.stride ≡ place → ⊥ = λ x h. line-new c.args.first c.args.stride (c.requires.stride_nonzero.0 (omega arith)) x j h in
    let old = c.loop-j.invariant.kept place new in
    let held = subst (Holds places_most) (sym old) (holds-yes places_most (at c.args.coefficients.now place) (c.requires.stride_nonzero.1 j c.loop-j-test.true).1) in
    let few : c.bit_at-d.result ≤ 1 = omega (arith, c.bit_at-d.ensures, bit-most c.args.bytes.now c.args.from (c.args.i + j)) in
    sum-fits (at c.loop-j.coefficients place) c.bit_at-d.result c.args.scale held few c.requires.n_in_bounds.2 c.ranges.scale

pub loop-j-preserved : goal.loop-j-preserved
loop-j-preserved c =
    let j = c.loop-j.j in
    let place = c.args.first + j * c.args.stride in
    let new : (x : ℕ) → x < j → c.args.first + x * c.args.stride ≡ place → ⊥ = λ x h. line-new c.args.first c.args.stride (c.requires.stride_nonzero.0 (omega arith)) x j h in
    let old = c.loop-j.invariant.kept place new in
    let held = subst (Holds places_most) (sym old) (holds-yes places_most (at c.args.coefficients.now place) (c.requires.stride_nonzero.1 j c.loop-j-test.true).1) in
    let few : c.bit_at-d.result ≤ 1 = omega (arith, c.bit_at-d.ensures, bit-most c.args.bytes.now c.args.from (c.args.i + j)) in
    let read : to_z w32 (of_z w32 c.args.scale) ≡ c.args.scale = to_z-of_z c.ranges.scale in
    scattered-more (λ x. c.args.first + x * c.args.stride) (λ x. at c.args.coefficients.now (c.args.first + x * c.args.stride) +ℤ pos (bit_at c.args.bytes.now c.args.from (c.args.i + x)) *ℤ to_z w32 (of_z w32 c.args.scale)) _
    new
    (c.requires.stride_nonzero.1 j c.loop-j-test.true).0
    (sum-is (at c.loop-j.coefficients place) c.bit_at-d.result c.args.scale held few c.requires.n_in_bounds.2 c.ranges.scale
    ∙ ap₂ (λ (x : ℤ) (y : ℕ). x +ℤ pos y *ℤ c.args.scale) old c.bit_at-d.ensures
    ∙ ap (λ (z : ℤ). at c.args.coefficients.now place +ℤ pos (bit_at c.args.bytes.now c.args.from (c.args.i + j)) *ℤ z) (sym read))
    c.loop-j.invariant
