-- The loop's invariant (`Scattered`): the points of the lines passed, which are the first of the layer, have the numbers of their words. A line more is a run behind them (`scattered-line`). The shape is not live in the loop: the invariant holds for any whose lines these are.
use mathlib.Core.Path.{◌≡◌, ◌∙◌, refl, ap}
use Prim.Native.Nat.{ℕ, ◌+◌, ◌-◌, ◌*◌, ◌≤◌}
use native.Mathlib.Omega.{arith}
use lib.IntN.{ℤ}
use lib.ListN.{length, get_or}
use borrow.Author.Rules.{rules}
use Rattle.digits.specs.Digits.{value}
use Rattle.digits.specs.Groups.{bits_of}
use Rattle.sheet.specs.declared.Shape.{Shape}
use Rattle.sheet.specs.declared.Lines.{Lines}
use Rattle.sheet.specs.Sheet.{points, layer_size, point_of, place_in}
use Rattle.sheet.specs.Workings.Lines.{Lined}
use Rattle.sheet.proofs.LinePoints.{line-room, line_on}
use Rattle.header.proofs.Cells.{size-there}
use Rattle.loading.specs.Workings.Words.{Scattered, spread_over}
use Rattle.loading.proofs.Scatters.{line-apart, scattered-none, scattered-line, scattered-all}
use Rattle.loading.proofs.spreading.spread_layer.Statement.{statement}
use Rattle.loading.proofs.spreading.spread_layer.Tie as tie

abbrev invariant-loop : tie.invariant-loop-t
invariant-loop table words start layer coefficients₀ l t₀ t-end coefficients t =
    (t ≤ t-end)
    × ((sh : Shape) → Lined sh layer l → Scattered (point_of sh layer) (t * l.points) (λ i. value (bits_of 32 (get_or words (start + i) 0))) coefficients₀ coefficients)

abbrev decreases-loop : tie.decreases-loop-t
decreases-loop table words start layer coefficients₀ l t₀ t-end coefficients t = t-end - t

abbrev L : Type 0
L = tie.At-loop-t invariant-loop decreases-loop

abbrev S : L → tie.Start invariant-loop decreases-loop
S l = l.before.before.before.before

abbrev In : Type 0
In = tie.In-loop-t invariant-loop decreases-loop

abbrev Sh : L → Shape
Sh l = (S l).args.shape

abbrev N : L → Lines
N l = l.before.before.layer_lines-l.result

-- the number of word i
abbrev F : L → ℕ → ℤ
F l i = value (bits_of 32 (get_or (S l).args.words.now ((S l).args.start + i) 0))

-- the layer's lines
lines : (l : L) → Lined (Sh l) (S l).args.layer (N l)
lines l = l.before.before.layer_lines-l.ensures

room : (i : In) → (let l = i.before in (S l).args.start + (l.loop-t.t * (N l).points + (N l).points) ≤ length (S l).args.words.now)
room i =
    let l = i.before in
    omega (arith, line-room (lines l) l.loop-t.t i.loop-t-test.true, (S l).requires.1.1.0.1)

same : (l : L) → length l.loop-t.coefficients ≡ points (Sh l)
same l = (l.loop-t.invariant.1 (Sh l) (lines l)).same ∙ (S l).requires.1.1.0.0

layer-lines-requires : tie.Need-layer_lines-l-requires invariant-loop decreases-loop
layer-lines-requires c κs = search rules

mul-t-end : tie.Need-overflow_mul-t-end invariant-loop decreases-loop
mul-t-end c = omega (arith, c.before.layer_lines-l.ensures.few)

loop-holds : tie.Need-loop-t-init invariant-loop decreases-loop
loop-holds c =
    let z : 0 * c.before.layer_lines-l.result.points ≡ 0 = omega arith in
    (omega arith, λ sh d. rw z (scattered-none _ _))

mul-spread-line : tie.Need-overflow_mul-t invariant-loop decreases-loop
mul-spread-line c = omega (arith, room c.before, (S c.before.before).well_formed)

add-spread-line : tie.Need-overflow_add-start invariant-loop decreases-loop
add-spread-line c = omega (arith, room c.before, (S c.before.before).well_formed)

line-start-requires : tie.Need-line_start-requires invariant-loop decreases-loop
line-start-requires c κs = tt

spread-line-requires : tie.Need-spread_line-requires invariant-loop decreases-loop
spread-line-requires c κs =
    let i = c.before.before.before in
    let l = i.before in
    let ht = i.loop-t-test.true in
    (((S l).requires.0, omega (arith, room i), (S l).requires.1.1.1), (line-apart (Sh l) (S l).args.layer (lines l) l.loop-t.t ht, λ j h. rw (same l, c.line_start.ensures) (line_on (lines l) l.loop-t.t ht j h)))

-- a turn
abbrev C : Type 0
C = tie.After-coefficients-1 invariant-loop decreases-loop

abbrev Turn : C → In
Turn c = c.before.before.before.before.before

add-t : tie.Need-overflow_step-t invariant-loop decreases-loop
add-t c = omega (arith, (Turn c).loop-t-test.true, (lines (Turn c).before).few)

loop-less : tie.Need-loop-t-smaller invariant-loop decreases-loop
loop-less c = omega (arith, (Turn c).loop-t-test.true)

loop-again : tie.Need-loop-t-preserved invariant-loop decreases-loop
loop-again c =
    let i = Turn c in
    let l = i.before in
    let s = S l in
    let at : (j : ℕ) → s.args.start + l.loop-t.t * (N l).points + j ≡ s.args.start + (l.loop-t.t * (N l).points + j) = λ j. omega arith in (
      omega (arith, i.loop-t-test.true),
      λ sh d.
          scattered-line sh s.args.layer (F l) d l.loop-t.t i.loop-t-test.true c.before.before.line_start.ensures
          (λ j h. ap (λ (x : ℕ). value (bits_of 32 (get_or s.args.words.now x 0))) (at j))
          (l.loop-t.invariant.1 sh d) c.before.spread_line.ensures,
    )

same_length : tie.Need-shape_of-coefficients invariant-loop decreases-loop
same_length c = let l = c.before in (l.loop-t.invariant.1 (Sh l) (lines l)).same

returns : tie.Need-returns invariant-loop decreases-loop
unfolding spread_over
returns c =
    let l = c.before in
    let sh = Sh l in
    let k = (S l).args.layer in
    let end : l.loop-t.t ≡ (N l).sheets * (N l).lines = omega (arith, c.loop-t-test.false, l.loop-t.invariant.0) in
    let e : l.loop-t.t * (N l).points ≡ layer_size sh k = ap (λ (x : ℕ). x * (N l).points) end ∙ (lines l).size ∙ size-there sh (S l).requires.1.0.0 k (S l).requires.1.0.1 in
    scattered-all sh k (F l) (λ p. F l (place_in sh k p)) e (S l).requires.1.1.0.0 (λ p h y. refl) (l.loop-t.invariant.1 sh (lines l))

pub spread_layer_spec : {M : Type 1} → statement M
spread_layer_spec =
    tie.close
    (tie.spec
    invariant-loop
    decreases-loop
    layer-lines-requires
    mul-t-end
    loop-holds
    mul-spread-line
    add-spread-line
    line-start-requires
    spread-line-requires
    add-t
    loop-less
    loop-again
    same_length
    returns)
