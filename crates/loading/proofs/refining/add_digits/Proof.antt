-- The loop's invariant (`Scattered`): the points of the lines passed, which are the first of the layer, have the weight of their digit added. A line more is a run behind them (`scattered-line`), on coefficients that no line before it changed. The shape is not live in the loop: the invariant holds for any whose lines these are.
use mathlib.Core.Path.{◌≡◌, ◌∙◌, sym, ap, ap₂}
use mathlib.Core.Bool.{true}
use mathlib.Core.List.{List}
use Prim.Native.Nat.{ℕ, ◌+◌, ◌-◌, ◌*◌, ◌<◌, ◌≤◌}
use native.Mathlib.Omega.{arith}
use lib.IntN.{ℤ, pos, ◌+ℤ◌, ◌*ℤ◌}
use lib.ListN.{length}
use mir.Facts.{to_z-of_z}
use mir.Syntax.{w32}
use mir.Val.{to_z, of_z}
use borrow.Author.Rules.{rules, sfits_of}
use Rattle.digits.specs.Digits.{weight, holds}
use Rattle.sheet.specs.declared.Shape.{Shape}
use Rattle.sheet.specs.declared.Lines.{Lines}
use Rattle.sheet.specs.Limits.{points_most}
use Rattle.sheet.specs.Lists.{at}
use Rattle.sheet.specs.Sheet.{points, layer_size, point_of, place_in}
use Rattle.sheet.specs.Workings.Lines.{start_in, Lined}
use Rattle.sheet.proofs.Accepting.{accepted-yes}
use Rattle.sheet.proofs.Places.{size-most, point-place}
use Rattle.sheet.proofs.LinePoints.{line-room, line_on}
use Rattle.header.specs.Header.{places_most}
use Rattle.header.proofs.Cells.{size-there}
use Rattle.header.proofs.Total.{plane-room}
use Rattle.loading.specs.Workings.Words.{Scattered}
use Rattle.packing.specs.Planes.{all_held}
use Rattle.loading.specs.InBytes.{bit_at, coefs_plus}
use Rattle.packing.proofs.All.{all-at}
use Rattle.loading.proofs.Weights.{weight-small}
use Rattle.loading.proofs.Scatters.{line-apart, scattered-none, scattered-ahead, scattered-line, scattered-all}
use Rattle.loading.proofs.refining.add_digits.Statement.{statement}
use Rattle.loading.proofs.refining.add_digits.Tie as tie

abbrev invariant-loop : tie.invariant-loop-t
invariant-loop bytes from layer p coefficients₀ l scale t₀ t-end coefficients t =
    (t ≤ t-end)
    × ((sh : Shape) → Lined sh layer l
    → Scattered (point_of sh layer) (t * l.points) (λ i. at coefficients₀ (point_of sh layer i) +ℤ pos (bit_at bytes from i) *ℤ weight p) coefficients₀ coefficients)

abbrev decreases-loop : tie.decreases-loop-t
decreases-loop bytes from layer p coefficients₀ l scale t₀ t-end coefficients t = t-end - t

abbrev L : Type 0
L = tie.At-loop-t invariant-loop decreases-loop

abbrev S : L → tie.Start invariant-loop decreases-loop
S l = l.before.before.before.before.before

abbrev In : Type 0
In = tie.In-loop-t invariant-loop decreases-loop

abbrev Sh : L → Shape
Sh l = (S l).args.shape

abbrev K : L → ℕ
K l = (S l).args.layer

abbrev N : L → Lines
N l = l.before.before.before.layer_lines-l.result

abbrev Qs : L → List ℤ
Qs l = (S l).args.coefficients.now

-- what digit i adds to a coefficient, and what the layer's point i becomes in a sheet of any shape
abbrev With : L → ℤ → ℕ → ℤ
With l q i = q +ℤ pos (bit_at (S l).args.bytes.now (S l).args.from i) *ℤ weight (S l).args.p

abbrev F : L → Shape → ℕ → ℤ
F l sh i = With l (at (Qs l) (point_of sh (K l) i)) i

-- the layer's lines
lines : (l : L) → Lined (Sh l) (K l) (N l)
lines l = l.before.before.before.layer_lines-l.ensures

small : (l : L) → points (Sh l) ≤ points_most
small l = (accepted-yes (Sh l) (S l).requires.0.0).small

room : (i : In) → (let l = i.before in l.loop-t.t * (N l).points + (N l).points ≤ layer_size (Sh l) (K l))
room i = let l = i.before in line-room (lines l) l.loop-t.t i.loop-t-test.true

same : (l : L) → length l.loop-t.coefficients ≡ points (Sh l)
same l = (l.loop-t.invariant.1 (Sh l) (lines l)).same ∙ (S l).requires.1.0

-- a line's coefficients are those at the start, whatever the shape
ahead : (i : In) → (let l = i.before in (sh : Shape) → Lined sh (K l) (N l) → (j : ℕ) → j < (N l).points
    → at l.loop-t.coefficients (start_in (N l) l.loop-t.t + j * (N l).stride) ≡ at (Qs l) (point_of sh (K l) (l.loop-t.t * (N l).points + j)))
ahead i sh d j h =
    let l = i.before in
    let x = l.loop-t.t * (N l).points + j in
    ap (at l.loop-t.coefficients) (sym (d.point l.loop-t.t j i.loop-t-test.true h))
    ∙ scattered-ahead sh (K l) (F l sh) (l.loop-t.invariant.1 sh d) x (omega arith) (omega (arith, line-room d l.loop-t.t i.loop-t-test.true))

-- every coefficient of those that are all held
held_at : (qs : List ℤ) → all_held qs ≡ true → (j : ℕ) → j < length qs → holds places_most (at qs j) ≡ true
unfolding all_held
held_at qs e j h = all-at (λ j. holds places_most (at qs j)) (length qs) e j h

layer-lines-requires : tie.Need-layer_lines-l-requires invariant-loop decreases-loop
layer-lines-requires c κs = search rules

weight-of-requires : tie.Need-weight_of-scale-requires invariant-loop decreases-loop
weight-of-requires c κs = c.before.before.requires.0.2

mul-t-end : tie.Need-overflow_mul-t-end invariant-loop decreases-loop
mul-t-end c = omega (arith, c.before.before.layer_lines-l.ensures.few)

loop-holds : tie.Need-loop-t-init invariant-loop decreases-loop
loop-holds c =
    let z : 0 * c.before.before.layer_lines-l.result.points ≡ 0 = omega arith in
    (omega arith, λ sh d. rw z (scattered-none _ _))

mul-add-line : tie.Need-overflow_mul-t invariant-loop decreases-loop
mul-add-line c = let l = c.before.before in omega (arith, room c.before, size-most (Sh l) (K l), small l)

line-start-requires : tie.Need-line_start-requires invariant-loop decreases-loop
line-start-requires c κs = tt

-- the weight, as the machine hands it on
weight_is : (l : L) → to_z w32 (of_z w32 l.before.before.weight_of-scale.result) ≡ weight (S l).args.p
weight_is l = to_z-of_z (sfits_of {w = w32} l.before.before.weight_of-scale.type_inv) ∙ l.before.before.weight_of-scale.ensures

add-line-requires : tie.Need-add_line-requires invariant-loop decreases-loop
add-line-requires c κs =
    let i = c.before.before.before in
    let l = i.before in
    let ht = i.loop-t-test.true in (
      (omega (arith, room i, (S l).requires.1.2, plane-room (Sh l) (K l)), omega (arith, room i, size-most (Sh l) (K l), same l), rw (weight_is l) (omega (arith, weight-small (S l).args.p (S l).requires.0.2))),
      (
        line-apart (Sh l) (K l) (lines l) l.loop-t.t ht,
        λ j h.
            let on = line_on (lines l) l.loop-t.t ht j h in
            rw c.line_start.ensures (omega (arith, on, same l), rw (ahead i (Sh l) (lines l) j h, (lines l).point l.loop-t.t j ht h) (held_at (Qs l) (S l).requires.1.1 (start_in (N l) l.loop-t.t + j * (N l).stride) (omega (arith, on, (S l).requires.1.0)))),
      ),
    )

-- a turn
abbrev C : Type 0
C = tie.After-coefficients-1 invariant-loop decreases-loop

abbrev Turn : C → In
Turn c = c.before.before.before.before.before

add-t : tie.Need-overflow_step-t invariant-loop decreases-loop
add-t c = omega (arith, (Turn c).loop-t-test.true, (lines (Turn c).before).few)

loop-less : tie.Need-loop-t-smaller invariant-loop decreases-loop
loop-less c = omega (arith, (Turn c).loop-t-test.true)

loop-again : tie.Need-loop-t-preserved invariant-loop decreases-loop
loop-again c =
    let i = Turn c in
    let l = i.before in
    let s = S l in
    let starts = c.before.before.line_start.ensures in (
      omega (arith, i.loop-t-test.true),
      λ sh d.
          scattered-line sh (K l) (F l sh) d l.loop-t.t i.loop-t-test.true starts
          (λ j h. ap₂ (λ (q scale : ℤ). q +ℤ pos (bit_at s.args.bytes.now s.args.from (l.loop-t.t * (N l).points + j)) *ℤ scale) (ap (λ (x : ℕ). at l.loop-t.coefficients (x + j * (N l).stride)) starts ∙ ahead i sh d j h) (weight_is l))
          (l.loop-t.invariant.1 sh d) c.before.add_line.ensures,
    )

same_length : tie.Need-shape_of-coefficients invariant-loop decreases-loop
same_length c = let l = c.before in (l.loop-t.invariant.1 (Sh l) (lines l)).same

returns : tie.Need-returns invariant-loop decreases-loop
unfolding coefs_plus
returns c =
    let l = c.before in
    let sh = Sh l in
    let k = K l in
    let end : l.loop-t.t ≡ (N l).sheets * (N l).lines = omega (arith, c.loop-t-test.false, l.loop-t.invariant.0) in
    let e : l.loop-t.t * (N l).points ≡ layer_size sh k = ap (λ (x : ℕ). x * (N l).points) end ∙ (lines l).size ∙ size-there sh (S l).requires.0.0 k (S l).requires.0.1 in
    scattered-all sh k (F l sh) (λ p. With l (at (Qs l) p) (place_in sh k p)) e (S l).requires.1.0
    (λ p h y. ap (λ (x : ℕ). With l (at (Qs l) x) (place_in sh k p)) (point-place sh k p h y))
    (l.loop-t.invariant.1 sh (lines l))

pub add_digits_spec : {M : Type 1} → statement M
add_digits_spec =
    tie.close
    (tie.spec
    invariant-loop
    decreases-loop
    layer-lines-requires
    weight-of-requires
    mul-t-end
    loop-holds
    mul-add-line
    line-start-requires
    add-line-requires
    add-t
    loop-less
    loop-again
    same_length
    returns)
