-- The loop's invariant (`SpreadTo`): the points of the layers before k have the numbers of their words, and the next block begins at `start`.
use mathlib.Core.Path.{◌≡◌, ◌∙◌, sym, ap}
use mathlib.Core.Bool.{true}
use mathlib.Core.List.{List}
use Prim.Native.Nat.{ℕ, ◌+◌, ◌-◌, ◌*◌, ◌<◌, ◌≤◌}
use native.Mathlib.Omega.{arith}
use borrow.Author.Rules.{rules}
use Rattle.sheet.specs.declared.Shape.{Shape}
use Rattle.sheet.specs.Limits.{layers_most}
use Rattle.sheet.specs.Sheet.{accepted, layers}
use Rattle.sheet.proofs.Accepting.{accepted-yes, layers-few, count-is}
use Rattle.header.specs.Header.{cell_points}
use Rattle.header.proofs.Cells.{cells-there}
use Rattle.packing.specs.Workings.Words.{block_start, words_most}
use Rattle.loading.specs.Workings.Words.{spread_over}
use Rattle.packing.proofs.Blocks.{block_none, block-next, layer-room, block_room}
use Rattle.loading.proofs.Spreads.{SpreadTo, spread_none, spread-more, spread-all}
use Rattle.loading.proofs.spreading.spread.Statement.{statement}
use Rattle.loading.proofs.spreading.spread.Tie as tie

abbrev invariant-loop : tie.invariant-loop-k
invariant-loop words shape coefficients₀ table layers start₀ k₀ coefficients start k = (k ≤ layers) × (start ≡ block_start shape k) × SpreadTo shape words k coefficients

abbrev decreases-loop : tie.decreases-loop-k
decreases-loop words shape coefficients₀ table layers start₀ k₀ coefficients start k = layers - k

abbrev L : Type 0
L = tie.At-loop-k invariant-loop decreases-loop

abbrev S : L → tie.Start invariant-loop decreases-loop
S l = l.before.before.before.before

abbrev Sh : L → Shape
Sh l = (S l).args.shape

abbrev Ws : L → List ℕ
Ws l = (S l).args.words.now

yes : (l : L) → accepted (Sh l) ≡ true
yes l = (S l).requires.0

few : (l : L) → layers (Sh l) ≤ layers_most
few l = layers-few (Sh l) (accepted-yes (Sh l) (yes l))

count : (l : L) → l.before.layer_count-layers.result ≡ layers (Sh l)
count l = l.before.layer_count-layers.ensures ∙ count-is (Sh l) (yes l)

below : (i : tie.In-loop-k invariant-loop decreases-loop) → i.before.loop-k.k < layers (Sh i.before)
below i = omega (arith, i.loop-k-test.true, count i.before)

group-values-requires : tie.Need-group_values-table-requires invariant-loop decreases-loop
group-values-requires c κs = search rules

layer-count-requires : tie.Need-layer_count-layers-requires invariant-loop decreases-loop
layer-count-requires c κs = search rules

loop-holds : tie.Need-loop-k-init invariant-loop decreases-loop
loop-holds c =
    let s = c.before.before.before in
    (omega arith, omega (arith, block_none s.args.shape), spread_none s.args.shape s.args.words.now s.args.coefficients.now s.requires.1.0.0)

spread-layer-requires : tie.Need-spread_layer-requires invariant-loop decreases-loop
spread-layer-requires c κs =
    let l = c.before.before.before in
    let h = below c.before.before in
    (l.before.before.group_values-table.ensures, ((yes l, h), ((l.loop-k.invariant.2.long, omega (arith, layer-room (Sh l) (yes l) l.loop-k.k h, l.loop-k.invariant.1, (S l).requires.1.0.1)), (S l).requires.1.1)))

plane-cells-requires : tie.Need-plane_cells-requires invariant-loop decreases-loop
plane-cells-requires c κs = search rules

-- a turn
abbrev C : Type 0
C = tie.After-plane_cells invariant-loop decreases-loop

abbrev In : C → tie.In-loop-k invariant-loop decreases-loop
In c = c.before.before.before.before.before

abbrev Lp : C → L
Lp c = (In c).before

cells : (c : C) → (let l = Lp c in (l.loop-k.start + cell_points * c.plane_cells.result ≡ block_start (Sh l) (l.loop-k.k + 1)) × (l.loop-k.start + cell_points * c.plane_cells.result ≤ words_most))
cells c =
    let l = Lp c in
    let k = l.loop-k.k in
    let h = below (In c) in
    omega (arith, l.loop-k.invariant.1, c.plane_cells.ensures, cells-there (Sh l) (yes l) k h, block-next (Sh l) k, block_room (Sh l) (yes l) k h)

mul-start : tie.Need-overflow_mul-start invariant-loop decreases-loop
mul-start c = omega (arith, (cells c).1)

add_start : tie.Need-overflow_add-start invariant-loop decreases-loop
add_start c = omega (arith, (cells c).1)

add-k : tie.Need-overflow_step-k invariant-loop decreases-loop
add-k c = omega (arith, below (In c), few (Lp c))

loop-less : tie.Need-loop-k-smaller invariant-loop decreases-loop
loop-less c = omega (arith, (In c).loop-k-test.true)

loop-again : tie.Need-loop-k-preserved invariant-loop decreases-loop
loop-again c =
    let l = Lp c in
    let k = l.loop-k.k in
    let h = below (In c) in
    let e = c.before.before.spread_layer.ensures ∙ ap (λ (s : ℕ). spread_over (Sh l) k (Ws l) s l.loop-k.coefficients) l.loop-k.invariant.1 in
    (omega (arith, (In c).loop-k-test.true), (cells c).0, spread-more (Sh l) (Ws l) (yes l) k l.loop-k.coefficients _ h l.loop-k.invariant.2 e)

same_length : tie.Need-shape_of-coefficients invariant-loop decreases-loop
same_length c = c.before.loop-k.invariant.2.long ∙ sym (S c.before).requires.1.0.0

returns : tie.Need-returns invariant-loop decreases-loop
returns c =
    let l = c.before in
    spread-all (Sh l) (Ws l) (yes l) l.loop-k.k l.loop-k.coefficients (omega (arith, c.loop-k-test.false, count l)) l.loop-k.invariant.2

pub spread_spec : {M : Type 1} → statement M
spread_spec =
    tie.close
    (tie.spec
    invariant-loop
    decreases-loop
    group-values-requires
    layer-count-requires
    loop-holds
    spread-layer-requires
    plane-cells-requires
    mul-start
    add_start
    add-k
    loop-less
    loop-again
    same_length
    returns)
