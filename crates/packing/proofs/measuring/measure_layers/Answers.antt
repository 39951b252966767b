-- A layer's numbers are put behind those of the layers before it (`laid-put`), and there is room for those of all.
use Rattle.std.proofs.Common.{◌≡◌, ◌+◌, ◌-◌, ◌≤◌, ◌<◌, ℕ, List, suc, refl, arith, ap, ap₂, ◌∙◌, length, get_or, add-one}
use Rattle.std.proofs.lemmas.List.Edits.{sets, length-between}
use Rattle.sheet.specs.Limits.{layers_most}
use Rattle.sheet.specs.Lists.{tabulate, total}
use Rattle.sheet.specs.Sheet.{layers}
use Rattle.sheet.proofs.Accepting.{count-is}
use Rattle.sheet.proofs.Lists.{length-tabulate}
use Rattle.header.specs.Header.{places_most}
use Rattle.header.specs.Losses.{laid, losses_most}
use Rattle.header.proofs.Laid.{laid-put}
use Rattle.header.proofs.Totals.{total-suc, total-most}
use Rattle.packing.specs.Workings.Words.{measured, measured_at}
use Rattle.packing.proofs.Blocks.{layer-below}
use Rattle.packing.proofs.Runs.{part-sets}
use Rattle.packing.proofs.measuring.measure_layers.Goals as goal

-- one layer more still fits
room : (planes : List ℕ) → ((k : ℕ) → k < layers_most → get_or planes k 0 ≤ places_most) → (k to : ℕ) → k < layers_most → to ≡ total (λ k. get_or planes k 0) k
    → (to + get_or planes k 0 ≡ total (λ k. get_or planes k 0) (k + 1)) × (to + get_or planes k 0 ≤ losses_most)
room planes few k to h e =
    let cs : ℕ → ℕ = λ k. get_or planes k 0 in
    let sum : to + cs k ≡ total cs (k + 1) = rw (add-one k) (omega (arith, e, total-suc cs k)) in
    (sum, omega (arith, sum, total-most cs places_most (k + 1) (λ j l. few j (omega arith))))

pub loop-k-init : goal.loop-k-init
unfolding total laid
loop-k-init c = (refl, refl)

pub offset_bounds-planes-k : goal.offset_bounds-planes-k
offset_bounds-planes-k c =
    omega (arith, layer-below c.args.shape c.requires.shape_value.0 c.layer_count-k-end.ensures c.loop-k-test.true)

pub bounds-planes-k : goal.bounds-planes-k
bounds-planes-k c = (layer-below c.args.shape c.requires.shape_value.0 c.layer_count-k-end.ensures c.loop-k-test.true).1

pub overflow_add-end : goal.overflow_add-end
overflow_add-end c =
    let k = layer-below c.args.shape c.requires.shape_value.0 c.layer_count-k-end.ensures c.loop-k-test.true in
    omega (arith, (room c.args.planes c.requires.by_index.0 _ _ k.1 c.loop-k.invariant.0).1)

pub layer_words-requires : goal.layer_words-requires
layer_words-requires c =
    let k = layer-below c.args.shape c.requires.shape_value.0 c.layer_count-k-end.ensures c.loop-k-test.true in
    (c.requires.shape_value.0, c.requires.shape_value.1, c.requires.shape_value.2, k.0)

pub offset_bounds-table-to : goal.offset_bounds-table-to
offset_bounds-table-to c =
    let k = layer-below c.args.shape c.requires.shape_value.0 c.layer_count-k-end.ensures c.loop-k-test.true in
    omega (arith, (room c.args.planes c.requires.by_index.0 _ _ k.1 c.loop-k.invariant.0).1)

pub slice_bounds-measure_layer-end : goal.slice_bounds-measure_layer-end
slice_bounds-measure_layer-end c =
    let k = layer-below c.args.shape c.requires.shape_value.0 c.layer_count-k-end.ensures c.loop-k-test.true in
    omega (arith, (room c.args.planes c.requires.by_index.0 _ _ k.1 c.loop-k.invariant.0).1, c.loop-k.auto.table, c.requires.shape_value.3)

pub measure_layer-requires : goal.measure_layer-requires
measure_layer-requires c =
    let k = layer-below c.args.shape c.requires.shape_value.0 c.layer_count-k-end.ensures c.loop-k-test.true in
    let fits = (room c.args.planes c.requires.by_index.0 _ _ k.1 c.loop-k.invariant.0).1 in
    let end = c.loop-k.to + get_or c.args.planes c.loop-k.k 0 in (
      rw c.layer_words.ensures (c.requires.by_index.1 c.loop-k.k k.0),
      omega (arith, length-between c.loop-k.table c.loop-k.to end (omega (arith, fits, c.loop-k.auto.table, c.requires.shape_value.3)), c.requires.by_index.0 c.loop-k.k k.1),
    )

pub loop-k-preserved : goal.loop-k-preserved
loop-k-preserved c =
    let k = layer-below c.args.shape c.requires.shape_value.0 c.layer_count-k-end.ensures c.loop-k-test.true in
    let cs : ℕ → ℕ = λ k. get_or c.args.planes k 0 in
    let to = c.loop-k.to in
    let n = cs c.loop-k.k in
    let r = room c.args.planes c.requires.by_index.0 c.loop-k.k to k.1 c.loop-k.invariant.0 in
    let fits : to + n ≤ length c.loop-k.table = omega (arith, r.1, c.loop-k.auto.table, c.requires.shape_value.3) in
    let long = length-between c.loop-k.table to (to + n) fits in
    let is : c.measure_layer.new.table ≡ tabulate n (λ j. measured_at c.args.shape c.args.words.now c.loop-k.k (suc j)) =
    c.measure_layer.ensures ∙ ap₂ (λ (n : ℕ) (ws : List ℕ). tabulate n (λ j. measured ws (suc j))) (omega (arith, long)) c.layer_words.ensures in (
      r.0,
      laid-put cs (measured_at c.args.shape c.args.words.now) c.args.table.now c.loop-k.table _ to c.loop-k.k c.loop-k.invariant.0 c.loop-k.invariant.1
          (part-sets to (to + n - to) c.loop-k.table c.measure_layer.new.table (omega (arith, ap length is, length-tabulate n (λ j. measured_at c.args.shape c.args.words.now c.loop-k.k (suc j)))) (omega arith) ∙ ap (sets c.loop-k.table to) is),
    )

pub returns : goal.returns
returns c =
    let cs : ℕ → ℕ = λ k. get_or c.args.planes k 0 in
    let e : c.loop-k.k ≡ layers c.args.shape = omega (arith, c.layer_count-k-end.ensures, count-is c.args.shape c.requires.shape_value.0) in
    (c.loop-k.invariant.0 ∙ ap (total cs) e, c.loop-k.invariant.1 ∙ ap (λ (k : ℕ). sets c.args.table.now 0 (laid (measured_at c.args.shape c.args.words.now) cs k)) e)
