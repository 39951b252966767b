-- A layer's words are put in its block, which has room (`gathered-more`).
use Rattle.std.proofs.Common.{◌≡◌, ◌+◌, ◌-◌, length, get_or, arith, ap, ap₂, ◌∙◌}
use Rattle.std.proofs.lemmas.List.Edits.{sets, length-between}
use Rattle.sheet.specs.Lists.{at, tabulate}
use Rattle.sheet.specs.Sheet.{layer_size, point_of}
use Rattle.sheet.proofs.Lists.{length-tabulate}
use Rattle.header.proofs.Cells.{size-there}
use Rattle.packing.specs.Workings.Words.{word_of, block_start}
use Rattle.sheet.proofs.Accepting.{count-is}
use Rattle.packing.proofs.Blocks.{layer-below, layer-room}
use Rattle.packing.proofs.Gathers.{gathered_none, gathered-more, gathered-all}
use Rattle.packing.proofs.Runs.{part-sets}
use Rattle.packing.proofs.words.gather.Goals as goal

pub loop-k-init : goal.loop-k-init
loop-k-init c = gathered_none c.args.shape c.args.coefficients.now c.args.words.now c.requires.words_value

pub offset_bounds-starts-k : goal.offset_bounds-starts-k
offset_bounds-starts-k c = omega (arith, layer-below c.args.shape c.requires.shape_value.0 c.layer_count-k-end.ensures c.loop-k-test.true)

pub bounds-starts-k : goal.bounds-starts-k
bounds-starts-k c = omega (arith, layer-below c.args.shape c.requires.shape_value.0 c.layer_count-k-end.ensures c.loop-k-test.true)

pub overflow_add-end : goal.overflow_add-end
overflow_add-end c =
    let sh = c.args.shape in
    let ok = c.requires.shape_value.0 in
    let k = layer-below sh ok c.layer_count-k-end.ensures c.loop-k-test.true in
    omega (arith, c.requires.shape_value.1.at c.loop-k.k (omega (arith, k.0)), c.layer_size.ensures, size-there sh ok _ k.0, layer-room sh ok _ k.0)

pub offset_bounds-words-start : goal.offset_bounds-words-start
offset_bounds-words-start c =
    let sh = c.args.shape in
    let ok = c.requires.shape_value.0 in
    let k = layer-below sh ok c.layer_count-k-end.ensures c.loop-k-test.true in
    omega (arith, c.requires.shape_value.1.at c.loop-k.k (omega (arith, k.0)), layer-room sh ok _ k.0)

pub slice_bounds-gather_layer-end : goal.slice_bounds-gather_layer-end
slice_bounds-gather_layer-end c =
    let sh = c.args.shape in
    let ok = c.requires.shape_value.0 in
    let k = layer-below sh ok c.layer_count-k-end.ensures c.loop-k-test.true in
    omega (arith, c.requires.shape_value.1.at c.loop-k.k (omega (arith, k.0)), c.layer_size.ensures, size-there sh ok _ k.0, layer-room sh ok _ k.0, c.loop-k.invariant.long)

pub gather_layer-requires : goal.gather_layer-requires
gather_layer-requires c =
    let sh = c.args.shape in
    let ok = c.requires.shape_value.0 in
    let k = layer-below sh ok c.layer_count-k-end.ensures c.loop-k-test.true in
    let start = get_or c.args.starts c.loop-k.k 0 in
    let s = c.requires.shape_value.1.at c.loop-k.k (omega (arith, k.0)) in
    let n = c.layer_size.ensures ∙ size-there sh ok _ k.0 in
    record {
      shape_value = (ok, k.0);
      coefficients_len = (c.requires.shape_value.2, length-between c.loop-k.words start (start + c.layer_size.result) (omega (arith, s, n, layer-room sh ok _ k.0, c.loop-k.invariant.long)) ∙ omega (arith, n));
    }

pub loop-k-preserved : goal.loop-k-preserved
loop-k-preserved c =
    let sh = c.args.shape in
    let ok = c.requires.shape_value.0 in
    let k = layer-below sh ok c.layer_count-k-end.ensures c.loop-k-test.true in
    let start = get_or c.args.starts c.loop-k.k 0 in
    let s : start ≡ block_start sh c.loop-k.k = c.requires.shape_value.1.at c.loop-k.k (omega (arith, k.0)) in
    let n = c.layer_size.ensures ∙ size-there sh ok _ k.0 in
    let own = tabulate (layer_size sh c.loop-k.k) (λ i. word_of (at c.args.coefficients.now (point_of sh c.loop-k.k i))) in
    let is : c.gather_layer.new.words ≡ own = c.gather_layer.ensures in
    gathered-more sh c.args.coefficients.now ok c.loop-k.k c.loop-k.words _ k.0 c.loop-k.invariant
    (part-sets start (start + c.layer_size.result - start) c.loop-k.words c.gather_layer.new.words
    (omega (arith, ap length is, length-tabulate (layer_size sh c.loop-k.k) (λ i. word_of (at c.args.coefficients.now (point_of sh c.loop-k.k i))), n))
    (omega (arith, s, n, layer-room sh ok _ k.0, c.loop-k.invariant.long))
    ∙ ap₂ (sets c.loop-k.words) s is)

pub returns : goal.returns
returns c = gathered-all c.args.shape c.args.coefficients.now c.loop-k.k c.loop-k.words (omega (arith, c.layer_count-k-end.ensures, count-is c.args.shape c.requires.shape_value.0)) c.loop-k.invariant
