-- A layer's count is put behind those of the layers before it (`counted-more`).
use Rattle.std.proofs.Common.{◌∙◌, ap, arith}
use Rattle.sheet.proofs.Accepting.{count-is}
use Rattle.packing.specs.Workings.Words.{count_of}
use Rattle.packing.proofs.Blocks.{layer-below}
use Rattle.packing.proofs.Counting.{counted_none, counted-more, counted-all}
use Rattle.packing.proofs.words.counts.Goals as goal

pub loop-k-init : goal.loop-k-init
loop-k-init c = counted_none c.args.shape c.args.words.now

pub layer_words-requires : goal.layer_words-requires
layer_words-requires c =
    let k = layer-below c.args.shape c.requires.0 c.layer_count-k-end.ensures c.loop-k-test.true in
    (c.requires.0, c.requires.1, c.requires.2, k.0)

pub offset_bounds-planes-k : goal.offset_bounds-planes-k
offset_bounds-planes-k c = omega (arith, layer-below c.args.shape c.requires.0 c.layer_count-k-end.ensures c.loop-k-test.true)

pub bounds-planes-k : goal.bounds-planes-k
bounds-planes-k c = omega (arith, layer-below c.args.shape c.requires.0 c.layer_count-k-end.ensures c.loop-k-test.true, c.loop-k.invariant.long)

pub loop-k-preserved : goal.loop-k-preserved
loop-k-preserved c =
    let k = layer-below c.args.shape c.requires.0 c.layer_count-k-end.ensures c.loop-k-test.true in
    counted-more c.args.shape c.args.words.now c.loop-k.k _ c.loop-k.planes k.0 k.1 (c.count_of.ensures ∙ ap count_of c.layer_words.ensures) c.loop-k.invariant

pub returns : goal.returns
returns c =
    counted-all c.args.shape c.args.words.now c.loop-k.k c.loop-k.planes (omega (arith, c.layer_count-k-end.ensures, count-is c.args.shape c.requires.0)) c.loop-k.invariant
