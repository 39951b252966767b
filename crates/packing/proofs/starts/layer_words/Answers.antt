-- A layer's block begins at `start`, and its points have room in it (`layer-room`).
use Rattle.std.proofs.Common.{ℕ, ◌+◌, arith, ap₂, ◌∙◌}
use Rattle.std.specs.List.{between}
use Rattle.sheet.proofs.Accepting.{accepted-yes, layers-few}
use Rattle.header.proofs.Cells.{size-there}
use Rattle.packing.proofs.Blocks.{layer-room}
use Rattle.packing.proofs.starts.layer_words.Goals as goal

pub offset_bounds-starts-k : goal.offset_bounds-starts-k
offset_bounds-starts-k c = omega (arith, layers-few c.args.shape (accepted-yes c.args.shape c.requires.0))

pub bounds-starts-k : goal.bounds-starts-k
bounds-starts-k c = omega (arith, layers-few c.args.shape (accepted-yes c.args.shape c.requires.0))

pub overflow_add-result : goal.overflow_add-result
overflow_add-result c =
    let s = c.requires.1.at c.args.k (omega arith) in
    let n = c.layer_size.ensures ∙ size-there c.args.shape c.requires.0 c.args.k c.requires.3 in
    omega (arith, s, n, layer-room c.args.shape c.requires.0 c.args.k c.requires.3)

pub offset_bounds-words-start : goal.offset_bounds-words-start
offset_bounds-words-start c =
    let s = c.requires.1.at c.args.k (omega arith) in
    omega (arith, s, layer-room c.args.shape c.requires.0 c.args.k c.requires.3)

pub slice_bounds-result-end : goal.slice_bounds-result-end
slice_bounds-result-end c =
    let s = c.requires.1.at c.args.k (omega arith) in
    let n = c.layer_size.ensures ∙ size-there c.args.shape c.requires.0 c.args.k c.requires.3 in
    omega (arith, s, n, layer-room c.args.shape c.requires.0 c.args.k c.requires.3)

pub returns : goal.returns
returns c =
    let s = c.requires.1.at c.args.k (omega arith) in
    let n = c.layer_size.ensures ∙ size-there c.args.shape c.requires.0 c.args.k c.requires.3 in
    ap₂ (λ (a n : ℕ). between a (a + n) c.args.words.now) s n
