-- The limits end in zeros, so the counts that are read in front of them stand as a header keeps them.
use Rattle.std.proofs.Common.{List, ℕ, true, ◌≡◌, ◌≤◌, ap, arith, length, length-take, sym, ◌∙◌}
use Rattle.std.proofs.lemmas.Result.{err_from_is_err_and}
use Rattle.sheet.specs.declared.Shape.{Shape}
use Rattle.sheet.specs.Limits.{layers_most}
use Rattle.sheet.specs.Lists.{tabulate}
use Rattle.sheet.specs.Sheet.{layers, accepted}
use Rattle.sheet.proofs.Accepting.{accepted-yes, layers-few, count-is}
use Rattle.sheet.proofs.Lists.{length-tabulate}
use Rattle.header.specs.Header.{ascii_from, cells_of}
use Rattle.header.specs.Opening.{planes_most}
use Rattle.header.specs.Workings.{spans_of, limits_by, cells_by}
use Rattle.header.proofs.WellFormed.{limits-by}
use Rattle.header.proofs.Cells.{cells-by}
use Rattle.header.proofs.Total.{span-most}
use Rattle.header.proofs.Counting.{planes_refused, planes_wrong, planes_right, not-read, kept, kept-few}
use Rattle.header.proofs.opening.planes_line.Goals as goal

pub returns-in_err-line : goal.returns-in_err-line
unfolding ascii_from
returns-in_err-line c =
    let p = err_from_is_err_and c.from_residual.result c.from_residual.ensures.1 in
    rw (p.1, p.2) (planes_refused c.args.bytes.now c.args.shape c.args.at _ c.in_err-line.ensures)

pub slice_bounds-value-end : goal.slice_bounds-value-end
slice_bounds-value-end c =
    let most : c.limits-value.result ≡ tabulate layers_most (planes_most c.args.shape) = c.limits-value.ensures ∙ ap limits_by c.spans_of-spans.ensures ∙ limits-by c.args.shape c.requires in
    let all : c.layer_count-layers.result ≡ layers c.args.shape = c.layer_count-layers.ensures ∙ count-is c.args.shape c.requires in
    omega (arith, all, layers-few c.args.shape (accepted-yes c.args.shape c.requires), ap length most, length-tabulate layers_most (planes_most c.args.shape))

pub slice_bounds-read_joined-end : goal.slice_bounds-read_joined-end
slice_bounds-read_joined-end c =
    let most : c.limits-value.result ≡ tabulate layers_most (planes_most c.args.shape) = c.limits-value.ensures ∙ ap limits_by c.spans_of-spans.ensures ∙ limits-by c.args.shape c.requires in
    let all : c.layer_count-layers.result ≡ layers c.args.shape = c.layer_count-layers.ensures ∙ count-is c.args.shape c.requires in
    omega (arith, all, layers-few c.args.shape (accepted-yes c.args.shape c.requires), ap length most, length-tabulate layers_most (planes_most c.args.shape), length-take c.layer_count-layers.result c.limits-value.result)

pub returns-then-not-read_joined : goal.returns-then-not-read_joined
unfolding ascii_from
returns-then-not-read_joined c =
    let sh : Shape = c.args.shape in
    let most : c.limits-value.result ≡ tabulate layers_most (planes_most sh) = c.limits-value.ensures ∙ ap limits_by c.spans_of-spans.ensures ∙ limits-by sh c.requires in
    let all : c.layer_count-layers.result ≡ layers sh = c.layer_count-layers.ensures ∙ count-is sh c.requires in
    let few : layers sh ≤ layers_most = layers-few sh (accepted-yes sh c.requires) in
    planes_wrong c.args.bytes.now sh c.args.at _ _ c.in_ok-line.ensures (not-read sh few _ all _ most _ (sym c.if-not-read_joined.true ∙ c.read_joined.ensures.0))

by_spans : (sh : Shape) → accepted sh ≡ true → (spans planes : List ℕ) (n : ℕ) → spans ≡ spans_of sh → n ≡ cells_by spans planes → n ≡ cells_of sh planes
by_spans sh a spans planes n s e = e ∙ ap (λ (l : List ℕ). cells_by l planes) s ∙ cells-by sh a planes

pub cells_of-cells-requires : goal.cells_of-cells-requires
unfolding ascii_from
cells_of-cells-requires c =
    let sh : Shape = c.args.shape in
    let most : c.limits-value.result ≡ tabulate layers_most (planes_most sh) = c.limits-value.ensures ∙ ap limits_by c.spans_of-spans.ensures ∙ limits-by sh c.requires in
    let all : c.layer_count-layers.result ≡ layers sh = c.layer_count-layers.ensures ∙ count-is sh c.requires in
    let few : layers sh ≤ layers_most = layers-few sh (accepted-yes sh c.requires) in
    let counts = kept sh few _ all _ most _ _ c.read_joined.ensures.1 (sym c.if-not-read_joined.false ∙ c.read_joined.ensures.0) in
    λ k. (rw c.spans_of-spans.ensures (span-most sh k), kept-few few counts k)

pub returns : goal.returns
unfolding ascii_from
returns c =
    let sh : Shape = c.args.shape in
    let most : c.limits-value.result ≡ tabulate layers_most (planes_most sh) = c.limits-value.ensures ∙ ap limits_by c.spans_of-spans.ensures ∙ limits-by sh c.requires in
    let all : c.layer_count-layers.result ≡ layers sh = c.layer_count-layers.ensures ∙ count-is sh c.requires in
    let few : layers sh ≤ layers_most = layers-few sh (accepted-yes sh c.requires) in
    let counts = kept sh few _ all _ most _ _ c.read_joined.ensures.1 (sym c.if-not-read_joined.false ∙ c.read_joined.ensures.0) in (
      planes_right c.args.bytes.now sh c.args.at _ _ c.in_ok-line.ensures few _ counts,
      by_spans sh c.requires _ _ _ c.spans_of-spans.ensures c.cells_of-cells.ensures,
    )
