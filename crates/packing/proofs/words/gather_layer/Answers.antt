-- A line more is a run behind those of the lines before it (`sets_then`), by what the lines' numbers mean (`Lined`).
use Rattle.std.proofs.Common.{◌≡◌, ◌+◌, ◌*◌, ◌-◌, ◌≤◌, ℕ, length, arith, ap, ap₂, sym, ◌∙◌}
use Rattle.std.specs.List.{between}
use Rattle.std.proofs.lemmas.List.Edits.{sets, length-between}
use Rattle.sheet.specs.Lists.{at, tabulate}
use Rattle.sheet.specs.Sheet.{layer_size, point_of}
use Rattle.sheet.proofs.LinePoints.{line-room, line_on}
use Rattle.sheet.proofs.Lists.{length-tabulate}
use Rattle.header.proofs.Cells.{size-there}
use Rattle.packing.specs.Workings.Words.{word_of}
use Rattle.packing.proofs.Runs.{sets-none, sets_then, part-sets, sets-fill}
use Rattle.packing.proofs.words.gather_layer.Goals as goal

pub loop-t-init : goal.loop-t-init
loop-t-init c =
    let z : 0 * c.layer_lines-l.result.points ≡ 0 = omega arith in
    sym (ap (λ (n : ℕ). sets c.args.words.now 0 (tabulate n (λ i. word_of (at c.args.coefficients.now (point_of c.args.shape c.args.layer i))))) z ∙ sets-none c.args.words.now 0 _)

pub overflow_mul-t-end : goal.overflow_mul-t-end
overflow_mul-t-end c = omega (arith, c.layer_lines-l.ensures.few)

pub overflow_mul-start : goal.overflow_mul-start
overflow_mul-start c = omega (arith, line-room c.layer_lines-l.ensures c.loop-t.t c.loop-t-test.true, c.requires.coefficients_len.1, c.loop-t.auto.words)

pub overflow_add-start : goal.overflow_add-start
overflow_add-start c = omega (arith, line-room c.layer_lines-l.ensures c.loop-t.t c.loop-t-test.true, c.requires.coefficients_len.1, c.loop-t.auto.words)

pub offset_bounds-words-start : goal.offset_bounds-words-start
offset_bounds-words-start c = omega (arith, line-room c.layer_lines-l.ensures c.loop-t.t c.loop-t-test.true, c.requires.coefficients_len.1, c.loop-t.auto.words)

pub slice_bounds-gather_line-end : goal.slice_bounds-gather_line-end
slice_bounds-gather_line-end c = omega (arith, line-room c.layer_lines-l.ensures c.loop-t.t c.loop-t-test.true, c.requires.coefficients_len.1, c.loop-t.auto.words)

pub gather_line-requires : goal.gather_line-requires
gather_line-requires c =
    let start = c.loop-t.t * c.layer_lines-l.result.points in
    let long = length-between c.loop-t.words start (start + c.layer_lines-l.result.points)
    (omega (arith, line-room c.layer_lines-l.ensures c.loop-t.t c.loop-t-test.true, c.requires.coefficients_len.1, c.loop-t.auto.words)) in
    λ j h. rw (c.requires.coefficients_len.0, c.line_start.ensures) (line_on c.layer_lines-l.ensures c.loop-t.t c.loop-t-test.true j (omega (arith, h, long)))

pub loop-t-preserved : goal.loop-t-preserved
loop-t-preserved c =
    let l = c.layer_lines-l.result in
    let d = c.layer_lines-l.ensures in
    let n = l.points in
    let start = c.loop-t.t * n in
    let qs = c.args.coefficients.now in
    let f : ℕ → ℕ = λ i. word_of (at qs (point_of c.args.shape c.args.layer i)) in
    let g : ℕ → ℕ = λ j. word_of (at qs (c.line_start.result + j * l.stride)) in
    let fits : start + n ≤ length c.loop-t.words = omega (arith, line-room d c.loop-t.t c.loop-t-test.true, c.requires.coefficients_len.1, c.loop-t.auto.words) in
    let long : length (between start (start + n) c.loop-t.words) ≡ n = length-between c.loop-t.words start (start + n) fits ∙ omega arith in
    let is : c.gather_line.new.words ≡ tabulate n g = c.gather_line.ensures ∙ ap (λ (n : ℕ). tabulate n g) long in
    let e : start + n ≡ (c.loop-t.t + 1) * n = omega arith in
    let z : start ≡ 0 + start = omega arith in
    sets_then start n c.args.words.now 0 f g
    (λ j h. ap (λ (p : ℕ). word_of (at qs p)) (ap (λ (x : ℕ). x + j * l.stride) c.line_start.ensures ∙ sym (d.point c.loop-t.t j c.loop-t-test.true h)))
    c.loop-t.invariant
    (part-sets start (start + n - start) c.loop-t.words c.gather_line.new.words (omega (arith, ap length is, length-tabulate n g)) (omega arith) ∙ ap₂ (sets c.loop-t.words) z is)
    ∙ ap (λ (x : ℕ). sets c.args.words.now 0 (tabulate x f)) e

pub returns : goal.returns
returns c =
    let f : ℕ → ℕ = λ i. word_of (at c.args.coefficients.now (point_of c.args.shape c.args.layer i)) in
    let end : c.loop-t.t ≡ c.layer_lines-l.result.sheets * c.layer_lines-l.result.lines = omega arith in
    let e : c.loop-t.t * c.layer_lines-l.result.points ≡ layer_size c.args.shape c.args.layer =
    ap (λ (x : ℕ). x * c.layer_lines-l.result.points) end ∙ c.layer_lines-l.ensures.size ∙ size-there c.args.shape c.requires.shape_value.0 c.args.layer c.requires.shape_value.1 in
    c.loop-t.invariant ∙ ap (λ (x : ℕ). sets c.args.words.now 0 (tabulate x f)) e
    ∙ sets-fill (layer_size c.args.shape c.args.layer) c.args.words.now f 0 c.requires.coefficients_len.1
