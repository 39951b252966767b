-- The layer is there and has a further whole plane, or that is refused; the plane added, finished, is the refinement.
use Rattle.std.proofs.Common.{◌≡◌, refl, ap, ◌∙◌, ◌<◌, ℕ, List, arith}
use Rattle.std.proofs.lemmas.Result.{err_from_is_err_and}
use Rattle.sheet.specs.Limits.{layers_most}
use Rattle.sheet.specs.Sheet.{layers}
use Rattle.sheet.specs.Workings.Shapes.{layer_count}
use Rattle.sheet.proofs.Accepting.{count-is}
use Rattle.header.specs.declared.Header.{Header}
use Rattle.header.specs.declared.Plan.{Plan}
use Rattle.header.specs.Plan.{loads, with_plane}
use Rattle.header.proofs.WellFormed.{WellFormed, right-yes, layers-few}
use Rattle.order.specs.CardOrder.{whole_of}
use Rattle.card.proofs.ReadCall.{finished-no}
use Rattle.card.proofs.RefineCall.{refine-past, next-named, added-refine}
use Rattle.card.proofs.refining.refine_layer.Goals as goal

-- the layer is there, by the test that its number passed
record There (h : Header) (k : ℕ) : Type 0 where
  low : k < layers h.shape
  few : k < layers_most

there : (h : Header) (k n : ℕ) → WellFormed h → n ≡ layer_count h.shape → k < n → There h k
there h k n r e l = let is = e ∙ count-is h.shape r.shape in record { low = omega arith; few = omega (arith, layers-few r) }

more : (h : Header) (bs : List ℕ) (at k : ℕ) (whole plan : Plan) → whole ≡ whole_of bs h at → loads plan k < loads whole k → loads plan k < loads (whole_of bs h at) k
more h bs at k whole plan e l = omega (arith, ap (λ (w : Plan). loads w k) e)

pub returns-then-layer_count-layer : goal.returns-then-layer_count-layer
returns-then-layer_count-layer c =
    let a = c.args in
    let r = right-yes a.header c.requires.opened.0 in
    refine-past a.coefficients.now a.values.now a.bytes.now a.header a.losses.now a.at a.plan a.layer (omega (arith, c.if-layer_count-layer.true, c.layer_count.ensures ∙ count-is a.header.shape r.shape))

pub bounds-whole-k : goal.bounds-whole-k
bounds-whole-k c = (there c.args.header c.args.layer _ (right-yes c.args.header c.requires.opened.0) c.layer_count.ensures c.if-layer_count-layer.false).few

pub offset_bounds-whole-k : goal.offset_bounds-whole-k
offset_bounds-whole-k c = omega (arith, there c.args.header c.args.layer _ (right-yes c.args.header c.requires.opened.0) c.layer_count.ensures c.if-layer_count-layer.false)

pub bounds-plan-k : goal.bounds-plan-k
bounds-plan-k c = (there c.args.header c.args.layer _ (right-yes c.args.header c.requires.opened.0) c.layer_count.ensures c.if-layer_count-layer.false).few

pub offset_bounds-plan-k : goal.offset_bounds-plan-k
offset_bounds-plan-k c = omega (arith, there c.args.header c.args.layer _ (right-yes c.args.header c.requires.opened.0) c.layer_count.ensures c.if-layer_count-layer.false)

pub overflow_sub-p : goal.overflow_sub-p
overflow_sub-p c =
    let a = c.args in
    let t = there a.header a.layer _ (right-yes a.header c.requires.opened.0) c.layer_count.ensures c.if-layer_count-layer.false in
    omega (arith, next-named a.header c.requires.opened.0 a.losses.now a.at a.bytes.now a.plan a.layer c.requires.opened.1 t.low (more a.header a.bytes.now a.at a.layer a.whole a.plan c.requires.opened.2 c.if-whole-k.false))

pub overflow_sub-p-2 : goal.overflow_sub-p-2
overflow_sub-p-2 c =
    let a = c.args in
    let t = there a.header a.layer _ (right-yes a.header c.requires.opened.0) c.layer_count.ensures c.if-layer_count-layer.false in
    omega (arith, next-named a.header c.requires.opened.0 a.losses.now a.at a.bytes.now a.plan a.layer c.requires.opened.1 t.low (more a.header a.bytes.now a.at a.layer a.whole a.plan c.requires.opened.2 c.if-whole-k.false))

pub returns-in_err-add_plane : goal.returns-in_err-add_plane
returns-in_err-add_plane c =
    let a = c.args in
    let t = there a.header a.layer _ (right-yes a.header c.requires.opened.0) c.layer_count.ensures c.if-layer_count-layer.false in
    let m = more a.header a.bytes.now a.at a.layer a.whole a.plan c.requires.opened.2 c.if-whole-k.false in
    let p = err_from_is_err_and c.from_residual.result c.from_residual.ensures.1 in
    rw (p.1, p.2)
    (finished-no c.in_err-add_plane.field-0.0 a.header a.losses.now (with_plane a.plan a.layer) c.add_plane.new.coefficients a.values.now
    ∙ added-refine a.header c.requires.opened.0 a.losses.now a.at a.bytes.now a.plan a.layer c.requires.opened.1 t.low m a.coefficients.now a.values.now c.requires.fits.0 c.requires.fits.1 _ _ _ (omega arith) c.in_err-add_plane.ensures refl)

pub returns : goal.returns
returns c =
    let a = c.args in
    let t = there a.header a.layer _ (right-yes a.header c.requires.opened.0) c.layer_count.ensures c.if-layer_count-layer.false in
    let m = more a.header a.bytes.now a.at a.layer a.whole a.plan c.requires.opened.2 c.if-whole-k.false in
    c.finish.ensures
    ∙ added-refine a.header c.requires.opened.0 a.losses.now a.at a.bytes.now a.plan a.layer c.requires.opened.1 t.low m a.coefficients.now a.values.now c.requires.fits.0 c.requires.fits.1 _ _ _ (omega arith) c.in_ok-add_plane.ensures c.with_plane.ensures
