-- The slices are zeros and at least as long as the sheet, so cut to it they are the room in which the bytes are shown; the page has room for any sheet.
use Rattle.std.proofs.Common.{ℕ, pos, take, ap, ap₂, sym, ◌∙◌, arith}
use Rattle.std.proofs.lemmas.Result.{err_from_is_err_and}
use Rattle.card.specs.Reading.{Reading}
use Rattle.card.proofs.ReadCall.{showing-no}
use Rattle.roll.specs.Rolling.{Rolling}
use Rattle.display.specs.Shown.{room}
use Rattle.display.proofs.Seeing.{sheet-small, points-are, can-cut}
use Rattle.display.proofs.Rolling.{in-room, page-long, number_is, lines_are}
use Rattle.display.proofs.answers.rolled_of.Goals as goal

pub returns-in_err-shape-clause-refuses : goal.returns-in_err-shape-clause-refuses
returns-in_err-shape-clause-refuses c =
    let bs = c.args.bytes.now in
    let p = err_from_is_err_and c.from_residual.result c.from_residual.ensures.1 in
    rw (p.1, p.2) (ap (λ (s : Reading). s.refused.number) (showing-no bs c.in_err-shape.field-0.0 c.in_err-shape.ensures.opens (room bs) (room bs)))

pub slice_bounds-roll-end : goal.slice_bounds-roll-end
slice_bounds-roll-end c = (can-cut c.args.bytes.now c.in_ok-shape.field-0 c.in_ok-shape.ensures.opens (pos 0) c.points-points.ensures c.args.coefficients.now c.requires.0).0

pub slice_bounds-roll-end-2 : goal.slice_bounds-roll-end-2
slice_bounds-roll-end-2 c = (can-cut c.args.bytes.now c.in_ok-shape.field-0 c.in_ok-shape.ensures.opens (pos 0) c.points-points.ensures c.args.coefficients.now c.requires.0).1

pub slice_bounds-roll-end-3 : goal.slice_bounds-roll-end-3
slice_bounds-roll-end-3 c = (can-cut c.args.bytes.now c.in_ok-shape.field-0 c.in_ok-shape.ensures.opens (pos 0) c.points-points.ensures c.args.values.now c.requires.1).0

pub slice_bounds-roll-end-4 : goal.slice_bounds-roll-end-4
slice_bounds-roll-end-4 c = (can-cut c.args.bytes.now c.in_ok-shape.field-0 c.in_ok-shape.ensures.opens (pos 0) c.points-points.ensures c.args.values.now c.requires.1).1

pub returns-in_err-roll-clause-refuses : goal.returns-in_err-roll-clause-refuses
returns-in_err-roll-clause-refuses c =
    let bs = c.args.bytes.now in
    let page = c.args.page.now in
    let p = err_from_is_err_and c.from_residual-in_err-roll.result c.from_residual-in_err-roll.ensures.1 in
    let long = points-are bs c.in_ok-shape.field-0 c.in_ok-shape.ensures.opens c.points-points.ensures in
    let rolled = in-room bs page long c.requires.0 c.requires.1 c.in_err-roll.ensures in
    rw (p.1, p.2) (ap (λ (r : Rolling). r.shown.refused.number) rolled ∙ number_is bs page c.requires.2)

pub returns-clause-refuses : goal.returns-clause-refuses
returns-clause-refuses c =
    let bs = c.args.bytes.now in
    let page = c.args.page.now in
    let long = points-are bs c.in_ok-shape.field-0 c.in_ok-shape.ensures.opens c.points-points.ensures in
    let rolled = in-room bs page long c.requires.0 c.requires.1 c.in_ok-roll.ensures in
    ap (λ (r : Rolling). r.shown.refused.number) rolled ∙ number_is bs page c.requires.2

pub returns-clause-fills : goal.returns-clause-fills
returns-clause-fills c =
    let bs = c.args.bytes.now in
    let page = c.args.page.now in
    let o = c.in_ok-shape.field-0 in
    let opens = c.in_ok-shape.ensures.opens in
    let rolled = in-room bs page (points-are bs o opens c.points-points.ensures) c.requires.0 c.requires.1 c.in_ok-roll.ensures in
    let shown = ap (λ (r : Rolling). r.shown.refused.number) rolled ∙ number_is bs page c.requires.2 in (
      omega (arith, c.page_length.ensures, (sheet-small bs o opens).0, (sheet-small bs o opens).1),
      ap₂ (λ (n : ℕ) (r : Rolling). take n r.page) (page-long bs o opens c.page_length.ensures) rolled ∙ lines_are bs page c.requires.2 (sym shown),
    )
