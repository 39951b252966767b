-- The slices are zeros and at least as long as the sheet, so cut to it they are the room in which the bytes are shown; a refusal is passed on.
use Rattle.std.proofs.Common.{◌≡◌, pos, length, drop, ap, sym, ◌∙◌}
use Rattle.std.proofs.lemmas.Result.{err_from_is_err_and}
use lib.Seq.{take_at}
use Rattle.sheet.specs.Sheet.{points}
use Rattle.card.specs.Reading.{Reading}
use Rattle.card.proofs.ReadCall.{showing-no}
use Rattle.display.specs.Shown.{room}
use Rattle.display.proofs.Seeing.{shape_is, sheet-small, points-are, can-cut, seen-in, not-shown, shown-is}
use Rattle.display.proofs.answers.shown_of.Goals as goal

pub returns-in_err-shape-clause-shows : goal.returns-in_err-shape-clause-shows
returns-in_err-shape-clause-shows c =
    let bs = c.args.bytes.now in
    let r = c.in_err-shape.field-0.0 in
    let p = err_from_is_err_and c.from_residual.result c.from_residual.ensures.1 in
    rw (p.1, p.2) (not-shown bs r (showing-no bs r c.in_err-shape.ensures.opens (room bs) (room bs)))

pub slice_bounds-show-end : goal.slice_bounds-show-end
slice_bounds-show-end c = (can-cut c.args.bytes.now c.in_ok-shape.field-0 c.in_ok-shape.ensures.opens (pos 0) c.points-points.ensures c.args.coefficients.now c.requires.0).0

pub slice_bounds-show-end-2 : goal.slice_bounds-show-end-2
slice_bounds-show-end-2 c = (can-cut c.args.bytes.now c.in_ok-shape.field-0 c.in_ok-shape.ensures.opens (pos 0) c.points-points.ensures c.args.coefficients.now c.requires.0).1

pub slice_bounds-show-end-3 : goal.slice_bounds-show-end-3
slice_bounds-show-end-3 c = (can-cut c.args.bytes.now c.in_ok-shape.field-0 c.in_ok-shape.ensures.opens (pos 0) c.points-points.ensures c.args.values.now c.requires.1).0

pub slice_bounds-show-end-4 : goal.slice_bounds-show-end-4
slice_bounds-show-end-4 c = (can-cut c.args.bytes.now c.in_ok-shape.field-0 c.in_ok-shape.ensures.opens (pos 0) c.points-points.ensures c.args.values.now c.requires.1).1

pub returns-in_err-reached-clause-shows : goal.returns-in_err-reached-clause-shows
returns-in_err-reached-clause-shows c =
    let bs = c.args.bytes.now in
    let p = err_from_is_err_and c.from_residual-in_err-reached.result c.from_residual-in_err-reached.ensures.1 in
    let long = points-are bs c.in_ok-shape.field-0 c.in_ok-shape.ensures.opens c.points-points.ensures in
    rw (p.1, p.2) (not-shown bs c.in_err-reached.field-0.0 (seen-in bs long c.requires.0 c.requires.1 c.in_err-reached.ensures))

pub returns-clause-shows : goal.returns-clause-shows
returns-clause-shows c =
    let bs = c.args.bytes.now in
    let o = c.in_ok-shape.field-0 in
    let opens = c.in_ok-shape.ensures.opens in
    shown-is bs o.header.shape c.in_ok-reached.reached (shape_is bs o opens) (seen-in bs (points-are bs o opens c.points-points.ensures) c.requires.0 c.requires.1 c.in_ok-reached.ensures)

pub returns-clause-fills : goal.returns-clause-fills
returns-clause-fills c =
    let bs = c.args.bytes.now in
    let o = c.in_ok-shape.field-0 in
    let opens = c.in_ok-shape.ensures.opens in
    let n = c.points-points.result in
    let vs = c.show.new.values in
    let seen = seen-in bs (points-are bs o opens c.points-points.ensures) c.requires.0 c.requires.1 c.in_ok-reached.ensures in
    let all : length vs ≡ n = c.show.auto.values ∙ sym (can-cut bs o opens (pos 0) c.points-points.ensures c.args.values.now c.requires.1).1 in
    let long : n ≡ points o.header.shape = c.points-points.ensures ∙ (sheet-small bs o opens).0 in
    (rw (← long) (take_at vs (drop n c.args.values.now) n all ∙ ap (λ (s : Reading). s.values) seen), (sheet-small bs o opens).0, (sheet-small bs o opens).1)
