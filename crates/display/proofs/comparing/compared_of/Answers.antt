-- The slices are zeros and at least as long as the sheets, so cut to them they are the room in which both cards are compared; the page has room for any sheet's lines.
use Rattle.std.proofs.Common.{◌≡◌, ℕ, ◌+◌, ◌*◌, pos, length, take, drop, ap, sym, ◌∙◌, arith}
use Rattle.std.proofs.lemmas.Result.{err_from_is_err_and}
use lib.ListN.{length-append}
use lib.Seq.{take_at}
use Rattle.compare.specs.Comparing.{Comparing}
use Rattle.display.proofs.Seeing.{sheet-small, points-are, can-cut}
use Rattle.display.proofs.Both.{in_both, not-compared, compared-is, unopened, few, marks-front, can-put, text-long, text-put}
use Rattle.display.proofs.comparing.compared_of.Goals as goal

pub returns-in_err-shape-clause-compares : goal.returns-in_err-shape-clause-compares
returns-in_err-shape-clause-compares c =
    let bs = c.args.first.now in
    let bs' = c.args.second.now in
    let r = c.in_err-shape.field-0.0 in
    let p = err_from_is_err_and c.from_residual.result c.from_residual.ensures.1 in
    rw (p.1, p.2) (not-compared bs bs' r (unopened bs bs' r c.in_err-shape.ensures.opens))

pub slice_bounds-compare-end : goal.slice_bounds-compare-end
slice_bounds-compare-end c = (can-cut c.args.first.now c.in_ok-shape.field-0 c.in_ok-shape.ensures.opens (pos 0) c.points-points1.ensures c.args.coefficients1.now c.requires.0).0

pub slice_bounds-compare-end-2 : goal.slice_bounds-compare-end-2
slice_bounds-compare-end-2 c = (can-cut c.args.first.now c.in_ok-shape.field-0 c.in_ok-shape.ensures.opens (pos 0) c.points-points1.ensures c.args.coefficients1.now c.requires.0).1

pub slice_bounds-compare-end-3 : goal.slice_bounds-compare-end-3
slice_bounds-compare-end-3 c = (can-cut c.args.first.now c.in_ok-shape.field-0 c.in_ok-shape.ensures.opens (pos 0) c.points-points1.ensures c.args.values1.now c.requires.1).0

pub slice_bounds-compare-end-4 : goal.slice_bounds-compare-end-4
slice_bounds-compare-end-4 c = (can-cut c.args.first.now c.in_ok-shape.field-0 c.in_ok-shape.ensures.opens (pos 0) c.points-points1.ensures c.args.values1.now c.requires.1).1

pub slice_bounds-compare-end-9 : goal.slice_bounds-compare-end-9
slice_bounds-compare-end-9 c = (can-cut c.args.first.now c.in_ok-shape.field-0 c.in_ok-shape.ensures.opens 0 c.points-points1.ensures c.args.apart.now c.requires.4).0

pub slice_bounds-compare-end-10 : goal.slice_bounds-compare-end-10
slice_bounds-compare-end-10 c = (can-cut c.args.first.now c.in_ok-shape.field-0 c.in_ok-shape.ensures.opens 0 c.points-points1.ensures c.args.apart.now c.requires.4).1

pub returns-in_err-compared-clause-compares : goal.returns-in_err-compared-clause-compares
returns-in_err-compared-clause-compares c =
    let bs = c.args.first.now in
    let bs' = c.args.second.now in
    let q = c.requires in
    let p = err_from_is_err_and c.from_residual-in_err-compared.result c.from_residual-in_err-compared.ensures.1 in
    let long = points-are bs c.in_ok-shape.field-0 c.in_ok-shape.ensures.opens c.points-points1.ensures in
    rw (p.1, p.2) (not-compared bs bs' c.in_err-compared.field-0.0 (in_both bs bs' long c.points_of-points2.ensures.0 q.0 q.1 q.2 q.3 q.4 c.in_err-compared.ensures))

pub overflow_mul-rows : goal.overflow_mul-rows
overflow_mul-rows c =
    let o = c.in_ok-shape.field-0 in
    let opens = c.in_ok-shape.ensures.opens in
    omega (arith, few c.args.first.now c.args.second.now o opens, (sheet-small c.args.first.now o opens).1)

-- the marks fill their slice's front
pub slice_bounds-all_marks-end : goal.slice_bounds-all_marks-end
slice_bounds-all_marks-end c =
    let all = c.compare.auto.apart ∙ sym (can-cut c.args.first.now c.in_ok-shape.field-0 c.in_ok-shape.ensures.opens 0 c.points-points1.ensures c.args.apart.now c.requires.4).1 in
    omega (arith, all, length-append c.compare.new.apart (drop c.points-points1.result c.args.apart.now))

pub slice_bounds-all_marks-end-2 : goal.slice_bounds-all_marks-end-2
slice_bounds-all_marks-end-2 c =
    let n = c.points-points1.result in
    let all = c.compare.auto.apart ∙ sym (can-cut c.args.first.now c.in_ok-shape.field-0 c.in_ok-shape.ensures.opens 0 c.points-points1.ensures c.args.apart.now c.requires.4).1 in
    sym (ap length (take_at c.compare.new.apart (drop n c.args.apart.now) n all) ∙ all)

pub all_marks-requires : goal.all_marks-requires
all_marks-requires c =
    let bs = c.args.first.now in
    let bs' = c.args.second.now in
    let q = c.requires in
    let o = c.in_ok-shape.field-0 in
    let opens = c.in_ok-shape.ensures.opens in
    let n = c.points-points1.result in
    let ms = c.compare.new.apart in
    let behind = drop n c.args.apart.now in
    let all : length ms ≡ n = c.compare.auto.apart ∙ sym (can-cut bs o opens 0 c.points-points1.ensures c.args.apart.now q.4).1 in
    let both = in_both bs bs' (points-are bs o opens c.points-points1.ensures) c.points_of-points2.ensures.0 q.0 q.1 q.2 q.3 q.4 c.in_ok-compared.ensures in
    let marks = marks-front bs bs' o opens behind c.points-points1.ensures all (ap (λ (x : Comparing). x.apart) both) in
    can-put bs bs' o opens marks.0 marks.1 c.args.page.now q.5

pub overflow_add-result : goal.overflow_add-result
overflow_add-result c =
    let bs = c.args.first.now in
    let o = c.in_ok-shape.field-0 in
    let opens = c.in_ok-shape.ensures.opens in
    omega (arith, c.points-points1.ensures, few bs c.args.second.now o opens, (sheet-small bs o opens).0, (sheet-small bs o opens).1)

pub returns-clause-compares : goal.returns-clause-compares
returns-clause-compares c =
    let bs = c.args.first.now in
    let bs' = c.args.second.now in
    let q = c.requires in
    let o = c.in_ok-shape.field-0 in
    let opens = c.in_ok-shape.ensures.opens in
    let n = c.points-points1.result in
    let ms = c.compare.new.apart in
    let behind = drop n c.args.apart.now in
    let all : length ms ≡ n = c.compare.auto.apart ∙ sym (can-cut bs o opens 0 c.points-points1.ensures c.args.apart.now q.4).1 in
    let both = in_both bs bs' (points-are bs o opens c.points-points1.ensures) c.points_of-points2.ensures.0 q.0 q.1 q.2 q.3 q.4 c.in_ok-compared.ensures in
    let marks = marks-front bs bs' o opens behind c.points-points1.ensures all (ap (λ (x : Comparing). x.apart) both) in
    let long = ap (λ (k : ℕ). k + o.header.shape.depth * o.header.shape.rows) (c.points-points1.ensures ∙ (sheet-small bs o opens).0) in
    compared-is bs bs' c.in_ok-compared.compared _ (long ∙ text-long bs bs' o opens marks.0 marks.1) both

pub returns-clause-fills : goal.returns-clause-fills
returns-clause-fills c =
    let bs = c.args.first.now in
    let bs' = c.args.second.now in
    let q = c.requires in
    let o = c.in_ok-shape.field-0 in
    let opens = c.in_ok-shape.ensures.opens in
    let n = c.points-points1.result in
    let ms = c.compare.new.apart in
    let behind = drop n c.args.apart.now in
    let all : length ms ≡ n = c.compare.auto.apart ∙ sym (can-cut bs o opens 0 c.points-points1.ensures c.args.apart.now q.4).1 in
    let both = in_both bs bs' (points-are bs o opens c.points-points1.ensures) c.points_of-points2.ensures.0 q.0 q.1 q.2 q.3 q.4 c.in_ok-compared.ensures in
    let marks = marks-front bs bs' o opens behind c.points-points1.ensures all (ap (λ (x : Comparing). x.apart) both) in
    let long = ap (λ (k : ℕ). k + o.header.shape.depth * o.header.shape.rows) (c.points-points1.ensures ∙ (sheet-small bs o opens).0) in (
      omega (arith, c.points-points1.ensures, few bs bs' o opens, (sheet-small bs o opens).0, (sheet-small bs o opens).1),
      ap (λ (k : ℕ). take k c.all_marks.new.page) long ∙ text-put bs bs' o opens marks.0 marks.1 c.args.page.now q.5 c.all_marks.ensures,
    )
