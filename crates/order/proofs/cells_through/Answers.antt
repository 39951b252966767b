-- A turn comes to the next layer, and counts its share of the cells.
use Rattle.std.proofs.Common.{◌≡◌, cond, ltb, ◌+◌, ◌<◌, length, get_or, [], ◌∷◌, ◌∙◌, inl, inr, arith, rules, lt-ltb, le-ltb, length-append}
use Rattle.sheet.specs.Limits.{layers_most}
use Rattle.sheet.specs.Lists.{total}
use Rattle.order.specs.CardOrder.{planes_before}
use Rattle.order.specs.Workings.{cells_through}
use Rattle.order.proofs.Ahead.{ahead, none_ahead}
use Rattle.order.proofs.Through.{own-most, cells-most, one-more}
use Rattle.order.proofs.cells_through.Goals as goal
use Rattle.order.proofs.cells_through.Goals.{After-saturating_sub, then-j-k, else-j-k}

module _ (c : After-saturating_sub) where
  j-is : c.in-Some.j ≡ length c.loop-j.yielded
  j-is = c.in-Some.ensures.steps.1 ∙ c.loop-j.invariant.number

  from_is : c.if-j-k.from ≡ c.args.p + cond (ltb (length c.loop-j.yielded) c.args.k) 0 1
  from_is = rw (← j-is) (elim c.if-j-k.branch [ then-j-k w ↦ rw (lt-ltb _ _ w.if-j-k.true) (omega (arith, w.from-is)) | else-j-k w ↦ rw (le-ltb _ _ w.if-j-k.false) w.from-is ])

  span-is : c.in-Some.span.now ≡ get_or c.args.spans (length c.loop-j.yielded) 0
  span-is = (ahead c.args.spans _ c.loop-j.invariant.spans_ahead c.in-Some.ensures.steps.0.0).1

  taken_is : c.saturating_sub.result ≡ planes_before c.args.planes c.args.k c.args.p (length c.loop-j.yielded)
  taken_is =
      let e = (ahead c.args.planes _ c.loop-j.invariant.planes_ahead c.in-Some.ensures.steps.0.1).1 in
      rw (← e, ← from_is) c.saturating_sub.ensures

  inside : length c.loop-j.yielded < layers_most
  inside = let l = (ahead c.args.spans _ c.loop-j.invariant.spans_ahead c.in-Some.ensures.steps.0.0).0 in omega arith

pub loop-j-init : goal.loop-j-init
unfolding total
loop-j-init c = search rules

pub overflow_mul-cells : goal.overflow_mul-cells
overflow_mul-cells c = omega (arith, own-most c.args.spans c.args.planes c.args.k c.requires.1 c.args.p _ (span-is c) (taken_is c))

pub overflow_add-cells : goal.overflow_add-cells
overflow_add-cells c = omega (arith, cells-most c.args.spans c.args.planes c.args.k c.requires.1 c.args.p _ (span-is c) (taken_is c) c.loop-j.invariant.sum (inside c))

pub loop-j-preserved : goal.loop-j-preserved
loop-j-preserved c =
    let s = ahead c.args.spans _ c.loop-j.invariant.spans_ahead c.in-Some.ensures.steps.0.0 in
    let n = ahead c.args.planes _ c.loop-j.invariant.planes_ahead c.in-Some.ensures.steps.0.1 in
    let more = length-append c.loop-j.yielded ((c.in-Some.j, (c.in-Some.span, c.in-Some.count)) ∷ []) in
    rw more record {
      spans_ahead = s.2;
      planes_ahead = n.2;
      within = omega (arith, inside c);
      number = omega (arith, c.in-Some.ensures.steps.2, c.loop-j.invariant.number);
      sum = one-more c.args.spans c.args.planes c.args.k c.requires.1 c.args.p _ (span-is c) (taken_is c) c.loop-j.invariant.sum;
    }

pub returns : goal.returns
unfolding cells_through
returns c =
    let all : length c.loop-j.yielded ≡ layers_most =
    elim (c.in-None.ensures.steps.0) [
      | inl w ↦ omega (arith, c.loop-j.invariant.within, none_ahead c.args.spans _ c.loop-j.invariant.spans_ahead w.1.0)
      | inr w ↦ omega (arith, c.loop-j.invariant.within, none_ahead c.args.planes _ c.loop-j.invariant.planes_ahead w.1.0)
    ] in
    rw all at c.loop-j.invariant.sum
