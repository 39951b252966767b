-- A turn puts down where the layer's numbers begin, and passes them.
use Rattle.std.proofs.Common.{◌<◌, suc, length, refl, add-one, below_none, below_more, get_or-set_same, get_or-set_other, ◌≢◌, arith}
use Rattle.header.specs.Header.{places_most, planes_of, total}
use Rattle.header.proofs.Totals.{total-suc, total-most}
use Rattle.header.proofs.WellFormed.{right-yes, counts-few}
use Rattle.planner.proofs.table.firsts_of.Goals as goal

pub loop-k-init : goal.loop-k-init
unfolding total
loop-k-init c = record { next = refl; begins = below_none _ }

pub overflow_add-passed : goal.overflow_add-passed
overflow_add-passed c =
    let h = c.args.header in
    let few = total-most (planes_of h) places_most (suc c.loop-k.k) (λ j l. counts-few (right-yes h c.requires) j (omega arith)) in
    omega (arith, c.loop-k.invariant.next, total-suc (planes_of h) c.loop-k.k, few)

pub loop-k-preserved : goal.loop-k-preserved
loop-k-preserved c = record {
  next = rw (add-one c.loop-k.k) (omega (arith, c.loop-k.invariant.next, total-suc (planes_of c.args.header) c.loop-k.k));
  begins = below_more _ c.loop-k.k
      (λ j h. let ne : j ≢ c.loop-k.k = omega arith in rw get_or-set_other (c.loop-k.invariant.begins j h))
      (let lt : c.loop-k.k < length c.loop-k.first-items = omega arith in rw get_or-set_same c.loop-k.invariant.next);
}
