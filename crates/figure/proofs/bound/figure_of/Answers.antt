-- A turn carries what stands by the next layer's rule and adds that layer's charge. A right header keeps every number far below 2^64.
use Rattle.std.proofs.Common.{◌≡◌, ℕ, suc, ◌+◌, ◌^◌, ◌<◌, ◌≤◌, length, take, [], ◌∷◌, ap, ◌∙◌, add-one, inl, inr, arith, rules, length-append, length-take}
use Rattle.std.proofs.Math.Seq.{get_or-take}
use Rattle.sheet.specs.Limits.{layers_most}
use Rattle.sheet.specs.Sheet.{layers}
use Rattle.sheet.specs.Workings.Shapes.{layer_count}
use Rattle.sheet.proofs.Accepting.{count-is}
use Rattle.header.specs.declared.Header.{Header}
use Rattle.header.specs.Header.{places_most, planes_of, total}
use Rattle.header.specs.Plan.{loads}
use Rattle.header.proofs.Over.{over_none}
use Rattle.header.proofs.Totals.{total-suc, total-most}
use Rattle.header.proofs.WellFormed.{WellFormed, right-yes, layers-few, counts-few}
use Rattle.figure.specs.Workings.{carry_of, charge_of}
use Rattle.figure.proofs.Ahead.{ahead, none_ahead}
use Rattle.figure.proofs.LayerRules.{carried-told, charge-told}
use Rattle.figure.proofs.Places.{standing as stands, figure-here, below}
use Rattle.figure.proofs.bound.figure_of.Goals as goal
use Rattle.figure.proofs.bound.figure_of.Goals.{After-charge}

-- the slices have a number for each layer
module _ {h : Header} (r : WellFormed h) {n : ℕ} (e : n ≡ layer_count h.shape) where
  all : n ≡ layers h.shape
  all = e ∙ count-is h.shape r.shape

  few : n ≤ layers_most
  few = omega (arith, all, layers-few r)

module _ (c : After-charge) where
  right : WellFormed c.args.header
  right = right-yes c.args.header c.requires.header_value

  abbrev at : ℕ
  at = length c.loop-k.yielded

  k_is : c.in-Some.k ≡ at
  k_is = c.in-Some.ensures.steps.1 ∙ c.loop-k.invariant.number

  here : at < c.layer_count-layers.result
  here =
      let l = (ahead (take c.layer_count-layers.result c.args.header.planes) _ c.loop-k.invariant.counts_ahead c.in-Some.ensures.steps.0.0).0 in
      omega (arith, length-take c.layer_count-layers.result c.args.header.planes)

  inside : at < layers_most
  inside = omega (arith, here, few right c.layer_count-layers.ensures)

  count_is : c.in-Some.count.now ≡ planes_of c.args.header at
  count_is =
      (ahead (take c.layer_count-layers.result c.args.header.planes) _ c.loop-k.invariant.counts_ahead c.in-Some.ensures.steps.0.0).1
      ∙ get_or-take c.layer_count-layers.result c.args.header.planes at 0 here

  n_is : c.in-Some.n.now ≡ loads c.args.plan at
  n_is =
      (ahead (take c.layer_count-layers.result c.args.plan.planes) _ c.loop-k.invariant.loaded_ahead c.in-Some.ensures.steps.0.1).1
      ∙ get_or-take c.layer_count-layers.result c.args.plan.planes at 0 here

  small : c.loop-k.standing ≤ 2 ^ 56
  small = omega (arith, c.loop-k.invariant.stands, below right c.args.losses.now (loads c.args.plan) (λ i. omega (arith, c.type_inv.losses i)) at (omega (arith, inside)))

  carries : c.carried.result ≡ carry_of c.args.header at c.loop-k.standing
  carries = c.carried.ensures ∙ carried-told c.args.header at c.rule_of-rule.result c.loop-k.standing (rw k_is at c.rule_of-rule.ensures) (omega (arith, small))

  adds : c.charge.result ≡ charge_of c.args.header c.args.losses.now at (loads c.args.plan at)
  adds =
      rw (count_is, n_is) at c.charge.ensures
      ∙ charge-told right c.args.losses.now at (loads c.args.plan at) inside c.loop-k.first c.loop-k.invariant.begins (over_none (planes_of c.args.header) (loads c.args.plan) c.requires.plan_value at inside)

  next : c.carried.result + c.charge.result ≡ stands c.args.header c.args.losses.now (loads c.args.plan) (suc at)
  unfolding stands
  next = omega (arith, carries, adds, ap (carry_of c.args.header at) c.loop-k.invariant.stands)

  behind : c.loop-k.first + c.in-Some.count.now ≡ total (planes_of c.args.header) (suc at)
  behind = omega (arith, c.loop-k.invariant.begins, count_is, total-suc (planes_of c.args.header) at)

pub shared_ref_as_front-counts : goal.shared_ref_as_front-counts
shared_ref_as_front-counts c = omega (arith, few (right-yes c.args.header c.requires.header_value) c.layer_count-layers.ensures)

pub shared_ref_as_front-loaded : goal.shared_ref_as_front-loaded
shared_ref_as_front-loaded c = omega (arith, few (right-yes c.args.header c.requires.header_value) c.layer_count-layers.ensures)

pub loop-k-init : goal.loop-k-init
unfolding stands total
loop-k-init c = search rules

pub overflow_add-standing : goal.overflow_add-standing
overflow_add-standing c =
    omega (arith, next c, below (right c) c.args.losses.now (loads c.args.plan) (λ i. omega (arith, c.type_inv.losses i)) (suc (at c)) (inside c))

pub overflow_add-first : goal.overflow_add-first
overflow_add-first c =
    let few = total-most (planes_of c.args.header) places_most (suc (at c)) (λ j l. counts-few (right c) j (omega (arith, inside c))) in
    omega (arith, behind c, few, inside c)

pub loop-k-preserved : goal.loop-k-preserved
loop-k-preserved c =
    let more = length-append c.loop-k.yielded ((c.in-Some.k, (c.in-Some.count, c.in-Some.n)) ∷ []) in
    rw more record {
      counts_ahead = (ahead (take c.layer_count-layers.result c.args.header.planes) _ c.loop-k.invariant.counts_ahead c.in-Some.ensures.steps.0.0).2;
      loaded_ahead = (ahead (take c.layer_count-layers.result c.args.plan.planes) _ c.loop-k.invariant.loaded_ahead c.in-Some.ensures.steps.0.1).2;
      within = omega (arith, here c);
      number = omega (arith, c.in-Some.ensures.steps.2, c.loop-k.invariant.number);
      begins = rw (add-one (at c)) (behind c);
      stands = rw (add-one (at c)) (next c);
    }

pub overflow_add-result : goal.overflow_add-result
overflow_add-result c =
    let right = right-yes c.args.header c.requires.header_value in
    omega (arith, c.loop-k.invariant.stands, right.step, below right c.args.losses.now (loads c.args.plan) (λ i. omega (arith, c.type_inv.losses i)) (length c.loop-k.yielded) (omega (arith, c.loop-k.invariant.within, few right c.layer_count-layers.ensures)))

pub returns : goal.returns
returns c =
    let right = right-yes c.args.header c.requires.header_value in
    let n = c.layer_count-layers.result in
    let here = all right c.layer_count-layers.ensures in
    let passed : length c.loop-k.yielded ≡ layers c.args.header.shape =
    elim (c.in-None.ensures.steps.0) [
      | inl w ↦ omega (arith, here, few right c.layer_count-layers.ensures, c.loop-k.invariant.within, length-take n c.args.header.planes, none_ahead (take n c.args.header.planes) _ c.loop-k.invariant.counts_ahead w.1.0)
      | inr w ↦ omega (arith, here, few right c.layer_count-layers.ensures, c.loop-k.invariant.within, length-take n c.args.plan.planes, none_ahead (take n c.args.plan.planes) _ c.loop-k.invariant.loaded_ahead w.1.0)
    ] in
    omega (arith, rw passed at c.loop-k.invariant.stands, figure-here right c.args.losses.now (loads c.args.plan))
