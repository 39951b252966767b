-- A turn carries row k, fills row k + 1 from it, and passes the layer's numbers and cells.
use Rattle.std.proofs.Common.{◌≡◌, ◌+◌, ◌*◌, ◌<◌, ◌≤◌, ℕ, suc, [], ◌∷◌, length, refl, ap, sym, ◌∙◌, add-one, inl, inr, arith, rules, length-append}
use Rattle.std.proofs.lemmas.List.{length-replicate}
use Rattle.figure.proofs.Ahead.{ahead, none_ahead}
use Rattle.header.specs.Header.{places_most, planes_of, total}
use Rattle.header.specs.Workings.{cells_most, cells_at, spans_of}
use Rattle.header.specs.Plan.{layers_most}
use Rattle.header.proofs.Cells.{span-listed}
use Rattle.header.proofs.Totals.{total-suc, total-most}
use Rattle.header.proofs.WellFormed.{right-yes, counts-few}
use Rattle.planner.specs.Workings.Table.{Layers, layers_of, cells, reach, none, row_length, table_length}
use Rattle.planner.proofs.Entries.{reach-most}
use Rattle.planner.proofs.Filling.{rows_start}
use Rattle.planner.proofs.table.fill.Goals as goal
use Rattle.planner.proofs.table.fill.Goals.{In-Some}

module _ (c : In-Some) where
  abbrev L : Layers
  L = layers_of c.args.header c.args.losses.now

  abbrev at : ℕ
  at = length c.loop-k.yielded

  k_is : c.in-Some.k ≡ at
  k_is = c.in-Some.ensures.steps.1 ∙ c.loop-k.invariant.number

  inside : at < layers_most
  inside = let l = (ahead c.args.header.planes _ c.loop-k.invariant.counts_ahead c.in-Some.ensures.steps.0.0).0 in omega arith

  count_is : c.in-Some.count.now ≡ planes_of c.args.header at
  count_is = (ahead c.args.header.planes _ c.loop-k.invariant.counts_ahead c.in-Some.ensures.steps.0.0).1

  span-is : c.in-Some.span.now ≡ cells_at c.args.header.shape at
  span-is = (ahead (spans_of c.args.header.shape) _ c.loop-k.invariant.spans_ahead c.in-Some.ensures.steps.0.1).1 ∙ span-listed c.args.header.shape at inside

  entered : c.loop-k.reach < row_length
  entered = omega (arith, c.loop-k.invariant.reached, reach-most c.args.header c.args.losses.now c.requires.0 at c.loop-k.invariant.within)

  behind : c.loop-k.first + c.in-Some.count.now ≡ total (planes_of c.args.header) (suc at)
  behind = omega (arith, c.loop-k.invariant.begins, count_is, total-suc (planes_of c.args.header) at)

  more : c.loop-k.reach + c.in-Some.count.now * c.in-Some.span.now ≡ reach L (suc at)
  unfolding cells
  more = rw (count_is, span-is) (ap (λ (n : ℕ). n + planes_of c.args.header at * cells_at c.args.header.shape at) c.loop-k.invariant.reached)

  small : c.loop-k.reach + c.in-Some.count.now * c.in-Some.span.now ≤ cells_most
  small = omega (arith, more, reach-most c.args.header c.args.losses.now c.requires.0 (suc at) inside)

pub loop-k-init : goal.loop-k-init
unfolding cells total
loop-k-init c = record {
  counts_ahead = search rules;
  spans_ahead = search rules;
  within = omega arith;
  number = search rules;
  begins = refl;
  reached = refl;
  rows = rows_start (layers_of c.args.header c.args.losses.now) c.args.t.now c.requires.1;
}

pub carry_row-requires : goal.carry_row-requires
carry_row-requires c =
    let i = (goal.at.carry_row-requires c).In-Some in
    let many : length c.args.t.now ≡ table_length = ap length c.requires.1 ∙ length-replicate table_length none in
    (omega (arith, k_is i, inside i), entered i, omega arith, c.loop-k.invariant.rows.long)

pub fill_row-requires-clause-header_value : goal.fill_row-requires-clause-header_value
fill_row-requires-clause-header_value c =
    let i = (goal.at.fill_row-requires-clause-header_value c).In-Some in
    rw (k_is i) (c.requires.0, inside i, c.loop-k.invariant.begins, span-is i, c.loop-k.invariant.reached)

pub fill_row-requires-clause-held : goal.fill_row-requires-clause-held
fill_row-requires-clause-held c =
    let i = (goal.at.fill_row-requires-clause-held c).In-Some in
    c.carry_row.ensures c.args.losses.now (rw (k_is i) c.loop-k.invariant.rows)

pub fill_row-requires-clause-rows : goal.fill_row-requires-clause-rows
fill_row-requires-clause-rows c = rw (k_is (goal.at.fill_row-requires-clause-rows c).In-Some) c.loop-k.invariant.rows

pub overflow_add-first : goal.overflow_add-first
overflow_add-first c =
    let i = (goal.at.overflow_add-first c).In-Some in
    let h = c.args.header in
    let few = total-most (planes_of h) places_most (suc (at i)) (λ j l. counts-few (right-yes h c.requires.0) j (omega (arith, inside i))) in
    omega (arith, behind i, few, inside i)

pub overflow_mul-reach : goal.overflow_mul-reach
overflow_mul-reach c = omega (arith, small (goal.at.overflow_mul-reach c).In-Some)

pub overflow_add-reach : goal.overflow_add-reach
overflow_add-reach c = omega (arith, small (goal.at.overflow_add-reach c).In-Some)

pub loop-k-preserved : goal.loop-k-preserved
loop-k-preserved c =
    let i = (goal.at.loop-k-preserved c).In-Some in
    let one = length-append c.loop-k.yielded ((c.in-Some.k, (c.in-Some.count, c.in-Some.span)) ∷ []) in
    rw one record {
      counts_ahead = (ahead c.args.header.planes _ c.loop-k.invariant.counts_ahead c.in-Some.ensures.steps.0.0).2;
      spans_ahead = (ahead (spans_of c.args.header.shape) _ c.loop-k.invariant.spans_ahead c.in-Some.ensures.steps.0.1).2;
      within = omega (arith, inside i);
      number = omega (arith, c.in-Some.ensures.steps.2, c.loop-k.invariant.number);
      begins = rw (add-one (at i)) (behind i);
      reached = rw (add-one (at i)) (more i);
      rows = rw (add-one (at i)) (rw (k_is i) at c.fill_row.ensures);
    }

pub returns : goal.returns
returns c =
    let many : length (spans_of c.args.header.shape) ≡ layers_most = ap length (sym c.spans-spans.ensures) ∙ (search rules) in
    let all : length c.loop-k.yielded ≡ layers_most =
    elim (c.in-None.ensures.steps.0) [
      | inl w ↦ omega (arith, c.loop-k.invariant.within, none_ahead c.args.header.planes _ c.loop-k.invariant.counts_ahead w.1.0)
      | inr w ↦ omega (arith, many, c.loop-k.invariant.within, none_ahead (spans_of c.args.header.shape) _ c.loop-k.invariant.spans_ahead w.1.0)
    ] in
    rw all at c.loop-k.invariant.rows
