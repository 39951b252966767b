-- A turn puts the losses of one layer behind those that stand; all of them fit, since no layer has more than `places_most`.
use Rattle.std.proofs.Common.{rules, ◌≡◌, ℕ, suc, ◌+◌, ◌<◌, ◌≤◌, List, length, get_or, take, refl, ap, sym, ◌∙◌, arith, add-one, length-take}
use Rattle.std.proofs.Math.Seq.{get_or-take}
use Rattle.std.proofs.lemmas.List.Edits.{sets}
use Rattle.digits.specs.Digits.{loss}
use Rattle.sheet.specs.Limits.{layers_most}
use Rattle.sheet.specs.Lists.{tabulate, total}
use Rattle.header.specs.Header.{places_most}
use Rattle.header.specs.Losses.{closed, losses_most}
use Rattle.header.proofs.Totals.{total-suc, total-most}
use Rattle.header.proofs.Laid.{laid_none, laid-put}
use Rattle.header.proofs.ending.close_table.Goals as goal

-- what stands with one layer more is no more than the table holds
module _ (planes : List ℕ) (layers : ℕ) (few : (k : ℕ) → get_or planes k 0 ≤ places_most) (i at : ℕ) (more : i < length (take layers planes)) (enough : layers ≤ layers_most) (many : at ≡ total (λ k. get_or planes k 0) i) where
  inside : i < layers
  inside = omega (arith, length-take layers planes)

  here : get_or (take layers planes) i 0 ≡ get_or planes i 0
  here = get_or-take layers planes i 0 inside

  next : at + get_or (take layers planes) i 0 ≡ total (λ k. get_or planes k 0) (i + 1)
  next = rw (add-one i) (omega (arith, here, total-suc (λ k. get_or planes k 0) i))

  room : at + get_or (take layers planes) i 0 ≤ losses_most
  room = omega (arith, inside, next, total-most (λ k. get_or planes k 0) places_most (i + 1) (λ k _. few k))

  few_here : get_or (take layers planes) i 0 ≤ places_most
  few_here = omega (arith, here, few i)

  laid_next : (d table new : List ℕ) → table ≡ sets d 0 (closed (λ k. get_or planes k 0) i) → new ≡ sets table at (tabulate (get_or (take layers planes) i 0) (λ j. loss (suc j))) → new ≡ sets d 0 (closed (λ k. get_or planes k 0) (i + 1))
  laid_next d table new t e = laid-put (λ k. get_or planes k 0) (λ k d. loss d) d table new at i many t (e ∙ ap (λ (n : ℕ). sets table at (tabulate n (λ j. loss (suc j)))) here)

pub loop-count-init : goal.loop-count-init
unfolding total
loop-count-init c =
    record {
      many = refl;
      laid = ap (sets c.args.table.now 0) (sym (laid_none (λ k. get_or c.args.planes k 0) (λ k d. loss d)));
    }

pub close_layer-requires : goal.close_layer-requires
close_layer-requires c =
    let a = c.args in
    let l = c.loop-count in
    (few_here a.planes a.layers c.requires.1 l.count-index l.at c.loop-count-test.true c.requires.0 l.invariant.many, omega (arith, room a.planes a.layers c.requires.1 l.count-index l.at c.loop-count-test.true c.requires.0 l.invariant.many))

pub overflow_add-at : goal.overflow_add-at
overflow_add-at c =
    let l = c.loop-count in
    omega (arith, room c.args.planes c.args.layers c.requires.1 l.count-index l.at c.loop-count-test.true c.requires.0 l.invariant.many)

pub loop-count-preserved : goal.loop-count-preserved
loop-count-preserved c =
    let a = c.args in
    let l = c.loop-count in
    record {
      many = next a.planes a.layers c.requires.1 l.count-index l.at c.loop-count-test.true c.requires.0 l.invariant.many;
      laid = laid_next a.planes a.layers c.requires.1 l.count-index l.at c.loop-count-test.true c.requires.0 l.invariant.many a.table.now l.table c.close_layer.new.table l.invariant.laid c.close_layer.ensures;
    }

pub returns : goal.returns
returns c =
    let l = c.loop-count in
    let long : length c.args.planes ≡ layers_most = search rules in
    let end : l.count-index ≡ c.args.layers = omega (arith, length-take {A = ℕ}) in
    let counts = λ (k : ℕ). get_or c.args.planes k 0 in
    (l.invariant.many ∙ ap (total counts) end, l.invariant.laid ∙ ap (λ (k : ℕ). sets c.args.table.now 0 (closed counts k)) end)
