-- A turn halves its number and keeps the others; in the end all are halved.
use Rattle.std.proofs.Common.{◌≡◌, ℕ, ◌/◌, get_or, sym, ap, ◌∙◌, arith}
use native.Mathlib.Nat.{le_refl}
use lib.ListN.{length-set}
use lib.Seq.{ext_get_or, get_or-set_same, get_or-set_other}
use borrow.Author.Count.{below_more}
use Rattle.sheet.proofs.Lists.{length-tabulate, get_or-tabulate}
use Rattle.loading.specs.Workings.Words.{half_bits, halved}
use Rattle.loading.proofs.adding.halve.Goals as goal

pub loop-number-preserved : goal.loop-number-preserved
loop-number-preserved c =
    let i = c.loop-number.number-index in (
      below_more _ _
          (λ k h. let ne : k ≡ i → ⊥ = λ e. (let z : ⊥ = omega arith in z) in get_or-set_other _ i k _ 0 ne ∙ c.loop-number.invariant.0 k h)
          (get_or-set_same _ i _ 0 (omega arith) ∙ ap (λ (x : ℕ). x / 2) (c.loop-number.invariant.1 i (le_refl i))),
      λ k h. let ne : k ≡ i → ⊥ = λ e. (let z : ⊥ = omega arith in z) in get_or-set_other _ i k _ 0 ne ∙ c.loop-number.invariant.1 k (omega arith),
      length-set _ i _ ∙ c.loop-number.invariant.2,
    )

pub returns : goal.returns
unfolding halved
returns c =
    let half : ℕ → ℕ = λ i. get_or c.args.table.now i 0 / 2 in
    ext_get_or 0 _ _ (c.loop-number.invariant.2 ∙ sym (length-tabulate half_bits half))
    (λ i l. c.loop-number.invariant.0 i (omega arith) ∙ sym (get_or-tabulate half_bits half i 0 (omega arith)))
