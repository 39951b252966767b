-- A mark is that of the test `apart_by`, 0 or 1: so the marks are those of the test, and their sum counts it.
use Rattle.std.proofs.Common.{rules, ◌≡◌, ℕ, suc, ◌+◌, ◌<◌, ◌≢◌, Bool, cond, length, refl, ap, ap₂, ◌∙◌, arith, below_none, below_more, get_or-set_same, get_or-set_other}
use Rattle.sheet.specs.Lists.{count}
use Rattle.sheet.proofs.Lists.{mark-most, count-on, count_most}
use Rattle.sheet.proofs.Arrays.{tabulated}
use Rattle.compare.specs.Comparing.{agree, marks}
use Rattle.compare.specs.Workings.{apart_by}
use Rattle.compare.proofs.marking.mark.Goals as goal

abbrev Test : goal.After-mark_of-mark → ℕ → Bool
Test c = apart_by c.args.figure1 c.args.values1.now c.args.figure2 c.args.values2.now

mark-is : (c : goal.After-mark_of-mark) → c.mark_of-mark.result ≡ cond (Test c c.loop-p.p) 1 0
unfolding agree
mark-is c = search rules

pub loop-p-init : goal.loop-p-init
unfolding count
loop-p-init c = record { marked = below_none _; counted = refl }

pub overflow_add-number : goal.overflow_add-number
overflow_add-number c = let p = c.loop-p.p in omega (arith, mark-is c, mark-most (Test c) p, c.loop-p.invariant.counted, count_most (Test c) p)

pub loop-p-preserved : goal.loop-p-preserved
loop-p-preserved c =
    let p = c.loop-p.p in
    record {
      marked = below_more _ _
          (λ q h. let other : q ≢ p = omega arith in rw get_or-set_other (c.loop-p.invariant.marked q h))
          (let here : p < length c.loop-p.apart = omega arith in rw get_or-set_same (mark-is c));
      counted = ap₂ (λ (m n : ℕ). m + n) c.loop-p.invariant.counted (mark-is c) ∙ count-on (Test c) p ∙ ap (count (Test c)) (let z : suc p ≡ p + 1 = omega arith in z);
    }

pub returns : goal.returns
unfolding marks
returns c =
    let test = apart_by c.args.figure1 c.args.values1.now c.args.figure2 c.args.values2.now in
    let end : c.loop-p.p ≡ length c.args.apart.now = omega arith in
    (c.loop-p.invariant.counted ∙ ap (count test) end, tabulated 0 (λ q. cond (test q) 1 0) c.loop-p.apart _ (omega arith) (λ q l. c.loop-p.invariant.marked q (omega arith)))
