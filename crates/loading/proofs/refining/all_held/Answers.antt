-- The loop counts the coefficients that are not held; all are where none is counted.
use Rattle.std.proofs.Common.{◌≡◌, ℕ, suc, ◌+◌, Bool, true, false, cond, not, List, length, eqb, ℤ, refl, sym, ap, ap₂, ◌∙◌, arith, rules}
use Rattle.std.proofs.lemmas.Bool.{false≢true}
use mir.Facts.{to_z-of_z}
use mir.Syntax.{w32}
use mir.Val.{bool_byte}
use borrow.Author.Rules.{sfits_of}
use borrow.Author.Tests.{eq-eqb, ne_eqb, not-false}
use Rattle.digits.specs.Digits.{holds}
use Rattle.sheet.specs.Lists.{at, count}
use Rattle.sheet.proofs.Lists.{mark-most, count-on, count_most, count_none, count-never}
use Rattle.header.specs.Header.{places_most}
use Rattle.packing.specs.Planes.{all_held}
use Rattle.packing.proofs.All.{all-by, all-at}
use Rattle.integers.proofs.Bools.{by}
use Rattle.loading.proofs.refining.all_held.Goals as goal

-- is the coefficient at place p not held?
abbrev out : List ℤ → ℕ → Bool
out qs p = not (holds places_most (at qs p))

as-mark : (b : Bool) → bool_byte b ≡ cond b 1 0
as-mark true = refl
as-mark false = refl

-- none counted, and all held
module _ (qs : List ℤ) where
  held-where : count (out qs) (length qs) ≡ 0 → all_held qs ≡ true
  unfolding all_held
  held-where e = all-by (λ j. holds places_most (at qs j)) (length qs) (λ p h. not-false _ (count_none (out qs) (length qs) e p h))

  where-held : all_held qs ≡ true → count (out qs) (length qs) ≡ 0
  unfolding all_held
  where-held e = count-never (out qs) (length qs) (λ p h. ap not (all-at (λ j. holds places_most (at qs j)) (length qs) e p h))

  none-counted : eqb (count (out qs) (length qs)) 0 ≡ all_held qs
  none-counted =
      by (all_held qs)
      (λ y. rw y (eq-eqb _ 0 (where-held y)))
      (λ n. rw n (ne_eqb _ 0 (λ e. false≢true (sym n ∙ held-where e))))

pub loop-q-init : goal.loop-q-init
unfolding count
loop-q-init c = refl

pub overflow_add-number : goal.overflow_add-number
overflow_add-number c =
    let qs = c.args.coefficients.now in
    let j = c.loop-q.q-index in
    let tested : c.is_outside.result ≡ out qs j = c.is_outside.ensures ∙ ap (λ (q : ℤ). not (holds places_most q)) (to_z-of_z {w = w32} (search (rules, sfits_of))) in
    let mark = c.from-number.ensures ∙ as-mark _ ∙ ap (λ (b : Bool). cond b 1 0) tested in
    omega (arith, mark, mark-most (out qs) j, count_most (out qs) j)

pub loop-q-preserved : goal.loop-q-preserved
loop-q-preserved c =
    let qs = c.args.coefficients.now in
    let j = c.loop-q.q-index in
    let tested : c.is_outside.result ≡ out qs j = c.is_outside.ensures ∙ ap (λ (q : ℤ). not (holds places_most q)) (to_z-of_z {w = w32} (search (rules, sfits_of))) in
    let mark = c.from-number.ensures ∙ as-mark _ ∙ ap (λ (b : Bool). cond b 1 0) tested in
    let next : suc j ≡ j + 1 = omega arith in
    ap₂ (λ (m n : ℕ). m + n) c.loop-q.invariant mark ∙ count-on (out qs) j ∙ ap (count (out qs)) next

pub returns : goal.returns
returns c =
    let qs = c.args.coefficients.now in
    let end : c.loop-q.q-index ≡ length qs = omega arith in
    ap (λ (n : ℕ). eqb n 0) (c.loop-q.invariant ∙ ap (count (out qs)) end) ∙ none-counted qs
