-- Each arm knows on which side of the ends of 23 digits the number stands.
use Rattle.std.proofs.Common.{◌≡◌, true, false, not, sym, ap, ◌∙◌, arith}
use Rattle.integers.proofs.Bools.{by, not_yes}
use Rattle.integers.proofs.Diff.{lit, neg_lit}
use Rattle.integers.proofs.Machine.{arg, lt_test, not-lt-test}
use Rattle.digits.specs.Digits.{holds}
use Rattle.digits.proofs.Range.{range-23, holds-yes, holds_by}
use Rattle.header.specs.Header.{places_most}
use Rattle.loading.proofs.refining.is_outside.Goals as goal

pub returns-then-q-lt-LEAST_COEFFICIENT : goal.returns-then-q-lt-LEAST_COEFFICIENT
returns-then-q-lt-LEAST_COEFFICIENT c =
    let no : holds places_most c.args.q ≡ false = not_yes _ (λ y. omega (arith, lt_test (arg c.ranges.q) (neg_lit 2796201) c.if-q-lt-LEAST_COEFFICIENT.true, holds-yes places_most c.args.q y, range-23)) in
    c.if-q-lt-LEAST_COEFFICIENT.true ∙ sym (ap not no)

pub returns-else-q-lt-LEAST_COEFFICIENT : goal.returns-else-q-lt-LEAST_COEFFICIENT
returns-else-q-lt-LEAST_COEFFICIENT c =
    by _
    (λ t.
    let no : holds places_most c.args.q ≡ false = not_yes _ (λ y. omega (arith, lt_test (lit 5592405) (arg c.ranges.q) t, holds-yes places_most c.args.q y, range-23)) in
    t ∙ sym (ap not no))
    (λ t.
    let yes : holds places_most c.args.q ≡ true =
    holds_by places_most c.args.q (omega (arith, not-lt-test (arg c.ranges.q) (neg_lit 2796201) c.if-q-lt-LEAST_COEFFICIENT.false, not-lt-test (lit 5592405) (arg c.ranges.q) t, range-23)) in
    t ∙ sym (ap not yes))
