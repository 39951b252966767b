-- The planes of a layer and those that a plan loads of it, as facts on numbers: a right header names at most 23 of a layer, the plan of all whole planes loads the whole ones, and the two tests of `loaded` say which they are, both ways.
use mathlib.Core.Bool.{true, false}
use mathlib.Core.Path.{◌≡◌}
use Prim.Native.Nat.{ℕ, ◌+◌, ◌<◌, ◌≤◌}
use borrow.Author.Tests.{lt-ltb, ltb-true, le-leb, leb-true, lt-leb}
use lib.Dec.{ltb, leb}
use Rattle.integers.proofs.Bools.{and_left, and_right, and_both, and-no-right}
use Rattle.sheet.specs.Limits.{layers_most}
use Rattle.sheet.proofs.Lists.{get_or-tabulate}
use Rattle.header.specs.declared.Header.{Header}
use Rattle.header.specs.Header.{planes_of}
use Rattle.header.specs.Plan.{loads}
use Rattle.order.specs.CardOrder.{whole, whole_plan}
use Rattle.loading.specs.InBytes.{loaded}

pub whole-at : (h : Header) (n k : ℕ) → k < layers_most → loads (whole_plan h n) k ≡ whole h n k
whole-at h n k l = get_or-tabulate layers_most (whole h n) k 0 l

module _ (h : Header) (plan : ℕ → ℕ) (k p : ℕ) where
  pub loaded-yes : loaded h plan k p ≡ true → (p < planes_of h k) × (planes_of h k ≤ p + plan k)
  loaded-yes e =
      let named = ltb p (planes_of h k) in
      let asked = leb (planes_of h k) (p + plan k) in
      (ltb-true _ _ (and_left named asked e), leb-true _ _ (and_right named asked e))

  pub loaded-by : p < planes_of h k → planes_of h k ≤ p + plan k → loaded h plan k p ≡ true
  loaded-by named asked = and_both _ _ (lt-ltb _ _ named) (le-leb _ _ asked)

  pub loaded-no : p + plan k < planes_of h k → loaded h plan k p ≡ false
  loaded-no less = and-no-right (ltb p (planes_of h k)) _ (lt-leb _ _ less)
