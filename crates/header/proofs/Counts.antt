-- The counts of line 6 are numbers within the layers' limits, so what holds of such numbers holds of them, layer by layer: they are read exactly where they are written.
use mathlib.Core.List.{List}
use mathlib.Core.Option.{some}
use mathlib.Core.Path.{◌≡◌, sym, ◌∙◌}
use Prim.Native.Nat.{ℕ, ◌<◌, ◌≤◌}
use native.Mathlib.Omega.{arith}
use lib.ListN.{length, get_or}
use Rattle.sheet.specs.declared.Shape.{Shape}
use Rattle.sheet.specs.Sheet.{layers}
use Rattle.sheet.proofs.Lists.{length-tabulate, get_or-tabulate}
use Rattle.text.specs.Joined.{joined, numbers_in}
use Rattle.text.proofs.Joins.{Written, written_back, read_back, within_by, within-length, within-at}
use Rattle.header.specs.Opening.{planes_most, limits}

pub record Counted (sh : Shape) (text counts : List ℕ) : Type 0 where
  pub long : length counts ≡ layers sh
  pub text-is : text ≡ joined counts
  pub most : (k : ℕ) → k < layers sh → get_or counts k 0 ≤ planes_most sh k

module _ (sh : Shape) where
  limits-long : length (limits sh) ≡ layers sh
  unfolding limits
  limits-long = length-tabulate (layers sh) (planes_most sh)

  limit : (k : ℕ) → k < layers sh → get_or (limits sh) k 0 ≡ planes_most sh k
  unfolding limits
  limit k h = get_or-tabulate (layers sh) (planes_most sh) k 0 h

  pub counts-read : (text counts : List ℕ) → numbers_in (limits sh) text ≡ some counts → Counted sh text counts
  counts-read text counts e =
      let w : Written (limits sh) text counts = written_back (limits sh) text counts e in
      record {
        long = within-length counts (limits sh) w.within ∙ limits-long;
        text-is = w.text-is;
        most = λ k h. rw (← limit k h) (within-at counts (limits sh) w.within k);
      }

  pub counts-written : (counts : List ℕ) → length counts ≡ layers sh → ((k : ℕ) → k < layers sh → get_or counts k 0 ≤ planes_most sh k) → numbers_in (limits sh) (joined counts) ≡ some counts
  counts-written counts long most =
      read_back counts (limits sh) (within_by counts (limits sh) (long ∙ sym limits-long) (λ k h. rw (limit k (omega (arith, long))) (most k (omega (arith, long)))))
