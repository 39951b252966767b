-- What a card shows can be printed: its values have at most 15 digits, its points are few, and its figure is far below 10^24.
use mathlib.Core.List.{List}
use mathlib.Core.Path.{◌≡◌}
use Prim.Native.Nat.{ℕ, ◌≤◌}
use native.Mathlib.Omega.{arith}
use lib.IntN.{ℤ}
use lib.ListN.{length}
use Rattle.integers.specs.Distance.{Within}
use Rattle.integers.proofs.Near.{parts-abs}
use Rattle.layers.proofs.Range.{value_limit}
use Rattle.sheet.specs.Lists.{at}
use Rattle.sheet.specs.Sheet.{points}
use Rattle.sheet.proofs.Accepting.{accepted-yes}
use Rattle.text.specs.Decimal.{decimal, signed}
use Rattle.text.proofs.Digits.{length-le}
use Rattle.text.proofs.Signs.{signed-length}
use Rattle.header.specs.Opening.{opening}
use Rattle.card.specs.Reading.{showing}
use Rattle.card.proofs.Values.{showing-answered}
use Rattle.roll.specs.Page.{line_places, value_places}
use Rattle.roll.specs.Workings.{Printable}

-- a value's characters, with its sign
pub value-fits : (v : ℤ) → Within value_limit v → length (signed v) ≤ value_places
value-fits v w = signed-length 14 v (omega (arith, w.size, parts-abs v))

module _ (qs vs : List ℤ) (bs : List ℕ) (shown : (showing qs vs bs).refused.number ≡ 0) where
  abbrev values : List ℤ
  values = (showing qs vs bs).values

  pub values-long : length values ≡ points (opening bs).header.shape
  values-long = (showing-answered qs vs bs shown).long

  pub printable : Printable (opening bs).header.shape.cols values
  printable =
      let v = showing-answered qs vs bs shown in
      let sheet = accepted-yes (opening bs).header.shape v.shape in
      record {
        columns = sheet.wide;
        few = omega (arith, v.long, sheet.small);
        narrow = λ p h. value-fits (at values p) (v.small p);
      }

  pub figure-fits : length (decimal (showing qs vs bs).figure) ≤ line_places
  figure-fits = length-le 23 (showing qs vs bs).figure (omega (arith, (showing-answered qs vs bs shown).figure))
