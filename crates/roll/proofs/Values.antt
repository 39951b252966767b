-- A value put before a place: its digits, and below 0 a minus sign straight before them.
use mathlib.Core.List.{List}
use mathlib.Core.Path.{◌≡◌, ap, ◌∙◌}
use Prim.Native.Nat.{ℕ, suc, ◌-◌, ◌<◌, ◌≤◌}
use native.Mathlib.Omega.{arith}
use lib.IntN.{ℤ, pos, negsuc, nat_abs}
use lib.ListN.{length, set}
use lib.Seq.{sets, length-sets}
use Rattle.integers.specs.Distance.{up, down}
use Rattle.text.specs.Decimal.{decimal, minus, signed}
use Rattle.text.proofs.Signs.{signed_below, signed_above}
use Rattle.text.proofs.Stores.{sets-front}

-- what the digits leave: their first place and the page
module _ (page : List ℕ) (end : ℕ) (v : ℤ) (fits : length (signed v) ≤ end) (room : end ≤ length page)
    {first : ℕ} {out : List ℕ} (starts : first ≡ end - length (decimal (nat_abs v))) (stands : out ≡ sets page (end - length (decimal (nat_abs v))) (decimal (nat_abs v))) where
  abbrev t : List ℕ
  t = decimal (nat_abs v)

  pub value-above : down v ≤ up v → out ≡ sets page (end - length (signed v)) (signed v)
  value-above h = stands ∙ rw (signed_above v h)

  module _ (h : up v < down v) where
    long : suc (length t) ≤ end
    long = rw (signed_below v h) at fits

    pub sign-room : (1 ≤ first) × (first - 1 < length out)
    sign-room = (omega (arith, long, starts), omega (arith, long, starts, ap length stands, length-sets page (end - length t) t))

    pub value-below : set out (first - 1) minus ≡ sets page (end - length (signed v)) (signed v)
    value-below =
        let before = end - suc (length t) in
        let digits : end - length t ≡ suc before = omega (arith, long) in
        let sign : first - 1 ≡ before = omega (arith, long, starts) in
        rw (signed_below v h, sign, stands, digits) (sets-front page before minus t)

-- the digits fit where the value does
pub digits-fit : (v : ℤ) → length (decimal (nat_abs v)) ≤ length (signed v)
unfolding signed
digits-fit (pos n) = omega arith
digits-fit (negsuc n) = omega arith
