-- Where a line starts, of numbers that are small: the tests of `near` one by one, both ways; each part of the sum is a product of small numbers.
use mathlib.Core.Bool.{true, ◌&&◌}
use mathlib.Core.Path.{◌≡◌}
use Prim.Native.Nat.{ℕ, ◌*◌, ◌/◌, ◌%◌, ◌<◌, ◌≤◌}
use native.Mathlib.Nat.{le_trans, mul-le-mul, div-le_self, mod-le}
use lib.Dec.{ltb, leb}
use borrow.Author.Tests.{ltb-true, lt-ltb, leb-true, le-leb}
use Rattle.integers.proofs.Bools.{and_left, and_right, and_both}
use Rattle.sheet.specs.declared.Lines.{Lines}
use Rattle.sheet.specs.Workings.Lines.{line_start, lines_most, far, near, start_in}

-- no number is past any layer's
pub record Close (l : Lines) : Type 0 where
  pub first : l.first ≤ far
  pub beyond : l.beyond ≤ far
  pub apart : l.apart ≤ far

pub record Near (l : Lines) (t : ℕ) : Type 0 where
  pub some : 0 < l.lines
  pub line : t ≤ lines_most
  pub close : Close l

module _ (l : Lines) (t : ℕ) where
  pub near-yes : near l t ≡ true → Near l t
  unfolding near
  near-yes e =
      let b = leb l.beyond far && leb l.apart far in
      let f = leb l.first far && b in
      let r = and_right (ltb 0 l.lines) (leb t lines_most && f) e in
      let c = and_right (leb t lines_most) f r in
      let d = and_right (leb l.first far) b c in
      record {
        some = ltb-true 0 l.lines (and_left (ltb 0 l.lines) (leb t lines_most && f) e);
        line = leb-true t lines_most (and_left (leb t lines_most) f r);
        close = record {
          first = leb-true l.first far (and_left (leb l.first far) b c);
          beyond = leb-true l.beyond far (and_left (leb l.beyond far) (leb l.apart far) d);
          apart = leb-true l.apart far (and_right (leb l.beyond far) (leb l.apart far) d);
        };
      }

  pub near_by : Near l t → near l t ≡ true
  unfolding near
  near_by n =
      let b = leb l.beyond far && leb l.apart far in
      let f = leb l.first far && b in
      and_both (ltb 0 l.lines) (leb t lines_most && f) (lt-ltb 0 l.lines n.some)
      (and_both (leb t lines_most) f (le-leb t lines_most n.line)
      (and_both (leb l.first far) b (le-leb l.first far n.close.first)
      (and_both (leb l.beyond far) (leb l.apart far) (le-leb l.beyond far n.close.beyond) (le-leb l.apart far n.close.apart))))

  pub start_is : Near l t → start_in l t ≡ line_start l t
  unfolding start_in
  start_is n = rw (near_by n)

  module _ (n : Near l t) where
    pub along-most : t * l.apart ≤ lines_most * far
    along-most = mul-le-mul n.line n.close.apart

    pub beyond-most : t / l.lines * l.beyond ≤ lines_most * far
    beyond-most = mul-le-mul (le_trans (div-le_self t l.lines) n.line) n.close.beyond

    pub within-most : t % l.lines * l.apart ≤ lines_most * far
    within-most = mul-le-mul (le_trans (mod-le t l.lines) n.line) n.close.apart
