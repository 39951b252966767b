-- What d missing digits can be: the laws of `digits` (proofs/Gaps), at any digits that come to a number.
use Prim.Native.Nat.{ℕ}
use Rattle.digits.proofs.Gaps.{ones_even, ones_odd, ones-length, ones-binary, ones_value, low_least, high_most, near-middle, high-lost}
use Rattle.guarantee.specs.Missing.{Missing}

pub missing : (d : ℕ) → Missing d
missing d =
    record {
      low_made = record { digits = ones_odd d; count = (ones-length d).1; binary = (ones-binary d).1; is = (ones_value d).1 };
      low_least = λ z m. rw (m.count, m.is) at (low_least m.digits m.binary);
      high_made = record { digits = ones_even d; count = (ones-length d).0; binary = (ones-binary d).0; is = (ones_value d).0 };
      high_most = λ z m. rw (m.count, m.is) at (high_most m.digits m.binary);
      near = λ z m. rw (m.count, m.is) at (near-middle m.digits m.binary);
      reached = high-lost d;
    }
