-- The table of groups, by which coefficients are worked out as they are read: each of its 256 entries is the sum of the eight digits of its group, and a
-- coefficient that is read is the entries of its three groups, times 1, 256 and 65,536 from the lowest, added.
use Rattle.std.specs.Prelude.{true, List, ◌≡◌, ℕ, ◌<◌, pos, get_or}
use Rattle.digits.specs.Digits.{value}
use Rattle.digits.specs.Groups.{bits_of, group_values, by_groups}
use Rattle.sheet.specs.Sheet.{layers}
use Rattle.header.specs.declared.Header.{Header}
use Rattle.header.specs.Opening.{well_formed}
use Rattle.loading.specs.InBytes.{coef_read, word_read}

pub record Groups : Type 0 where
  -- each entry is the sum of its eight digits (`group_values` is what `digits::group_values` answers, by its contract)
  pub entries : (g : ℕ) → g < 256 → get_or group_values g (pos 0) ≡ value (bits_of 8 g)
  -- and of its index as a word, which `digits::even_places` promises of it, and `odd_places` with the sign turned
  pub sums : (g : ℕ) → g < 256 → get_or group_values g (pos 0) ≡ value (bits_of 32 g)
  -- whatever the bytes and the plan, the coefficient of a layer's point i is that of its word, whose bits are the digits of the planes loaded; every header
  -- that opening gives is well-formed
  pub coefficients : (h : Header) (long : ℕ) (bs : List ℕ) (plan : ℕ → ℕ) → well_formed h ≡ true → (k i : ℕ) → k < layers h.shape
      → coef_read h long bs plan k i ≡ by_groups group_values (word_read h long bs plan k i)
