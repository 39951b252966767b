-- Groups of eight digits: how coefficients are worked out as they are read. Reading itself is said by `value`; that both are the same is a theorem (`guarantee`, Groups).
use Rattle.std.specs.Prelude.{List, [], ◌∷◌, ℕ, zero, suc, ◌/◌, ◌%◌, ℤ, pos, ◌+ℤ◌, ◌*ℤ◌, get_or}
use Rattle.digits.specs.Digits.{value}

-- the digits that a word's n lowest bits are
unfoldable pub bits_of : ℕ → ℕ → List ℕ
bits_of zero b = []
bits_of (suc n) b = b % 2 ∷ bits_of n (b / 2)

-- the values of n groups from group g on, the digits of which are the bits of g
unfoldable pub groups_from : ℕ → ℕ → List ℤ
groups_from zero g = []
groups_from (suc n) g = value (bits_of 8 g) ∷ groups_from n (suc g)

unfoldable pub group_values : List ℤ
group_values = groups_from 256 0

-- the entry of a word's lowest group
unfoldable pub entry : List ℤ → ℕ → ℤ
entry table word = get_or table (word % 256) (pos 0)

-- the entries of its three groups, times 1, 256 and 65,536 from the lowest, added
unfoldable pub by_groups : List ℤ → ℕ → ℤ
by_groups table word = entry table word +ℤ pos 256 *ℤ entry table (word / 256) +ℤ pos 65536 *ℤ entry table (word / 65536)
