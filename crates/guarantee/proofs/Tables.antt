-- The table of groups: the table's law by its entries, and reading's by the word of each point, whose 23 bits are three groups.
use mathlib.Core.Path.{sym, ◌∙◌}
use native.Mathlib.Omega.{arith}
use Rattle.digits.proofs.Groups.{entry-is, entry-sum, by-groups}
use Rattle.header.proofs.WellFormed.{right-yes, few-planes}
use Rattle.loading.specs.InBytes.{word_read}
use Rattle.loading.proofs.ReadWords.{number_read, word_small}
use Rattle.guarantee.specs.Groups.{Groups}

pub groups : Groups
groups =
    record {
      entries = entry-is;
      sums = entry-sum;
      coefficients = λ h long bs plan r k i l.
          sym (number_read h long bs plan k i (few-planes (right-yes h r) k l))
          ∙ sym (by-groups (word_read h long bs plan k i) (omega (arith, word_small h long bs plan k i)));
    }
