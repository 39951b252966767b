-- Demand 2, its second sentence (docs/CARD.md, "The three demands"): a whole card that reading accepts with all its planes, and whose values are in the range of
-- samples, is written back byte for byte where its losses are the measured ones; an old card gains the line of losses, and nothing else of it changes (both since
-- request 7).
use Rattle.std.specs.Prelude.{List, ◌++◌, ◌≡◌, ℕ, ◌+◌, ◌*◌, ◌<◌, ◌≤◌, ℤ, length, get_or, take, drop}
use Rattle.std.proofs.Math.Option.{none, some}
use Rattle.integers.specs.Distance.{Within}
use Rattle.sheet.specs.Limits.{sample_most}
use Rattle.sheet.specs.Lists.{at}
use Rattle.sheet.specs.Sheet.{points}
use Rattle.header.specs.declared.Header.{Header}
use Rattle.header.specs.Refusals.{refusal}
use Rattle.header.specs.Header.{cell_bytes, first_lines, loss_text}
use Rattle.header.specs.Opening.{opening}
use Rattle.packing.specs.Planes.{losses_for}
use Rattle.card.specs.Reading.{Reading, reading}
use Rattle.card.specs.Writing.{writing, output_least}

-- the header of a card's bytes
abbrev pub header_in : List ℕ → Header
header_in bs = (opening bs).header

-- a reading with all planes, in slices that hold qs and vs before
abbrev pub read_all : List ℤ → List ℤ → List ℕ → Reading
read_all qs vs bs = reading qs vs bs (record { planes = (header_in bs).planes })

pub record Readable (bs : List ℕ) (qs vs : List ℤ) : Type 0 where
  -- the numbers in a slice of bytes
  pub bytes : (i : ℕ) → get_or bs i 0 < 256
  -- the card is whole: all the cells that its header names are there
  pub whole : length bs ≡ (opening bs).long + cell_bytes * (header_in bs).cells
  -- reading accepts it
  pub taken : (read_all qs vs bs).refused.number ≡ 0
  -- its values are in the range of samples
  pub range : (p : ℕ) → Within sample_most (at (read_all qs vs bs).values p)

-- slices that writing takes for as many points
pub record Room (points : ℕ) (qs vs : List ℤ) (out : List ℕ) : Type 0 where
  pub coefficients : length qs ≡ points
  pub values : length vs ≡ points
  pub output : output_least ≤ length out

-- the losses that are measured of what a reading gives
abbrev pub measured_of : List ℕ → Reading → List ℕ
measured_of bs r = losses_for (header_in bs).shape r.coefficients

-- writing those values, with the card's own shape, curve and step, is not refused, and gives the coefficients and the values again, and this card
abbrev pub WritesBack : List ℕ → Reading → List ℕ → List ℤ → List ℤ → List ℕ → Type 0
WritesBack bs r card qs vs out =
    writing r.values (header_in bs).shape (header_in bs).curve (header_in bs).step qs vs out
    ≡ record {
      refused = refusal 0 0 0;
      long = length card;
      coefficients = r.coefficients;
      values = r.values;
      output = card ++ drop (length card) out;
    }

-- an old card with the line of losses: behind its first six lines, before its line of cells and its planes
abbrev pub with_line : List ℕ → List ℕ → List ℕ
with_line bs ls =
    let n = length (first_lines (header_in bs)) in
    take n bs ++ loss_text (some ls) ++ drop n bs

pub record WrittenBack : Type 0 where
  -- a card whose line of losses is the measured one is written back byte for byte
  pub same : (bs : List ℕ) (qs vs : List ℤ) → Readable bs qs vs
      → (let r = read_all qs vs bs in (opening bs).losses ≡ some (measured_of bs r)
      → (qs' vs' : List ℤ) (out : List ℕ) → Room (points (header_in bs).shape) qs' vs' out
      → WritesBack bs r bs qs' vs' out)
  -- an old card gains the measured line, and its planes and every other line stay
  pub gains : (bs : List ℕ) (qs vs : List ℤ) → Readable bs qs vs → (opening bs).losses ≡ none
      → (let r = read_all qs vs bs in (qs' vs' : List ℤ) (out : List ℕ) → Room (points (header_in bs).shape) qs' vs' out
      → WritesBack bs r (with_line bs (measured_of bs r)) qs' vs' out)
