-- A header's text is put exactly where there is room for any header with its losses: by cases on the two tests of `room_for`.
use mathlib.Core.Bool.{true, false}
use mathlib.Core.List.{List}
use mathlib.Core.Option.{some}
use mathlib.Core.Path.{◌≡◌, refl}
use Prim.Native.Nat.{ℕ, ◌+◌, ◌-◌, ◌<◌, ◌≤◌}
use native.Mathlib.Decide.{dec_lt}
use native.Mathlib.Omega.{arith}
use borrow.Author.Tests.{le-leb, lt-leb}
use lib.Dec.{leb}
use lib.ListN.{length}
use lib.Seq.{sets}
use Rattle.integers.proofs.Bools.{and_both, and-no-left, and-no-right}
use Rattle.text.specs.Joined.{joined}
use Rattle.header.specs.declared.Header.{Header}
use Rattle.header.specs.Header.{header_text}
use Rattle.header.specs.Workings.{text_most, room_for, header_end, putting_header}

module _ (out ls : List ℕ) where
  abbrev long : ℕ
  long = length (joined ls)

  room : text_most + long ≤ length out → room_for out ls ≡ true
  unfolding room_for
  room l = and_both _ _ (le-leb text_most (length out) (omega arith)) (le-leb long (length out - text_most) (omega arith))

  no_room : length out < text_most + long → room_for out ls ≡ false
  unfolding room_for
  no_room l =
      elim (dec_lt (length out) text_most) [
        | yes s ↦ and-no-left (leb text_most (length out)) _ (lt-leb text_most (length out) s)
        | no s ↦ and-no-right (leb text_most (length out)) _ (lt-leb long (length out - text_most) (omega arith))
      ]

  pub header-fits : (h : Header) → text_most + length (joined ls) ≤ length out → (header_end out h ls ≡ length (header_text h (some ls))) × (putting_header out h ls ≡ sets out 0 (header_text h (some ls)))
  unfolding header_end putting_header
  header-fits h l = rw (room l) (refl, refl)

  pub header-over : (h : Header) → length out < text_most + length (joined ls) → (header_end out h ls ≡ 0) × (putting_header out h ls ≡ out)
  unfolding header_end putting_header
  header-over h l = rw (no_room l) (refl, refl)
