-- What is answered and printed of an input of any length. One that is longer than any card is never accepted, so it is the number, and the one line, of the refusal that its first bytes tell, and whether a byte 10 follows, which may be looked for part by part.
use mathlib.Core.Bool.{Bool, false, cond, ◌||◌}
use mathlib.Core.List.{List, [], ◌++◌, append-nil}
use mathlib.Core.Path.{◌≡◌, ap, sym, ◌∙◌}
use Prim.Native.Nat.{ℕ, ◌<◌, ◌≤◌}
use native.Mathlib.Omega.{arith}
use borrow.Author.Tests.{eqb-true, eqb-false, ne_eqb, ltb-true, ltb-false}
use lib.Dec.{eqb, ltb}
use lib.ListN.{length, drop, length-append}
use Rattle.integers.proofs.Bools.{by}
use Rattle.text.specs.Line.{newline, has_end, line_text}
use Rattle.text.proofs.Search.{Free, has_end_lem, no_end_lem, end-inside, end-past, before-le, before-in, before-past}
use Rattle.header.specs.Header.{ascii, header_text}
use Rattle.header.specs.Opening.{opening}
use Rattle.header.proofs.HeaderLines.{Accepts}
use Rattle.header.proofs.Opens.{opened-right}
use Rattle.header.proofs.WellFormed.{right-yes}
use Rattle.header.proofs.TextLength.{card-fits}
use Rattle.display.specs.Shown.{text_of, seen, shown_text}
use Rattle.display.specs.Workings.{buffer_bytes, long_number, input_number}
use Rattle.display.proofs.AllPieces.{refused-shown}
use Rattle.display.proofs.LongInput.{long-opening}

-- a card has at most 36,864 bytes
long-refused : (bs : List ℕ) → 36864 < length bs → Accepts (opening bs) → ⊥
long-refused bs h e =
    let o = opened-right bs e in
    let text = header_text (opening bs).header (opening bs).losses in
    let z : ⊥ = omega (arith, ap length o.text-is, length-append text (drop (opening bs).long bs), o.body-fits, card-fits (right-yes (opening bs).header o.right_is) (opening bs).losses o.losses-fit) in
    z

module _ (bs rest : List ℕ) (enough : buffer_bytes ≤ length bs) where
  not_opened_lem : eqb (opening (bs ++ rest)).refused.number 0 ≡ false
  not_opened_lem = ne_eqb _ _ (long-refused (bs ++ rest) (omega (arith, length-append bs rest)))

  pub never-shown : (seen (bs ++ rest)).refused.number ≡ 0 → ⊥
  never-shown shown = eqb-false _ _ not_opened_lem (sym (refused-shown (bs ++ rest) not_opened_lem) ∙ shown)

  pub long-number : (seen (bs ++ rest)).refused.number ≡ long_number (opening bs).refused.number (has_end rest)
  long-number = refused-shown (bs ++ rest) not_opened_lem ∙ long-opening bs rest enough

  pub long-shown : shown_text (bs ++ rest) ≡ line_text (ascii "refused=") (long_number (opening bs).refused.number (has_end rest))
  unfolding shown_text text_of
  long-shown = rw (refused-shown (bs ++ rest) not_opened_lem, not_opened_lem) (ap (line_text (ascii "refused=")) (long-opening bs rest enough))

-- ---- an input of any length
-- what follows counts only where the first bytes end before a line's byte 10
ends-alike : (number : ℕ) (ends follows : Bool) → (number ≡ 5 → ends ≡ follows) → long_number number ends ≡ long_number number follows
ends-alike number ends follows same = by (eqb number 5) (λ y. rw y (ap (λ (b : Bool). cond b 6 5) (same (eqb-true number 5 y)))) (λ n. rw n)

-- the number answered is that of all of its bytes
pub input-number : (bs rest : List ℕ) (ends : Bool) → (length bs < buffer_bytes → rest ≡ []) → ((opening bs).refused.number ≡ 5 → ends ≡ has_end rest) → input_number bs ends ≡ (seen (bs ++ rest)).refused.number
input-number bs rest ends all follows =
    by (ltb (length bs) buffer_bytes)
    (λ y. rw (y, all (ltb-true (length bs) buffer_bytes y), append-nil bs))
    (λ n. rw n (ends-alike (opening bs).refused.number ends (has_end rest) follows ∙ sym (long-number bs rest (ltb-false (length bs) buffer_bytes n))))

-- ---- a byte 10 in one part or in the other
pub end-append : (a b : List ℕ) → has_end (a ++ b) ≡ has_end a || has_end b
end-append a b =
    by (has_end a)
    (λ t. rw t (has_end_lem (a ++ b) (omega (arith, length-append a b, before-in newline a b (end-inside a t), end-inside a t))))
    (λ t.
    let free : Free newline a = omega (arith, before-le newline a, end-past a t) in
    rw t
    (by (has_end b)
    (λ e. rw e (has_end_lem (a ++ b) (omega (arith, length-append a b, before-past newline a b free, end-inside b e))))
    (λ e. rw e (no_end_lem (a ++ b) (omega (arith, length-append a b, before-past newline a b free, end-past b e))))))
