-- The two lines and the page that are printed of two cards are their text. The number that is answered for two inputs of any length is what comparing all of their bytes is refused for: the refusals come in one order, and where neither input is refused both are all there.
use mathlib.Core.Bool.{Bool, true}
use mathlib.Core.List.{List, [], ◌++◌, append-nil}
use mathlib.Core.Path.{◌≡◌, refl, sym, ◌∙◌}
use Prim.Native.Nat.{ℕ, ◌<◌}
use borrow.Author.Tests.{eqb-true, ltb-true, ltb-false}
use lib.Dec.{eqb, ltb}
use lib.ListN.{length}
use Rattle.integers.proofs.Bools.{by}
use Rattle.text.specs.Line.{has_end, line_text}
use Rattle.header.specs.Header.{ascii}
use Rattle.header.specs.Opening.{opening}
use Rattle.compare.specs.Comparing.{comparing}
use Rattle.display.specs.Shown.{seen}
use Rattle.display.specs.Compared.{first_text, seen_both, marks_of, compared_text}
use Rattle.display.specs.Workings.{buffer_bytes, input_number, first_number, both_number, compared_of}
use Rattle.display.proofs.LongShown.{never-shown, input-number}

module _ (bs bs' : List ℕ) where
  pub compared-pieces : let c = compared_of bs bs' in line_text (ascii "apart=") c.apart ++ first_text c.row c.column ++ marks_of bs bs' ≡ compared_text bs bs'
  unfolding compared_text
  compared-pieces = refl

  -- the order of the refusals
  both-refused : (seen_both bs bs').refused.number ≡ first_number (seen bs).refused.number (first_number (seen bs').refused.number (seen_both bs bs').refused.number)
  unfolding comparing
  both-refused =
      by (eqb (seen bs).refused.number 0)
      (λ x. by (eqb (seen bs').refused.number 0) (λ y. rw (x, y)) (λ y. rw (x, y)))
      (λ x. rw x)

-- ---- an input: its first bytes, what follows them, and whether a byte 10 is said to follow them
pub record Told (bs rest : List ℕ) (ends : Bool) : Type 0 where
  pub all : length bs < buffer_bytes → rest ≡ []
  pub follows : (opening bs).refused.number ≡ 5 → ends ≡ has_end rest

module _ {bs rest : List ℕ} {ends : Bool} (told : Told bs rest ends) where
  number_is : input_number bs ends ≡ (seen (bs ++ rest)).refused.number
  number_is = input-number bs rest ends told.all told.follows

  -- one that is shown is all there
  all_there : eqb (input_number bs ends) 0 ≡ true → bs ++ rest ≡ bs
  all_there shown =
      by (ltb (length bs) buffer_bytes)
      (λ short. rw (told.all (ltb-true (length bs) buffer_bytes short)) (append-nil bs))
      (λ long. absurd (never-shown bs rest (ltb-false (length bs) buffer_bytes long) (sym number_is ∙ eqb-true _ 0 shown)))

pub both-number : {bs rest bs' rest' : List ℕ} {ends ends' : Bool} → Told bs rest ends → Told bs' rest' ends' → both_number bs ends bs' ends' ≡ (seen_both (bs ++ rest) (bs' ++ rest')).refused.number
both-number {bs} {rest} {bs'} {rest'} {ends} {ends'} told told' =
    let refused = (seen_both (bs ++ rest) (bs' ++ rest')).refused.number in
    let ordered : refused ≡ first_number (input_number bs ends) (first_number (input_number bs' ends') refused) = rw (number_is told, number_is told') (both-refused (bs ++ rest) (bs' ++ rest')) in
    by (eqb (input_number bs ends) 0)
    (λ x. by (eqb (input_number bs' ends') 0) (λ y. rw (x, y, all_there told x, all_there told' y)) (λ y. rw (x, y) (sym (rw (x, y) at ordered))))
    (λ x. rw x (sym (rw x at ordered)))
