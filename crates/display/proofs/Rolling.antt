-- What `open` and `roll` answer for a card's bytes, in slices of zeros cut to the sheet and on a page with room for any, is what is shown of them and their roll.
use mathlib.Core.List.{List}
use mathlib.Core.Path.{◌≡◌, ap, ap₂, ◌∙◌}
use Prim.Native.Nat.{ℕ, ◌+◌, ◌*◌}
use native.Mathlib.Omega.{arith}
use borrow.Author.Tests.{eqb-true, eqb-false}
use lib.Dec.{eqb}
use lib.IntN.{ℤ, pos}
use lib.ListN.{length, take, drop, replicate}
use lib.Seq.{take_at}
use Rattle.std.specs.Prelude.{Ok}
use Rattle.integers.proofs.Bools.{by}
use Rattle.sheet.specs.Limits.{points_most}
use Rattle.sheet.specs.Sheet.{points}
use Rattle.sheet.specs.Workings.Shapes.{points_in}
use Rattle.header.specs.declared.Opened.{Opened}
use Rattle.header.specs.Opening as O
use Rattle.header.specs.Opening.{opening}
use Rattle.header.proofs.OpenedSize.{opened-small}
use Rattle.roll.specs.Page.{line_places, page_length}
use Rattle.roll.specs.Rolling.{Rolling, rolling}
use Rattle.roll.proofs.Pages.{text-long}
use Rattle.roll.proofs.Shown.{printable, values-long, figure-fits}
use Rattle.roll.proofs.Rolled.{rolled_as, rolling-refused, rolling-is}
use Rattle.display.specs.Shown.{room, seen, values_of, rolled_text}
use Rattle.display.specs.Workings.{page_most}
use Rattle.display.proofs.Seeing.{shape_is, cut}

-- a roll in the room for what is shown
abbrev pub rolled_in : List ℕ → List ℕ → Rolling
rolled_in page bs = rolling (room bs) (room bs) page bs

module _ (bs : List ℕ) where
  pub in-room : {n : ℕ} {cs ws : List ℤ} {r : Rolling} (page : List ℕ) → n ≡ points (opening bs).header.shape → cs ≡ replicate points_most (pos 0) → ws ≡ replicate points_most (pos 0) → r ≡ rolling (take n cs) (take n ws) page bs → r ≡ rolled_in page bs
  in-room {n} {cs} {ws} page long c w rolled =
      rolled ∙ ap₂ (λ (a b : List ℤ). rolling a b page bs) (cut bs long cs c) (cut bs long ws w)

  pub page-long : (o : Opened) → O.as_opening (Ok o) (opening bs).losses ≡ opening bs → {n : ℕ} → n ≡ (line_places + 1) * (points_in o.header.shape + 1) → n ≡ page_length (opening bs).header.shape
  page-long o e long = long ∙ ap (λ (n : ℕ). (line_places + 1) * (n + 1)) (ap points_in (shape_is bs o e) ∙ (opened-small bs).0)

module _ (bs page : List ℕ) (big : length page ≡ page_most) where
  -- the page has room
  printed-on : (seen bs).refused.number ≡ 0 → rolled_in page bs ≡ rolled_as (room bs) (room bs) page bs
  printed-on shown = rolling-is (room bs) (room bs) page bs shown (omega (arith, (opened-small bs).1))

  pub number_is : (rolled_in page bs).shown.refused.number ≡ (seen bs).refused.number
  number_is =
      by (eqb (seen bs).refused.number 0)
      (λ y. ap (λ (r : Rolling). r.shown.refused.number) (printed-on (eqb-true _ 0 y)))
      (λ n. ap (λ (r : Rolling). r.shown.refused.number) (rolling-refused (room bs) (room bs) page bs (eqb-false _ 0 n)))

  pub lines_are : (seen bs).refused.number ≡ 0 → take (page_length (opening bs).header.shape) (rolled_in page bs).page ≡ rolled_text bs
  unfolding rolled_text
  lines_are shown =
      let sh = (opening bs).header.shape in
      let long = text-long sh (seen bs).figure (values_of bs) (printable (room bs) (room bs) bs shown) (figure-fits (room bs) (room bs) bs shown) in
      ap (λ (r : Rolling). take (page_length sh) r.page) (printed-on shown)
      ∙ take_at (rolled_text bs) (drop (length (rolled_text bs)) page) (page_length sh) (omega (arith, long, values-long (room bs) (room bs) bs shown))
