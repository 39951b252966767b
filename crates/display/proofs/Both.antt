-- What `open` and `compare` answer for two cards' bytes, in slices of zeros cut to the sheets, is what is said of both; its marks can be put in lines, on a page with room for any sheet's.
use mathlib.Core.Bool.{Bool, false, cond}
use mathlib.Core.List.{List, ◌++◌}
use mathlib.Core.Path.{◌≡◌, ap, sym, ◌∙◌}
use Prim.Native.Nat.{ℕ, ◌+◌, ◌*◌, ◌≤◌}
use native.Mathlib.Nat.{mul-le-mul_left}
use native.Mathlib.Omega.{arith}
use borrow.Author.Tests.{eqb-true, eqb-false, ne_eqb}
use lib.Dec.{eqb}
use lib.IntN.{ℤ, pos}
use lib.ListN.{length, take, drop, replicate}
use lib.Seq.{sets, sets-eq, take_at}
use Rattle.std.specs.Prelude.{Ok, Err}
use Rattle.integers.proofs.Bools.{by, choice, cond_no}
use Rattle.sheet.specs.Limits.{points_most}
use Rattle.sheet.specs.Sheet.{points}
use Rattle.sheet.specs.Workings.Shapes.{points_in}
use Rattle.sheet.proofs.Lists.{length-tabulate, get_or-tabulate, get_or-zeros}
use Rattle.header.specs.declared.Details.{Details}
use Rattle.header.specs.declared.Opened.{Opened}
use Rattle.header.specs.declared.Refusal.{Refusal}
use Rattle.header.specs.Refusals.{details_of}
use Rattle.header.specs.Opening as O
use Rattle.header.specs.Opening.{opening}
use Rattle.header.proofs.OpenedSize.{opened-sheet}
use Rattle.header.proofs.Refusing.{answers, refused-blank, refusing}
use Rattle.card.specs.Reading.{Reading, showing}
use Rattle.card.proofs.ReadCall.{showing-no}
use Rattle.compare.specs.declared.Compared.{Compared}
use Rattle.compare.specs.Comparing.{apart_at, marks, Lent, Comparing, size_refusal, not_compared, unless, comparing, as_comparing, lent}
use Rattle.display.specs.Shown.{room}
use Rattle.display.specs.Compared.{marks_text, seen_both, marks_of}
use Rattle.display.specs.Workings.{marks_most, Marks, as_compared, compared_of}
use Rattle.display.proofs.Seeing.{shape_is, sheet-small, points-few, cut-is, cut}
use Rattle.display.proofs.MarkLines.{marks-long}

-- ---- marks are 0 or 1
zeros-marked : (n : ℕ) → Marks (replicate n 0)
zeros-marked n p h = omega (arith, get_or-zeros n p)

marks-marked : (apart : ℕ → Bool) (n : ℕ) → Marks (marks apart n)
unfolding marks
marks-marked apart n p h =
    let f : ℕ → ℕ = λ p. cond (apart p) 1 0 in
    rw (get_or-tabulate n f p 0 (omega (arith, length-tabulate n f))) (choice (λ (m : ℕ). m ≤ 1) (apart p) (λ _. omega arith) (λ _. omega arith))

record Marked (c : Comparing) : Type 0 where
  marked : Marks c.apart

module _ (one two : Lent) (n : ℕ) where
  unless-marked : (d : Details) {go : Comparing} → Marked go → Marked (unless one two (replicate n 0) d go)
  unless-marked d m = choice Marked (eqb d.number 0) (λ _. m) (λ _. record { marked = zeros-marked n })

  comparing-marked : (bs bs' : List ℕ) → Marked (comparing one two (replicate n 0) bs bs')
  unfolding comparing
  comparing-marked bs bs' =
      let a = showing one.coefficients one.values bs in
      let b = showing two.coefficients two.values bs' in
      let sh = (opening bs).header.shape in
      unless-marked a.refused
      (unless-marked b.refused
      (unless-marked (size_refusal sh (opening bs').header.shape (replicate n 0)) (record { marked = marks-marked (apart_at a b) (points sh) })))

-- ---- a sheet has no more rows than points
rows_few : (bs : List ℕ) → let sh = (opening bs).header.shape in sh.depth * sh.rows ≤ points sh
rows_few bs =
    by (eqb (opening bs).refused.number 0)
    (λ y. let sh = (opening bs).header.shape in omega (arith, mul-le-mul_left (sh.depth * sh.rows) (opened-sheet bs (eqb-true _ 0 y)).wide))
    (λ n. rw (refused-blank (answers bs) (eqb-false _ 0 n)) (omega arith))

-- ---- two cards
module _ (bs bs' : List ℕ) where
  pub in_both : {n n' : ℕ} {cs ws cs' ws' : List ℤ} {ms : List ℕ} {c : Comparing} → n ≡ points (opening bs).header.shape → n' ≡ points (opening bs').header.shape
      → cs ≡ replicate points_most (pos 0) → ws ≡ replicate points_most (pos 0) → cs' ≡ replicate points_most (pos 0) → ws' ≡ replicate points_most (pos 0) → ms ≡ replicate points_most 0
      → c ≡ comparing (lent (take n cs) (take n ws)) (lent (take n' cs') (take n' ws')) (take n ms) bs bs' → c ≡ seen_both bs bs'
  in_both {n} {n'} {cs} {ws} {cs'} {ws'} {ms} long long' c w c' w' m compared =
      let one : (l : List ℤ) → l ≡ replicate points_most (pos 0) → take n l ≡ room bs = cut bs long in
      let two : (l : List ℤ) → l ≡ replicate points_most (pos 0) → take n' l ≡ room bs' = cut bs' long' in
      let three : take n ms ≡ replicate (points (opening bs).header.shape) 0 =
      cut-is 0 ms m n (points-few bs long) ∙ ap (λ (k : ℕ). replicate k 0) long in
      compared ∙ (λ i. comparing (lent (one cs c i) (one ws w i)) (lent (two cs' c' i) (two ws' w' i)) (three i) bs bs')

  -- the answer
  pub not-compared : (r : Refusal) {one two : Lent} {ms : List ℕ} → as_comparing (Err r) one two ms ≡ seen_both bs bs' → as_compared (Err r) ≡ compared_of bs bs'
  not-compared r e =
      let refused : eqb (seen_both bs bs').refused.number 0 ≡ false = ne_eqb _ 0 (λ z. refusing r (ap (λ (c : Comparing). c.refused.number) e ∙ z)) in
      let long : 0 ≡ (compared_of bs bs').length = sym (cond_no (eqb (seen_both bs bs').refused.number 0) _ _ refused) in
      λ i. record { number = (e i).refused.number; apart = (e i).number; row = (e i).row; column = (e i).column; length = long i }

  pub compared-is : (c : Compared) {one two : Lent} {ms : List ℕ} (n : ℕ) → n ≡ length (marks_of bs bs') → as_comparing (Ok c) one two ms ≡ seen_both bs bs'
      → as_compared (Ok (record { apart = c.number; row = c.row; column = c.column; length = n })) ≡ compared_of bs bs'
  compared-is c n is e =
      λ i. record { number = (e i).refused.number; apart = (e i).number; row = (e i).row; column = (e i).column; length = cond (eqb (e i).refused.number 0) (is i) 0 }

  -- where the first does not open, its refusal is that of both
  pub unopened : (r : Refusal) → O.not_opened (details_of r) ≡ opening bs → as_comparing (Err r) (lent (room bs) (room bs)) (lent (room bs') (room bs')) (replicate (points (opening bs).header.shape) 0) ≡ seen_both bs bs'
  unfolding comparing
  unopened r e =
      let z = showing-no bs r e (room bs) (room bs) in
      let refused : eqb (showing (room bs) (room bs) bs).refused.number 0 ≡ false = ne_eqb _ 0 (λ y. refusing r (ap (λ (s : Reading). s.refused.number) z ∙ y)) in
      rw refused (ap (λ (s : Reading). not_compared (lent (room bs) (room bs)) (lent (room bs') (room bs')) (replicate (points (opening bs).header.shape) 0) s.refused) z)

-- ---- the lines of marks, behind the first that was opened
module _ (bs bs' : List ℕ) (o : Opened) (e : O.as_opening (Ok o) (opening bs).losses ≡ opening bs) where
  abbrev rows : ℕ
  rows = o.header.shape.depth * o.header.shape.rows

  pub few : rows ≤ points o.header.shape
  few = rw (shape_is bs o e) (rows_few bs)

  -- the marks, at the front of their slice
  pub marks-front : {n : ℕ} {ms : List ℕ} (behind : List ℕ) → n ≡ points_in o.header.shape → length ms ≡ n → ms ≡ (seen_both bs bs').apart → (take n (ms ++ behind) ≡ (seen_both bs bs').apart) × (length (take n (ms ++ behind)) ≡ points o.header.shape)
  marks-front {n} {ms} behind long all is =
      let front = take_at ms behind n all in
      (front ∙ is, ap length front ∙ all ∙ long ∙ (sheet-small bs o e).0)

  -- the marks in lines
  module _ {ms : List ℕ} (is : ms ≡ (seen_both bs bs').apart) (all : length ms ≡ points o.header.shape) where
    pub can-put : (page : List ℕ) → length page ≡ marks_most → (rows * o.header.shape.cols ≡ length ms) × (length ms + rows ≤ length page) × Marks ms
    can-put page big =
        (sym all, omega (arith, all, big, few, (sheet-small bs o e).1), rw is (comparing-marked (lent (room bs) (room bs)) (lent (room bs') (room bs')) (points (opening bs).header.shape) bs bs').marked)

    text-is : marks_text rows o.header.shape.cols ms ≡ marks_of bs bs'
    unfolding marks_of
    text-is = rw (is, shape_is bs o e)

    pub text-long : points o.header.shape + rows ≡ length (marks_of bs bs')
    text-long = omega (arith, marks-long rows o.header.shape.cols ms (omega (arith, all))) ∙ ap length text-is

    pub text-put : (page : List ℕ) {next : List ℕ} → length page ≡ marks_most → next ≡ sets page 0 (marks_text rows o.header.shape.cols ms) → take (points o.header.shape + rows) next ≡ marks_of bs bs'
    text-put page big put =
        let text = marks_of bs bs' in
        ap (take (points o.header.shape + rows)) (put ∙ ap (sets page 0) text-is ∙ sets-eq text page 0 (omega (arith, text-long, big, few, (sheet-small bs o e).1)))
        ∙ take_at text (drop (0 + length text) page) (points o.header.shape + rows) (sym text-long)
