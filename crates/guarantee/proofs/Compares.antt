-- Both shown values are within their figures of the samples. Where the samples are equal, the values are within both figures together: so they agree.
use mathlib.Core.Bool.{true}
use mathlib.Core.List.{List}
use mathlib.Core.Path.{◌≡◌, refl, sym, ap, ◌∙◌, subst}
use Prim.Native.Nat.{ℕ, ◌+◌, ◌*◌, ◌/◌, ◌%◌, ◌<◌}
use native.Mathlib.Omega.{arith}
use native.Mathlib.Nat.{div-add-mod'}
use borrow.Author.Tests.{not-true, eq-eqb, leb-false}
use lib.IntN.{ℤ, nat_abs, ◌-ℤ◌}
use lib.ListN.{length}
use Rattle.integers.specs.Distance.{Near}
use Rattle.integers.proofs.Near.{near-is}
use Rattle.sheet.specs.declared.Shape.{Shape}
use Rattle.sheet.specs.Lists.{at, count, nth}
use Rattle.sheet.specs.Sheet.{sheet_of, points}
use Rattle.sheet.proofs.Lists.{nth-is}
use Rattle.header.specs.Opening.{Opening, opening}
use Rattle.card.specs.Reading.{Reading, showing}
use Rattle.compare.specs.Comparing.{Lent, agree, apart_at, same_size, comparing}
use Rattle.compare.proofs.CompareCall.{Compares, comparing-is}
use Rattle.compare.proofs.Marks.{marked-is}
use Rattle.guarantee.specs.Guarantee.{Slices, Gives, Demand3}
use Rattle.guarantee.specs.Comparison.{Pulled, pulled_card, Differ, TellsApart, Comparison}
use Rattle.guarantee.proofs.Holds.{guarantee}

-- ---- two readings near their samples: where they are apart the samples differ
differ-by : {sh sh' : Shape} {g g' : List ℤ} {a b : Reading} → Gives sh g a.figure a → Gives sh' g' b.figure b
    → (p : ℕ) → p < points sh → p < points sh' → apart_at a b p ≡ true → at g p ≡ at g' p → ⊥
unfolding apart_at agree
differ-by {sh} {sh'} {g} {g'} {a} {b} one two p l l' apart same =
    let v = at a.values p in
    let v' = at b.values p in
    let near = one.near p l in
    let near' : Near b.figure (at g p) v' = rw same (two.near p l') in
    let both : Near (a.figure + b.figure) v v' = record { above = omega arith; below = omega arith } in
    let far = leb-false (nat_abs (v -ℤ v')) (a.figure + b.figure) (not-true _ apart) in
    omega (arith, far, (near-is (a.figure + b.figure) v v').1 both)

-- ---- one card
module _ {rows cols : ℕ} (x : Pulled rows cols) where
  abbrev sh : Shape
  sh = sheet_of rows cols x.levels

  demand : Demand3 x.samples sh x.curve x.step x.coefficients x.values x.output
  demand = guarantee.demand x.samples rows cols x.levels x.curve x.step x.coefficients x.values x.output x.accepted

  shape_is : (opening (pulled_card x)).header.shape ≡ sh
  shape_is = ap (λ (o : Opening). o.header.shape) (demand.opens x.byte x.behind x.there)

  shown : (qs vs : List ℤ) → Slices sh qs vs → (let r = showing qs vs (pulled_card x) in Gives sh x.samples r.figure r)
  shown qs vs s = (demand.shown x.byte x.behind x.there qs vs s).gives

-- ---- both
module _ {rows cols : ℕ} (x y : Pulled rows cols) (one two : Lent) (apart : List ℕ)
    (s : Slices (sh x) one.coefficients one.values) (s' : Slices (sh y) two.coefficients two.values) (long : length apart ≡ rows * cols) where
  abbrev a : Reading
  a = showing one.coefficients one.values (pulled_card x)

  abbrev b : Reading
  b = showing two.coefficients two.values (pulled_card y)

  abbrev n : ℕ
  n = points (opening (pulled_card x)).header.shape

  n-is : n ≡ rows * cols
  n-is = ap points (shape_is x) ∙ (let z : 1 * rows * cols ≡ rows * cols = omega arith in z)

  fine : Compares one two apart (pulled_card x) (pulled_card y)
  unfolding same_size
  fine =
      record {
        first = (shown x one.coefficients one.values s).taken;
        second = (shown y two.coefficients two.values s').taken;
        sized = record {
          same = rw (shape_is x, shape_is y, eq-eqb rows rows refl, eq-eqb cols cols refl);
          long = long ∙ sym n-is;
        };
      }

  apart-differs : (p : ℕ) → p < rows * cols → apart_at a b p ≡ true → Differ x y p
  apart-differs p l e =
      let k : p < 1 * rows * cols = omega arith in
      differ-by (shown x one.coefficients one.values s) (shown y two.coefficients two.values s') p k k e

  -- the point that is named
  named-differs : 0 < count (apart_at a b) n → (let c = (opening (pulled_card x)).header.shape.cols in let q = nth (apart_at a b) n 0 in Differ x y (q / c * cols + q % c))
  named-differs some =
      let q = nth (apart_at a b) n 0 in
      let is = nth-is (apart_at a b) n 0 some in
      let back : q / cols * cols + q % cols ≡ q = div-add-mod' q cols in
      subst (λ (c : ℕ). Differ x y (q / c * cols + q % c)) (sym (ap (λ (z : Shape). z.cols) (shape_is x)))
      (subst (Differ x y) (sym back) (apart-differs q (omega (arith, is.0, n-is)) is.1))

  tells : TellsApart x y (comparing one two apart (pulled_card x) (pulled_card y))
  tells =
      rw (comparing-is one two apart (pulled_card x) (pulled_card y) fine)
      (record {
        taken = refl;
        differ = λ p l m. apart-differs p l (sym (marked-is (apart_at a b) n p (omega (arith, n-is))) ∙ eq-eqb _ 1 m);
        named = λ some. named-differs some;
      })

pub comparison : Comparison
comparison = record { tells = λ rows cols x y one two apart s s' long. tells x y one two apart s s' long }
