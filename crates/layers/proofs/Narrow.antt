-- A layer is narrow exactly where none of its points has all four neighbours: the outermost lie 6s apart (`four-wide`), and in a layer that is not
-- narrow the point 3s along the first line has them (`wide-four`). So it carries by the cubic curve where four are taken, and an empty layer is narrow.
use mathlib.Core.Path.{◌≡◌, refl, sym, ◌∙◌}
use mathlib.Core.Bool.{true, false, true≢false, false≢true}
use Prim.Native.Nat.{ℕ, ◌+◌, ◌*◌, ◌%◌, ◌<◌, ◌≤◌}
use native.Mathlib.Nat.{zero-mod, add-mul-mod_self_right, mod-eq_of_lt}
use native.Mathlib.Omega.{arith}
use lib.Dec.{leb, ltb}
use borrow.Author.Tests.{ltb-true, leb-true, lt-leb, le-leb, lt-ltb, eq-eqb, leb-false}
use Rattle.sheet.specs.declared.Shape.{Shape}
use Rattle.sheet.specs.declared.Curve.{Curve}
use Rattle.sheet.specs.declared.Curve.TheVariants.{Linear, Cubic}
use Rattle.sheet.specs.declared.Direction.{Direction}
use Rattle.sheet.specs.declared.Direction.TheVariants.{Anchor, Across, Down, Between}
use Rattle.sheet.specs.Sheet.{accepted, place, member, direction, spacing, along, layer_size}
use Rattle.layers.specs.Prediction.{all_four, uses_four}
use Rattle.layers.specs.Carry.{narrow_most, narrow, curve_of}
use Rattle.integers.proofs.Bools.{and_left, and_right, and_both, by, cond_no}
use Rattle.sheet.proofs.Accepting.{Sheet, accepted-yes}
use Rattle.sheet.proofs.Fits.{place-in, place-has, spacing-some}
use Rattle.sheet.proofs.Places.{size_none}

-- ---- where there are four
four-in : (n t s : ℕ) → all_four n t s ≡ true → (3 * s ≤ t) × (t + 3 * s < n)
four-in n t s e = (leb-true (3 * s) t (and_left (leb (3 * s) t) (ltb (t + 3 * s) n) e), ltb-true (t + 3 * s) n (and_right (leb (3 * s) t) (ltb (t + 3 * s) n) e))

pub uses-four : (curve : Curve) (n t s : ℕ) → uses_four curve n t s ≡ true → (3 * s ≤ t) × (t + 3 * s < n)
uses-four Linear n t s e = absurd (false≢true e)
uses-four Cubic n t s e = four-in n t s e

module _ (sh : Shape) (k : ℕ) where
  -- whatever the place t on a line of the layer
  pub four-wide : (t : ℕ) → all_four (along sh (direction sh k)) t (spacing sh k) ≡ true → narrow sh k ≡ false
  unfolding narrow
  four-wide t e =
      let n = along sh (direction sh k) in
      lt-leb n (narrow_most sh k) (omega (arith, four-in n t (spacing sh k) e))

  pub four-cubic : (curve : Curve) (t : ℕ) → uses_four curve (along sh (direction sh k)) t (spacing sh k) ≡ true → curve_of sh curve k ≡ Cubic
  four-cubic Linear t e = absurd (false≢true e)
  four-cubic Cubic t e = cond_no (narrow sh k) Linear Cubic (four-wide t e)

-- ---- in a layer that is not narrow
-- the place of a point on its line
abbrev pub place_on : Direction → ℕ → ℕ → ℕ → ℕ
place_on Anchor z r c = 0
place_on Across z r c = c
place_on Down z r c = r
place_on Between z r c = z

-- a point of the layer with all four neighbours
pub record Four (sh : Shape) (dir : Direction) (s : ℕ) : Type 0 where
  pub z : ℕ
  pub r : ℕ
  pub c : ℕ
  pub sheet : z < sh.depth
  pub row : r < sh.rows
  pub col : c < sh.cols
  pub here : member dir s z r c ≡ true
  pub four : all_four (along sh dir) (place_on dir z r c) s ≡ true

module _ {sh : Shape} (ok : Sheet sh) (s : ℕ) (some : 0 < s) where
  third : (3 * s) % (2 * s) ≡ s
  third = let e : 3 * s ≡ s + 1 * (2 * s) = omega arith in rw e (add-mul-mod_self_right s 1 (2 * s) ∙ mod-eq_of_lt (omega arith))

  all-four : (n : ℕ) → 6 * s < n → all_four n (3 * s) s ≡ true
  all-four n w = and_both (leb (3 * s) (3 * s)) (ltb (3 * s + 3 * s) n) (le-leb (3 * s) (3 * s) (omega arith)) (lt-ltb (3 * s + 3 * s) n (omega arith))

  pub wide-four : (dir : Direction) → 6 * s < along sh dir → Four sh dir s
  wide-four Anchor w = absurd (omega arith)
  wide-four Across w =
      record { z = 0; r = 0; c = 3 * s; sheet = ok.thick; row = ok.tall; col = omega arith; here = rw (zero-mod (2 * s), third) (eq-eqb s s refl); four = all-four _ w }
  wide-four Down w =
      record { z = 0; r = 3 * s; c = 0; sheet = ok.thick; row = omega arith; col = ok.wide; here = rw (zero-mod (2 * s), zero-mod s, third, eq-eqb s s refl); four = all-four _ w }
  wide-four Between w =
      record { z = 3 * s; r = 0; c = 0; sheet = omega arith; row = ok.tall; col = ok.wide; here = rw (zero-mod s, third, eq-eqb s s refl); four = all-four _ w }

-- so an empty layer is narrow
pub empty-narrow : (sh : Shape) → accepted sh ≡ true → (k : ℕ) → layer_size sh k ≡ 0 → narrow sh k ≡ true
unfolding narrow
empty-narrow sh ok k none =
    by (narrow sh k) (λ e. e)
    (λ e.
    let f = wide-four (accepted-yes sh ok) (spacing sh k) (spacing-some sh k) (direction sh k) (leb-false (along sh (direction sh k)) (narrow_most sh k) e) in
    absurd (true≢false (sym (place-has sh k f.z f.row f.col ∙ f.here) ∙ size_none sh k none (place sh f.z f.r f.c) (place-in sh f.sheet f.row f.col))))
