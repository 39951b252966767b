-- A sheet's layers are proper, and whatever the prediction rule makes of a relation between values, a layer does: a point looks at points
-- of layers before its own, one, two or four of them along its line.
--     Rule              what the rule makes of a relation R between values: R' between predictions
--     sheet-carries     so does a layer of a sheet, by the curve that it carries by
--     sheet-proper      a sheet's layers are proper
--     exactly-one       so every point stands in exactly one of them
use mathlib.Core.Path.{◌≡◌, refl, sym, ap, ◌∙◌}
use mathlib.Core.Bool.{Bool, true, false, cond, ◌&&◌, ◌||◌, true≢false}
use mathlib.Core.List.{List}
use Prim.Native.Nat.{ℕ, zero, suc, ◌+◌, ◌-◌, ◌*◌, ◌/◌, ◌%◌, ◌<◌, ◌≤◌}
use native.Mathlib.Omega.{arith}
use lib.Arith.{digits_div, digits_mod}
use lib.Dec.{ltb, eqb}
use lib.IntN.{ℤ, pos}
use borrow.Author.Tests.{ltb-true, eqb-true}
use Rattle.sheet.specs.declared.Shape.{Shape}
use Rattle.sheet.specs.declared.Curve.{Curve}
use Rattle.sheet.specs.declared.Curve.TheVariants.{Cubic}
use Rattle.sheet.specs.declared.Direction.{Direction}
use Rattle.sheet.specs.declared.Direction.TheVariants.{Anchor, Across, Down, Between}
use Rattle.sheet.specs.Lists.{at}
use Rattle.sheet.specs.Sheet.{accepted, points, place, directions, layers, member, direction, spacing, along, has, in_layer}
use Rattle.layers.specs.Prediction.{linear, cubic, on, uses_four, line, predicted, predicted_at}
use Rattle.layers.specs.Layering.{layering}
use Rattle.layers.specs.Carry.{curve_of}
use Rattle.layers.proofs.Proper.{Proper, Carries}
use Rattle.layers.specs.Workings.Loops as W
use Rattle.sheet.proofs.Accepting.{accepted-yes}
use Rattle.integers.proofs.Bools.{and_left, and_right, by, cond-rel}
use Rattle.sheet.proofs.Parity.{odd-after, odd-after-3, odd-before, odd-before-3}
use Rattle.sheet.proofs.Earlier.{mult, odd, Looks}
use Rattle.sheet.proofs.Cover.{known, all_known, fresh, looks-known}
use Rattle.sheet.proofs.Fits.{place-in, on_row, on-column, on-depth, sheet-of, row_in, col-in, spacing-some}
use Rattle.layers.proofs.Members.{layer-of, only_one}
use Rattle.layers.proofs.Narrow.{uses-four, four-cubic}

-- what the prediction rule makes of a relation: of one value, of two, and of four where the curve takes four
pub record Rule (curve : Curve) (R R' : ℤ → ℤ → Type 0) : Type 0 where
  pub one : (b b' : ℤ) → R b b' → R' b b'
  pub two : (b c b' c' : ℤ) → R b b' → R c c' → R' (linear b c) (linear b' c')
  pub four : curve ≡ Cubic → (a b c d a' b' c' d' : ℤ) → R a a' → R b b' → R c c' → R d d' → R' (cubic a b c d) (cubic a' b' c' d')

-- a point of a layer stands at an odd multiple of s on its line
module _ (s z r c : ℕ) where
  pub across-odd : member Across s z r c ≡ true → c % (2 * s) ≡ s
  across-odd m = eqb-true _ _ (and_right (mult (2 * s) z && mult (2 * s) r) (odd s c) m)

  pub down-odd : member Down s z r c ≡ true → r % (2 * s) ≡ s
  down-odd m = eqb-true _ _ (and_right (mult (2 * s) z) (odd s r) (and_left (mult (2 * s) z && odd s r) (mult s c) m))

  pub between-odd : member Between s z r c ≡ true → z % (2 * s) ≡ s
  between-odd m = eqb-true _ _ (and_left (odd s z) (mult s r) (and_left (odd s z && mult s r) (mult s c) m))

-- by the curve that a layer carries by, which is cubic wherever four neighbours are taken
module _ (curve layer_curve : Curve) (R R' : ℤ → ℤ → Type 0) (rule : Rule layer_curve R R') (l l' : List ℤ) where
  -- two lists that stand in R at the even multiples of s along a line have predictions in R' at an odd one
  line-rel : (start stride n t s : ℕ) → (uses_four curve n t s ≡ true → layer_curve ≡ Cubic) → 0 < s → t % (2 * s) ≡ s → t < n
      → ((u : ℕ) → u < n → u % (2 * s) ≡ 0 → R (on l start stride u) (on l' start stride u))
      → R' (line curve l start stride n t s) (line curve l' start stride n t s)
  unfolding line
  line-rel start stride n t s at-four some odd within rel =
      let b = rel (t - s) (omega arith) (odd-before s t some odd) in
      cond-rel R' (uses_four curve n t s)
      (λ e.
      let f = uses-four curve n t s e in
      let le : 3 * s ≤ t = f.0 in
      let lt : t + 3 * s < n = f.1 in
      rule.four (at-four e) _ _ _ _ _ _ _ _
      (rel (t - 3 * s) (omega arith) (odd-before-3 s t some odd le)) b
      (rel (t + s) (omega arith) (odd-after s t some odd)) (rel (t + 3 * s) lt (odd-after-3 s t some odd)))
      (λ e. cond-rel R' (ltb (t + s) n)
      (λ e'. rule.two _ _ _ _ b (rel (t + s) (ltb-true (t + s) n e') (odd-after s t some odd)))
      (λ e'. rule.one _ _ b))

  predicted-rel : (sh : Shape) (s : ℕ) → 0 < s → (dir : Direction) → ((t : ℕ) → uses_four curve (along sh dir) t s ≡ true → layer_curve ≡ Cubic) → (z r c : ℕ) → z < sh.depth → r < sh.rows → c < sh.cols → member dir s z r c ≡ true
      → ((z' r' c' : ℕ) → z' < sh.depth → r' < sh.rows → c' < sh.cols → Looks dir s z r c z' r' c' → R (at l (place sh z' r' c')) (at l' (place sh z' r' c')))
      → (dir ≡ Anchor → R' (pos 0) (pos 0))
      → R' (predicted sh curve dir s l z r c) (predicted sh curve dir s l' z r c)
  predicted-rel sh s some Anchor at-four z r c hz hr hc m rel none = none refl
  predicted-rel sh s some Across at-four z r c hz hr hc m rel none =
      line-rel (place sh z r 0) 1 sh.cols c s (at-four c) some (across-odd s z r c m) hc
      (λ u hu even. rw (on_row sh z r u) (rel z r u hz hr hu (refl, refl, even)))
  predicted-rel sh s some Down at-four z r c hz hr hc m rel none =
      line-rel (place sh z 0 c) sh.cols sh.rows r s (at-four r) some (down-odd s z r c m) hr
      (λ u hu even. rw (on-column sh z c u) (rel z u c hz hu hc (refl, even, refl)))
  predicted-rel sh s some Between at-four z r c hz hr hc m rel none =
      line-rel (place sh 0 r c) (sh.rows * sh.cols) sh.depth z s (at-four z) some (between-odd s z r c m) hz
      (λ u hu even. rw (on-depth sh r c u) (rel u r c hu hr hc (even, refl, refl)))

pub known_is : (sh : Shape) (curve : Curve) (k p : ℕ) → W.known (layering sh curve) k p ≡ known sh k (p / sh.cols / sh.rows) (p / sh.cols % sh.rows) (p % sh.cols)
unfolding W.known known in_layer
known_is sh curve zero p = refl
known_is sh curve (suc k) p = ap (λ (t : Bool). t || has sh k (p / sh.cols / sh.rows) (p / sh.cols % sh.rows) (p % sh.cols)) (known_is sh curve k p)

-- what a point of a layer looks at is known before that layer
pub looks-at : (sh : Shape) (curve : Curve) (k z r c z' r' c' : ℕ) → k < layers sh → has sh k z r c ≡ true → z' < sh.depth → r' < sh.rows → c' < sh.cols
    → Looks (direction sh k) (spacing sh k) z r c z' r' c' → W.known (layering sh curve) k (place sh z' r' c') ≡ true
looks-at sh curve k z r c z' r' c' hk m hz hr hc lo =
    known_is sh curve k (place sh z' r' c')
    ∙ rw (digits_div (z' * sh.rows + r') hc, digits_mod (z' * sh.rows + r') hc, digits_div z' hr, digits_mod z' hr) (looks-known sh k z r c z' r' c' hk hz m lo)

-- the anchors stand in layer 0
anchor-first : (sh : Shape) (k : ℕ) → direction sh k ≡ Anchor → k ≡ 0
anchor-first sh k e = by (eqb k 0) (λ t. eqb-true k 0 t) (λ t. let i = (k - 1) % directions sh in absurd (go (eqb k 0) (eqb i 0) (eqb i 1) t e))
  where
    go : (t u v : Bool) → t ≡ false → cond t Anchor (cond u Across (cond v Down Between)) ≡ Anchor → ⊥
    go true u v q e = true≢false q
    go false true v q e = let z : ◌≡◌ {A = ℕ} 0 1 = cc in omega arith
    go false false true q e = let z : ◌≡◌ {A = ℕ} 0 1 = cc in omega arith
    go false false false q e = let z : ◌≡◌ {A = ℕ} 0 1 = cc in omega arith

module _ (sh : Shape) (ok : accepted sh ≡ true) (curve : Curve) where
  pub sheet-carries : (R R' : ℤ → ℤ → Type 0) (k : ℕ) → Rule (curve_of sh curve k) R R' → (k ≡ 0 → R' (pos 0) (pos 0)) → k < layers sh → Carries (layering sh curve) k R R'
  unfolding predicted_at in_layer
  sheet-carries R R' k rule none hk vs vs' rel p hp m =
      let z = p / sh.cols / sh.rows in
      let r = p / sh.cols % sh.rows in
      let c = p % sh.cols in
      let s = accepted-yes sh ok in
      predicted-rel curve (curve_of sh curve k) R R' rule vs vs' sh (spacing sh k) (spacing-some sh k) (direction sh k) (four-cubic sh k curve) z r c
      (sheet-of s p hp) (row_in s p hp) (col-in s p hp) m
      (λ z' r' c' hz hr hc lo. rel (place sh z' r' c') (place-in sh hz hr hc) (looks-at sh curve k z r c z' r' c' hk m hz hr hc lo))
      (λ e. none (anchor-first sh k e))

  pub sheet-proper : Proper (layering sh curve)
  sheet-proper =
      record {
        all = λ p hp. known_is sh curve (layers sh) p ∙ all_known sh (p / sh.cols / sh.rows) (p / sh.cols % sh.rows) (p % sh.cols) (sheet-of (accepted-yes sh ok) p hp);
        fresh = λ k p hk hp e. unfold in_layer in (fresh sh (p / sh.cols / sh.rows) (p / sh.cols % sh.rows) (p % sh.cols) (sheet-of (accepted-yes sh ok) p hp) k hk (sym (known_is sh curve k p) ∙ e));
        local = λ k. sheet-carries ◌≡◌ ◌≡◌ k
            (record {
              one = λ b b' e. e;
              two = λ b c b' c' e f. λ i. linear (e i) (f i);
              four = λ t a b c d a' b' c' d' e f g h. λ i. cubic (e i) (f i) (g i) (h i);
            })
            (λ z. refl);
      }

  -- every point stands in exactly one layer
  pub exactly-one : (p : ℕ) → p < points sh → (k : ℕ) × (k < layers sh) × (in_layer sh k p ≡ true) × ((j : ℕ) → j < layers sh → in_layer sh j p ≡ true → j ≡ k)
  exactly-one p hp =
      let w = layer-of sheet-proper p hp in
      (w.0, w.1, w.2, λ j hj m. only_one sheet-proper j w.0 p hj w.1 hp m w.2)
