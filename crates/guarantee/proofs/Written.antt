-- A writing that is not refused. It tests sizes, settings, lengths and samples one after the other, and each test that failed would give a number that is not 0. So what passes them all is written, and only that; and it passes them where the samples can be quantized and the slices have room.
use mathlib.Core.Bool.{true, false, not, ◌&&◌}
use mathlib.Core.List.{List}
use mathlib.Core.Path.{◌≡◌, refl, ap, ◌∙◌}
use Prim.Native.Nat.{ℕ, suc}
use native.Mathlib.Omega.{arith}
use borrow.Author.Tests.{ltb-false}
use lib.Dec.{ltb, leb}
use lib.IntN.{ℤ}
use lib.ListN.{length}
use Rattle.integers.proofs.Bools.{by, and_left, or-no-left, or-no-right}
use Rattle.sheet.specs.declared.Shape.{Shape}
use Rattle.sheet.specs.declared.Curve.{Curve}
use Rattle.std.specs.Prelude.{Option, None, Some}
use Rattle.layers.specs.declared.Place.{Place}
use Rattle.sheet.specs.Limits.{levels_most, step_most}
use Rattle.sheet.specs.Sheet.{points}
use Rattle.layers.specs.Layering.{layering, coefs}
use Rattle.layers.specs.Samples.{full, scanned}
use Rattle.layers.specs.Workings.Loops.{Samples}
use Rattle.sheet.proofs.Accepting.{sized-by, accepted-yes}
use Rattle.sheet.proofs.Fits.{sheet-small}
use Rattle.layers.proofs.Answers.{clear_within, scans-clear, full-long}
use Rattle.packing.specs.Planes.{card_of}
use Rattle.card.specs.Writing.{output_least, bad_sizes, bad_settings, room_to_write, after_scan, done, writing}
use Rattle.card.proofs.BadSizes.{bad-sizes}
use Rattle.card.proofs.Writes.{good-settings, good-lengths, shape-accepted}
use Rattle.guarantee.specs.WrittenBack.{Room}

one_none : {n : ℕ} → suc n ≡ 0 → ⊥
one_none e = omega arith

module _ (g : List ℤ) (sh : Shape) (curve : Curve) (e : ℕ) (qs vs : List ℤ) (out : List ℕ) where
  -- ---- the tests
  pub record Passes : Type 0 where
    pub sizes : bad_sizes sh.rows sh.cols ≡ false
    pub settings : bad_settings g sh curve e qs vs out ≡ false
    pub lengths : room_to_write g sh curve e qs vs out ≡ true
    pub clear : scanned sh.cols g ≡ None

  -- the card of the samples
  pub passes-written : Passes → writing g sh curve e qs vs out ≡ done g sh curve e qs vs out (card_of sh curve e (coefs (layering sh curve) e g))
  unfolding writing
  passes-written t = rw (t.sizes, t.settings, t.lengths) (ap (after_scan g sh curve e qs vs out) t.clear)

  after-clear : (s : Option Place) → (after_scan g sh curve e qs vs out s).refused.number ≡ 0 → s ≡ None
  after-clear None zero = refl
  after-clear (Some place) zero = absurd (one_none zero)

  pub writing-passes : (writing g sh curve e qs vs out).refused.number ≡ 0 → Passes
  unfolding writing
  writing-passes zero =
      by (bad_sizes sh.rows sh.cols)
      (λ y. absurd (one_none (rw y at zero)))
      (λ sizes. by (bad_settings g sh curve e qs vs out)
      (λ y. absurd (one_none (rw (sizes, y) at zero)))
      (λ settings. by (room_to_write g sh curve e qs vs out)
      (λ lengths. record { sizes = sizes; settings = settings; lengths = lengths; clear = after-clear _ (rw (sizes, settings, lengths) at zero) })
      (λ y. absurd (one_none (rw (sizes, settings, y) at zero)))))

  -- ---- what they say of the samples
  pub passes-samples : sh.depth ≡ 1 → Passes → Samples sh e g
  passes-samples flat t =
      let deep = ltb-false levels_most sh.levels (or-no-left (ltb levels_most sh.levels) (ltb step_most e) t.settings) in
      let wide = ltb-false step_most e (or-no-right (ltb levels_most sh.levels) (ltb step_most e) t.settings) in
      let long : length g ≡ points sh = full-long sh g (and_left (full sh g) (full sh qs) (and_left (full sh g && full sh qs) (full sh vs && leb output_least (length out)) t.lengths)) in
      record {
        shape = shape-accepted g sh curve e qs vs out t.sizes deep wide flat;
        step = wide;
        long = long;
        small = λ p l. clear_within sh.cols g t.clear p (omega arith);
      }

  -- and where they pass
  pub samples-pass : Samples sh e g → Room (points sh) qs vs out → Passes
  samples-pass x room =
      let s = accepted-yes sh x.shape in
      let sizes : bad_sizes sh.rows sh.cols ≡ false =
      bad-sizes sh.rows sh.cols
      ∙ ap not (sized-by 1 sh.rows sh.cols (record { thick = omega arith; flat = omega arith; tall = s.tall; wide = s.wide; small = omega (arith, sheet-small s) })) in
      record {
        sizes = sizes;
        settings = good-settings g sh curve e qs vs out sizes s.shallow x.step;
        lengths = good-lengths g sh curve e qs vs out sizes s.shallow x.step x.shape x.long room.coefficients room.values room.output;
        clear = scans-clear sh.cols g (λ p l. x.small p (omega (arith, x.long)));
      }
