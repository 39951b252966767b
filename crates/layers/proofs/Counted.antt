-- Coefficients as they count in rebuilding: at a point stands its own and what its layer adds. So they are the coefficients themselves where nothing is added, and a
-- layer that is read by what it adds is read by these.
use mathlib.Core.Path.{◌≡◌, refl, sym, ap, ◌∙◌}
use mathlib.Core.Bool.{true}
use mathlib.Core.List.{List, map}
use Prim.Native.Nat.{ℕ, ◌^◌, ◌<◌}
use native.Mathlib.Omega.{arith}
use lib.IntN.{ℤ, pos, ◌+ℤ◌}
use lib.ListN.{length, set}
use lib.Seq.{ext_get_or}
use Rattle.std.proofs.lemmas.List.{map-set, set-get_or}
use Rattle.integers.specs.Distance.{Within}
use Rattle.integers.proofs.Bools.{cond-ap}
use Rattle.integers.proofs.Diff.{#, lit, ◌⊞◌}
use Rattle.integers.proofs.Order.{eq-by}
use Rattle.integers.proofs.Near.{within_by}
use Rattle.sheet.specs.declared.Shape.{Shape}
use Rattle.sheet.specs.declared.Curve.{Curve}
use Rattle.sheet.specs.declared.Curve.TheVariants.{Linear}
use Rattle.sheet.specs.Lists.{at}
use Rattle.sheet.specs.Sheet.{accepted, points, layers, in_layer}
use Rattle.sheet.specs.Workings.Shapes.{laid}
use Rattle.sheet.proofs.Lists.{length-tabulate, get_or-tabulate, tabulate-same}
use Rattle.layers.specs.Prediction.{rebuilt_from}
use Rattle.layers.specs.Layering.{layering, own_layer, point_by, layer_by, reads, counted}
use Rattle.layers.specs.Workings.Loops.{reads_with, laid_layer, counted_most}
use Rattle.layers.proofs.Members.{own_below, layer-no}
use Rattle.layers.proofs.SheetLaw.{sheet-proper}
use Rattle.layers.proofs.Column.{laid-lands, laid-layers}

pub length-counted : (sh : Shape) (more : ℕ → ℤ) (qs : List ℤ) → length (counted sh more qs) ≡ length qs
unfolding counted
length-counted sh more qs = length-tabulate (length qs) _

module _ (sh : Shape) (ok : accepted sh ≡ true) (qs : List ℤ) (long : length qs ≡ points sh) where
  module _ (more : ℕ → ℤ) where
    pub counted-own : (p : ℕ) → p < points sh → at (counted sh more qs) p ≡ at qs p +ℤ more (own_layer sh p)
    unfolding counted
    counted-own p hp = get_or-tabulate (length qs) _ p (pos 0) (omega (arith, long))

    pub counted-at : (k p : ℕ) → k < layers sh → p < points sh → in_layer sh k p ≡ true → at (counted sh more qs) p ≡ at qs p +ℤ more k
    counted-at k p hk hp m = counted-own p hp ∙ ap (λ (j : ℕ). at qs p +ℤ more j) (layer-no (sheet-proper sh ok Linear) k p hk hp m)

    -- i32s, and i32s added to them
    pub counted-small : ((p : ℕ) → p < points sh → Within (2 ^ 31) (at qs p)) → ((k : ℕ) → k < layers sh → Within (2 ^ 31) (more k)) → (p : ℕ) → p < points sh
        → Within counted_most (at (counted sh more qs) p)
    counted-small small added p hp =
        let k = own_layer sh p in
        rw (counted-own p hp) (within_by (# (at qs p) ⊞ # (more k)) (omega (arith, small p hp, added k (own_below (sheet-proper sh ok Linear) p hp))))

    -- layer k of the shape as it is laid
    pub counted-layer : (curve : Curve) (e k : ℕ) → k < layers sh → (vs : List ℤ) → length vs ≡ points sh
        → layer_by (layering (laid sh) curve) k (reads_with (more (laid_layer sh k)) e qs) vs vs ≡ layer_by (layering (laid sh) curve) k (reads e (counted sh more qs)) vs vs
    unfolding layer_by point_by
    counted-layer curve e k hk vs lv =
        let own = laid-lands sh k (omega (arith, laid-layers sh)) in
        tabulate-same (length vs) _ _ (λ p h.
        cond-ap (in_layer (laid sh) k p)
        (λ m. ap (λ (q : ℤ). rebuilt_from ((layering (laid sh) curve).predict k vs p) q e) (sym (counted-at (laid_layer sh k) p own.0 (omega arith) (own.1 p m))))
        (λ m. refl))

  -- the layers alone matter
  pub counted_same : (more other : ℕ → ℤ) → ((k : ℕ) → k < layers sh → more k ≡ other k) → counted sh more qs ≡ counted sh other qs
  unfolding counted
  counted_same more other same =
      tabulate-same (length qs) _ _ (λ p h. ap (λ (z : ℤ). at qs p +ℤ z) (same (own_layer sh p) (own_below (sheet-proper sh ok Linear) p (omega (arith, long)))))

  -- nothing added
  pub counted_none : (more : ℕ → ℤ) → ((k : ℕ) → k < layers sh → more k ≡ pos 0) → counted sh more qs ≡ qs
  counted_none more none =
      ext_get_or (pos 0) _ _ (length-counted sh more qs)
      (λ p h.
      let hp : p < points sh = omega (arith, length-counted sh more qs, long) in
      counted-own more p hp
      ∙ ap (λ (z : ℤ). at qs p +ℤ z) (none (own_layer sh p) (own_below (sheet-proper sh ok Linear) p hp))
      ∙ eq-by (# (at qs p) ⊞ lit 0) (# (at qs p)) (omega arith))

-- coefficients with what is added to each, set at a place to what they hold there
pub set-added : (more : ℤ) (qs : List ℤ) (p : ℕ) → map (λ q. q +ℤ more) qs ≡ set (map (λ q. q +ℤ more) qs) p (at qs p +ℤ more)
set-added more qs p = sym (sym (map-set (λ q. q +ℤ more) qs p (at qs p)) ∙ ap (map (λ q. q +ℤ more)) (set-get_or qs p (pos 0)))
