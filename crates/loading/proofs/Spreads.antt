-- The numbers of all words, spread one layer after another: every point stands in one layer alone, so what its layer put there stays.
use mathlib.Core.Path.{◌≡◌, sym, ap, ◌∙◌, subst}
use mathlib.Core.Bool.{true, false}
use mathlib.Core.List.{List}
use Prim.Native.Nat.{ℕ, ◌+◌, ◌<◌}
use native.Mathlib.Decide.{dec_lt}
use native.Mathlib.Omega.{arith}
use lib.IntN.{ℤ, pos}
use lib.ListN.{length, get_or}
use lib.Seq.{ext_get_or}
use Rattle.integers.proofs.Bools.{not_yes}
use Rattle.digits.specs.Digits.{value}
use Rattle.digits.specs.Groups.{bits_of}
use Rattle.sheet.specs.declared.Shape.{Shape}
use Rattle.sheet.specs.declared.Curve.TheVariants.{Linear}
use Rattle.sheet.specs.Lists.{at}
use Rattle.sheet.specs.Sheet.{accepted, points, layers, in_layer, place_in}
use Rattle.layers.specs.Layering.{layering, own_layer}
use Rattle.layers.proofs.Proper.{Proper}
use Rattle.sheet.proofs.Lists.{length-tabulate, get_or-tabulate}
use Rattle.layers.proofs.Members.{only_one, in-own, own_below}
use Rattle.layers.proofs.SheetLaw.{sheet-proper}
use Rattle.packing.specs.Workings.Words.{block_start}
use Rattle.loading.specs.Workings.Words.{spread_over, spread_all}

-- the number of the word of point p, if it stands in layer j
abbrev pub number_at : Shape → List ℕ → ℕ → ℕ → ℤ
number_at sh ws j p = value (bits_of 32 (get_or ws (block_start sh j + place_in sh j p) 0))

-- the points of the first k layers have the numbers of their words
pub record SpreadTo (sh : Shape) (ws : List ℕ) (k : ℕ) (qs : List ℤ) : Type 0 where
  pub long : length qs ≡ points sh
  pub done : (j p : ℕ) → j < k → p < points sh → in_layer sh j p ≡ true → at qs p ≡ number_at sh ws j p

module _ (sh : Shape) (ws : List ℕ) where
  pub spread_none : (qs : List ℤ) → length qs ≡ points sh → SpreadTo sh ws 0 qs
  spread_none qs e = record { long = e; done = λ j p h _ _. absurd (let z : ⊥ = omega arith in z) }

  over-in : (k : ℕ) (qs : List ℤ) (p : ℕ) → p < length qs → in_layer sh k p ≡ true → at (spread_over sh k ws (block_start sh k) qs) p ≡ number_at sh ws k p
  unfolding spread_over
  over-in k qs p h m = get_or-tabulate _ _ p (pos 0) h ∙ rw m

  over-out : (k : ℕ) (qs : List ℤ) (p : ℕ) → p < length qs → in_layer sh k p ≡ false → at (spread_over sh k ws (block_start sh k) qs) p ≡ at qs p
  unfolding spread_over
  over-out k qs p h m = get_or-tabulate _ _ p (pos 0) h ∙ rw m

  over-long : (k : ℕ) (qs : List ℤ) → length (spread_over sh k ws (block_start sh k) qs) ≡ length qs
  unfolding spread_over
  over-long k qs = length-tabulate _ _

  module _ (ok : accepted sh ≡ true) where
    proper : Proper (layering sh Linear)
    proper = sheet-proper sh ok Linear

    pub spread-more : (k : ℕ) (qs qs' : List ℤ) → k < layers sh → SpreadTo sh ws k qs → qs' ≡ spread_over sh k ws (block_start sh k) qs → SpreadTo sh ws (k + 1) qs'
    spread-more k qs qs' hk g e =
        record {
          long = ap length e ∙ over-long k qs ∙ g.long;
          done = λ j p hj hp m.
              elim (dec_lt j k) [
                | yes lt ↦
                    let other : in_layer sh k p ≡ false = not_yes (in_layer sh k p) (λ y. omega (arith, only_one proper j k p (omega arith) hk hp m y)) in
                    ap (λ (l : List ℤ). at l p) e ∙ over-out k qs p (omega (arith, g.long)) other ∙ g.done j p lt hp m
                | no ge ↦
                    let q : j ≡ k = omega arith in
                    ap (λ (l : List ℤ). at l p) e
                    ∙ over-in k qs p (omega (arith, g.long)) (subst (λ (x : ℕ). in_layer sh x p ≡ true) q m)
                    ∙ ap (λ (x : ℕ). number_at sh ws x p) (sym q)
              ];
        }

    pub spread-all : (k : ℕ) (qs : List ℤ) → k ≡ layers sh → SpreadTo sh ws k qs → qs ≡ spread_all sh ws
    unfolding spread_all
    spread-all k qs e g =
        ext_get_or (pos 0) _ _ (g.long ∙ sym (length-tabulate _ _))
        (λ p h.
        let hp : p < points sh = omega (arith, g.long) in
        g.done (own_layer sh p) p (omega (arith, own_below proper p hp)) hp (in-own proper p hp) ∙ sym (get_or-tabulate _ _ p (pos 0) hp))
