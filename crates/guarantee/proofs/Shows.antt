-- Reading a truncated card with a plan that asks for whole planes alone: nothing refuses it, and its values are near the samples by the plan's figure. Showing it is reading it with all its whole planes, and the figure is then that of the planes that are not whole.
use mathlib.Core.List.{List}
use mathlib.Core.Path.{◌≡◌, sym, ap, ◌∙◌}
use Prim.Native.Nat.{ℕ, ◌+◌, ◌*◌, ◌-◌, ◌≤◌}
use native.Mathlib.Decide.{dec_lt}
use native.Mathlib.Omega.{arith}
use lib.IntN.{ℤ}
use lib.ListN.{length, take, get_or-eq_default}
use lib.Seq.{length-take-le}
use Rattle.sheet.specs.declared.Shape.{Shape}
use Rattle.sheet.specs.declared.Curve.{Curve}
use Rattle.sheet.specs.Limits.{layers_most}
use Rattle.sheet.specs.Lists.{tabulate}
use Rattle.sheet.specs.Sheet.{layers}
use Rattle.layers.specs.Prediction.{width}
use Rattle.layers.specs.Carry.{standing}
use Rattle.layers.specs.Layering.{layering, coefs}
use Rattle.layers.specs.Workings.Loops.{Samples}
use Rattle.sheet.proofs.Lists.{length-tabulate}
use Rattle.header.specs.declared.Header.{Header}
use Rattle.header.specs.declared.Plan.{Plan}
use Rattle.header.specs.Plan.{loads, missing}
use Rattle.order.specs.CardOrder.{whole, whole_plan}
use Rattle.figure.specs.Figure.{figure_of}
use Rattle.header.proofs.WellFormed.{WellFormed, layers-few}
use Rattle.order.proofs.Whole.{whole-past}
use Rattle.packing.specs.Planes.{header_for, measured_loss, losses_for, card_of}
use Rattle.card.specs.Reading.{reading, showing}
use Rattle.loading.proofs.LayerPlanes.{whole-at}
use Rattle.card.proofs.ReadCall.{read_as}
use Rattle.guarantee.specs.Guarantee.{Slices, Gives}
use Rattle.guarantee.proofs.Cut.{cut-opens, cut-carries}
use Rattle.guarantee.proofs.Fine.{carried-fine}
use Rattle.guarantee.proofs.Fits.{end, fits-right, samples-fit}
use Rattle.guarantee.proofs.Near.{values-near}
use Rattle.guarantee.proofs.Taken.{AsksWhole, passed_reads}
use Rattle.guarantee.proofs.Told.{told-figure}

-- ---- the figure of all whole planes
module _ {h : Header} (r : WellFormed h) (n : ℕ) where
  loads-whole : (k : ℕ) → loads (whole_plan h n) k ≡ whole h n k
  loads-whole k =
      elim (dec_lt k layers_most) [
        | yes l ↦ whole-at h n k l
        | no l ↦
            let past : length (tabulate layers_most (whole h n)) ≤ k = omega (arith, length-tabulate layers_most (whole h n)) in
            get_or-eq_default (tabulate layers_most (whole h n)) 0 past ∙ sym (whole-past h n k (omega (arith, layers-few r)))
      ]

  -- so a figure by what is loaded of each layer
  whole-figure : (figure : (ℕ → ℕ) → ℕ) → figure (loads (whole_plan h n)) ≡ figure (whole h n)
  whole-figure figure = ap figure (λ i k. loads-whole k i)

-- ---- the card of samples, truncated behind its header
module _ {sh : Shape} {e : ℕ} {g : List ℤ} (x : Samples sh e g) (curve : Curve) (n : ℕ) (behind : end sh curve e (coefs (layering sh curve) e g) ≤ n) where
  abbrev q : List ℤ
  q = coefs (layering sh curve) e g

  abbrev h : Header
  h = header_for sh curve e q

  abbrev ls : List ℕ
  ls = losses_for sh q

  abbrev long : ℕ
  long = end sh curve e q

  abbrev left : List ℕ
  left = take n (card_of sh curve e q)

  module _ (plan : Plan) (asks : AsksWhole h long left plan) where
    pub truncated-reads : (qs' vs' : List ℤ) → Slices sh qs' vs' → reading qs' vs' left plan ≡ read_as h ls long left plan
    truncated-reads qs' vs' s =
        let c = samples-fit x curve in
        passed_reads (record {
          opens = cut-opens c curve n behind;
          slices = s;
          taken = record { asks = asks; fine = carried-fine c curve (cut-carries c curve n behind plan asks) };
        })

    pub truncated-gives : Gives sh g (figure_of h ls (loads plan)) (read_as h ls long left plan)
    truncated-gives = values-near x curve (cut-carries (samples-fit x curve) curve n behind plan asks)

  -- WHAT IS SHOWN
  abbrev all : Plan
  all = whole_plan h (length left - long)

  all-asks : AsksWhole h long left all
  all-asks k l = omega (arith, whole-at h (length left - long) k l)

  shows-all : (qs' vs' : List ℤ) → showing qs' vs' left ≡ reading qs' vs' left all
  unfolding showing reading
  shows-all qs' vs' = rw (cut-opens (samples-fit x curve) curve n behind)

  pub shows : (qs' vs' : List ℤ) → Slices sh qs' vs' → showing qs' vs' left ≡ read_as h ls long left all
  shows qs' vs' s = shows-all qs' vs' ∙ truncated-reads all all-asks qs' vs' s

  pub shows-gives : Gives sh g (read_as h ls long left all).figure (read_as h ls long left all)
  shows-gives = truncated-gives all all-asks

  pub shows-figure : n ≤ length (card_of sh curve e q)
      → (read_as h ls long left all).figure ≡ e + standing sh curve (λ k. measured_loss sh q k (missing h (whole h (n - long)) k) * width e) (layers sh)
  shows-figure m =
      ap (λ (l : ℕ). figure_of h ls (loads (whole_plan h (l - long)))) (length-take-le n (card_of sh curve e q) m)
      ∙ whole-figure (fits-right (samples-fit x curve) curve) (n - long) (figure_of h ls)
      ∙ told-figure (samples-fit x curve) curve (whole h (n - long))
