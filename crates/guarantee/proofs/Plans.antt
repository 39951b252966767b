-- The planner's answer to a limit. A truncated card opens to the header written, so it has the best plan of the whole card. Every plan of the header asks for planes that are whole in the whole card, so reading that card with it gives its figure, which is within the limit; and no plan within the limit is better, so none has fewer cells.
use mathlib.Core.List.{List}
use mathlib.Core.Path.{◌≡◌}
use Prim.Native.Nat.{ℕ, ◌-◌, ◌*◌, ◌≤◌}
use native.Mathlib.Omega.{arith}
use borrow.Author.Tests.{le-ltb, le-leb, ltb-false}
use lib.Dec.{ltb}
use lib.IntN.{ℤ}
use lib.ListN.{length, take, length-take}
use lib.Seq.{take-length}
use Rattle.integers.proofs.Bools.{or-no-left}
use Rattle.integers.proofs.Near.{near_le}
use Rattle.sheet.specs.declared.Shape.{Shape}
use Rattle.sheet.specs.declared.Curve.{Curve}
use Rattle.layers.specs.Layering.{layering, coefs}
use Rattle.layers.specs.Workings.Loops.{Samples}
use Rattle.header.specs.declared.Header.{Header}
use Rattle.header.specs.declared.Plan.{Plan}
use Rattle.header.specs.Header.{cell_bytes}
use Rattle.order.proofs.Whole.{whole-right}
use Rattle.packing.specs.Planes.{header_for, losses_for, card_of}
use Rattle.card.specs.Reading.{reading}
use Rattle.planner.specs.Planning.{PlanOf, within_limit, better, better_by_limit, best_by_limit, cells_in, figure_in, found, by_limit}
use Rattle.planner.proofs.Best.{Best}
use Rattle.guarantee.specs.Guarantee.{Slices, Gives}
use Rattle.guarantee.proofs.Cut.{cut-opens}
use Rattle.guarantee.proofs.Fits.{end, fits-right, fits-long, samples-fit}
use Rattle.guarantee.proofs.Shows.{truncated-reads, truncated-gives}
use Rattle.guarantee.proofs.Taken.{AsksWhole}

-- the best plan of a header has the fewest cells
pub best-fewest : (h : Header) (ls : List ℕ) {limit : ℕ} {ms : List ℕ} → Best h (within_limit h ls limit) (better_by_limit h ls) ms → (ns : List ℕ) → PlanOf h ns → figure_in h ls ns ≤ limit → cells_in h ms ≤ cells_in h ns
unfolding better
best-fewest h ls {limit} {ms} b ns p f = ltb-false (cells_in h ns) (cells_in h ms) (or-no-left (ltb (cells_in h ns) (cells_in h ms)) _ (b.least ns p (le-leb (figure_in h ls ns) limit f)))

-- ---- the card of samples
module _ {sh : Shape} {e : ℕ} {g : List ℤ} (x : Samples sh e g) (curve : Curve) where
  abbrev h : Header
  h = header_for sh curve e (coefs (layering sh curve) e g)

  abbrev ls : List ℕ
  ls = losses_for sh (coefs (layering sh curve) e g)

  abbrev long : ℕ
  long = end sh curve e (coefs (layering sh curve) e g)

  abbrev card : List ℕ
  card = card_of sh curve e (coefs (layering sh curve) e g)

  all-behind : long ≤ length card
  all-behind = omega (arith, fits-long (samples-fit x curve) curve)

  -- truncated behind its header it has the whole one's answer
  pub plans : (limit : ℕ) → e ≤ limit → (n : ℕ) → long ≤ n → by_limit (take n card) limit ≡ found h ls (best_by_limit h ls limit)
  unfolding by_limit
  plans limit above n behind = rw (cut-opens (samples-fit x curve) curve n behind, le-ltb limit e above)

  pub plans-whole : (limit : ℕ) → e ≤ limit → by_limit card limit ≡ found h ls (best_by_limit h ls limit)
  plans-whole limit above = rw (take-length card) at (plans limit above (length card) all-behind)

  -- THE VALUES that a plan of it gives
  module _ (ns : List ℕ) (p : PlanOf h ns) where
    abbrev plan : Plan
    plan = record { planes = ns }

    plan-asks : AsksWhole h long (take (length card) card) plan
    plan-asks k l =
        let rest = length (take (length card) card) - long in
        let there : cell_bytes * h.cells ≤ rest = omega (arith, length-take (length card) card, fits-long (samples-fit x curve) curve) in
        omega (arith, p.within k, whole-right h (fits-right (samples-fit x curve) curve) rest there k l)

    pub plan-gives : (limit : ℕ) → figure_in h ls ns ≤ limit → (qs' vs' : List ℤ) → Slices sh qs' vs' → Gives sh g limit (reading qs' vs' card plan)
    plan-gives limit within qs' vs' s =
        let reads = rw (take-length card) at (truncated-reads x curve (length card) all-behind plan plan-asks qs' vs' s) in
        let gives = rw (take-length card) at (truncated-gives x curve (length card) all-behind plan plan-asks) in
        rw reads (record { taken = gives.taken; near = λ j l. near_le within (gives.near j l) })
