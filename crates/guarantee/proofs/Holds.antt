-- DEMAND 3. A writing that is not refused leaves the card of its samples; truncated at any byte behind its header that card opens to the header written, showing it gives the figure of its whole planes, and the planner answers as it does to the whole card.
use mathlib.Core.List.{List}
use mathlib.Core.Path.{◌≡◌, refl, ap, ◌∙◌}
use Prim.Native.Nat.{ℕ, ◌≤◌}
use native.Mathlib.Omega.{arith}
use borrow.Author.Tests.{leb-true}
use lib.IntN.{ℤ}
use lib.ListN.{length, take, drop}
use lib.Seq.{take-append_seam}
use Rattle.sheet.specs.declared.Shape.{Shape}
use Rattle.sheet.specs.declared.Curve.{Curve}
use Rattle.sheet.specs.Sheet.{sheet_of}
use Rattle.layers.specs.Layering.{layering, coefs}
use Rattle.layers.specs.Workings.Loops.{Samples}
use Rattle.header.specs.declared.Header.{Header}
use Rattle.packing.specs.Planes.{header_for, losses_for, card_of}
use Rattle.card.specs.Writing.{Writing, done}
use Rattle.card.specs.Reading.{showing}
use Rattle.planner.specs.Planning.{best_by_limit, figure_in, found, by_limit}
use Rattle.planner.proofs.Best.{by-limit-best}
use Rattle.guarantee.specs.Guarantee.{Slices, made, whole_card, truncated, head_end, ShownWithin, PlannedWithin, Demand3, Guarantee}
use Rattle.guarantee.proofs.Cut.{cut-opens}
use Rattle.guarantee.proofs.Fits.{end, fits-full, samples-fit}
use Rattle.guarantee.proofs.Plans.{best-fewest, plans, plans-whole, plan-gives}
use Rattle.guarantee.proofs.Shows.{shows, shows-gives, shows-figure}
use Rattle.guarantee.proofs.Written.{Passes, passes-written, passes-samples, writing-passes}

module _ (g : List ℤ) (sh : Shape) (flat : sh.depth ≡ 1) (curve : Curve) (e : ℕ) (qs vs : List ℤ) (out : List ℕ) (passes : Passes g sh curve e qs vs out) where
  abbrev q : List ℤ
  q = coefs (layering sh curve) e g

  abbrev card : List ℕ
  card = card_of sh curve e q

  abbrev h : Header
  h = header_for sh curve e q

  abbrev ls : List ℕ
  ls = losses_for sh q

  samples : Samples sh e g
  samples = passes-samples g sh curve e qs vs out flat passes

  -- ---- the bytes and the coefficients that were written
  written : made g sh curve e qs vs out ≡ done g sh curve e qs vs out card
  written = passes-written g sh curve e qs vs out passes

  whole_is : whole_card g sh curve e qs vs out ≡ card
  whole_is = ap (λ (m : Writing). take m.long m.output) written ∙ take-append_seam card (drop (length card) out)

  coefs-are : (made g sh curve e qs vs out).coefficients ≡ q
  coefs-are = ap (λ (m : Writing). m.coefficients) written

  long_is : (made g sh curve e qs vs out).long ≡ length card
  long_is = ap (λ (m : Writing). m.long) written

  end_is : head_end g sh curve e qs vs out ≡ end sh curve e q
  end_is = ap (λ (l : List ℤ). end sh curve e l) coefs-are

  -- ---- what is shown
  shown_by : (n : ℕ) → end sh curve e q ≤ n → n ≤ length card → (qs' vs' : List ℤ) → Slices sh qs' vs'
      → ShownWithin g sh curve e qs vs out n (showing qs' vs' (truncated g sh curve e qs vs out n))
  shown_by n behind most qs' vs' s =
      rw (whole_is, shows samples curve n behind qs' vs' s)
      (record { gives = shows-gives samples curve n behind; figure = rw coefs-are (omega (arith, shows-figure samples curve n behind most)) })

  -- ---- what is planned: whatever bytes the planner was given, where they have the best plan's answer
  planned-by : (limit : ℕ) → e ≤ limit → (bs : List ℕ) → by_limit bs limit ≡ found h ls (best_by_limit h ls limit) → PlannedWithin g sh curve e qs vs out limit (by_limit bs limit)
  planned-by limit above bs is =
      let b = by-limit-best h ls (fits-full (samples-fit samples curve) curve) limit above in
      let meets = leb-true (figure_in h ls (best_by_limit h ls limit)) limit b.meets in
      record {
        answers = rw is refl;
        of_card = rw (is, coefs-are) b.plan;
        figure = rw (is, coefs-are) refl;
        within = rw is meets;
        gives = λ qs' vs' s. rw (is, whole_is) (plan-gives samples curve (best_by_limit h ls limit) b.plan limit meets qs' vs' s);
        fewest = λ ns p f. rw is (omega (arith, best-fewest h ls b ns (rw coefs-are at p) (rw coefs-are at f)));
        own = rw is refl;
      }

  demand-3 : Demand3 g sh curve e qs vs out
  demand-3 =
      record {
        opens = λ n l m. rw (whole_is, coefs-are) (cut-opens (samples-fit samples curve) curve n (omega (arith, end_is)));
        shown = λ n l m. shown_by n (omega (arith, end_is)) (omega (arith, long_is));
        planned = λ n l m limit above. rw whole_is (planned-by limit above (take n card) (plans samples curve limit above n (omega (arith, end_is))));
        planned_whole = λ limit above. rw whole_is (planned-by limit above card (plans-whole samples curve limit above));
      }

pub guarantee : Guarantee
guarantee =
    record {
      demand = λ g rows cols levels curve e qs vs out zero.
          let sh = sheet_of rows cols levels in
          demand-3 g sh refl curve e qs vs out (writing-passes g sh curve e qs vs out zero);
    }
