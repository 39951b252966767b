-- What a preview leaves, by its tests: it is nothing but a refusal, or it is the refinement of a copy.
use mathlib.Core.Bool.{false}
use mathlib.Core.List.{List}
use mathlib.Core.Path.{◌≡◌, refl}
use Prim.Native.Nat.{ℕ}
use borrow.Author.Tests.{eqb-true, eqb-false}
use lib.Dec.{eqb}
use lib.IntN.{ℤ}
use lib.ListN.{length}
use Rattle.integers.proofs.Bools.{by, choice, and-no-right}
use Rattle.layers.specs.Samples.{full}
use Rattle.header.specs.declared.Header.{Header}
use Rattle.header.specs.declared.Plan.{Plan}
use Rattle.header.specs.declared.Details.{Details}
use Rattle.header.specs.Opening.{opening}
use Rattle.card.specs.Reading.{Reading}
use Rattle.header.specs.Losses.{told}
use Rattle.card.specs.Refining.{refine_opened, refining}
use Rattle.card.proofs.RefineCall.{refine-short}
use Rattle.preview.specs.Previewing.{Previewing, not_previewed, unless, seen, next_refusal, previewing}

module _ (qs vs ns : List ℤ) (bs : List ℕ) (plan : Plan) (k : ℕ) where
  abbrev copy : Reading
  copy = refining qs vs bs plan k

  -- refused, with a number that is not 0, or the copy, which is not
  pub either : (P : Previewing → Type 0) → ((d : Details) → (d.number ≡ 0 → ⊥) → P (not_previewed qs vs ns d)) → (copy.refused.number ≡ 0 → P (seen qs vs ns copy))
      → P (previewing qs vs ns bs plan k)
  unfolding previewing
  either P refused taken =
      goes (opening bs).refused (λ _.
      goes (next_refusal qs vs ns (opening bs).header) (λ _.
      goes copy.refused taken))
    where
      goes : (d : Details) {go : Previewing} → (d.number ≡ 0 → P go) → P (unless qs vs ns d go)
      goes d go = choice P (eqb d.number 0) (λ y. go (eqb-true d.number 0 y)) (λ n. refused d (eqb-false d.number 0 n))

  -- coefficients and values are only read
  pub record Kept (p : Previewing) : Type 0 where
    pub coefficients : p.coefficients ≡ qs
    pub values : p.values ≡ vs

  pub kept : Kept (previewing qs vs ns bs plan k)
  kept = either Kept (λ _ _. record { coefficients = refl; values = refl }) (λ _. record { coefficients = refl; values = refl })

  -- one that is not refused is the copy
  pub taken_is : (previewing qs vs ns bs plan k).refused.number ≡ 0 → previewing qs vs ns bs plan k ≡ seen qs vs ns copy
  taken_is = either (λ (p : Previewing). p.refused.number ≡ 0 → p ≡ seen qs vs ns copy) (λ d n zero. absurd (n zero)) (λ _ _. refl)

  -- and a third slice as long as the values adds no refusal
  pub refused-alike : length ns ≡ length vs → copy.refused ≡ (previewing qs vs ns bs plan k).refused
  unfolding previewing refining next_refusal full
  refused-alike e =
      let h = (opening bs).header in
      by (eqb (opening bs).refused.number 0)
      (λ y. by (full h.shape ns)
      (λ n. rw (y, n) (by (eqb (refine_opened qs vs bs h (told (opening bs).losses) (opening bs).long plan k).refused.number 0) (λ z. rw z) (λ z. rw z)))
      (λ n. rw (y, n, refine-short qs bs h (told (opening bs).losses) (opening bs).long plan k vs (and-no-right (full h.shape qs) (full h.shape vs) (short h n)))))
      (λ y. rw y)
    where
      short : (h : Header) → full h.shape ns ≡ false → full h.shape vs ≡ false
      short h n = rw (← e) n
