-- Previewing by the lengths of its slices: where all three are right, refining a copy answers alike into whatever slice its values go; and where one is not, refusal 3 comes behind those of opening on both sides.
use mathlib.Core.Bool.{true, false}
use mathlib.Core.List.{List}
use mathlib.Core.Path.{◌≡◌, sym, ◌∙◌}
use Prim.Native.Nat.{ℕ, ◌≤◌}
use native.Mathlib.Omega.{arith}
use lib.Dec.{eqb}
use lib.IntN.{ℤ}
use lib.ListN.{length}
use Rattle.integers.proofs.Bools.{by, not_yes, and-no-right}
use Rattle.sheet.specs.Limits.{points_most}
use Rattle.layers.specs.Samples.{full}
use Rattle.layers.proofs.Answers.{full-yes, full-long}
use Rattle.header.specs.declared.Header.{Header}
use Rattle.header.specs.declared.Plan.{Plan}
use Rattle.header.specs.Opening.{opening}
use Rattle.header.proofs.OpenedSize.{opened-small}
use Rattle.card.specs.Reading.{good_lengths}
use Rattle.header.specs.Losses.{told}
use Rattle.card.specs.Refining.{refine_opened, refining}
use Rattle.card.proofs.ReadCall.{good-lengths}
use Rattle.card.proofs.RefineCall.{refine-short, refine-unread}
use Rattle.preview.specs.Previewing.{not_previewed, seen, next_refusal, previewing}
use Rattle.preview.specs.Workings.{length_refusal}

module _ (qs vs ns : List ℤ) (bs : List ℕ) (plan : Plan) (k : ℕ) where
  abbrev h : Header
  h = (opening bs).header

  abbrev long : ℕ
  long = (opening bs).long

  abbrev ls : List ℕ
  ls = told (opening bs).losses

  -- values as long as the coefficients pass the test of lengths where a third slice that is right does
  lengths-same : full h.shape ns ≡ true → length vs ≡ length qs → good_lengths qs ns h ≡ good_lengths qs vs h
  lengths-same n e =
      by (full h.shape qs)
      (λ q. rw (q, n, full-yes h.shape vs (e ∙ full-long h.shape qs q)))
      (λ q. rw q)

  -- a copy refined into the third slice
  pub copy_seen : length vs ≡ length qs → seen qs vs ns (refining qs ns bs plan k) ≡ previewing qs vs ns bs plan k
  unfolding previewing refining next_refusal
  copy_seen e =
      by (eqb (opening bs).refused.number 0)
      (λ y. by (full h.shape ns)
      (λ n. rw (y, n, refine-unread qs bs h ls long plan k vs ns (lengths-same n e))
      (by (eqb (refine_opened qs vs bs h ls long plan k).refused.number 0) (λ z. rw z) (λ z. rw z)))
      (λ n. rw (y, n, refine-short qs bs h ls long plan k ns (and-no-right (full h.shape qs) (full h.shape ns) n))))
      (λ y. rw y)

  -- coefficients and values that cannot both be right
  pub lengths-refused : (length qs ≤ points_most → length vs ≡ length qs → ⊥) → not_previewed qs vs ns (length_refusal bs) ≡ previewing qs vs ns bs plan k
  unfolding previewing refining next_refusal length_refusal
  lengths-refused wrong =
      let none : good_lengths qs vs h ≡ false =
      not_yes (good_lengths qs vs h) (λ g. let l = good-lengths qs vs h g in wrong (omega (arith, l.0, (opened-small bs).1)) (l.1 ∙ sym l.0)) in
      by (eqb (opening bs).refused.number 0)
      (λ y. by (full h.shape ns)
      (λ n. rw (y, n, refine-short qs bs h ls long plan k vs none))
      (λ n. rw (y, n)))
      (λ y. rw y)
