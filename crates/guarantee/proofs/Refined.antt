-- Demand 2, its third sentence, by induction on the list: each refinement leaves what reading with some plan that it takes leaves, and reading with that plan answers by the card alone, whatever stood in its slices.
use mathlib.Core.List.{List, [], ◌∷◌}
use mathlib.Core.Option.{Option}
use mathlib.Core.Path.{◌≡◌, sym, ap, ◌∙◌, subst}
use Prim.Native.Nat.{ℕ}
use lib.IntN.{ℤ}
use lib.ListN.{length, length-replicate}
use Rattle.sheet.specs.Limits.{layers_most}
use Rattle.header.specs.declared.Header.{Header}
use Rattle.header.specs.Plan.{no_plan}
use Rattle.header.specs.Losses.{told}
use Rattle.header.specs.Opening.{opening, opened}
use Rattle.card.specs.Reading.{Reading, reading}
use Rattle.card.specs.Refining.{refining}
use Rattle.guarantee.specs.Refinements.{Refinements, refine_once, refine_all}
use Rattle.guarantee.proofs.Step.{Reached, step}
use Rattle.guarantee.proofs.Taken.{right-header, passed_reads, reading-passed}

module _ (bs : List ℕ) {h : Header} {losses : Option (List ℕ)} {long : ℕ} (opens : opening bs ≡ opened h losses long) where
  one_kept : {r : Reading} → Reached h (told losses) long bs r → (k : ℕ) → Reached h (told losses) long bs (refine_once bs r k)
  unfolding refining
  one_kept s k =
      subst (λ (r : Reading). Reached h (told losses) long bs (refine_once bs r k)) (sym s.same)
      (rw opens (step h (told losses) long bs (right-header bs opens) s.places s.taken k))

  all-kept : (ks : List ℕ) {r : Reading} → Reached h (told losses) long bs r → Reached h (told losses) long bs (refine_all bs ks r)
  unfolding refine_all
  all-kept [] s = s
  all-kept (k ∷ ks) s = all-kept ks (one_kept s k)

-- and reading with the plan reached leaves the same
same-reading : (bs ks : List ℕ) (qs vs qs' vs' : List ℤ) → (reading qs vs bs no_plan).refused.number ≡ 0 → length qs' ≡ length qs → length vs' ≡ length vs
    → refine_all bs ks (reading qs vs bs no_plan) ≡ reading qs' vs' bs (refine_all bs ks (reading qs vs bs no_plan)).plan
same-reading bs ks qs vs qs' vs' zero lq lv =
    let p = reading-passed qs vs bs no_plan zero in
    let end = all-kept bs p.opens ks (record { plan = no_plan; places = length-replicate {A = ℕ} layers_most 0; taken = p.taken; same = passed_reads p }) in
    let again = passed_reads (record {
      opens = p.opens;
      slices = record { coefficients = lq ∙ p.slices.coefficients; values = lv ∙ p.slices.values };
      taken = end.taken;
    }) in
    end.same ∙ sym (ap (λ (r : Reading). reading qs' vs' bs r.plan) end.same ∙ again)

pub refinements : Refinements
refinements = record { same = same-reading }
