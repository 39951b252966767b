-- A showing that is refused is nothing but the refusal: each of its tests passes on or refuses.
use mathlib.Core.List.{List}
use mathlib.Core.Path.{◌≡◌, refl}
use Prim.Native.Nat.{ℕ}
use lib.Dec.{eqb, ltb}
use lib.IntN.{ℤ}
use Rattle.integers.proofs.Bools.{choice}
use Rattle.header.specs.declared.Details.{Details}
use Rattle.header.specs.Plan.{loads}
use Rattle.header.specs.Opening.{opening}
use Rattle.order.specs.CardOrder.{slots, whole_of}
use Rattle.loading.specs.InBytes.{first_bad}
use Rattle.card.specs.Reading.{Reading, not_read, unless, first_refusal, read_opened, showing}

module _ (qs vs : List ℤ) where
  abbrev Bare : Reading → Type 0
  Bare r = (r.refused.number ≡ 0 → ⊥) → not_read qs vs r.refused ≡ r

  unless-bare : (d : Details) (go : Reading) → Bare go → Bare (unless qs vs d go)
  unless-bare d go bare = choice Bare (eqb d.number 0) (λ _. bare) (λ _ _. refl)

  pub showing-bare : (bs : List ℕ) → Bare (showing qs vs bs)
  unfolding showing read_opened
  showing-bare bs =
      let h = (opening bs).header in
      let long = (opening bs).long in
      let plan = whole_of bs h long in
      unless-bare (opening bs).refused _
      (unless-bare (first_refusal qs vs h plan plan) _
      (choice Bare (ltb (first_bad h long bs (loads plan)) (slots h)) (λ _ _. refl) (λ _ refused. absurd (refused refl))))
