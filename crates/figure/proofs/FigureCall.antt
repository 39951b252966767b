-- The calls: behind a right header the plan decides between a refusal and the figure. A header that is none is refused; for a card it is by what opening answers, and a refusal is passed on.
use mathlib.Core.Bool.{true}
use mathlib.Core.List.{List}
use mathlib.Core.Path.{◌≡◌, ap, ◌∙◌}
use Prim.Native.Nat.{ℕ, ◌<◌}
use native.Mathlib.Omega.{arith}
use borrow.Author.Tests.{ne_eqb, lt-ltb, le-ltb, ltb-true, ltb-false}
use lib.Dec.{ltb}
use Rattle.std.specs.Prelude.{Some, None}
use Rattle.integers.proofs.Bools.{by}
use Rattle.header.specs.Workings.{place_in}
use Rattle.header.proofs.Over.{over-le}
use Rattle.sheet.specs.Limits.{layers_most}
use Rattle.header.specs.declared.Header.{Header}
use Rattle.header.specs.declared.Opened.{Opened}
use Rattle.header.specs.declared.Plan.{Plan}
use Rattle.header.specs.declared.Refusal.{Refusal}
use Rattle.header.specs.Refusals.{refusal, details_of}
use Rattle.header.specs.Header.{planes_of}
use Rattle.header.specs.Losses.{told}
use Rattle.header.specs.Plan.{first_over, loads}
use Rattle.header.specs.Opening.{opening, opened, not_opened, well_formed}
use Rattle.header.proofs.Refusing.{refusing}
use Rattle.figure.specs.Figure.{figure_of}
use Rattle.figure.specs.Bounding.{bounding, bounded_by, not_bounded}
use Rattle.figure.specs.Workings.{bound_of}

module _ (h : Header) (ls : List ℕ) (plan : Plan) where
  abbrev place : ℕ
  place = first_over (planes_of h) (loads plan)

  pub bound-over : place < layers_most → not_bounded (refusal 9 place 0) ≡ bounded_by h ls (loads plan) place
  bound-over l = rw (lt-ltb place layers_most l)

  pub bound-is : place ≡ layers_most → record { refused = refusal 0 0 0; figure = figure_of h ls (loads plan) } ≡ bounded_by h ls (loads plan) place
  bound-is e = rw (le-ltb place layers_most (omega arith))

  -- as the code is told the first such place
  pub told-over : {p : ℕ} → Some p ≡ place_in layers_most place → not_bounded (refusal 9 p 0) ≡ bounded_by h ls (loads plan) place
  told-over {p} e =
      by (ltb place layers_most)
      (λ t. let f : Some p ≡ Some place = rw t at e in let q : p ≡ place = cc in ap (λ (n : ℕ). not_bounded (refusal 9 n 0)) q ∙ bound-over (ltb-true _ _ t))
      (λ t. let f : Some p ≡ None = rw t at e in absurd (let z : ⊥ = cc in z))

  pub told-none : None ≡ place_in layers_most place → place ≡ layers_most
  told-none e =
      by (ltb place layers_most)
      (λ t. let f : None ≡ Some place = rw t at e in absurd (let z : ⊥ = cc in z))
      (λ t. omega (arith, ltb-false place layers_most t, over-le (planes_of h) (loads plan)))

  module _ (r : well_formed h ≡ true) where
    pub bound_of_lem : bounded_by h ls (loads plan) place ≡ bound_of h ls plan
    unfolding bound_of
    bound_of_lem = rw r

    pub bound-right : place ≡ layers_most → (bound_of h ls plan).figure ≡ figure_of h ls (loads plan)
    unfolding bound_of
    bound-right e = rw (r, le-ltb place layers_most (omega arith))

pub bound-refused : (bs : List ℕ) (plan : Plan) (r : Refusal) → not_opened (details_of r) ≡ opening bs → not_bounded (details_of r) ≡ bounding bs plan
unfolding bounding
bound-refused bs plan r e = rw (← e, ne_eqb (details_of r).number 0 (refusing r))

pub bound-opened : (bs : List ℕ) (plan : Plan) (o : Opened) → opened o.header (opening bs).losses o.length ≡ opening bs → (ls : List ℕ) → ls ≡ told (opening bs).losses
    → bounded_by o.header ls (loads plan) (first_over (planes_of o.header) (loads plan)) ≡ bounding bs plan
unfolding bounding
bound-opened bs plan o e ls is = ap (λ (ms : List ℕ). bounded_by o.header ms (loads plan) (first_over (planes_of o.header) (loads plan))) is ∙ rw (← e)
