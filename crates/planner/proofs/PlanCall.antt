-- Planning, by what opening answers: a refusal is passed on, and behind a header that was opened a plan that was found is the answer.
use mathlib.Core.List.{List}
use mathlib.Core.Path.{◌≡◌, ap, ◌∙◌}
use Prim.Native.Nat.{ℕ, ◌≤◌, ◌<◌}
use borrow.Author.Tests.{ne_eqb, lt-ltb, le-ltb}
use Rattle.header.specs.declared.Header.{Header}
use Rattle.header.specs.declared.Opened.{Opened}
use Rattle.std.specs.Prelude.{Ok}
use Rattle.header.specs.declared.Refusal.{Refusal}
use Rattle.header.specs.Refusals.{refusal, details_of}
use Rattle.header.specs.Losses.{told}
use Rattle.header.specs.Opening.{opening}
use Rattle.header.specs.Opening as O
use Rattle.planner.specs.declared.Planned.{Planned}
use Rattle.planner.specs.Planning.{not_planned, found, as_planning, cells_in, figure_in, by_limit, by_cells, best_by_limit, best_by_cells}
use Rattle.header.proofs.Refusing.{refusing}
use Rattle.planner.proofs.Final.{Found}

-- ---- a plan that was found, with its cells and its figure
pub found-answer :
    (h : Header) (ls asked : List ℕ) (r : Planned) (size figure : ℕ)
    → (r.cells ≡ size) × (r.figure ≡ figure) → Found h ls asked r.plan.planes size figure
    → as_planning (Ok r) ≡ found h ls asked
found-answer h ls asked r size figure e f =
    let own-cells : r.cells ≡ cells_in h asked = e.0 ∙ f.size_is in
    let own-figure : r.figure ≡ figure_in h ls asked = e.1 ∙ f.figure-is in
    λ i. record { refused = refusal 0 0 0; plan = record { planes = f.same i }; cells = own-cells i; figure = own-figure i }

-- ---- what opening answers
module _ (bs : List ℕ) (r : Refusal) (e : O.not_opened (details_of r) ≡ opening bs) where
  pub limit-refused : (limit : ℕ) → not_planned (details_of r) ≡ by_limit bs limit
  unfolding by_limit
  limit-refused limit = rw (← e, ne_eqb (details_of r).number 0 (refusing r))

  pub cells-refused : (most : ℕ) → not_planned (details_of r) ≡ by_cells bs most
  unfolding by_cells
  cells-refused most = rw (← e, ne_eqb (details_of r).number 0 (refusing r))

module _ (bs : List ℕ) (o : Opened) (e : O.opened o.header (opening bs).losses o.length ≡ opening bs) where
  pub limit-low : (limit : ℕ) → limit < o.header.step → not_planned (refusal 10 0 0) ≡ by_limit bs limit
  unfolding by_limit
  limit-low limit l = rw (← e, lt-ltb limit o.header.step l)

  pub limit-found : (limit : ℕ) → o.header.step ≤ limit → (ls : List ℕ) → ls ≡ told (opening bs).losses → found o.header ls (best_by_limit o.header ls limit) ≡ by_limit bs limit
  unfolding by_limit
  limit-found limit l ls is = ap (λ (ms : List ℕ). found o.header ms (best_by_limit o.header ms limit)) is ∙ rw (← e, le-ltb limit o.header.step l)

  pub cells-found : (most : ℕ) (ls : List ℕ) → ls ≡ told (opening bs).losses → found o.header ls (best_by_cells o.header ls most) ≡ by_cells bs most
  unfolding by_cells
  cells-found most ls is = ap (λ (ms : List ℕ). found o.header ms (best_by_cells o.header ms most)) is ∙ rw (← e)
