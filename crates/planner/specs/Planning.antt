-- The planner (docs/CARD.md, "The planner"): which plan of a card is the best one, said by looking at every plan of it; `ls` are the numbers of its line of losses. How it is found is the code's affair.
use Rattle.std.specs.Prelude.{Bool, false, cond, ◌&&◌, ◌||◌, List, [], ◌∷◌, ◌++◌, ◌≡◌, ℕ, zero, suc, ◌≤◌, ltb, leb, eqb, length, get_or, Result, Ok, Err}
use Rattle.header.specs.declared.Header.{Header}
use Rattle.header.specs.declared.Plan.{Plan}
use Rattle.header.specs.declared.Details.{Details}
use Rattle.header.specs.declared.Refusal.{Refusal}
use Rattle.header.specs.Refusals.{refusal, details_of}
use Rattle.header.specs.Header.{planes_of, cells_of}
use Rattle.header.specs.Losses.{told}
use Rattle.header.specs.Plan.{layers_most, no_plan}
use Rattle.header.specs.Opening.{Opening, opening}
use Rattle.figure.specs.Figure.{figure_of}
use Rattle.planner.specs.declared.Planned.{Planned}

-- ---- the plans of a card
-- the planes that a list of counts loads of layer k
abbrev pub counts : List ℕ → ℕ → ℕ
counts ns k = get_or ns k 0

-- a plan of a card loads at most P_k planes of layer k; past the last layer P_k is 0
pub record PlanOf (h : Header) (ns : List ℕ) : Type 0 where
  pub long : length ns ≡ layers_most
  pub within : (k : ℕ) → counts ns k ≤ planes_of h k

-- all of them, and nothing else (`planner`, proofs/AllPlans, `plans-has`, `plans-only`): each list with 0, 1, .., n behind it, and so for every layer in turn
unfoldable pub with_up_to : List ℕ → ℕ → List (List ℕ)
with_up_to ns zero = (ns ++ zero ∷ []) ∷ []
with_up_to ns (suc n) = (ns ++ suc n ∷ []) ∷ with_up_to ns n

unfoldable pub each_up_to : List (List ℕ) → ℕ → List (List ℕ)
each_up_to [] n = []
each_up_to (ns ∷ nss) n = with_up_to ns n ++ each_up_to nss n

unfoldable pub lists_up_to : (ℕ → ℕ) → ℕ → List (List ℕ)
lists_up_to most zero = [] ∷ []
lists_up_to most (suc k) = each_up_to (lists_up_to most k) (most k)

unfoldable pub plans_of : Header → List (List ℕ)
plans_of h = lists_up_to (planes_of h) layers_most

-- ---- which of two plans is better
-- its cells are those of all the planes that it loads
abbrev pub cells_in : Header → List ℕ → ℕ
cells_in h ns = cells_of h.shape ns

abbrev pub figure_in : Header → List ℕ → List ℕ → ℕ
figure_in h ls ns = figure_of h ls (counts ns)

-- the last tie: from the last layer backwards, fewer planes. Of two counts of one layer's planes the preferred one, and so of the first k layers
abbrev pub prefers : ℕ → ℕ → Bool
prefers a b = ltb a b

unfoldable pub wins_tie : ℕ → (ℕ → ℕ) → (ℕ → ℕ) → Bool
wins_tie zero m n = false
wins_tie (suc k) m n = prefers (m k) (n k) || (eqb (m k) (n k) && wins_tie k m n)

-- less by the first measure, then by the second, then by the tie rule
unfoldable pub better : (List ℕ → ℕ) → (List ℕ → ℕ) → List ℕ → List ℕ → Bool
better first second ms ns =
    ltb (first ms) (first ns)
    || (eqb (first ms) (first ns)
    && (ltb (second ms) (second ns) || (eqb (second ms) (second ns) && wins_tie layers_most (counts ms) (counts ns))))

-- by limit: the fewest cells with a figure of at most E, then the smaller figure
abbrev pub within_limit : Header → List ℕ → ℕ → List ℕ → Bool
within_limit h ls limit ns = leb (figure_in h ls ns) limit

abbrev pub better_by_limit : Header → List ℕ → List ℕ → List ℕ → Bool
better_by_limit h ls = better (cells_in h) (figure_in h ls)

-- by cells: the smallest figure in at most so many cells, then the fewest cells
abbrev pub within_cells : Header → ℕ → List ℕ → Bool
within_cells h most ns = leb (cells_in h ns) most

abbrev pub better_by_cells : Header → List ℕ → List ℕ → List ℕ → Bool
better_by_cells h ls = better (figure_in h ls) (cells_in h)

-- ---- the best plan
-- the best of ns, which is allowed, and of those of a list that are; of all plans exactly one is the best (proofs/Best, `by-limit-only`, `by-cells-only`)
unfoldable pub best_of : (List ℕ → Bool) → (List ℕ → List ℕ → Bool) → List ℕ → List (List ℕ) → List ℕ
best_of allowed better ns [] = ns
best_of allowed better ns (ms ∷ mss) = best_of allowed better (cond (allowed ms && better ms ns) ms ns) mss

-- loading all planes meets every limit that is not below the step
unfoldable pub best_by_limit : Header → List ℕ → ℕ → List ℕ
best_by_limit h ls limit = best_of (within_limit h ls limit) (better_by_limit h ls) h.planes (plans_of h)

-- loading none takes no cells
unfoldable pub best_by_cells : Header → List ℕ → ℕ → List ℕ
best_by_cells h ls most = best_of (within_cells h most) (better_by_cells h ls) no_plan.planes (plans_of h)

-- ---- the calls
-- what planning answers; beside a refusal the plan loads nothing, and cells and figure are 0
pub record Planning : Type 0 where
  pub refused : Details
  pub plan : Plan
  pub cells : ℕ
  pub figure : ℕ

abbrev pub not_planned : Details → Planning
not_planned d = record { refused = d; plan = no_plan; cells = 0; figure = 0 }

-- the cells and the figure answered are the plan's own
abbrev pub found : Header → List ℕ → List ℕ → Planning
found h ls ns = record { refused = refusal 0 0 0; plan = record { planes = ns }; cells = cells_in h ns; figure = figure_in h ls ns }

abbrev pub planned_from : Opening → (Header → List ℕ → Planning) → Planning
planned_from o go = cond (eqb o.refused.number 0) (go o.header (told o.losses)) (not_planned o.refused)

-- by limit: refusal 10 where E is below e, for then no plan meets it
unfoldable pub by_limit : List ℕ → ℕ → Planning
by_limit bs limit =
    planned_from (opening bs) (λ h ls. cond (ltb limit h.step) (not_planned (refusal 10 0 0)) (found h ls (best_by_limit h ls limit)))

-- by cells: no refusal of its own
unfoldable pub by_cells : List ℕ → ℕ → Planning
by_cells bs most = planned_from (opening bs) (λ h ls. found h ls (best_by_cells h ls most))

-- the code's answer in these terms
abbrev pub as_planning : Result Planned Refusal → Planning
as_planning (Ok p) = record { refused = refusal 0 0 0; plan = p.plan; cells = p.cells; figure = p.figure }
as_planning (Err r) = not_planned (details_of r)
