-- The figure of a plan (docs/CARD.md, "The figure"): how far off any value may be. `ls` are the numbers of the card's line of losses; an old card has none.
use Rattle.std.specs.Prelude.{List, ℕ, zero, suc, ◌+◌, ◌*◌, get_or}
use Rattle.digits.specs.Digits as D
use Rattle.sheet.specs.Sheet.{layers}
use Rattle.layers.specs.Carry as C
use Rattle.layers.specs.Prediction.{width}
use Rattle.header.specs.declared.Header.{Header}
use Rattle.header.specs.Header.{total, planes_of}
use Rattle.header.specs.Plan.{missing}

-- the number for d missing planes among those that begin at `first`; the closed loss where the card has none
unfoldable pub loss_from : List ℕ → ℕ → ℕ → ℕ
loss_from ls first zero = 0
loss_from ls first (suc j) = get_or ls (first + j) (D.loss (suc j))

-- what layer k loses where d of its planes are missing: its numbers stand behind those of the layers before it
abbrev pub layer_loss : Header → List ℕ → ℕ → ℕ → ℕ
layer_loss h ls k d = loss_from ls (total (planes_of h) k) d

-- what layer k adds of its own under a plan: its loss × w, d being its planes that the plan leaves out
abbrev pub own_loss : Header → List ℕ → (ℕ → ℕ) → ℕ → ℕ
own_loss h ls plan k = layer_loss h ls k (missing h plan k) * width h.step

-- the step, and what stands after all layers
unfoldable pub figure_of : Header → List ℕ → (ℕ → ℕ) → ℕ
figure_of h ls plan = h.step + C.standing h.shape h.curve (own_loss h ls plan) (layers h.shape)
