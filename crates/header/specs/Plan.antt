-- Plans (docs/CARD.md, "Plans, reading, refining"): 13 numbers, the planes loaded of each layer from its top one down, 0 past the last.
-- Calls hand over a `Plan`, planning lists its counts, and where only the count of a layer is asked a plan is a function (`loads plan`).
use Rattle.std.specs.Prelude.{cond, ◌&&◌, ℕ, ◌+◌, ◌-◌, ◌^◌, ltb, get_or, set, replicate}
use Rattle.digits.specs.Digits.{first_from}
use Rattle.header.specs.declared.Header.{Header}
use Rattle.header.specs.declared.Plan.{Plan}
use Rattle.header.specs.Header.{planes_of}
-- handed on to crates that stand on this one and not on `sheet`
pub use Rattle.sheet.specs.Limits.{layers_most}

-- the plan of no planes
abbrev pub no_plan : Plan
no_plan = record { planes = replicate layers_most 0 }

-- the planes that a plan loads of layer k
abbrev pub loads : Plan → ℕ → ℕ
loads plan k = get_or plan.planes k 0

-- the planes of layer k that a plan leaves out
abbrev pub missing : Header → (ℕ → ℕ) → ℕ → ℕ
missing h plan k = planes_of h k - plan k

-- the plan with one plane more of layer k. A place that a plan has not, and a number that is the largest already, stay
unfoldable pub with_plane : Plan → ℕ → Plan
with_plane plan k =
    cond (ltb k layers_most && ltb (loads plan k + 1) (2 ^ 64)) (record { planes = set plan.planes k (loads plan k + 1) }) plan

-- the first place where a plan loads more than the limit there, or `layers_most` where there is none
unfoldable pub first_over : (ℕ → ℕ) → (ℕ → ℕ) → ℕ
first_over limit plan = first_from (λ k. ltb (limit k) (plan k)) layers_most 0
