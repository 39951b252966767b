-- Look before refining, request 6 (docs/CARD.md, "The three demands", at its end): a preview, then the refinement, gives the values previewed, the plan and the
-- figure; and a preview changes nothing that a later call reads.
use Rattle.std.specs.Prelude.{List, [], ◌∷◌, ◌≡◌, ℕ, ℤ, length}
use Rattle.header.specs.declared.Plan.{Plan}
use Rattle.card.specs.Reading.{Reading}
use Rattle.card.specs.Refining.{refining}
use Rattle.preview.specs.Previewing.{Previewing, previewing}
use Rattle.guarantee.specs.Refinements.{refine_once, refine_all}

-- ---- a preview, then the refinement
-- of the slices that the preview left, with the plan and the layer that it was given
abbrev pub refined_after : Previewing → List ℕ → Plan → ℕ → Reading
refined_after p bs plan k = refining p.coefficients p.values bs plan k

-- it is refused for what the preview is, and gives the plan, the figure and the values that the preview gave
pub record Foretold (p : Previewing) (r : Reading) : Type 0 where
  pub refused : r.refused ≡ p.refused
  pub plan : r.plan ≡ p.plan
  pub figure : r.figure ≡ p.figure
  pub values : r.values ≡ p.next

-- ---- any list of previews and refinements
pub data Call : Type 0 where
  look : ℕ → Call
  refine : ℕ → Call

-- the caller's memory: what the last accepted refinement reached, in its slices, and the third slice
pub record Memory : Type 0 where
  pub reached : Reading
  pub next : List ℤ

-- a preview of layer k leaves its three slices; the plan and the figure reached stay those of the last refinement
abbrev pub look_once : List ℕ → Reading → List ℤ → ℕ → Memory
look_once bs r ns k =
    let p = previewing r.coefficients r.values ns bs r.plan k in
    record { reached = record { refused = r.refused; plan = r.plan; figure = r.figure; coefficients = p.coefficients; values = p.values }; next = p.next }

-- each call takes what the last one left
unfoldable pub call_all : List ℕ → List Call → Memory → Memory
call_all bs [] m = m
call_all bs (look k ∷ calls) m = call_all bs calls (look_once bs m.reached m.next k)
call_all bs (refine k ∷ calls) m = call_all bs calls (record { reached = refine_once bs m.reached k; next = m.next })

-- the list without its previews
unfoldable pub refinements_in : List Call → List ℕ
refinements_in [] = []
refinements_in (look k ∷ calls) = refinements_in calls
refinements_in (refine k ∷ calls) = k ∷ refinements_in calls

-- whatever the bytes, the plan and the slices hold
pub record Preview : Type 0 where
  -- a preview that is taken tells what the refinement gives
  pub foretells : (bs : List ℕ) (plan : Plan) (k : ℕ) (qs vs ns : List ℤ)
      → (let p = previewing qs vs ns bs plan k in p.refused.number ≡ 0 → Foretold p (refined_after p bs plan k))
  -- one whose third slice is as long as the values is refused just where the refinement is, for the same
  pub alike : (bs : List ℕ) (plan : Plan) (k : ℕ) (qs vs ns : List ℤ) → length ns ≡ length vs
      → (let p = previewing qs vs ns bs plan k in (refined_after p bs plan k).refused ≡ p.refused)
  -- after any list of calls, refused ones among them, coefficients, values, plan and figure are those of its refinements alone
  pub unchanged : (bs : List ℕ) (calls : List Call) (m : Memory) → (call_all bs calls m).reached ≡ refine_all bs (refinements_in calls) m.reached
