-- Demand 2, its third sentence (docs/CARD.md, "The three demands"): after any list of refinements, refused ones among them, that begins with a reading of no
-- planes, the values are those of one reading with the planes reached.
use Rattle.std.specs.Prelude.{cond, List, [], ◌∷◌, ◌≡◌, ℕ, eqb, ℤ, length}
use Rattle.header.specs.Plan.{no_plan}
use Rattle.card.specs.Reading.{Reading, reading}
use Rattle.card.specs.Refining.{refining}

-- each call takes what the last accepted one left: a refused one leaves what was there
abbrev pub keep : Reading → Reading → Reading
keep new old = cond (eqb new.refused.number 0) new old

abbrev pub refine_once : List ℕ → Reading → ℕ → Reading
refine_once bs r k = keep (refining r.coefficients r.values bs r.plan k) r

-- the layers asked for, one after the other
unfoldable pub refine_all : List ℕ → List ℕ → Reading → Reading
refine_all bs [] r = r
refine_all bs (k ∷ ks) r = refine_all bs ks (refine_once bs r k)

-- plan, figure, coefficients and values afterwards are those of one reading, whatever stood in its slices (since request 5 refining and reading both rebuild with
-- the plan reached, so that what is still missing counts as its middle in both)
pub record Refinements : Type 0 where
  pub same : (bs ks : List ℕ) (qs vs qs' vs' : List ℤ) → (reading qs vs bs no_plan).refused.number ≡ 0
      → length qs' ≡ length qs → length vs' ≡ length vs
      → refine_all bs ks (reading qs vs bs no_plan) ≡ reading qs' vs' bs (refine_all bs ks (reading qs vs bs no_plan)).plan
