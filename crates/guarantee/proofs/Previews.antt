-- Look before refining: whatever a preview answers, it leaves coefficients and values as they were, so that the refinement after it is the one of which it speaks; and a list of calls is its refinements, by induction on the list.
use mathlib.Core.List.{List, [], ◌∷◌}
use mathlib.Core.Path.{◌≡◌, refl, ap, ◌∙◌}
use Prim.Native.Nat.{ℕ}
use lib.IntN.{ℤ}
use lib.ListN.{length}
use Rattle.header.specs.declared.Plan.{Plan}
use Rattle.card.specs.Reading.{Reading}
use Rattle.card.specs.Refining.{refining}
use Rattle.preview.specs.Previewing.{Previewing, previewing}
use Rattle.preview.proofs.Previewed.{kept, taken_is, refused-alike}
use Rattle.guarantee.specs.Refinements.{refine_once, refine_all}
use Rattle.guarantee.specs.Preview.{refined_after, Foretold, Call, look, refine, Memory, look_once, call_all, refinements_in, Preview}

module _ (bs : List ℕ) (plan : Plan) (k : ℕ) (qs vs ns : List ℤ) where
  abbrev p : Previewing
  p = previewing qs vs ns bs plan k

  -- the refinement after it is that of the slices as they were
  after_is : refined_after p bs plan k ≡ refining qs vs bs plan k
  after_is = let k' = kept qs vs ns bs plan k in λ i. refining (k'.coefficients i) (k'.values i) bs plan k

  foretold : p.refused.number ≡ 0 → Foretold p (refined_after p bs plan k)
  foretold zero = rw (after_is, taken_is qs vs ns bs plan k zero) (record { refused = refl; plan = refl; figure = refl; values = refl })

  alike : length ns ≡ length vs → (refined_after p bs plan k).refused ≡ p.refused
  alike e = ap (λ (r : Reading). r.refused) after_is ∙ refused-alike qs vs ns bs plan k e

-- a preview leaves what was reached
look-kept : (bs : List ℕ) (r : Reading) (ns : List ℤ) (k : ℕ) → (look_once bs r ns k).reached ≡ r
look-kept bs r ns k =
    let k' = kept r.coefficients r.values ns bs r.plan k in
    λ i. record { refused = r.refused; plan = r.plan; figure = r.figure; coefficients = k'.coefficients i; values = k'.values i }

unchanged : (bs : List ℕ) (calls : List Call) (m : Memory) → (call_all bs calls m).reached ≡ refine_all bs (refinements_in calls) m.reached
unfolding call_all refinements_in refine_all
unchanged bs [] m = refl
unchanged bs (look k ∷ calls) m = unchanged bs calls (look_once bs m.reached m.next k) ∙ ap (refine_all bs (refinements_in calls)) (look-kept bs m.reached m.next k)
unchanged bs (refine k ∷ calls) m = unchanged bs calls (record { reached = refine_once bs m.reached k; next = m.next })

pub preview : Preview
preview = record { foretells = foretold; alike = alike; unchanged = unchanged }
