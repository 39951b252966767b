-- The last row, searched from its first entry on: a place is the first within a limit where none before it is, and the last one is where none is at all; the first of the least moves on only where an entry is less. What is found among the entries holds of what they stand for.
use mathlib.Core.List.{List}
use mathlib.Core.Path.{◌≡◌, ap}
use Prim.Native.Nat.{ℕ, ◌+◌, ◌*◌, ◌≤◌, ◌<◌, max}
use native.Mathlib.Nat.{le_refl}
use native.Mathlib.Decide.{dec_lt}
use native.Mathlib.Omega.{arith}
use borrow.Author.Count.{below_more}
use borrow.Author.Rules.{rules}
use lib.ListN.{length, get_or, take, drop}
use Rattle.std.proofs.lemmas.List.{places}
use Rattle.header.specs.Plan.{layers_most}
use Rattle.planner.specs.Workings.Table.{Layers, Rows, FirstWithin, LeastWithin, row_length, best}

-- ---- a part of a row is a part of the table
pub row-entry : (t : List ℕ) (a m c : ℕ) → c < m → a + m ≤ length t → get_or (take m (drop a t)) c 0 ≡ get_or t (a + c) 0
row-entry t a m c l h = search (rules, places)

-- ---- the first within a limit
module _ (f : ℕ → ℕ) (limit c : ℕ) (above : (b : ℕ) → b < c → limit < f b) where
  pub first-here : c < row_length → f c ≤ limit → FirstWithin f limit c
  first-here l h = record { inside = l; above = above; within = λ b m g. h }

  pub first-last : c + 1 ≡ row_length → FirstWithin f limit c
  first-last e =
      record {
        inside = omega arith;
        above = above;
        within = λ b m h.
            elim (dec_lt b c) [
              | yes l ↦ omega (arith, above b l)
              | no l ↦ let i : b ≡ c = omega arith in omega (arith, ap f i)
            ];
      }

-- ---- the first of the least, of the places below c
pub record LeastBelow (f : ℕ → ℕ) (c at : ℕ) : Type 0 where
  pub inside : at < c
  pub before : (b : ℕ) → b < at → f at < f b
  pub least : (b : ℕ) → b < c → f at ≤ f b

-- a turn looks at place c; the first place stands from the start
module _ (f : ℕ → ℕ) (c at : ℕ) (i : LeastBelow f (max 1 c) at) where
  pub least-moves : f c < f at → LeastBelow f (max 1 (c + 1)) c
  least-moves h =
      record {
        inside = omega arith;
        before = λ b l. omega (arith, i.least b (omega arith));
        least = λ b l. below_more (λ (b : ℕ). f c ≤ f b) c (λ b l. omega (arith, i.least b (omega arith))) (le_refl (f c)) b (omega arith);
      }

  pub least_stays : f at ≤ f c → LeastBelow f (max 1 (c + 1)) at
  least_stays h =
      record {
        inside = omega (arith, i.inside);
        before = i.before;
        least = λ b l. below_more (λ (b : ℕ). f at ≤ f b) c (λ b l. i.least b (omega arith)) h b (omega arith);
      }

-- ---- the entries are the least that the layers can stand at
module _ (L : Layers) (t : List ℕ) (rows : Rows L t layers_most) where
  abbrev entry : ℕ → ℕ
  entry c = get_or t (layers_most * row_length + c) 0

  last_entry : (c : ℕ) → c < row_length → entry c ≡ best L layers_most c
  last_entry c l = rows.held layers_most c (le_refl layers_most) l

  pub first-best : (room r : ℕ) → FirstWithin entry room r → FirstWithin (best L layers_most) room r
  first-best room r f =
      record {
        inside = f.inside;
        above = λ b l. omega (arith, f.above b l, last_entry b (omega (arith, f.inside)));
        within = λ b l h. omega (arith, f.within b l (omega (arith, last_entry b l)), last_entry r f.inside);
      }

  pub least-best : (top r : ℕ) → top < row_length → LeastWithin entry top r → LeastWithin (best L layers_most) top r
  least-best top r h f =
      let e = last_entry r (omega (arith, f.inside)) in
      record {
        inside = f.inside;
        before = λ b l. omega (arith, f.before b l, e, last_entry b (omega (arith, f.inside)));
        least = λ b l. omega (arith, f.least b l, e, last_entry b (omega arith));
      }
