-- How the rows come to be filled: a table that holds nothing but 0 in its first place has row 0; before any count is tried the next row holds nothing; and when all are tried it is filled.
use mathlib.Core.List.{List}
use mathlib.Core.Path.{◌≡◌, sym, ap, ◌∙◌}
use Prim.Native.Nat.{ℕ, suc, ◌+◌, ◌*◌, ◌<◌}
use native.Mathlib.Decide.{dec_lt}
use native.Mathlib.Omega.{arith}
use lib.ListN.{length, get_or, set, replicate, length-set, length-replicate, get_or-replicate}
use lib.Seq.{get_or-set_same, get_or-set_other}
use Rattle.header.specs.Plan.{layers_most}
use Rattle.planner.specs.Workings.Table.{Layers, Rows, Tried, none, row_length, table_length, least_of, best}
use Rattle.planner.proofs.Entries.{best-suc, best-first, best-empty}

-- ---- row 0
module _ (t : List ℕ) (n : ℕ) (e : t ≡ replicate n none) where
  blank-long : length (set t 0 0) ≡ n
  blank-long = length-set t 0 0 ∙ ap length e ∙ length-replicate n none

  blank-rest : (i : ℕ) → 0 < i → i < n → get_or (set t 0 0) i 0 ≡ none
  blank-rest i p l = get_or-set_other t 0 i 0 0 (omega arith) ∙ ap (λ (s : List ℕ). get_or s i 0) e ∙ get_or-replicate n i none 0 l

pub rows_start : (L : Layers) (t : List ℕ) → t ≡ replicate table_length none → Rows L (set t 0 0) 0
rows_start L t e =
    record {
      long = blank-long t table_length e;
      held = λ j c lj lc.
          let z : j ≡ 0 = omega arith in
          rw z (first c lc);
      rest = λ i p l. blank-rest t table_length e i (omega arith) l;
    }
  where
    first : (c : ℕ) → c < row_length → get_or (set t 0 0) (0 * row_length + c) 0 ≡ best L 0 c
    first c l =
        elim (dec_lt 0 c) [
          | yes p ↦
              let i : 0 * row_length + c ≡ c = omega arith in
              rw i (blank-rest t table_length e c p (omega arith) ∙ sym (best-empty L c p))
          | no p ↦
              let i : c ≡ 0 = omega arith in
              rw i (get_or-set_same t 0 0 0 (omega (arith, blank-long t table_length e, length-set t 0 0)) ∙ sym (best-first L))
        ]

-- ---- row k + 1
module _ (L : Layers) (t : List ℕ) (k : ℕ) where
  pub tried-none : k < layers_most → Rows L t k → Tried L t k 0
  unfolding least_of
  tried-none h rows =
      record {
        long = rows.long;
        held = rows.held;
        next = λ c l. rows.rest (suc k * row_length + c) (omega arith) (omega arith);
        rest = λ i l u. rows.rest i (omega arith) u;
      }

  pub tried-all : Tried L t k (suc (L.planes k)) → Rows L t (suc k)
  tried-all tried =
      record {
        long = tried.long;
        held = λ j c lj lc.
            elim (dec_lt k j) [
              | yes l ↦ let e : j ≡ suc k = omega arith in rw e (tried.next c lc ∙ sym (best-suc L k c))
              | no l ↦ tried.held j c (omega arith) lc
            ];
        rest = tried.rest;
      }
