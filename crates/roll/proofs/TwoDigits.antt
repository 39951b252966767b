-- Two digits at a time: the table has the characters of every number below 100, and a number from 100 on ends with those of its remainder.
use mathlib.Core.List.{List, [], ◌∷◌, ◌++◌, append_assoc}
use mathlib.Core.Path.{◌≡◌, refl, sym, ap, ◌∙◌}
use Prim.Native.Nat.{ℕ, suc, ◌+◌, ◌*◌, ◌-◌, ◌/◌, ◌%◌, ◌<◌, ◌≤◌}
use native.Mathlib.Numerals.{add-one}
use native.Mathlib.Omega.{arith}
use borrow.Author.Tests.{eq-eqb, ne_eqb}
use lib.ListN.{length, set, get_or, length-append}
use lib.Seq.{sets, length-sets}
use Rattle.sheet.proofs.Lists.{get_or-tabulate}
use Rattle.text.specs.Decimal.{zero_character, decimal}
use Rattle.text.proofs.Digits.{one, two}
use Rattle.text.proofs.Stores.{sets-sets, set-sets}
use Rattle.roll.specs.Workings.{pair_characters, pair_character, pair, pair_table}

-- ---- the table
tens-at : (n : ℕ) → n < 100 → get_or pair_table (2 * n) 0 ≡ zero_character + n / 10
unfolding pair_table pair_character
tens-at n h =
    get_or-tabulate pair_characters pair_character (2 * n) 0 (omega arith)
    ∙ rw (eq-eqb (2 * n % 2) 0 (omega arith)) (omega arith)

ones-at : (n : ℕ) → n < 100 → get_or pair_table (2 * n + 1) 0 ≡ zero_character + n % 10
unfolding pair_table pair_character
ones-at n h =
    get_or-tabulate pair_characters pair_character (2 * n + 1) 0 (omega arith)
    ∙ rw (ne_eqb ((2 * n + 1) % 2) 0 (λ e. omega arith)) (omega arith)

-- ---- the last two characters of a number
decimal-two : {n : ℕ} → 10 ≤ n → n < 100 → decimal n ≡ pair n
decimal-two {n} l h = two l ∙ ap (λ (t : List ℕ). t ++ (zero_character + n % 10) ∷ []) (one (omega arith))

decimal-pair : {n : ℕ} → 100 ≤ n → decimal n ≡ decimal (n / 100) ++ pair (n % 100)
decimal-pair {n} h =
    let tenth = two {n = n / 10} (omega arith) in
    let a : n / 10 / 10 ≡ n / 100 = omega arith in
    let b : n / 10 % 10 ≡ n % 100 / 10 = omega arith in
    let c : n % 10 ≡ n % 100 % 10 = omega arith in
    two (omega arith)
    ∙ ap (λ (t : List ℕ). t ++ (zero_character + n % 10) ∷ []) tenth
    ∙ append_assoc (decimal (n / 10 / 10)) ((zero_character + n / 10 % 10) ∷ []) ((zero_character + n % 10) ∷ [])
    ∙ rw (a, b, c)

-- ---- put before the rest, or behind it
pair_put : (page : List ℕ) (a : ℕ) (xs : List ℕ) (n p : ℕ) → p ≡ a + length xs → sets (sets page p (pair n)) a xs ≡ sets page a (xs ++ pair n)
pair_put page a xs n p here =
    sym (set-sets (set page p (zero_character + n / 10)) a xs (suc p) (zero_character + n % 10) (λ i l e. omega arith))
    ∙ ap (λ (l : List ℕ). set l (suc p) (zero_character + n % 10)) (sym (set-sets page a xs p (zero_character + n / 10) (λ i l e. omega arith)))
    ∙ rw here (sets-sets page a xs (pair n))

-- what is left to put, once the last two characters are put
module _ (page : List ℕ) (place rest : ℕ) (many : 100 ≤ rest) (fits : length (decimal rest) ≤ place) where
  pub two-more : length (decimal rest) ≡ length (decimal (rest / 100)) + 2
  two-more = ap length (decimal-pair many) ∙ length-append (decimal (rest / 100)) (pair (rest % 100))

  pair-less : sets page (place - length (decimal rest)) (decimal rest)
      ≡ sets (sets page (place - 2) (pair (rest % 100))) (place - 2 - length (decimal (rest / 100))) (decimal (rest / 100))
  pair-less =
      let start : place - length (decimal rest) ≡ place - 2 - length (decimal (rest / 100)) = omega (arith, two-more) in
      rw (start, decimal-pair many)
      (sym (pair_put page (place - 2 - length (decimal (rest / 100))) (decimal (rest / 100)) (rest % 100) (place - 2) (omega (arith, two-more))))

  -- and once they are put on a page
  module _ (next : List ℕ) (put : next ≡ sets page (place - 2) (pair (rest % 100))) where
    pub pair_keeps : length next ≡ length page
    pair_keeps = ap length put ∙ length-sets page (place - 2) (pair (rest % 100))

    pub pair_left : sets page (place - length (decimal rest)) (decimal rest) ≡ sets next (place - 2 - length (decimal (rest / 100))) (decimal (rest / 100))
    pair_left = rw put pair-less

-- ---- what each function leaves
pub pair_is : (page : List ℕ) (at n : ℕ) {pairs : List ℕ} → pairs ≡ pair_table → n < 100 → set (set page at (get_or pairs (2 * n) 0)) (at + 1) (get_or pairs (2 * n + 1) 0) ≡ sets page at (pair n)
pair_is page at n table h = rw (table, tens-at n h, ones-at n h, add-one at)

module _ (page : List ℕ) (end n : ℕ) where
  pub top_one : n < 10 → (end - 1 ≡ end - length (decimal n)) × (set page (end - 1) (zero_character + n) ≡ sets page (end - length (decimal n)) (decimal n))
  top_one h = rw (one h) (refl, refl)

  pub top-two : 10 ≤ n → n < 100 → {next : List ℕ} → next ≡ sets page (end - 2) (pair n) → (end - 2 ≡ end - length (decimal n)) × (next ≡ sets page (end - length (decimal n)) (decimal n))
  top-two l h put = rw (decimal-two l h) (refl, put)

  pub top-room : 10 ≤ n → n < 100 → length (decimal n) ≡ 2
  top-room l h = ap length (decimal-two l h)
