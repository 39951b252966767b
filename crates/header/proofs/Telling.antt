-- The line of losses as the code reads it: the table's front holds the closed losses, which are the limits of the numbers that are read there. The answer of the line of cells is the same
-- with losses and without, so it is handed on with them.
use mathlib.Core.Bool.{Bool, true, false, cond}
use mathlib.Core.List.{List, [], ◌++◌}
use mathlib.Core.Option.{Option, none, some}
use mathlib.Core.Path.{◌≡◌, refl, sym, ap, ◌∙◌}
use Prim.Native.Nat.{ℕ, ◌+◌, ◌*◌, ◌^◌, ◌<◌, ◌≤◌}
use native.Mathlib.Omega.{arith}
use lib.Dec.{ltb, eqb}
use lib.ListN.{length, take, drop, get_or, replicate, length-replicate, length-append}
use lib.Seq.{sets, length-sets, take_at}
use Rattle.digits.specs.Digits.{loss}
use Rattle.sheet.specs.Lists.{total}
use Rattle.sheet.specs.Sheet.{layers}
use Rattle.std.specs.Prelude.{Result, Ok, Err, IfOk}
use Rattle.text.specs.declared.Line.{Line}
use Rattle.text.specs.declared.LineError.{LineError}
use Rattle.text.specs.declared.LineError.TheVariants.{Short, Wrong}
use Rattle.text.specs.Line.{line_at}
use Rattle.text.specs.Workings.{putting, is_some, or_zeros}
use Rattle.text.proofs.Joins.{Within, written_back}
use Rattle.header.proofs.Counting.{none_read, some_read}
use Rattle.text.proofs.Fitting.{put-fits}
use Rattle.text.proofs.Padding.{padded-put, padded-take}
use Rattle.header.specs.declared.Header.{Header}
use Rattle.header.specs.declared.Opened.{Opened}
use Rattle.header.specs.declared.Refusal.{Refusal}
use Rattle.header.specs.declared.Refusal.TheVariants.{BadLine}
use Rattle.header.specs.Refusals.{refusal, details_of}
use Rattle.header.specs.Header.{cell_bytes, ascii, planes_of}
use Rattle.header.specs.Losses.{closed, losses_most}
use Rattle.header.specs.Workings.{Answers, refusing, keyed_at}
use Rattle.header.proofs.Taking.{turn_refused, turn_read, numbers_turn}
use Rattle.header.proofs.Refusing as Rf
use Rattle.text.specs.Joined.{numbers_in}
use Rattle.integers.proofs.Bools.{cond_no}
use borrow.Author.Tests.{ne_eqb}
use Rattle.header.specs.Opening.{Opening, not_opened, opened, as_opening, taking, listed, opening_cells, opening_told}
use Rattle.header.proofs.WellFormed.{WellFormed}
use Rattle.header.proofs.Laid.{laid-length, planes-few, fit-long, fit_small}

-- ---- the limits, as they stand in the table
module _ {h : Header} (r : WellFormed h) (count : ℕ) (count-is : count ≡ total (planes_of h) (layers h.shape)) where
  abbrev most : List ℕ
  most = closed (planes_of h) (layers h.shape)

  most-long : length most ≡ count
  most-long = laid-length (planes_of h) (λ k d. loss d) (layers h.shape) ∙ sym count-is

  module _ (table : List ℕ) (table_is : table ≡ sets (replicate losses_most 0) 0 most) where
    pub limits-front : take count table ≡ most
    limits-front = rw (table_is ∙ padded-put losses_most most (omega (arith, planes-few r, most-long, count-is)), ← most-long) (padded-take losses_most most)

    pub limits-room : count ≤ length table
    limits-room = omega (arith, planes-few r, count-is, ap length table_is, length-sets (replicate losses_most 0) 0 most, length-replicate {A = ℕ} losses_most 0)

-- ---- the numbers that are read at the table's front, by those limits
module _ {h : Header} (r : WellFormed h) (n count : ℕ) (table text : List ℕ) (all-are : n ≡ layers h.shape) (count-is : count ≡ total (planes_of h) n)
    (table-is : table ≡ sets (replicate losses_most 0) 0 (closed (planes_of h) n)) where
  counted : count ≡ total (planes_of h) (layers h.shape)
  counted = count-is ∙ ap (total (planes_of h)) all-are

  there : table ≡ sets (replicate losses_most 0) 0 (closed (planes_of h) (layers h.shape))
  there = table-is ∙ ap (λ (k : ℕ). sets (replicate losses_most 0) 0 (closed (planes_of h) k)) all-are

  pub front_room : count ≤ length table
  front_room = limits-room r count counted table there

  by-limits : numbers_in (closed (planes_of h) (layers h.shape)) text ≡ numbers_in (take count table) text
  by-limits = ap (λ (l : List ℕ). numbers_in l text) (sym (limits-front r count counted table there))

  pub none_told : false ≡ is_some (numbers_in (take count table) text) → numbers_in (closed (planes_of h) (layers h.shape)) text ≡ none
  none_told e = by-limits ∙ none_read _ e

  module _ (ls : List ℕ) (ls-are : ls ≡ or_zeros (length (take count table)) (numbers_in (take count table) text)) (yes : true ≡ is_some (numbers_in (take count table) text)) where
    pub some_told : numbers_in (closed (planes_of h) (layers h.shape)) text ≡ some ls
    some_told = by-limits ∙ some_read _ _ ls ls-are yes

    fit : Within ls (closed (planes_of h) (layers h.shape))
    fit = (written_back (closed (planes_of h) (layers h.shape)) text ls some_told).within

    pub all_told : length ls ≡ count
    all_told = fit-long h ls fit ∙ sym counted

    pub told_first : (rest : List ℕ) → take count (ls ++ rest) ≡ ls
    told_first rest = take_at ls rest count all_told

    pub told_within : (rest : List ℕ) → count ≤ length (ls ++ rest)
    told_within rest = omega (arith, all_told, length-append ls rest)

    pub told_small : (i : ℕ) → get_or ls i 0 < 2 ^ 32
    told_small i = omega (arith, fit_small r (some ls) fit i)

-- ---- the line of cells: its answer with losses, by that without
abbrev pub with_losses : Option (List ℕ) → Opening → Opening
with_losses losses o = cond (eqb o.refused.number 0) (opened o.header losses o.long) o

module _ (bs : List ℕ) (h : Header) (losses : Option (List ℕ)) (line at : ℕ) where
  abbrev closing : Option (List ℕ) → Bool → ℕ → Opening
  closing losses t n = cond t (not_opened (refusal 7 0 0)) (opened h losses (at + n))

  abbrev trailing : ℕ → Bool
  trailing n = ltb (at + n + cell_bytes * h.cells) (length bs)

  pub cells-with : opening_cells bs h losses line at ≡ with_losses losses (opening_cells bs h none line at)
  unfolding opening_cells
  cells-with = by (line_at (ascii "cells=") h.cells h.cells (drop at bs))
    where
      each : (t : Bool) (n : ℕ) → closing losses t n ≡ with_losses losses (closing none t n)
      each true n = refl
      each false n = refl

      by : (l : Result (Line ℕ) LineError) → taking line l (λ _ n. closing losses (trailing n) n) ≡ with_losses losses (taking line l (λ _ n. closing none (trailing n) n))
      by (Err Short) = refl
      by (Err Wrong) = refl
      by (Ok l) = each (trailing l.length) l.length

-- ---- the line of losses
module _ (bs : List ℕ) (h : Header) (at : ℕ) where
  abbrev limits : List ℕ
  limits = closed (planes_of h) (layers h.shape)

  pub told_refused : (r : Refusal) → Err r ≡ refusing 7 (keyed_at (ascii "loss=") (drop at bs)) → not_opened (details_of r) ≡ opening_told bs h at
  unfolding opening_told
  told_refused r e =
      sym
      (numbers_turn 7 (ascii "loss=") limits (drop at bs) (λ ls n. opening_cells bs h (some ls) 8 (at + n))
      ∙ turn_refused 7 (keyed_at (ascii "loss=") (drop at bs)) r _ e)

  module _ (text : List ℕ) (len : ℕ) (e : Ok (record { value = text; length = len }) ≡ refusing 7 (keyed_at (ascii "loss=") (drop at bs))) where
    line_is : opening_told bs h at ≡ listed 7 (numbers_in limits text) (λ ls. opening_cells bs h (some ls) 8 (at + len))
    unfolding opening_told
    line_is =
        numbers_turn 7 (ascii "loss=") limits (drop at bs) (λ ls n. opening_cells bs h (some ls) 8 (at + n))
        ∙ rw (turn_read 7 (keyed_at (ascii "loss=") (drop at bs)) _ e) refl

    pub told_wrong : numbers_in limits text ≡ none → not_opened (details_of (BadLine 7)) ≡ opening_told bs h at
    told_wrong q = sym (line_is ∙ rw q refl)

    module _ (ls : List ℕ) (q : numbers_in limits text ≡ some ls) where
      told_read : opening_told bs h at ≡ with_losses (some ls) (opening_cells bs h none 8 (at + len))
      told_read = line_is ∙ rw q refl ∙ cells-with bs h (some ls) 8 (at + len)

      pub told_cells_refused : (r : Refusal) → not_opened (details_of r) ≡ opening_cells bs h none 8 (at + len) → not_opened (details_of r) ≡ opening_told bs h at
      told_cells_refused r z = sym (told_read ∙ rw (← z) (cond_no (eqb (details_of r).number 0) _ _ (ne_eqb _ 0 (Rf.refusing r))))

      pub told_opened : (long : ℕ) → opened h none long ≡ opening_cells bs h none 8 (at + len) → opening_told bs h at ≡ opened h (some ls) long
      told_opened long z = told_read ∙ rw (← z) refl

-- ---- what the code answers: without losses the table stays, and with them it has them in front
module _ (before : List ℕ) where
  pub answers-none : (r : Result Opened Refusal) (o : Opening) → as_opening r none ≡ o → IfOk r (λ a. a.losses ≡ 0) → Answers r before before o
  answers-none (Ok a) o e z = rw (← e) (record { is = refl; many = z; table = sym (put-fits before 0 [] (omega arith)).1 })
  answers-none (Err w) o e z = rw (← e) (record { is = refl; many = tt; table = sym (put-fits before 0 [] (omega arith)).1 })

  pub answers-some : (a : Opened) (ls : List ℕ) (o : Opening) → o ≡ opened a.header (some ls) a.length → a.losses ≡ length ls → (after : List ℕ) → after ≡ putting before 0 ls
      → Answers (Ok a) before after o
  answers-some a ls o e many after table = rw e (record { is = refl; many = many; table = table })
