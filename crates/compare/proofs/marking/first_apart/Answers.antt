-- What `position` answers is the first point that is marked.
use Rattle.std.proofs.Common.{rules, ◌≡◌, ℕ, Option, Some, None, eqb, ltb, List, length, sym, ap, ◌∙◌, arith, cond}
use Rattle.std.specs.List.{position_or_len}
use Rattle.std.specs.Option.{unwrap_or}
use borrow.Author.Tests.{tests, lt-ltb, le-ltb}
use native.Mathlib.Decide.{dec_lt}
use Rattle.std.proofs.lemmas.Iterator.{YieldsList-from_slice}
use Rattle.std.proofs.lemmas.Iterator.Search.{position_from_yields_List}
use Rattle.std.proofs.lemmas.List.Sums.{fails_before_first, passes_at_first}
use Rattle.sheet.specs.Lists.{nth}
use Rattle.sheet.proofs.Lists.{count_none}
use Rattle.compare.specs.Workings.{marked}
use Rattle.compare.proofs.Marks.{first-here, first-none}
use Rattle.compare.proofs.marking.first_apart.Goals as goal

module _ (ms : List ℕ) where
  abbrev place : ℕ
  place = position_or_len (λ m. eqb m 1) ms

  first-is : unwrap_or (cond (ltb place (length ms)) (Some place) None) 0 ≡ nth (marked ms) (length ms) 0
  first-is =
      elim (dec_lt place (length ms)) [
        | yes l ↦ simp (lt-ltb place (length ms) l) (sym (first-here (marked ms) (length ms) place l (passes_at_first (λ m. eqb m 1) ms 0 l) (λ q h. fails_before_first (λ m. eqb m 1) ms q 0 h)))
        | no g ↦ simp (le-ltb place (length ms) (omega arith)) (sym (first-none (marked ms) (length ms) (λ q h. fails_before_first (λ m. eqb m 1) ms q 0 (omega arith))))
      ]

pub returns-then-number-eq0 : goal.returns-then-number-eq0
returns-then-number-eq0 c =
    let ms = c.args.apart.now in
    sym (first-none (marked ms) (length ms) (count_none (marked ms) (length ms) (sym c.requires ∙ c.if-number-eq0.true)))

pub returns : goal.returns
returns c =
    let found = position_from_yields_List (λ (m : ℕ). eqb m 1) c.position-first.new.self _ c.position-first.result c.position-first.ensures.ran (YieldsList-from_slice c.args.apart.now (search rules)) (λ x b q k. search (rules, tests)) in
    c.unwrap_or.ensures ∙ ap (λ (o : Option ℕ). unwrap_or o 0) found ∙ first-is c.args.apart.now
