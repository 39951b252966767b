-- The first byte 10 is before the end where there is one.
use Rattle.std.proofs.Common.{◌≡◌, ℕ, List, [], ◌∷◌, length, eqb, ltb, refl, sym, suc, ◌∙◌, arith}
use Rattle.std.specs.List.{list_any}
use borrow.Author.Tests.{lt-ltb, le-ltb, ltb-true, ltb-false}
use Rattle.integers.proofs.Bools.{by}
use Rattle.text.specs.Line.{newline, index_of, has_end}
use Rattle.display.proofs.answers.has_end.Goals as goal

later : (a b : ℕ) → ltb (suc a) (suc b) ≡ ltb a b
later a b = by (ltb a b) (λ t. lt-ltb (suc a) (suc b) (omega (arith, ltb-true a b t)) ∙ sym t) (λ t. le-ltb (suc a) (suc b) (omega (arith, ltb-false a b t)) ∙ sym t)

any-end : (bs : List ℕ) → list_any (λ y. eqb y newline) bs ≡ ltb (index_of newline bs) (length bs)
unfolding index_of
any-end [] = refl
any-end (y ∷ ys) = by (eqb y newline) (λ t. rw (t, lt-ltb 0 (length (y ∷ ys)) (omega arith))) (λ t. rw (t, later (index_of newline ys) (length ys)) (any-end ys))

pub returns : goal.returns
unfolding has_end
returns c = c.contains.ensures.value ∙ any-end c.args.bytes.now
