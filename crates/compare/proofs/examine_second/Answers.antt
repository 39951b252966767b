-- What showing the second is refused for comes first, as where its header does not open; then the sizes decide.
use Rattle.std.proofs.Common.{◌≡◌, refl, ap, ap₂, ◌∙◌}
use Rattle.std.specs.Prelude.{Result, Ok, Err}
use Rattle.std.specs.Result.{result_and}
use Rattle.std.proofs.lemmas.Result.{err_from_is_err_and}
use borrow.Author.Tests.{ne_eqb}
use Rattle.header.specs.declared.Refusal.{Refusal}
use Rattle.header.specs.Refusals.{details_of, details_in}
use Rattle.header.specs.Opening.{Opening}
use Rattle.header.proofs.Refusing.{refusing}
use Rattle.card.specs.Reading.{Reading}
use Rattle.compare.specs.Comparing.{size_refusal}
use Rattle.compare.specs.Workings.{first_of, behind_first}
use Rattle.card.proofs.ReadCall.{showing-no}
use Rattle.compare.proofs.examine_second.Goals as goal

-- the first of two refusals that is one
both : (r s : Result (Unit {0}) Refusal) → details_in (result_and r s) ≡ first_of (details_in r) (details_in s)
both (Ok a) s = refl
both (Err w) s = rw (ne_eqb (details_of w).number 0 (refusing w))

pub returns-in_err-other : goal.returns-in_err-other
unfolding behind_first
returns-in_err-other c =
    let w = c.in_err-other.field-0.0 in
    let shown = showing-no c.args.second.now w c.in_err-other.ensures.opens c.args.coefficients2.now c.args.values2.now in
    let p = err_from_is_err_and c.from_residual.result c.from_residual.ensures.1 in
    rw (p.1, p.2) (rw (← ap (λ (r : Reading). r.refused) shown, ne_eqb (details_of w).number 0 (refusing w)))

pub returns : goal.returns
unfolding behind_first
returns c =
    ap details_in c.and.ensures
    ∙ both c.examine-own.result c.check_sizes.result
    ∙ ap₂ first_of c.examine-own.ensures (c.check_sizes.ensures ∙ ap (λ (x : Opening). size_refusal c.args.shape x.header.shape c.args.apart.now) c.in_ok-other.ensures.opens)
