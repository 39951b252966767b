-- By what `open` answers, which is what opening answers: lengths come behind what it is refused for.
use borrow.Author.Tests.{ne_eqb}
use Rattle.header.specs.Refusals.{details_of}
use Rattle.header.proofs.Refusing.{refusing}
use Rattle.preview.specs.Workings.{length_refusal}
use Rattle.preview.proofs.length_refusal.Goals as goal

pub returns-in-Ok : goal.returns-in-Ok
unfolding length_refusal
returns-in-Ok c = rw (← c.in-Ok.ensures.opens)

pub returns-in-Err : goal.returns-in-Err
unfolding length_refusal
returns-in-Err c =
    let r = c.in-Err.refusal in
    rw (← c.in-Err.ensures.opens, ne_eqb (details_of r).number 0 (refusing r))
