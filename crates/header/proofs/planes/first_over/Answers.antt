-- What `position` answers of the pairs is the first place where a plan loads more than the limit.
use Rattle.std.proofs.Common.{rules, ℕ, ltb, ◌∙◌}
use borrow.Author.Tests.{tests}
use Rattle.std.proofs.lemmas.Iterator.{YieldsList-from_zip, YieldsList-from_slice}
use Rattle.std.proofs.lemmas.Iterator.Search.{position_from_yields_List}
use Rattle.header.proofs.Over.{over-zipped}
use Rattle.header.proofs.planes.first_over.Goals as goal

pub returns : goal.returns
returns c =
    position_from_yields_List (λ (p : ℕ × ℕ). ltb p.0 p.1) c.position.new.self _ c.position.result c.position.ensures.ran
    (YieldsList-from_zip (YieldsList-from_slice c.args.limit (search rules)) (YieldsList-from_slice c.args.plan (search rules)))
    (λ x b q k. search (rules, tests))
    ∙ over-zipped c.args.limit c.args.plan (search rules) (search rules)
