-- The line begins as its row's, and each field is put at the end of its places.
use mathlib.Core.Path.{◌≡◌, ap, ◌∙◌}
use native.Mathlib.Omega.{arith}
use mir.Facts.{to_z-of_z}
use borrow.Author.Rules.{rules}
use lib.ListN.{length}
use lib.Seq.{sets, length-sets}
use Rattle.roll.specs.Workings.{row_line}
use Rattle.roll.proofs.Lines.{Fits}
use Rattle.roll.proofs.Fields.{row-line-long, line-put}
use Rattle.roll.proofs.printing.value_line.Statement.{statement}
use Rattle.roll.proofs.printing.value_line.Tie as tie

begin-line-requires : tie.Need-begin_line-requires
begin-line-requires c κs =
    let s = c.before.before.before in
    (s.requires.0.0, ap length s.requires.0.1 ∙ row-line-long s.args.row s.requires.1.0)

add-put-pairs : tie.Need-overflow_add-at
add-put-pairs c = search rules

add-put-pairs-2 : tie.Need-overflow_add-at-2
add-put-pairs-2 c = search rules

abbrev Put : tie.After-put_pairs-arg-1 → tie.After-begin_line
Put c = c.before.before.before

abbrev S : tie.After-begin_line → tie.Start
S p = p.before.before.before.before

fits : (s : tie.Start) → Fits s.args.row s.args.column s.args.value
fits s = record { row_fits = s.requires.1.0; column_fits = s.requires.1.1; value-fits = s.requires.1.2 }

begun : (p : tie.After-begin_line) → p.begin_line.new.page ≡ sets (S p).args.page.now (S p).args.at (row_line (S p).args.row)
begun p =
    let s = S p in
    p.begin_line.ensures ∙ ap (sets s.args.page.now s.args.at) s.requires.0.1

put-pairs-requires : tie.Need-put_pairs-requires
put-pairs-requires c κs =
    let p = Put c in
    let s = S p in
    (omega (arith, s.requires.1.1), omega (arith, s.requires.0.0, ap length (begun p), length-sets s.args.page.now s.args.at (row_line s.args.row)), s.requires.0.2)

add-put-value : tie.Need-overflow_add-at-3
add-put-value c = search rules

put-value-requires : tie.Need-put_value-requires
put-value-requires c κs =
    let two = c.before.before.before in
    let p = Put two.before in
    let s = S p in
    (rw (to_z-of_z s.ranges.value) (omega (arith, s.requires.1.2)), search rules, s.requires.0.2)

same_length : tie.Need-shape_of-page
same_length c = search rules

returns : tie.Need-returns
returns c =
    let three = c.before.before in
    let two = three.before.before.before.before in
    let p = Put two.before in
    let s = S p in
    line-put s.args.page.now s.args.at (fits s) (begun p) two.put_pairs.ensures.1 (rw (to_z-of_z s.ranges.value) at three.put_value.ensures)

pub value_line_spec : {M : Type 1} → statement M
value_line_spec =
    tie.close (tie.spec begin-line-requires add-put-pairs add-put-pairs-2 put-pairs-requires add-put-value put-value-requires same_length returns)
