-- By the number: below ten it is one character, and from ten on a pair.
use native.Mathlib.Omega.{arith}
use borrow.Author.Rules.{rules}
use Rattle.text.proofs.Digits.{length-one}
use Rattle.roll.proofs.TwoDigits.{top_one, top-two, top-room}
use Rattle.roll.proofs.pairs.put_top.Statement.{statement}
use Rattle.roll.proofs.pairs.put_top.Tie as tie

cast-page : tie.Need-overflow_cast-page
cast-page c = search rules

add-page : tie.Need-overflow_add-page
add-page c = search rules

sub-page : tie.Need-overflow_sub-page
sub-page c = let s = c.before.before in omega (arith, s.requires.0, length-one {n = s.args.n} (omega arith))

slice-write-page : tie.Need-bounds-page-end
slice-write-page c = omega (arith, sub-page c)

sub-result : tie.Need-overflow_sub-result
sub-result c = sub-page c

same_length : tie.Need-shape_of-page-then-n-lt10
same_length c = search rules

returns : tie.Need-returns-then-n-lt10
returns c = let s = c.before.before in top_one s.args.page.now s.args.end s.args.n (omega arith)

sub-put-pair : tie.Need-overflow_sub-end
sub-put-pair c = let s = c.before.before.before in omega (arith, s.requires.0, top-room s.args.page.now s.args.end s.args.n (omega arith) (omega arith))

put-pair-requires : tie.Need-put_pair-requires
put-pair-requires c κs = (omega (arith, sub-put-pair c), omega arith, c.before.before.before.requires.3)

sub-result-2 : tie.Need-overflow_sub-result-2
sub-result-2 c = sub-put-pair c.before.before.before

same-length-2 : tie.Need-shape_of-page
same-length-2 c = search rules

returns-2 : tie.Need-returns
returns-2 c =
    let s = c.before.before.before.before.before.before in
    top-two s.args.page.now s.args.end s.args.n (omega arith) (omega arith) c.before.before.put_pair.ensures

pub put_top_spec : {M : Type 1} → statement M
put_top_spec =
    tie.close
    (tie.spec
    cast-page
    add-page
    sub-page
    slice-write-page
    sub-result
    same_length
    returns
    sub-put-pair
    put-pair-requires
    sub-result-2
    same-length-2
    returns-2)
