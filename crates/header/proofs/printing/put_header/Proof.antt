-- By cases on the two tests, which are the test whether there is room; where there is, `put_lines` puts the text.
use mathlib.Core.List.{List}
use mathlib.Core.Path.{sym, ◌∙◌}
use Prim.Native.Nat.{ℕ, ◌+◌, ◌-◌, ◌≤◌}
use native.Mathlib.Omega.{arith}
use borrow.Author.Rules.{rules}
use borrow.Author.Tests.{leb-true, leb-false}
use lib.ListN.{length}
use Rattle.text.specs.Joined.{joined}
use Rattle.header.specs.Workings.{text_most}
use Rattle.header.proofs.HeaderRoom.{header-fits, header-over}
use Rattle.header.proofs.printing.put_header.Statement.{statement}
use Rattle.header.proofs.printing.put_header.Tie as tie

abbrev A : tie.After-joined_fits → tie.Else-room-lt-MOST_TEXT
A k = k.before

abbrev S : tie.Else-room-lt-MOST_TEXT → tie.Start
S e = e.before.before.before

abbrev text : tie.Else-room-lt-MOST_TEXT → List ℕ
text e = joined (S e).args.losses.now

room : (e : tie.Else-not-joined_fits) → (let a = A e.before in text_most + length (text a) ≤ length (S a).args.out.now)
room e =
    let a = A e.before in
    omega (arith, a.if-room-lt-MOST_TEXT.false, leb-true (length (text a)) (length (S a).args.out.now - text_most) (sym e.before.joined_fits.ensures ∙ e.if-not-joined_fits.false))

returns : tie.Need-returns-then-room-lt-MOST_TEXT
returns c =
    let s = c.before.before.before in
    let o = header-over s.args.out.now s.args.losses.now s.args.header (omega (arith, c.if-room-lt-MOST_TEXT.true)) in
    (sym o.0, sym o.1)

joined-fits-requires : tie.Need-joined_fits-requires
joined-fits-requires c κs = search rules

returns-2 : tie.Need-returns-then-not-joined_fits
returns-2 c =
    let a = A c.before in
    let s = S a in
    let long = leb-false (length (text a)) (length s.args.out.now - text_most) (sym c.before.joined_fits.ensures ∙ c.if-not-joined_fits.true) in
    let o = header-over s.args.out.now s.args.losses.now s.args.header (omega (arith, long)) in
    (sym o.0, sym o.1)

put-lines-requires : tie.Need-put_lines-requires
put-lines-requires c κs = room c.before

same_length : tie.Need-shape_of-out
same_length c = search rules

returns-3 : tie.Need-returns
returns-3 c =
    let k = c.before.before in
    let e = k.before.before in
    let s = S (A e.before) in
    let f = header-fits s.args.out.now s.args.losses.now s.args.header (room e) in
    (k.put_lines.ensures.0 ∙ sym f.0, k.put_lines.ensures.1 ∙ sym f.1)

pub put_header_spec : {M : Type 1} → statement M
put_header_spec =
    tie.close (tie.spec returns joined-fits-requires returns-2 put-lines-requires same_length returns-3)
