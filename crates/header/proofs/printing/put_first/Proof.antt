-- The six lines in turn, each put behind what stands (`put-more`). All of them fit, so each does: those of a header of u64 have less than 512 bytes of text.
use mathlib.Core.List.{List, [], ◌∷◌}
use mathlib.Core.Path.{◌≡◌, refl, sym, ◌∙◌}
use Prim.Native.Nat.{ℕ, ◌+◌, ◌≤◌, ◌<◌, ◌^◌}
use native.Mathlib.Omega.{arith}
use lib.ListN.{length, take, get_or, set, length-set}
use lib.Seq.{sets, length-take-le}
use mir.Syntax.{w64}
use mir.Val.{Fits}
use borrow.Author.Rules.{rules}
use Rattle.sheet.specs.Limits.{layers_most}
use Rattle.sheet.specs.Sheet.{layers}
use Rattle.text.specs.Decimal.{decimal}
use Rattle.text.specs.Line.{newline, line_text}
use Rattle.text.specs.Joined.{joined}
use Rattle.text.proofs.Fitting.{put-fits}
use Rattle.text.proofs.Lines.{line-length}
use Rattle.header.specs.declared.Header.{Header}
use Rattle.header.specs.Header.{ascii_from, curve_text, ascii, planes_of, first_lines}
use Rattle.sheet.proofs.LayerCounts.{count-few, count-take}
use Rattle.header.proofs.TextLength.{first-length, first_fits}
use Rattle.text.proofs.Stores.{put-none, put-more, put-run, put_byte, put_all}
use Rattle.header.proofs.printing.put_first.Statement.{statement}
use Rattle.header.proofs.printing.put_first.Tie as tie

abbrev H : tie.Start → Header
H s = s.args.header

-- ---- the places, from the first line on
abbrev S : tie.After-put_line-a → tie.Start
S c = c.before.before.before.before.before.before.before

abbrev A : tie.After-put_line-b → tie.After-put_line-a
A c = c.before.before.before.before.before.before

abbrev B : tie.After-put_line-c → tie.After-put_line-b
B c = c.before.before.before.before.before.before

abbrev C : tie.After-put-d → tie.After-put_line-c
C c = c.before.before.before.before.before.before

abbrev D : tie.After-put_curve-e → tie.After-put-d
D c = c.before.before.before.before

abbrev E : tie.After-put_line-f → tie.After-put_curve-e
E c = c.before.before.before.before.before.before

abbrev F : tie.After-put-g → tie.After-put_line-f
F c = c.before.before.before.before.before.before

abbrev G : tie.After-put_joined-h → tie.After-put-g
G c = c.before.before.before.before.before.before

-- ---- room
number : (s : tie.Start) (k : ℕ) → planes_of (H s) k < 2 ^ 64
number s k = let f : Fits w64 (get_or (H s).planes k 0) = search rules in f.fits

full : (s : tie.Start) → length (H s).planes ≡ layers_most
full s = search rules

room-all : (s : tie.Start) → length (first_lines (H s)) ≤ length s.args.out.now
room-all s = omega (arith, first_fits (H s) (full s) (search rules) (search rules) (search rules) (search rules) (λ k _. number s k), s.requires)

-- how far the text has come, in a slice of the same length
record Upto (s : tie.Start) (out : List ℕ) (end n : ℕ) : Type 0 where
  ends : end ≡ n
  long : length out ≡ length s.args.out.now

module _ (s : tie.Start) where
  abbrev n1 : ℕ
  n1 = 6 + length (decimal (H s).shape.rows)

  abbrev n2 : ℕ
  n2 = n1 + 6 + length (decimal (H s).shape.cols)

  abbrev n3 : ℕ
  n3 = n2 + 8 + length (decimal (H s).shape.levels)

  abbrev n4 : ℕ
  n4 = n3 + 7 + length (curve_text (H s).curve)

  abbrev n5 : ℕ
  n5 = n4 + 6 + length (decimal (H s).step)

  abbrev counted : List ℕ
  counted = joined (take (layers (H s).shape) (H s).planes)

  abbrev n6 : ℕ
  n6 = n5 + 8 + length counted

  room : n6 ≤ length s.args.out.now
  room = omega (arith, first-length (H s), room-all s)

first : (c : tie.After-put_line-a) → Upto (S c) c.put_line-a.new.out c.put_line-a.result (n1 (S c))
first c = record { ends = omega (arith, simp line-length at c.put_line-a.ensures.0); long = c.put_line-a.auto.out }

second : (c : tie.After-put_line-b) → Upto (S (A c)) c.put_line-b.new.out c.put_line-b.result (n2 (S (A c)))
second c = let p = first (A c) in record { ends = omega (arith, p.ends, simp line-length at c.put_line-b.ensures.0); long = c.put_line-b.auto.out ∙ p.long }

third : (c : tie.After-put_line-c) → Upto (S (A (B c))) c.put_line-c.new.out c.put_line-c.result (n3 (S (A (B c))))
third c = let p = second (B c) in record { ends = omega (arith, p.ends, simp line-length at c.put_line-c.ensures.0); long = c.put_line-c.auto.out ∙ p.long }

-- "curve=" is put
fit-4 : (c : tie.After-put-d) → (let l = C c in (c.put-d.result ≡ l.put_line-c.result + 6) × (c.put-d.new.out ≡ sets l.put_line-c.new.out l.put_line-c.result (ascii "curve=")))
unfolding ascii_from
fit-4 c =
    let l = C c in
    let p = third l in
    let f = put-fits l.put_line-c.new.out l.put_line-c.result (ascii "curve=") (omega (arith, p.ends, p.long, room (S (A (B l))))) in
    (c.put-d.ensures.0 ∙ f.0, c.put-d.ensures.1 ∙ f.1)

key : (c : tie.After-put-d) → Upto (S (A (B (C c)))) c.put-d.new.out c.put-d.result (n3 (S (A (B (C c)))) + 6)
key c = let p = third (C c) in record { ends = omega (arith, p.ends, (fit-4 c).0); long = c.put-d.auto.out ∙ p.long }

fourth : (c : tie.After-put_curve-e) → Upto (S (A (B (C (D c))))) (set c.put_curve-e.new.out c.put_curve-e.result newline) (c.put_curve-e.result + 1) (n4 (S (A (B (C (D c))))))
fourth c = let p = key (D c) in record { ends = omega (arith, p.ends, c.put_curve-e.ensures.0); long = simp length-set (c.put_curve-e.auto.out ∙ p.long) }

fifth : (c : tie.After-put_line-f) → Upto (S (A (B (C (D (E c)))))) c.put_line-f.new.out c.put_line-f.result (n5 (S (A (B (C (D (E c)))))))
fifth c = let p = fourth (E c) in record { ends = omega (arith, p.ends, simp line-length at c.put_line-f.ensures.0); long = c.put_line-f.auto.out ∙ p.long }

-- "planes=" is put
fit-6 : (c : tie.After-put-g) → (let l = F c in (c.put-g.result ≡ l.put_line-f.result + 7) × (c.put-g.new.out ≡ sets l.put_line-f.new.out l.put_line-f.result (ascii "planes=")))
unfolding ascii_from
fit-6 c =
    let l = F c in
    let p = fifth l in
    let f = put-fits l.put_line-f.new.out l.put_line-f.result (ascii "planes=") (omega (arith, p.ends, p.long, room (S (A (B (C (D (E l)))))))) in
    (c.put-g.ensures.0 ∙ f.0, c.put-g.ensures.1 ∙ f.1)

key-2 : (c : tie.After-put-g) → Upto (S (A (B (C (D (E (F c))))))) c.put-g.new.out c.put-g.result (n5 (S (A (B (C (D (E (F c))))))) + 7)
key-2 c = let p = fifth (F c) in record { ends = omega (arith, p.ends, (fit-6 c).0); long = c.put-g.auto.out ∙ p.long }

-- and the counts
abbrev Z : tie.After-put_joined-h → tie.Start
Z c = S (A (B (C (D (E (F (G c)))))))

abbrev N : tie.After-put_joined-h → tie.After-layer_count-layers
N c = c.before.before.before

fit-list : (c : tie.After-put_joined-h) → (let l = G c in (c.put_joined-h.result ≡ l.put-g.result + length (counted (Z c))) × (c.put_joined-h.new.out ≡ sets l.put-g.new.out l.put-g.result (counted (Z c))))
fit-list c =
    let l = G c in
    let p = key-2 l in
    let f = put-fits l.put-g.new.out l.put-g.result (counted (Z c)) (omega (arith, p.ends, p.long, room (Z c))) in
    let t = count-take (H (Z c)).shape (H (Z c)).planes (full (Z c)) in
    (rw ((N c).layer_count-layers.ensures, t) at c.put_joined-h.ensures.0 ∙ f.0, rw ((N c).layer_count-layers.ensures, t) at c.put_joined-h.ensures.1 ∙ f.1)

sixth : (c : tie.After-put_joined-h) → Upto (Z c) (set c.put_joined-h.new.out c.put_joined-h.result newline) (c.put_joined-h.result + 1) (n6 (Z c))
sixth c = let p = key-2 (G c) in record { ends = omega (arith, p.ends, (fit-list c).0); long = simp length-set (c.put_joined-h.auto.out ∙ p.long) }

-- the planes are enough for the layers
few : (n : tie.After-layer_count-layers) → n.layer_count-layers.result ≤ length (H (S (A (B (C (D (E (F n.before.before.before)))))))).planes
few n = let s = S (A (B (C (D (E (F n.before.before.before)))))) in omega (arith, n.layer_count-layers.ensures, count-few (H s).shape, full s)

put-line-requires : tie.Need-put_line-a-requires
put-line-requires c κs = let s = c.before.before.before.before.before.before in simp line-length (omega (arith, room s))

put-line-requires-2 : tie.Need-put_line-b-requires
put-line-requires-2 c κs =
    let l = c.before.before.before.before.before in
    let p = first l in
    simp line-length (omega (arith, p.ends, p.long, room (S l)))

put-line-requires-3 : tie.Need-put_line-c-requires
put-line-requires-3 c κs =
    let l = c.before.before.before.before.before in
    let p = second l in
    simp line-length (omega (arith, p.ends, p.long, room (S (A l))))

put-requires : tie.Need-put-d-requires
put-requires c κs = search rules

put-curve-requires : tie.Need-put_curve-e-requires
put-curve-requires c κs =
    let l = c.before.before.before in
    let p = key l in
    omega (arith, p.ends, p.long, room (S (A (B (C l)))))

slice-write-out : tie.Need-bounds-out-e
slice-write-out c =
    let l = c.before.before in
    let p = key (D l) in
    omega (arith, p.ends, p.long, l.put_curve-e.ensures.0, l.put_curve-e.auto.out, room (S (A (B (C (D l))))))

add-put-line : tie.Need-overflow_add-e
add-put-line c =
    let l = c.before.before.before in
    let p = fourth l in
    let s = S (A (B (C (D l)))) in
    omega (arith, p.ends, room s, s.well_formed.0.0)

put-line-requires-4 : tie.Need-put_line-f-requires
put-line-requires-4 c κs =
    let l = c.before.before.before.before.before in
    let p = fourth l in
    simp line-length (omega (arith, p.ends, p.long, room (S (A (B (C (D l)))))))

put-requires-2 : tie.Need-put-g-requires
put-requires-2 c κs = search rules

layer-count-requires : tie.Need-layer_count-layers-requires
layer-count-requires c κs = search rules

array-share-prefix-planes : tie.Need-slice_bounds-planes-end
array-share-prefix-planes c = few c.before

slice-aggregate-put-joined : tie.Need-slice_bounds-put_joined-end
slice-aggregate-put-joined c = let n = c.before.before in sym (length-take-le n.layer_count-layers.result _ (few n))

put-joined-requires : tie.Need-put_joined-h-requires
put-joined-requires c κs = search rules

slice-write-out-2 : tie.Need-bounds-out-h
slice-write-out-2 c =
    let l = c.before.before in
    let p = key-2 (G l) in
    omega (arith, p.ends, p.long, (fit-list l).0, l.put_joined-h.auto.out, room (Z l))

add-result : tie.Need-overflow_add-result
add-result c =
    let l = c.before.before in
    let p = sixth l in
    let s = Z l in
    omega (arith, p.ends, room s, s.well_formed.0.0)

same_length : tie.Need-shape_of-out
same_length c = (sixth c.before.before).long

returns : tie.Need-returns
unfolding first_lines ascii_from
returns c =
    let l6 = c.before.before in
    let k6 = G l6 in
    let l5 = F k6 in
    let l4 = E l5 in
    let k4 = D l4 in
    let l3 = C k4 in
    let l2 = B l3 in
    let l1 = A l2 in
    let s = S l1 in
    let h = H s in
    let p1 = put-more (line_text _ h.shape.rows) _ _ (put-none s.args.out.now 0) l1.put_line-a.ensures.0 l1.put_line-a.ensures.1 in
    let p2 = put-more (line_text _ h.shape.cols) _ _ p1 l2.put_line-b.ensures.0 l2.put_line-b.ensures.1 in
    let p3 = put-more (line_text _ h.shape.levels) _ _ p2 l3.put_line-c.ensures.0 l3.put_line-c.ensures.1 in
    let q4 = put-more (_ ∷ _ ∷ _ ∷ _ ∷ _ ∷ _ ∷ []) _ _ (put-none l3.put_line-c.new.out l3.put_line-c.result) (fit-4 k4).0 (fit-4 k4).1 in
    let p4 = put-run p3 (put_byte _ (put-more (curve_text h.curve) _ _ q4 l4.put_curve-e.ensures.0 l4.put_curve-e.ensures.1)) in
    let p5 = put-more (line_text _ h.step) _ _ p4 l5.put_line-f.ensures.0 l5.put_line-f.ensures.1 in
    let q6 = put-more (_ ∷ _ ∷ _ ∷ _ ∷ _ ∷ _ ∷ _ ∷ []) _ _ (put-none l5.put_line-f.new.out l5.put_line-f.result) (fit-6 k6).0 (fit-6 k6).1 in
    let p6 = put-run p5 (put_byte _ (put-more (counted s) _ _ q6 (fit-list l6).0 (fit-list l6).1)) in
    put_all (first_lines h) p6 refl

pub put_first_spec : {M : Type 1} → statement M
put_first_spec =
    tie.close
    (tie.spec
    put-line-requires
    put-line-requires-2
    put-line-requires-3
    put-requires
    put-curve-requires
    slice-write-out
    add-put-line
    put-line-requires-4
    put-requires-2
    layer-count-requires
    array-share-prefix-planes
    slice-aggregate-put-joined
    put-joined-requires
    slice-write-out-2
    add-result
    same_length
    returns)
