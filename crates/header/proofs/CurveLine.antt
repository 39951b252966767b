-- Line 4 is read exactly where it is written: the text before its byte 10 is one of two.
use mathlib.Core.Bool.{Bool, true, false, cond}
use mathlib.Core.List.{List, ◌++◌, append-nil}
use mathlib.Core.Path.{◌≡◌, refl, ap, ◌∙◌}
use Prim.Native.Nat.{ℕ, ◌+◌}
use native.Mathlib.Omega.{arith}
use borrow.Author.Tests.{eqb-true}
use lib.Dec.{eqb}
use lib.ListN.{length, take, drop_of_length-le}
use Rattle.sheet.specs.declared.Curve.{Curve}
use Rattle.sheet.specs.declared.Curve.TheVariants.{Linear, Cubic}
use Rattle.integers.proofs.Bools.{and_left, and_right}
use Rattle.std.specs.Prelude.{Err}
use Rattle.text.specs.declared.Line.{Line}
use Rattle.text.specs.declared.LineError.TheVariants.{Short, Wrong}
use Rattle.text.specs.Line.{newline, index_of, starts, has_end, line_of}
use Rattle.text.proofs.Lines.{not_short, not-wrong}
use Rattle.text.proofs.Search.{Free, end-inside, starts-split}
use Rattle.header.specs.Header.{ascii_from, ascii, curve_text}
use Rattle.header.specs.Opening.{is_text, curve_line}
use Rattle.header.proofs.Ends.{ended, Ends, ends_at, seam-end, seam-inside, seam-front, seam-length}

abbrev pub curve_words : Curve → List ℕ
curve_words c = ascii "curve=" ++ curve_text c

pub same-is : (key l : List ℕ) → is_text key l ≡ true → l ≡ key
same-is key l e =
    let s : starts key l ≡ true = and_left (starts key l) (eqb (length key) (length l)) e in
    let n : length key ≡ length l = eqb-true _ _ (and_right (starts key l) (eqb (length key) (length l)) e) in
    starts-split key l s ∙ rw (drop_of_length-le l {i = length key} (omega arith)) (append-nil key)

-- ---- read
pub read-curve : (l : List ℕ) (v : Curve) (n : ℕ) → curve_line l ≡ line_of v n → Ends l (curve_words v) n
unfolding curve_line
read-curve l v n e =
    by (has_end l) (is_text (curve_words Linear) (take (index_of newline l) l)) (is_text (curve_words Cubic) (take (index_of newline l) l)) refl refl refl e
  where
    by : (a b c : Bool) → has_end l ≡ a → is_text (curve_words Linear) (take (index_of newline l) l) ≡ b → is_text (curve_words Cubic) (take (index_of newline l) l) ≡ c
        → cond a (cond b (line_of Linear (index_of newline l + 1)) (cond c (line_of Cubic (index_of newline l + 1)) (Err Wrong))) (Err Short) ≡ line_of v n → Ends l (curve_words v) n
    by false b c s p q e = absurd (not_short e)
    by true true c s p q e =
        let same : ◌≡◌ {A = Line Curve} (record { value = Linear; length = index_of newline l + 1 }) (record { value = v; length = n }) = cc in
        let is : Linear ≡ v = ap (λ (x : Line Curve). x.value) same in
        let end : index_of newline l + 1 ≡ n = ap (λ (x : Line Curve). x.length) same in
        rw (← is, ← end) (ends_at l (curve_words Linear) (end-inside l s) (same-is (curve_words Linear) _ p))
    by true false true s p q e =
        let same : ◌≡◌ {A = Line Curve} (record { value = Cubic; length = index_of newline l + 1 }) (record { value = v; length = n }) = cc in
        let is : Cubic ≡ v = ap (λ (x : Line Curve). x.value) same in
        let end : index_of newline l + 1 ≡ n = ap (λ (x : Line Curve). x.length) same in
        rw (← is, ← end) (ends_at l (curve_words Cubic) (end-inside l s) (same-is (curve_words Cubic) _ q))
    by true false false s p q e = absurd (not-wrong e)

-- ---- written
curve-free : (c : Curve) → Free newline (curve_words c)
unfolding ascii_from index_of
curve-free Linear = refl
curve-free Cubic = refl

pub written-curve : (c : Curve) (rest : List ℕ) → curve_line (ended (curve_words c) ++ rest) ≡ line_of c (length (ended (curve_words c)))
unfolding curve_line
written-curve c rest =
    rw (seam-inside (curve_words c) rest (curve-free c), seam-end (curve_words c) rest (curve-free c), seam-front (curve_words c) rest (curve-free c), seam-length (curve_words c)) (words c)
  where
    words : (c : Curve)
        → cond (is_text (curve_words Linear) (curve_words c)) (line_of Linear (length (ended (curve_words c))))
        (cond (is_text (curve_words Cubic) (curve_words c)) (line_of Cubic (length (ended (curve_words c)))) (Err Wrong)) ≡ line_of c (length (ended (curve_words c)))
    words Linear = unfold ascii_from starts in refl
    words Cubic = unfold ascii_from starts in refl
