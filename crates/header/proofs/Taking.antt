-- A line as the code reads it, turned into the definitions' turn of that line: the line is refused as it is there, or its value and its length are handed on. Its length stays within the bytes.
use mathlib.Core.Path.{◌≡◌, refl, ap, sym, ◌∙◌}
use mathlib.Core.Bool.{Bool, true, false, cond, ◌&&◌}
use mathlib.Core.List.{List, [], ◌∷◌, ◌++◌}
use mathlib.Core.Option.{none}
use Prim.Native.Nat.{ℕ, suc, ◌+◌, ◌*◌, ◌/◌, ◌<◌, ◌≤◌}
use native.Mathlib.Nat.{le_refl, mul-le-mul, mul-div-le}
use native.Mathlib.Omega.{arith}
use lib.Dec.{eqb}
use lib.ListN.{length, take, drop, length-drop}
use borrow.Author.Tests.{eq-eqb, ne_eqb, eqb-true, eqb-false, lt-ltb, le-ltb}
use Rattle.sheet.specs.declared.Curve.TheVariants.{Linear, Cubic}
use Rattle.sheet.specs.declared.Curve.{Curve}
use lib.Pointwise.{pointwise}
use Rattle.std.specs.Bool.{then_some}
use Rattle.std.specs.Prelude.{Option, Some, None, Result, Ok, Err, ok_or}
use Rattle.text.specs.declared.Line.{Line}
use Rattle.text.specs.declared.LineError.{LineError}
use Rattle.text.specs.declared.LineError.TheVariants.{Short, Wrong}
use Rattle.text.specs.Line.{newline, index_of, starts, has_end, line_of, line_at}
use Rattle.text.specs.Joined.{numbers_in}
use Rattle.text.proofs.Lines.{Written, written}
use Rattle.text.proofs.Search.{end-inside}
use Rattle.header.specs.declared.Refusal.{Refusal}
use Rattle.header.specs.declared.Refusal.TheVariants.{HeaderCut, BadLine}
use Rattle.header.specs.declared.Header.{Header}
use Rattle.header.specs.Refusals.{refusal, details_of}
use Rattle.header.specs.Header.{cell_bytes, ascii, curve_text}
use Rattle.header.specs.Opening.{Opening, not_opened, opened, opening_cells, taking, listed, taking_numbers, is_text, curve_line}
use Rattle.header.specs.Workings.{refusing, keyed_at, curve_in}
use Rattle.header.proofs.CurveLine.{read-curve}

-- ---- a line that is refused, and one that is read
pub turn_refused : {A : Type 0} (n : ℕ) (line : Result (Line A) LineError) (r : Refusal) (go : A → ℕ → Opening) → Err r ≡ refusing n line → taking n line go ≡ not_opened (details_of r)
unfolding refusing
turn_refused n (Err Short) r go e = let is : HeaderCut ≡ r = cc in rw (← is)
turn_refused n (Err Wrong) r go e = let is : BadLine n ≡ r = cc in rw (← is)
turn_refused n (Ok l) r go e = absurd (let z : ◌≡◌ {A = ℕ} 0 1 = cc in let y : ⊥ = omega arith in y)

pub turn_read : {A : Type 0} (n : ℕ) (line : Result (Line A) LineError) (l : Line A) → Ok l ≡ refusing n line → line ≡ line_of l.value l.length
unfolding refusing
turn_read n (Ok k) l e = let is : k ≡ l = cc in ap (λ (x : Line _). Ok x) is
turn_read n (Err e') l e = absurd (let z : ◌≡◌ {A = ℕ} 0 1 = cc in let y : ⊥ = omega arith in y)

-- ---- numbers behind a key
pub numbers_turn : (n : ℕ) (key most l : List ℕ) (go : List ℕ → ℕ → Opening)
    → taking_numbers n key most l go ≡ taking n (keyed_at key l) (λ text len. listed n (numbers_in most text) (λ ns. go ns len))
unfolding keyed_at
numbers_turn n key most l go = by (has_end l) (starts key (take (index_of newline l) l))
  where
    by : (a b : Bool)
        → cond a (cond b (listed n (numbers_in most (drop (length key) (take (index_of newline l) l))) (λ ns. go ns (index_of newline l + 1))) (taking n (Err Wrong) go)) (taking n (Err Short) go)
        ≡ taking n (cond a (cond b (line_of (drop (length key) (take (index_of newline l) l)) (index_of newline l + 1)) (Err Wrong)) (Err Short)) (λ text len. listed n (numbers_in most text) (λ ns. go ns len))
    by false b = refl
    by true false = refl
    by true true = refl

-- ---- the curve behind its key
suc-same : (a b : ℕ) → eqb (suc a) (suc b) ≡ eqb a b
suc-same a b = by (eqb a b) refl where
  by : (t : Bool) → eqb a b ≡ t → eqb (suc a) (suc b) ≡ t
  by true e = eq-eqb (suc a) (suc b) (ap suc (eqb-true a b e))
  by false e = ne_eqb (suc a) (suc b) (λ z. eqb-false a b e (omega arith))

key-word : (key word l : List ℕ) → is_text (key ++ word) l ≡ (starts key l && is_text word (drop (length key) l))
unfolding starts
key-word [] word l = refl
key-word (k ∷ key) word [] = refl
key-word (k ∷ key) word (x ∷ l) = by (eqb k x) (key-word key word l) where
  by : (t : Bool) → is_text (key ++ word) l ≡ (starts key l && is_text word (drop (length key) l))
      → ((t && starts (key ++ word) l) && eqb (suc (length (key ++ word))) (suc (length l))) ≡ ((t && starts key l) && is_text word (drop (length key) l))
  by true h = rw (suc-same (length (key ++ word)) (length l)) h
  by false h = refl

pub word-is : (word l : List ℕ) → pointwise eqb l word ≡ is_text word l
unfolding starts
word-is [] [] = refl
word-is [] (x ∷ l) = rw (ne_eqb 0 (suc (length l)) (λ z. omega arith))
word-is (k ∷ word) [] = refl
word-is (k ∷ word) (x ∷ l) = by (eqb k x) refl (word-is word l) where
  by : (t : Bool) → eqb k x ≡ t → pointwise eqb l word ≡ is_text word l → (eqb x k && pointwise eqb l word) ≡ ((t && starts word l) && eqb (suc (length word)) (suc (length l)))
  by true e h = rw (eq-eqb x k (sym (eqb-true k x e)), suc-same (length word) (length l)) h
  by false e h = rw (ne_eqb x k (λ z. eqb-false k x e (sym z)))

module _ (word : List ℕ) where
  pub curve_linear : true ≡ pointwise eqb word (curve_text Linear) → Some Linear ≡ curve_in word
  unfolding curve_in
  curve_linear e = rw (sym (word-is (curve_text Linear) word) ∙ sym e)

  pub curve_cubic : false ≡ pointwise eqb word (curve_text Linear) → then_some (pointwise eqb word (curve_text Cubic)) Cubic ≡ curve_in word
  unfolding curve_in
  curve_cubic e = rw (sym (word-is (curve_text Linear) word) ∙ sym e, word-is (curve_text Cubic) word) (by (is_text (curve_text Cubic) word)) where
    by : (t : Bool) → then_some t Cubic ≡ cond t (Some Cubic) None
    by true = refl
    by false = refl

abbrev worded : Option Curve → ℕ → Result (Line Curve) LineError
worded None n = Err Wrong
worded (Some c) n = line_of c n

abbrev then_curve : Result (Line (List ℕ)) LineError → Result (Line Curve) LineError
then_curve (Err e) = Err e
then_curve (Ok l) = worded (curve_in l.value) l.length

module _ (l : List ℕ) where
  by-word : curve_line l ≡ then_curve (keyed_at (ascii "curve=") l)
  unfolding curve_line keyed_at curve_in
  by-word =
      let m : ℕ = index_of newline l in
      let t : List ℕ = take m l in
      rw (key-word (ascii "curve=") (curve_text Linear) t, key-word (ascii "curve=") (curve_text Cubic) t)
      (by (has_end l) (starts (ascii "curve=") t) (is_text (curve_text Linear) (drop (length (ascii "curve=")) t)) (is_text (curve_text Cubic) (drop (length (ascii "curve=")) t)) (m + 1) (drop (length (ascii "curve=")) t) refl refl)
    where
      by : (a b c d : Bool) (n : ℕ) (w : List ℕ) → is_text (curve_text Linear) w ≡ c → is_text (curve_text Cubic) w ≡ d
          → cond a (cond (b && c) (line_of Linear n) (cond (b && d) (line_of Cubic n) (Err Wrong))) (Err Short)
          ≡ then_curve (cond a (cond b (line_of w n) (Err Wrong)) (Err Short))
      by false b c d n w e f = refl
      by true false c d n w e f = refl
      by true true true d n w e f = rw e refl
      by true true false true n w e f = rw (e, f) refl
      by true true false false n w e f = rw (e, f) refl

  pub curve_refused : (r : Refusal) → Err r ≡ refusing 4 (keyed_at (ascii "curve=") l) → Err r ≡ refusing 4 (curve_line l)
  unfolding refusing
  curve_refused r e = rw by-word (by (keyed_at (ascii "curve=") l) e) where
    by : (k : Result (Line (List ℕ)) LineError) → Err r ≡ refusing 4 k → Err r ≡ refusing 4 (then_curve k)
    by (Err Short) e = let is : HeaderCut ≡ r = cc in rw (← is) refl
    by (Err Wrong) e = let is : BadLine 4 ≡ r = cc in rw (← is) refl
    by (Ok x) e = absurd (let z : ◌≡◌ {A = ℕ} 0 1 = cc in let y : ⊥ = omega arith in y)

  module _ (text : List ℕ) (n : ℕ) (e : Ok (record { value = text; length = n }) ≡ refusing 4 (keyed_at (ascii "curve=") l)) where
    pub curve_taken : (c : Curve) → Some c ≡ curve_in text → Ok (record { value = c; length = n }) ≡ refusing 4 (curve_line l)
    unfolding refusing
    curve_taken c w = rw (by-word, turn_read 4 (keyed_at (ascii "curve=") l) _ e, ← w) refl

    pub curve_wrong : (o : Option Curve) (r : Refusal) → o ≡ curve_in text → o ≡ None → Err r ≡ ok_or o (BadLine 4) → Err r ≡ refusing 4 (curve_line l)
    unfolding refusing
    curve_wrong o r w z h =
        let wrong : ◌≡◌ {A = Result Curve Refusal} (Err r) (Err (BadLine 4)) = rw z at h in
        let is : r ≡ BadLine 4 = cc in
        rw (is, by-word, turn_read 4 (keyed_at (ascii "curve=") l) _ e, sym w ∙ z) refl

-- ---- a line that starts at a place of the bytes ends in them
module _ (bs : List ℕ) (at : ℕ) (n : ℕ) where
  ends : n ≡ index_of newline (drop at bs) + 1 → n ≤ length (drop at bs) → at + n ≤ length bs
  ends e h = omega (arith, length-drop at bs)

  pub line-ends : (key : List ℕ) (low high v : ℕ) → line_at key low high (drop at bs) ≡ line_of v n → at + n ≤ length bs
  line-ends key low high v e =
      let w : Written key low high (drop at bs) v n = written key low high (drop at bs) v n e in
      ends w.end_is w.fits

  pub keyed-ends : (key text : List ℕ) → keyed_at key (drop at bs) ≡ line_of text n → at + n ≤ length bs
  unfolding keyed_at
  keyed-ends key text e = by (has_end (drop at bs)) (starts key (take (index_of newline (drop at bs)) (drop at bs))) refl e where
    by : (a b : Bool) → has_end (drop at bs) ≡ a
        → cond a (cond b (line_of (drop (length key) (take (index_of newline (drop at bs)) (drop at bs))) (index_of newline (drop at bs) + 1)) (Err Wrong)) (Err Short) ≡ line_of text n → at + n ≤ length bs
    by true true h e =
        let same : ◌≡◌ {A = Line (List ℕ)} (record { value = drop (length key) (take (index_of newline (drop at bs)) (drop at bs)); length = index_of newline (drop at bs) + 1 }) (record { value = text; length = n }) = cc in
        let is : index_of newline (drop at bs) + 1 ≡ n = ap (λ (x : Line (List ℕ)). x.length) same in
        omega (arith, end-inside (drop at bs) h, length-drop at bs)
    by true false h e = absurd (let z : ◌≡◌ {A = ℕ} 0 1 = cc in let y : ⊥ = omega arith in y)
    by false b h e = absurd (let z : ◌≡◌ {A = ℕ} 0 1 = cc in let y : ⊥ = omega arith in y)

  pub number_ends : (m : ℕ) (key : List ℕ) (low high v : ℕ) → Ok (record { value = v; length = n }) ≡ refusing m (line_at key low high (drop at bs)) → at + n ≤ length bs
  number_ends m key low high v e = line-ends key low high v (turn_read m _ _ e)

  pub curve_ends : (v : Curve) → Ok (record { value = v; length = n }) ≡ refusing 4 (curve_line (drop at bs)) → at + n ≤ length bs
  curve_ends v e = let r = read-curve (drop at bs) v n (turn_read 4 _ _ e) in ends r.end_is r.fits

-- ---- the line of cells
module _ (bs : List ℕ) (cells line at : ℕ) (h : Header) (same : h.cells ≡ cells) where
  pub cells_refused : (r : Refusal) → Err r ≡ refusing line (line_at (ascii "cells=") cells cells (drop at bs)) → not_opened (details_of r) ≡ opening_cells bs h none line at
  unfolding opening_cells
  cells_refused r e = rw same (sym (turn_refused line (line_at (ascii "cells=") cells cells (drop at bs)) r _ e))

  module _ (v n : ℕ) (e : Ok (record { value = v; length = n }) ≡ refusing line (line_at (ascii "cells=") cells cells (drop at bs))) where
    pub cells_trailing : at + n + cell_bytes * cells < length bs → not_opened (refusal 7 0 0) ≡ opening_cells bs h none line at
    unfolding opening_cells
    cells_trailing l = rw (same, turn_read line (line_at (ascii "cells=") cells cells (drop at bs)) _ e, lt-ltb (at + n + cell_bytes * cells) (length bs) l) refl

    pub cells_ended : length bs ≤ at + n + cell_bytes * cells → opened h none (at + n) ≡ opening_cells bs h none line at
    unfolding opening_cells
    cells_ended l = rw (same, turn_read line (line_at (ascii "cells=") cells cells (drop at bs)) _ e, le-ltb (at + n + cell_bytes * cells) (length bs) l) refl

-- so many columns that the points are at most m
pub product-most : (rows cols m : ℕ) → cols ≤ m / rows → rows * cols ≤ m
product-most rows cols m h = omega (arith, mul-div-le m rows, mul-le-mul (le_refl rows) h)
