-- A line at the front of a text, by its end: byte 10 stands behind the line's text and nowhere in it. Lines that follow each other make a longer front.
use mathlib.Core.Bool.{true}
use mathlib.Core.List.{List, [], ◌∷◌, ◌++◌, append_assoc}
use mathlib.Core.Path.{◌≡◌, refl, ap, sym, ◌∙◌}
use Prim.Native.Nat.{ℕ, zero, suc, ◌+◌, ◌-◌, ◌<◌, ◌≤◌}
use native.Mathlib.Numerals.{add-one}
use native.Mathlib.Omega.{arith}
use lib.ListN.{length, take, drop, length-append, length-take, take-append-drop}
use lib.Seq.{take-suc, take-append_seam, append_snoc, drop-drop, drop-append_seam, take-nil}
use Rattle.text.specs.Decimal.{decimal}
use Rattle.text.specs.Line.{newline, index_of, starts, has_end, line_of, line_at, line_text}
use Rattle.text.proofs.Lines.{Written, written}
use Rattle.text.proofs.Search.{Free, found, has_end_lem, before-seam, starts-append, starts-split}

abbrev pub ended : List ℕ → List ℕ
ended t = t ++ newline ∷ []

-- ---- the line t stands at the front of l and has n bytes, byte 10 included
pub record Ends (l t : List ℕ) (n : ℕ) : Type 0 where
  pub text-is : l ≡ ended t ++ drop n l
  pub length-is : n ≡ length (ended t)
  pub end_is : n ≡ index_of newline l + 1
  pub fits : n ≤ length l

pub ends_at : (l t : List ℕ) → index_of newline l < length l → take (index_of newline l) l ≡ t → Ends l t (index_of newline l + 1)
ends_at l t h e =
    let front : take (index_of newline l + 1) l ≡ ended t =
    rw add-one (take-suc l (index_of newline l) 0 h ∙ rw (found newline l h, e)) in
    record {
      text-is = sym (take-append-drop (index_of newline l + 1) l) ∙ ap (λ (a : List ℕ). a ++ drop (index_of newline l + 1) l) front;
      length-is = omega (arith, length-take (index_of newline l + 1) l, ap length front);
      end_is = refl;
      fits = omega arith;
    }

-- a line of a key and a number that is read
pub ends-number : (key : List ℕ) (low high : ℕ) (l : List ℕ) (v n : ℕ) → line_at key low high l ≡ line_of v n → Ends l (key ++ decimal v) n
ends-number key low high l v n e =
    let w : Written key low high l v n = written key low high l v n e in
    record {
      text-is = unfold line_text in w.text-is;
      length-is = unfold line_text in w.length-is;
      end_is = w.end_is;
      fits = w.fits;
    }

-- ---- the front of a text: its first n bytes
pub record Front (bs front : List ℕ) (n : ℕ) : Type 0 where
  pub text-is : bs ≡ front ++ drop n bs
  pub length-is : n ≡ length front

pub front-first : {bs t : List ℕ} {n : ℕ} → Ends bs t n → Front bs (ended t) n
front-first e = record { text-is = e.text-is; length-is = e.length-is }

pub front-next : {bs front t : List ℕ} {at n : ℕ} → Front bs front at → Ends (drop at bs) t n → Front bs (front ++ ended t) (at + n)
front-next {bs} {front} {t} {at} {n} f e =
    record {
      text-is = f.text-is ∙ ap (λ (l : List ℕ). front ++ l) (e.text-is ∙ ap (λ (l : List ℕ). ended t ++ l) (drop-drop n at bs)) ∙ sym (append_assoc front (ended t) (drop (at + n) bs));
      length-is = omega (arith, length-append front (ended t), f.length-is, e.length-is);
    }

-- ---- a line that is written
module _ (t rest : List ℕ) (free : Free newline t) where
  pub seam-end : index_of newline (ended t ++ rest) ≡ length t
  seam-end = rw (append_snoc t newline rest) (before-seam newline t rest free)

  pub seam-inside : has_end (ended t ++ rest) ≡ true
  seam-inside = has_end_lem (ended t ++ rest) (omega (arith, seam-end, length-append (ended t) rest, length-append t (newline ∷ [])))

  pub seam-front : take (length t) (ended t ++ rest) ≡ t
  seam-front = rw (append_snoc t newline rest) (take-append_seam t (newline ∷ rest))

pub seam-length : (t : List ℕ) → length t + 1 ≡ length (ended t)
seam-length t = sym (length-append t (newline ∷ []))

-- what stands behind the lines before
pub rest-next : (bs a rest : List ℕ) (at n : ℕ) → drop at bs ≡ a ++ rest → n ≡ length a → drop (at + n) bs ≡ rest
rest-next bs a rest at n e l = sym (drop-drop n at bs) ∙ rw (e, l) (drop-append_seam a rest)

-- ---- a text that is cut
pub drop-take : (k n : ℕ) (l : List ℕ) → drop k (take n l) ≡ take (n - k) (drop k l)
drop-take zero n l = let e : n - 0 ≡ n = omega arith in rw e
drop-take (suc k) zero l = let e : 0 - suc k ≡ 0 = omega arith in rw e
drop-take (suc k) (suc n) [] = sym (take-nil (suc n - suc k))
drop-take (suc k) (suc n) (x ∷ l) = let e : suc n - suc k ≡ n - k = omega arith in rw e (drop-take k n l)

-- a key at the front of what is left stood there before
pub starts-front : (m : ℕ) (key l : List ℕ) → starts key (take m l) ≡ true → starts key l ≡ true
starts-front m key l e =
    let rest = drop (length key) (take m l) in
    ap (starts key) (sym (take-append-drop m l) ∙ ap (λ (a : List ℕ). a ++ drop m l) (starts-split key (take m l) e) ∙ append_assoc key rest (drop m l))
    ∙ starts-append key (rest ++ drop m l)
