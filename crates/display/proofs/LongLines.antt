-- A line at the front of a text, and of the text with more behind it: where the text has its byte 10 the line is the same, and where byte 10 stands in what follows, the line is at least as long as the text, so too long to be right.
use mathlib.Core.Bool.{Bool, true, false, cond}
use mathlib.Core.List.{List, [], ◌∷◌, ◌++◌}
use mathlib.Core.Path.{◌≡◌, refl, ap}
use Prim.Native.Nat.{ℕ, ◌+◌, ◌^◌, ◌<◌, ◌≤◌}
use native.Mathlib.Omega.{arith}
use lib.ListN.{length, take, drop, length-append, length-take, length-drop}
use lib.Seq.{take-append-le, take-append-add}
use Rattle.integers.proofs.Bools.{by, not_yes}
use Rattle.sheet.specs.declared.Curve.{Curve}
use Rattle.sheet.specs.declared.Curve.TheVariants.{Linear, Cubic}
use Rattle.std.specs.Prelude.{Option, Some, None, Result, Ok, Err}
use Rattle.text.specs.declared.Line.{Line}
use Rattle.text.specs.declared.LineError.{LineError}
use Rattle.text.specs.declared.LineError.TheVariants.{Short, Wrong}
use Rattle.text.specs.Decimal.{parsed}
use Rattle.text.specs.Line.{newline, index_of, starts, has_end, line_of, numbered, line_at}
use Rattle.text.proofs.Digits.{length_most}
use Rattle.text.proofs.Lines.{Written, written, line-length}
use Rattle.text.proofs.Reading.{Spelt, spelt}
use Rattle.text.proofs.Search.{Free, has_end_lem, no_end_lem, end-inside, end-past, before-le, before-in, before-past}
use Rattle.header.specs.Header.{ascii_from}
use Rattle.header.specs.Opening.{is_text, curve_line}
use Rattle.header.proofs.CurveLine.{curve_words, same-is, read-curve}

-- ---- any line: f tells what its text and its length come to, and s is the answer where it has no end
module _ {X : Type 0} (s : X) where
  abbrev taken : (List ℕ → ℕ → X) → List ℕ → X
  taken f l = cond (has_end l) (f (take (index_of newline l) l) (index_of newline l)) s

  module _ (f g : List ℕ → ℕ → X) (P : X → X → Type 0) (l rest : List ℕ) where
    inside-same : P (f (take (index_of newline l) l) (index_of newline l)) (g (take (index_of newline l) l) (index_of newline l)) → index_of newline l < length l → P (taken f l) (taken g (l ++ rest))
    inside-same p h =
        rw (
          before-in newline l rest h,
          has_end_lem l h,
          has_end_lem (l ++ rest) (omega (arith, before-in newline l rest h, length-append l rest)),
          take-append-le (index_of newline l) l rest (omega arith),
        )
        p

    outside-long : ((line : List ℕ) → length l ≤ length line → P s (g line (length line))) → Free newline l → index_of newline rest < length rest → P (taken f l) (taken g (l ++ rest))
    outside-long p free h =
        let line : List ℕ = l ++ take (index_of newline rest) rest in
        let m : length l + index_of newline rest ≡ length line = omega (arith, length-append l (take (index_of newline rest) rest), length-take (index_of newline rest) rest) in
        rw (
          before-past newline l rest free,
          no_end_lem l (omega arith),
          has_end_lem (l ++ rest) (omega (arith, before-past newline l rest free, length-append l rest)),
          take-append-add l rest (index_of newline rest),
          m,
        )
        (p line (omega arith))

    outside-short : P s s → Free newline l → length rest ≤ index_of newline rest → P (taken f l) (taken g (l ++ rest))
    outside-short p free h =
        rw (
          before-past newline l rest free,
          no_end_lem l (omega arith),
          no_end_lem (l ++ rest) (omega (arith, before-past newline l rest free, length-append l rest)),
        )
        p

    pub taken-long :
        (index_of newline l < length l → P (f (take (index_of newline l) l) (index_of newline l)) (g (take (index_of newline l) l) (index_of newline l)))
        → (has_end rest ≡ true → (line : List ℕ) → length l ≤ length line → P s (g line (length line)))
        → (has_end rest ≡ false → P s s) → P (taken f l) (taken g (l ++ rest))
    taken-long inside long short =
        by (has_end l)
        (λ t. inside-same (inside (end-inside l t)) (end-inside l t))
        (λ t.
        let free : Free newline l = omega (arith, before-le newline l, end-past l t) in
        by (has_end rest)
        (λ e. outside-long (long e) free (end-inside rest e))
        (λ e. outside-short (short e) free (end-past rest e)))

-- ---- lines of a number and of the curve
abbrev pub prolonged : {A : Type 0} → Bool → Result (Line A) LineError → Result (Line A) LineError
prolonged ends (Ok l) = Ok l
prolonged ends (Err Wrong) = Err Wrong
prolonged ends (Err Short) = cond ends (Err Wrong) (Err Short)

module _ (key : List ℕ) (low high : ℕ) (small : high < 2 ^ 64) where
  abbrev number-line : List ℕ → ℕ → Result (Line ℕ) LineError
  number-line line b = cond (starts key line) (numbered (b + 1) (parsed low high (drop (length key) line))) (Err Wrong)

  number-kept : (ends : Bool) (line : List ℕ) (b : ℕ) → number-line line b ≡ prolonged ends (number-line line b)
  number-kept ends line b = go (starts key line) (parsed low high (drop (length key) line))
    where
      go : (s : Bool) (p : Option ℕ) → cond s (numbered (b + 1) p) (Err Wrong) ≡ prolonged ends (cond s (numbered (b + 1) p) (Err Wrong))
      go true (Some v) = refl
      go true None = refl
      go false p = refl

  -- a line of a key and a u64 has at most so many bytes before its end
  number-wrong : (line : List ℕ) (b : ℕ) → length key + 20 < length line → number-line line b ≡ Err Wrong
  number-wrong line b h = go (starts key line) (parsed low high (drop (length key) line)) refl
    where
      go : (s : Bool) (p : Option ℕ) → parsed low high (drop (length key) line) ≡ p → cond s (numbered (b + 1) p) (Err Wrong) ≡ Err Wrong
      go false p e = refl
      go true None e = refl
      go true (Some v) e =
          let w : Spelt low high (drop (length key) line) v = spelt low high _ v e in
          absurd (let z : ⊥ = omega (arith, ap length w.text-is, length-drop (length key) line, length_most v (omega (arith, w.most))) in z)

  pub line-long : (l rest : List ℕ) → length key + 20 < length l → line_at key low high (l ++ rest) ≡ prolonged (has_end rest) (line_at key low high l)
  unfolding line_at
  line-long l rest h =
      taken-long (Err Short) number-line number-line (λ x y. y ≡ prolonged (has_end rest) x) l rest
      (λ _. number-kept (has_end rest) (take (index_of newline l) l) (index_of newline l))
      (λ e line m. rw e (number-wrong line (length line) (omega arith)))
      (λ e. rw e)

  pub line-short : (l : List ℕ) (v n : ℕ) → line_at key low high l ≡ line_of v n → n ≤ length key + 21
  line-short l v n e =
      let w : Written key low high l v n = written key low high l v n e in
      omega (arith, w.length-is, line-length key v, length_most v (omega (arith, w.most)))

-- ---- the line of the curve
words-short : (c : Curve) → length (curve_words c) ≤ 12
unfolding ascii_from
words-short Linear = omega arith
words-short Cubic = omega arith

abbrev curve-line : List ℕ → ℕ → Result (Line Curve) LineError
curve-line line b = cond (is_text (curve_words Linear) line) (line_of Linear (b + 1)) (cond (is_text (curve_words Cubic) line) (line_of Cubic (b + 1)) (Err Wrong))

curve-kept : (ends : Bool) (line : List ℕ) (b : ℕ) → curve-line line b ≡ prolonged ends (curve-line line b)
curve-kept ends line b = go (is_text (curve_words Linear) line) (is_text (curve_words Cubic) line)
  where
    go : (s t : Bool) → cond s (line_of Linear (b + 1)) (cond t (line_of Cubic (b + 1)) (Err Wrong)) ≡ prolonged ends (cond s (line_of Linear (b + 1)) (cond t (line_of Cubic (b + 1)) (Err Wrong)))
    go true t = refl
    go false true = refl
    go false false = refl

curve-not : (c : Curve) (line : List ℕ) → 12 < length line → is_text (curve_words c) line ≡ false
curve-not c line h = not_yes (is_text (curve_words c) line) (λ e. let z : ⊥ = omega (arith, ap length (same-is (curve_words c) line e), words-short c) in z)

pub curve-long : (l rest : List ℕ) → 12 < length l → curve_line (l ++ rest) ≡ prolonged (has_end rest) (curve_line l)
unfolding curve_line
curve-long l rest h =
    taken-long (Err Short) curve-line curve-line (λ x y. y ≡ prolonged (has_end rest) x) l rest
    (λ _. curve-kept (has_end rest) (take (index_of newline l) l) (index_of newline l))
    (λ e line m. rw (e, curve-not Linear line (omega arith), curve-not Cubic line (omega arith)))
    (λ e. rw e)

pub curve-short : (l : List ℕ) (v : Curve) (n : ℕ) → curve_line l ≡ line_of v n → n ≤ 13
curve-short l v n e = let r = read-curve l v n e in omega (arith, r.length-is, words-short v, length-append (curve_words v) (newline ∷ []))
