-- Which word a text is, by its length and its bytes, as the code tests them.
use Rattle.std.proofs.Common.{◌≡◌, ◌≢◌, ℕ, suc, ◌+◌, Bool, true, false, cond, ◌&&◌, eqb, List, [], ◌∷◌, length, get_or, drop, Some, None, refl, sym, arith, drop-cons}
use borrow.Author.Tests.{eqb-true, ne_eqb}
use Rattle.header.specs.Header.{ascii, ascii_from}
use Rattle.text.specs.Line.{starts}
use Rattle.trace.specs.declared.Word.TheVariants.{Show, Roll, Compare}
use Rattle.trace.specs.Words.{is, word_of}

-- the bytes of a word stand in a text from a place on
abbrev pub bytes_at : List ℕ → ℕ → List ℕ → Bool
bytes_at s i [] = true
bytes_at s i (k ∷ ks) = eqb k (get_or s i 0) && bytes_at s (suc i) ks

starts-bytes : (w s : List ℕ) (i : ℕ) → i + length w ≡ length s → starts w (drop i s) ≡ bytes_at s i w
unfolding starts
starts-bytes [] s i h = refl
starts-bytes (k ∷ ks) s i h =
    let e : drop i s ≡ get_or s i 0 ∷ drop (suc i) s = drop-cons s i 0 (omega arith) in
    let r : starts ks (drop (suc i) s) ≡ bytes_at s (suc i) ks = starts-bytes ks s (suc i) (omega arith) in
    rw (e, r)

by : {P : Type 0} (b : Bool) → (b ≡ true → P) → (b ≡ false → P) → P
by true f g = f refl
by false f g = g refl

is-bytes : (s w : List ℕ) → is s w ≡ (eqb (length s) (length w) && bytes_at s 0 w)
is-bytes s w =
    by (eqb (length s) (length w))
    (λ t. let h : 0 + length w ≡ length s = omega (arith, eqb-true _ _ t) in rw t (starts-bytes w s 0 h))
    (λ t. rw t)

pub spelled : (s : List ℕ) → word_of s ≡ cond (eqb (length s) 4 && bytes_at s 0 (115 ∷ 104 ∷ 111 ∷ 119 ∷ [])) (Some Show) (cond (eqb (length s) 4 && bytes_at s 0 (114 ∷ 111 ∷ 108 ∷ 108 ∷ [])) (Some Roll) (cond (eqb (length s) 7 && bytes_at s 0 (99 ∷ 111 ∷ 109 ∷ 112 ∷ 97 ∷ 114 ∷ 101 ∷ [])) (Some Compare) None))
unfolding word_of ascii_from
spelled s = rw (is-bytes s (ascii "show"), is-bytes s (ascii "roll"), is-bytes s (ascii "compare"))

-- a text with another first byte than the words of its length
pub other_four : (s : List ℕ) → length s ≡ 4 → get_or s 0 0 ≢ 115 → get_or s 0 0 ≢ 114 → word_of s ≡ None
other_four s e show roll =
    let e' : length s ≢ 7 = omega arith in
    rw (spelled s, ne_eqb 115 (get_or s 0 0) (λ q. show (sym q)), ne_eqb 114 (get_or s 0 0) (λ q. roll (sym q)), ne_eqb (length s) 7 e', e)

pub other_seven : (s : List ℕ) → length s ≡ 7 → get_or s 0 0 ≢ 99 → word_of s ≡ None
other_seven s e compare = rw (spelled s, ne_eqb 99 (get_or s 0 0) (λ q. compare (sym q)), e)

pub ruleset spelling = (spelled, other_four, other_seven)
