-- Fields read back: the characters of a number make that number, by its tenths; the spaces before them are passed over, since they begin with a digit or a sign.
use mathlib.Core.List.{List, [], ◌∷◌, ◌++◌, append_assoc, append-nil}
use mathlib.Core.Option.{some}
use mathlib.Core.Path.{◌≡◌, refl, sym, ap, ◌∙◌}
use Prim.Native.Nat.{ℕ, zero, suc, ◌+◌, ◌*◌, ◌-◌, ◌/◌, ◌%◌, ◌<◌, ◌≤◌}
use native.Mathlib.Omega.{arith}
use borrow.Author.Tests.{le-leb, ne_eqb}
use lib.IntN.{ℤ, pos, negsuc}
use lib.ListN.{length, replicate}
use Rattle.text.specs.Decimal.{zero_character, nine_character, decimal, minus, signed}
use Rattle.text.specs.Text.{space, right_aligned}
use Rattle.text.proofs.Digits.{Digit, one, two, by-tenths}
use Rattle.guarantee.specs.Roll.{behind_spaces, digits_behind, unsigned, above, below, number, field}

-- ---- digits
digit-behind : (n d : ℕ) → d < 10 → (rest : List ℕ) → digits_behind n ((zero_character + d) ∷ rest) ≡ digits_behind (10 * n + d) rest
unfolding digits_behind
digit-behind n d h rest =
    simp (le-leb zero_character (zero_character + d) (omega arith), le-leb (zero_character + d) nine_character (omega arith))
    (ap (λ (m : ℕ). digits_behind m rest) (let e : 10 * n + (zero_character + d - zero_character) ≡ 10 * n + d = omega arith in e))

decimal-behind : (n : ℕ) (rest : List ℕ) → digits_behind 0 (decimal n ++ rest) ≡ digits_behind n rest
decimal-behind = by-tenths (λ n. (rest : List ℕ) → digits_behind 0 (decimal n ++ rest) ≡ digits_behind n rest) small large where
  small : (n : ℕ) → n < 10 → (rest : List ℕ) → digits_behind 0 (decimal n ++ rest) ≡ digits_behind n rest
  small n h rest = rw (one h) (digit-behind 0 n h rest ∙ ap (λ (m : ℕ). digits_behind m rest) (let e : 10 * 0 + n ≡ n = omega arith in e))

  large : (n : ℕ) → 10 ≤ n → ((rest : List ℕ) → digits_behind 0 (decimal (n / 10) ++ rest) ≡ digits_behind (n / 10) rest) → (rest : List ℕ) → digits_behind 0 (decimal n ++ rest) ≡ digits_behind n rest
  large n h tenth rest =
      rw (two h)
      (ap (digits_behind 0) (append_assoc (decimal (n / 10)) ((zero_character + n % 10) ∷ []) rest)
      ∙ tenth ((zero_character + n % 10) ∷ rest)
      ∙ digit-behind (n / 10) (n % 10) (omega arith) rest
      ∙ ap (λ (m : ℕ). digits_behind m rest) (let e : 10 * (n / 10) + n % 10 ≡ n = omega arith in e))

-- the first of them: what follows begins with it
record Begun (t : List ℕ) : Type 0 where
  first : ℕ
  others : List ℕ
  text-is : t ≡ first ∷ others
  digit : Digit first

decimal-begun : (n : ℕ) → Begun (decimal n)
decimal-begun = by-tenths (λ n. Begun (decimal n)) small large where
  small : (n : ℕ) → n < 10 → Begun (decimal n)
  small n h = record { first = zero_character + n; others = []; text-is = one h; digit = record { least = omega arith; most = omega arith } }

  large : (n : ℕ) → 10 ≤ n → Begun (decimal (n / 10)) → Begun (decimal n)
  large n h b = record {
    first = b.first;
    others = b.others ++ ((zero_character + n % 10) ∷ []);
    text-is = two h ∙ ap (λ (l : List ℕ). l ++ ((zero_character + n % 10) ∷ [])) b.text-is;
    digit = b.digit;
  }

unsigned-decimal : (n : ℕ) → unsigned (decimal n) ≡ some n
unsigned-decimal n =
    let b = decimal-begun n in
    ap unsigned b.text-is
    ∙ ap (digits_behind 0) (sym b.text-is ∙ sym (append-nil (decimal n)))
    ∙ decimal-behind n []
    ∙ unfold digits_behind in refl

-- ---- spaces and a sign
spaces-passed : (k x : ℕ) (xs : List ℕ) → (x ≡ space → ⊥) → behind_spaces (replicate k space ++ x ∷ xs) ≡ x ∷ xs
unfolding behind_spaces
spaces-passed zero x xs h = rw (ne_eqb x space h)
spaces-passed (suc k) x xs h = spaces-passed k x xs h

digits_number : (x : ℕ) (xs : List ℕ) → (x ≡ minus → ⊥) → number (x ∷ xs) ≡ above (unsigned (x ∷ xs))
unfolding number
digits_number x xs h = rw (ne_eqb x minus h)

pub field-decimal : (w n : ℕ) → field (right_aligned w (decimal n)) ≡ some (pos n)
unfolding right_aligned
field-decimal w n =
    let b = decimal-begun n in
    let d = b.digit in
    let k = w - length (decimal n) in
    ap (λ (t : List ℕ). field (replicate k space ++ t)) b.text-is
    ∙ ap number (spaces-passed k b.first b.others (λ e. omega arith))
    ∙ digits_number b.first b.others (λ e. omega arith)
    ∙ ap above (ap unsigned (sym b.text-is) ∙ unsigned-decimal n)

pub field-signed : (w : ℕ) (v : ℤ) → field (right_aligned w (signed v)) ≡ some v
unfolding signed
field-signed w (pos n) = field-decimal w n
field-signed w (negsuc n) =
    unfold right_aligned in
    (ap number (spaces-passed (w - length (minus ∷ decimal (suc n))) minus (decimal (suc n)) (λ e. omega arith))
    ∙ unfold number in (ap below (unsigned-decimal (suc n))))
