-- What the code puts, counts and compares, in plain variables.
use mathlib.Core.Bool.{Bool, true, false, ◌&&◌}
use mathlib.Core.List.{List, [], ◌∷◌, ◌++◌, append_assoc}
use mathlib.Core.Path.{◌≡◌, refl, sym, ap, ◌∙◌}
use Prim.Native.Nat.{ℕ, zero, suc, ◌+◌, ◌*◌, ◌-◌, ◌/◌, ◌%◌, ◌^◌, ◌<◌, ◌≤◌, max}
use native.Mathlib.Nat.{pow-suc}
use native.Mathlib.Decide.{dec_lt}
use native.Mathlib.Numerals.{add-one}
use native.Mathlib.Omega.{arith}
use lib.Dec.{eqb}
use lib.ListN.{length, set, take, drop, get_or, length-append}
use lib.Seq.{sets, drop-drop, take-length}
use mir.Syntax.{w64}
use mir.Val.{Fits}
use borrow.Rule.Slice.PartMut.{put_mid}
use Rattle.std.proofs.lemmas.List.Edits.{sets-eq}
use Rattle.std.specs.Cmp.Lexicographic.{pointwise}
use Rattle.text.specs.Decimal.{decimal}
use Rattle.text.specs.Line.{starts}
use Rattle.text.specs.Workings.{putting, after, characters_most}
use Rattle.text.proofs.Digits.{one, two, length-one, length_two, length-le, length_most}
use Rattle.text.proofs.Fitting.{put-fits, put-over}
use Rattle.text.proofs.Joins.{joined-none, joined_length, joined-more, joined-rises}
use Rattle.text.proofs.Stores.{sets-sets, set-sets}
use borrow.Author.Tests.{le-leb, lt-leb, leb-true, leb-false}
use lib.Dec.{leb}
use Rattle.text.specs.Joined.{comma, joined}

-- ---- bytes put at a place, by the test whether they fit
module _ (out : List ℕ) (at : ℕ) (bytes : List ℕ) where
  pub after_over : length out < at + length bytes → at ≡ after out at bytes
  after_over h = sym (put-over out at bytes h).0

  pub putting_over : length out < at + length bytes → out ≡ putting out at bytes
  putting_over h = sym (put-over out at bytes h).1

  pub after_fits : (n : ℕ) → n ≡ length bytes → at + n ≤ length out → at + n ≡ after out at bytes
  after_fits n e h = omega (arith, put-fits out at bytes (omega arith))

  pub putting_fits : (from : ℕ) → from ≡ at → at + length bytes ≤ length out → sets out from bytes ≡ putting out at bytes
  putting_fits from e h = rw e (sym (put-fits out at bytes h).1)

  pub putting_mid : (n : ℕ) → n ≡ length bytes → at + length bytes ≤ length out → put_mid at n out bytes ≡ putting out at bytes
  putting_mid n e h =
      let rest : drop n (drop at out) ≡ drop (at + length bytes) out = drop-drop n at out ∙ ap (λ (k : ℕ). drop (at + k) out) e in
      rw rest (sym ((put-fits out at bytes h).1 ∙ sets-eq bytes out at h ∙ append_assoc (take at out) bytes (drop (at + length bytes) out)))

-- by a test of the room from the place on
module _ (out : List ℕ) (at : ℕ) (bytes : List ℕ) (h : at ≤ length out) where
  pub after_not : leb (length bytes) (length out - at) ≡ false → at ≡ after out at bytes
  after_not e = after_over out at bytes (omega (arith, leb-false _ _ e))

  pub putting_not : leb (length bytes) (length out - at) ≡ false → out ≡ putting out at bytes
  putting_not e = putting_over out at bytes (omega (arith, leb-false _ _ e))

  pub after_all : (end : ℕ) → leb (length bytes) (length out - at) ≡ true → end ≡ at + length bytes → end ≡ after out at bytes
  after_all end e f = f ∙ after_fits out at bytes (length bytes) refl (omega (arith, leb-true _ _ e))

  pub putting_all : (out' : List ℕ) → leb (length bytes) (length out - at) ≡ true → out' ≡ sets out at bytes → out' ≡ putting out at bytes
  putting_all out' e f = f ∙ putting_fits out at bytes at refl (omega (arith, leb-true _ _ e))

-- ---- how many characters
some : (n : ℕ) → 1 ≤ length (decimal n)
some n = elim (dec_lt n 10) [
  | yes l ↦ omega (arith, length-one {n = n} l)
  | no l ↦ omega (arith, length_two {n = n} (omega arith))
]

reached : (k n : ℕ) → 10 ^ k ≤ max n 1 → suc k ≤ length (decimal n)
reached zero n h = some n
reached (suc k) n h =
    let p = power k in
    omega (arith, length_two {n = n} (omega (arith, pow-suc 10 k)), reached k (n / 10) (omega (arith, pow-suc 10 k)))
  where
    power : (k : ℕ) → 1 ≤ 10 ^ k
    power zero = omega arith
    power (suc k) = omega (arith, pow-suc 10 k, power k)

pub counted : (n k : ℕ) → 10 ^ k ≤ max n 1 → max n 1 < 10 * 10 ^ k → k + 1 ≡ length (decimal n)
counted n k l h = omega (arith, reached k n l, length-le k n (omega (arith, pow-suc 10 k)))

pub length_last : (n : ℕ) → 10 ≤ n → length (decimal n) ≡ length (decimal (n / 10)) + 1
length_last n h = length_two {n = n} h

pub length_none : (n : ℕ) → n < 10 → length (decimal n) ≡ 1
length_none n h = length-one {n = n} h

-- a turn: the last character put, and those of a tenth left
pub last_put : (out : List ℕ) (place rest : ℕ) → 10 ≤ rest → length (decimal rest) ≤ place
    → sets out (place - length (decimal rest)) (decimal rest)
    ≡ sets (set out (place - 1) (48 + rest % 10)) (place - 1 - length (decimal (rest / 10))) (decimal (rest / 10))
last_put out place rest many fits =
    let t = decimal (rest / 10) in
    let x = 48 + rest % 10 in
    let from = place - 1 - length t in
    let start : place - length (decimal rest) ≡ from = omega (arith, length_two many) in
    let end : from + length t ≡ place - 1 = omega (arith, length_two many) in
    rw (start, two many) (sym (sets-sets out from t (x ∷ [])) ∙ rw end (set-sets out from t (place - 1) x (λ i l e. omega arith)))

pub first_put : (out : List ℕ) (place rest : ℕ) → rest < 10 → set out (place - 1) (48 + rest) ≡ sets out (place - length (decimal rest)) (decimal rest)
first_put out place rest few = rw (one few) refl

-- ---- a key at the front
pub starts_is : (key s : List ℕ) → pointwise eqb key (take (length key) s) ≡ starts key s
unfolding starts
starts_is [] s = refl
starts_is (k ∷ key) [] = refl
starts_is (k ∷ key) (x ∷ s) = ap (λ (t : Bool). eqb k x && t) (starts_is key s)

-- ---- numbers joined by commas: the first of them, and a number more for each that follows
abbrev pub so_far : List ℕ → ℕ → List ℕ
so_far numbers i = joined (take (i + 1) numbers)

module _ (numbers : List ℕ) (first : ℕ) (rest : List ℕ) (e : numbers ≡ first ∷ rest) where
  pub so_far_none : so_far numbers 0 ≡ decimal first
  unfolding joined
  so_far_none = ap (λ (ns : List ℕ). so_far ns 0) e

  pub so_far_more : (i : ℕ) → i < length rest → so_far numbers (i + 1) ≡ so_far numbers i ++ (comma ∷ []) ++ decimal (get_or rest i 0)
  so_far_more i h =
      let more = joined-more (first ∷ rest) (suc i) (omega arith) (omega arith) in
      rw (e, add-one i) more

  pub so_far_longer : (i : ℕ) → i < length rest → length (so_far numbers (i + 1)) ≡ length (so_far numbers i) + 1 + length (decimal (get_or rest i 0))
  so_far_longer i h = ap length (so_far_more i h) ∙ simp length-append

  pub so_far_all : (i : ℕ) → i ≡ length rest → so_far numbers i ≡ joined numbers
  so_far_all i l =
      let all : i + 1 ≡ length numbers = omega (arith, ap length e) in
      ap (λ (k : ℕ). joined (take k numbers)) all ∙ ap joined (take-length numbers)

pub so_far_rises : (numbers : List ℕ) (i : ℕ) → i < length numbers → length (so_far numbers i) ≤ length (joined numbers)
so_far_rises numbers i h = omega (arith, joined-rises numbers (i + 1) (length numbers) (omega arith), ap (λ (ns : List ℕ). length (joined ns)) (take-length numbers))

-- do they fit?
pub none_fit : (numbers : List ℕ) (room : ℕ) → length numbers ≡ 0 → true ≡ leb (length (joined numbers)) room
none_fit numbers room e = sym (le-leb (length (joined numbers)) room (omega (arith, ap length (joined-none numbers e))))

pub all_fit : (numbers : List ℕ) (room left : ℕ) → left + length (joined numbers) ≡ room → true ≡ leb (length (joined numbers)) room
all_fit numbers room left e = sym (le-leb (length (joined numbers)) room (omega arith))

pub not_all_fit : (numbers : List ℕ) (room i : ℕ) → i < length numbers → room < length (so_far numbers i) → false ≡ leb (length (joined numbers)) room
not_all_fit numbers room i h l = sym (lt-leb (length (joined numbers)) room (omega (arith, so_far_rises numbers i h)))

-- is there room for them in so many bytes, where there is for all?
module _ (numbers : List ℕ) (first : ℕ) (rest : List ℕ) (e : numbers ≡ first ∷ rest) (at size : ℕ) (h : at + length (joined numbers) ≤ size) where
  pub room_for_first : at + length (decimal first) ≤ size
  room_for_first = omega (arith, ap length (so_far_none numbers first rest e), so_far_rises numbers 0 (omega (arith, ap length e)))

  pub room_for_more : (end i : ℕ) → end ≡ at + length (so_far numbers i) → i < length rest → end + 1 + length (decimal (get_or rest i 0)) ≤ size
  room_for_more end i d l =
      omega (arith, so_far_longer numbers first rest e i l, so_far_rises numbers (i + 1) (omega (arith, ap length e)))

-- no number has more than 20 characters, so as many of the longest are no shorter
pub few_fit : (numbers : List ℕ) (room : ℕ) → length numbers ≤ room / 21 → ((i : ℕ) → Fits w64 (get_or numbers i 0)) → true ≡ leb (length (joined numbers)) room
few_fit numbers room h f =
    let most = joined_length characters_most numbers (λ i _. length_most (get_or numbers i 0) (f i).fits) in
    sym (le-leb (length (joined numbers)) room (omega (arith, most)))
