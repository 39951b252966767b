-- Numbers joined by commas: their text grows by a comma and a number, and is split at its first comma, which the characters of a number are free of. So they are read exactly where
-- they are written.
use mathlib.Core.Bool.{Bool, true, false, cond}
use mathlib.Core.List.{List, [], ◌∷◌, ◌++◌, append_assoc}
use mathlib.Core.Option.{Option, none, some}
use mathlib.Core.Path.{◌≡◌, refl, ap, sym, ◌∙◌}
use Prim.Native.Nat.{ℕ, zero, suc, ◌+◌, ◌*◌, ◌<◌, ◌≤◌}
use native.Mathlib.Decide.{dec_lt}
use native.Mathlib.Nat.{le_refl, le_trans}
use native.Mathlib.Numerals.{add-one}
use native.Mathlib.Omega.{arith}
use borrow.Author.Tests.{lt-ltb, ltb-true}
use lib.Dec.{ltb}
use lib.ListN.{length, take, drop, get_or, length-append, length-take}
use lib.Seq.{take-suc, take-append_seam, drop-append-add, split_at, append_snoc}
use Rattle.std.specs.Prelude as P
use Rattle.text.specs.Decimal.{decimal, parsed}
use Rattle.text.specs.Line.{newline, index_of}
use Rattle.text.specs.Joined.{comma, joined, cons_number, numbers_in}
use Rattle.text.proofs.Reading.{Spelt, spelt, read-digits}
use Rattle.text.proofs.Search.{Free, found, before-seam, free-append, no-newline, no-comma}

pub joined-none : (ns : List ℕ) → length ns ≡ 0 → joined ns ≡ []
unfolding joined
joined-none [] e = refl
joined-none (n ∷ ns) e = absurd (let z : ⊥ = omega arith in z)

pub joined-cons : (n : ℕ) (ns : List ℕ) → 0 < length ns → joined (n ∷ ns) ≡ decimal n ++ comma ∷ joined ns
unfolding joined
joined-cons n [] h = absurd (let z : ⊥ = omega arith in z)
joined-cons n (m ∷ ns) h = refl

-- ---- one number more at the end
pub joined_snoc : (ns : List ℕ) (m : ℕ) → 0 < length ns → joined (ns ++ m ∷ []) ≡ joined ns ++ comma ∷ decimal m
unfolding joined
joined_snoc [] m h = absurd (let z : ⊥ = omega arith in z)
joined_snoc (n ∷ []) m h = refl
joined_snoc (n ∷ k ∷ ns) m h = ap (λ (l : List ℕ). decimal n ++ comma ∷ l) (joined_snoc (k ∷ ns) m (omega arith)) ∙ sym (append_assoc (decimal n) (comma ∷ joined (k ∷ ns)) (comma ∷ decimal m))

-- one number more
pub joined-more : (ns : List ℕ) (i : ℕ) → 0 < i → i < length ns → joined (take (i + 1) ns) ≡ joined (take i ns) ++ (comma ∷ []) ++ decimal (get_or ns i 0)
joined-more ns i p h =
    ap joined (ap (λ (k : ℕ). take k ns) (add-one i) ∙ take-suc ns i 0 h)
    ∙ joined_snoc (take i ns) (get_or ns i 0) (omega (arith, length-take i ns))
    ∙ sym (append_snoc (joined (take i ns)) comma (decimal (get_or ns i 0)))

pub joined-longer : (ns : List ℕ) (i : ℕ) → 0 < i → i < length ns → length (joined (take (i + 1) ns)) ≡ length (joined (take i ns)) + 1 + length (decimal (get_or ns i 0))
joined-longer ns i p h = ap length (joined-more ns i p h) ∙ simp length-append

-- and no shorter where there are more of them
joined-next : (ns : List ℕ) (j : ℕ) → length (joined (take j ns)) ≤ length (joined (take (suc j) ns))
unfolding joined
joined-next [] zero = omega arith
joined-next [] (suc j) = omega arith
joined-next (n ∷ ns) zero = omega arith
joined-next (n ∷ []) (suc zero) = omega arith
joined-next (n ∷ []) (suc (suc j)) = omega arith
joined-next (n ∷ m ∷ ns) (suc zero) = omega (arith, length-append (decimal n) (comma ∷ decimal m))
joined-next (n ∷ m ∷ ns) (suc (suc j)) =
    omega (arith, length-append (decimal n) (comma ∷ joined (m ∷ take j ns)), length-append (decimal n) (comma ∷ joined (m ∷ take (suc j) ns)), joined-next (m ∷ ns) (suc j))

pub joined-rises : (ns : List ℕ) (i j : ℕ) → i ≤ j → length (joined (take i ns)) ≤ length (joined (take j ns))
joined-rises ns i zero h = let e : i ≡ 0 = omega arith in rw e (le_refl (length (joined (take 0 ns))))
joined-rises ns i (suc j) h =
    elim (dec_lt i (suc j)) [
      | yes l ↦ le_trans (joined-rises ns i j (omega arith)) (joined-next ns j)
      | no l ↦ let e : i ≡ suc j = omega arith in rw e (le_refl (length (joined (take (suc j) ns))))
    ]

-- ---- it has no byte 10
comma-free : (l : List ℕ) → Free newline l → Free newline (comma ∷ l)
comma-free l f = free-append newline (comma ∷ []) l (unfold index_of in refl) f

pub joined_free : (ns : List ℕ) → Free newline (joined ns)
unfolding joined
joined_free [] = unfold index_of in refl
joined_free (n ∷ []) = no-newline n
joined_free (n ∷ m ∷ ns) = free-append newline (decimal n) (comma ∷ joined (m ∷ ns)) (no-newline n) (comma-free (joined (m ∷ ns)) (joined_free (m ∷ ns)))

-- ---- how long it is, where each number has at most d characters
pub joined_length : (d : ℕ) (ns : List ℕ) → ((i : ℕ) → i < length ns → length (decimal (get_or ns i 0)) ≤ d) → length (joined ns) ≤ (d + 1) * length ns
unfolding joined
joined_length d [] h = omega arith
joined_length d (n ∷ []) h = omega (arith, h 0 (omega arith))
joined_length d (n ∷ m ∷ ns) h =
    omega (arith, length-append (decimal n) (comma ∷ joined (m ∷ ns)), h 0 (omega arith), joined_length d (m ∷ ns) (λ i l. h (suc i) (omega arith)))

-- ---- numbers, each at most its limit
abbrev pub Within : List ℕ → List ℕ → Type 0
Within [] [] = Unit {0}
Within [] (m ∷ limits) = ⊥
Within (n ∷ ns) [] = ⊥
Within (n ∷ ns) (m ∷ limits) = (n ≤ m) × Within ns limits

pub within-length : (ns limits : List ℕ) → Within ns limits → length ns ≡ length limits
within-length [] [] w = refl
within-length [] (m ∷ limits) w = absurd w
within-length (n ∷ ns) [] w = absurd w
within-length (n ∷ ns) (m ∷ limits) w = ap suc (within-length ns limits w.1)

pub within-at : (ns limits : List ℕ) → Within ns limits → (i : ℕ) → get_or ns i 0 ≤ get_or limits i 0
within-at [] [] w i = omega arith
within-at [] (m ∷ limits) w i = absurd w
within-at (n ∷ ns) [] w i = absurd w
within-at (n ∷ ns) (m ∷ limits) w zero = w.0
within-at (n ∷ ns) (m ∷ limits) w (suc i) = within-at ns limits w.1 i

pub within_by : (ns limits : List ℕ) → length ns ≡ length limits → ((i : ℕ) → i < length ns → get_or ns i 0 ≤ get_or limits i 0) → Within ns limits
within_by [] [] e h = tt
within_by [] (m ∷ limits) e h = absurd (let z : ⊥ = omega arith in z)
within_by (n ∷ ns) [] e h = absurd (let z : ⊥ = omega arith in z)
within_by (n ∷ ns) (m ∷ limits) e h = (h 0 (omega arith), within_by ns limits (omega arith) (λ i l. h (suc i) (omega arith)))

-- ---- what is written is read
pub read_back : (ns limits : List ℕ) → Within ns limits → numbers_in limits (joined ns) ≡ some ns
unfolding numbers_in joined
read_back [] [] w = refl
read_back [] (m ∷ limits) w = absurd w
read_back (n ∷ ns) [] w = absurd w
read_back (n ∷ []) (m ∷ []) w = rw (read-digits 0 m n (omega arith) w.0)
read_back (n ∷ []) (m ∷ l ∷ limits) w = absurd w.1
read_back (n ∷ k ∷ ns) (m ∷ []) w = absurd w.1
read_back (n ∷ k ∷ ns) (m ∷ l ∷ limits) w =
    let rest : List ℕ = joined (k ∷ ns) in
    let text : List ℕ = decimal n ++ comma ∷ rest in
    let end : index_of comma text ≡ length (decimal n) = before-seam comma (decimal n) rest (no-comma n) in
    let inside : ltb (length (decimal n)) (length text) ≡ true = lt-ltb (length (decimal n)) (length text) (omega (arith, length-append (decimal n) (comma ∷ rest))) in
    let number : parsed 0 m (take (length (decimal n)) text) ≡ P.Some n = ap (parsed 0 m) (take-append_seam (decimal n) (comma ∷ rest)) ∙ read-digits 0 m n (omega arith) w.0 in
    let later : numbers_in (l ∷ limits) (drop (length (decimal n) + 1) text) ≡ some (k ∷ ns) =
    ap (numbers_in (l ∷ limits)) (drop-append-add (decimal n) (comma ∷ rest) 1) ∙ read_back (k ∷ ns) (l ∷ limits) w.1 in
    rw (end, inside, number, later)

-- ---- and nothing else is
pub record Written (limits text ns : List ℕ) : Type 0 where
  pub text-is : text ≡ joined ns
  pub within : Within ns limits

never : {ns : List ℕ} → none ≡ some ns → ⊥
never e = let z : ◌≡◌ {A = ℕ} 0 1 = cc in omega arith

pub written_back : (limits text ns : List ℕ) → numbers_in limits text ≡ some ns → Written limits text ns
unfolding numbers_in
written_back [] [] ns e = let is : [] ≡ ns = cc in rw (← is) (record { text-is = unfold joined in refl; within = tt })
written_back [] (x ∷ text) ns e = absurd (never e)
written_back (m ∷ []) text ns e = by (parsed 0 m text) refl e
  where
    by : (p : P.Option ℕ) → parsed 0 m text ≡ p → cons_number p (some []) ≡ some ns → Written (m ∷ []) text ns
    by P.None q e = absurd (never e)
    by (P.Some v) q e =
        let s : Spelt 0 m text v = spelt 0 m text v q in
        let is : v ∷ [] ≡ ns = cc in
        rw (← is) (record { text-is = unfold joined in s.text-is; within = (s.most, tt) })
written_back (m ∷ l ∷ limits) text ns e =
    by (ltb (index_of comma text) (length text)) (parsed 0 m (take (index_of comma text) text)) (numbers_in (l ∷ limits) (drop (index_of comma text + 1) text)) refl refl e
    (λ vs. written_back (l ∷ limits) (drop (index_of comma text + 1) text) vs)
  where
    by : (t : Bool) (p : P.Option ℕ) (o : Option (List ℕ)) → ltb (index_of comma text) (length text) ≡ t → parsed 0 m (take (index_of comma text) text) ≡ p
        → cond t (cons_number p o) none ≡ some ns → ((vs : List ℕ) → o ≡ some vs → Written (l ∷ limits) (drop (index_of comma text + 1) text) vs) → Written (m ∷ l ∷ limits) text ns
    by false p o t q e rest = absurd (never e)
    by true P.None o t q e rest = absurd (never e)
    by true (P.Some v) none t q e rest = absurd (never e)
    by true (P.Some v) (some vs) t q e rest =
        let s : Spelt 0 m (take (index_of comma text) text) v = spelt 0 m _ v q in
        let c : Written (l ∷ limits) (drop (index_of comma text + 1) text) vs = rest vs refl in
        let inside : index_of comma text < length text = ltb-true _ _ t in
        let is : v ∷ vs ≡ ns = cc in
        let whole : text ≡ decimal v ++ comma ∷ joined vs =
        split_at text (index_of comma text) 0 inside ∙ rw (found comma text inside, ← add-one (index_of comma text), s.text-is, ← c.text-is) in
        rw (← is)
        (record {
          text-is = whole ∙ sym (joined-cons v vs (omega (arith, within-length vs (l ∷ limits) c.within)));
          within = (s.most, c.within);
        })
