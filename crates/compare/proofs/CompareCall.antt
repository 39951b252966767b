-- Comparing by its tests: the first refusal in their order; and where there is none, both cards as they are shown, with marks that stand for the test.
use mathlib.Core.Bool.{Bool, true, ◌&&◌}
use mathlib.Core.List.{List}
use mathlib.Core.Path.{◌≡◌, refl, sym, ap, ◌∙◌, subst}
use Prim.Native.Nat.{ℕ, ◌/◌, ◌%◌, ◌<◌}
use native.Mathlib.Omega.{arith}
use borrow.Author.Tests.{eqb-true, eqb-false, eq-eqb, ne_eqb}
use lib.Dec.{eqb}
use lib.IntN.{ℤ}
use lib.ListN.{length}
use Rattle.integers.proofs.Bools.{by, choice, and_left, and_right}
use Rattle.sheet.specs.declared.Shape.{Shape}
use Rattle.sheet.specs.Lists.{count, nth}
use Rattle.sheet.specs.Sheet.{points}
use Rattle.sheet.proofs.Accepting.{accepted-yes}
use Rattle.header.specs.declared.Details.{Details}
use Rattle.header.specs.declared.Refusal.{Refusal}
use Rattle.std.specs.Prelude.{Ok, Err}
use Rattle.header.specs.Refusals.{refusal, details_of}
use Rattle.card.specs.declared.Reached.{Reached}
use Rattle.card.specs.Reading.{Reading, showing, as_reading}
use Rattle.header.proofs.Refusing.{refusing}
use Rattle.card.proofs.Bare.{showing-bare}
use Rattle.card.proofs.Values.{showing-answered}
use Rattle.compare.specs.Comparing.{Lent, Comparing, apart_at, marks, same_size, size_refusal, not_compared, unless, compared, comparing, lent, as_comparing}
use Rattle.compare.specs.Workings.{Small, apart_by, marked, shape_of, first_of, behind_first}
use Rattle.compare.proofs.Marks.{marks-first}

-- ---- the sizes
module _ (sh sh' : Shape) (bytes : List ℕ) where
  -- right ones
  pub record Sized : Type 0 where
    pub same : same_size sh sh' ≡ true
    pub long : length bytes ≡ points sh

  pub sized-none : Sized → size_refusal sh sh' bytes ≡ refusal 0 0 0
  unfolding size_refusal
  sized-none s = rw (s.same, eq-eqb (length bytes) (points sh) s.long)

  pub none-sized : (size_refusal sh sh' bytes).number ≡ 0 → Sized
  unfolding size_refusal
  none-sized zero =
      by (same_size sh sh')
      (λ y. by (eqb (length bytes) (points sh))
      (λ z. record { same = y; long = eqb-true _ _ z })
      (λ z. absurd (let o : 3 ≡ 0 = rw (y, z) at zero in omega arith)))
      (λ y. absurd (let o : 13 ≡ 0 = rw y at zero in omega arith))

  pub equal-points : same_size sh sh' ≡ true → points sh ≡ points sh'
  unfolding same_size
  equal-points e =
      let d = eqb sh.depth sh'.depth in
      let r = eqb sh.rows sh'.rows in
      let c = eqb sh.cols sh'.cols in
      rw (
        eqb-true sh.depth sh'.depth (and_left d (r && c) e),
        eqb-true sh.rows sh'.rows (and_left r c (and_right d (r && c) e)),
        eqb-true sh.cols sh'.cols (and_right r c (and_right d (r && c) e)),
      )

-- ---- what a card shows
pub shown-small : (qs vs : List ℤ) (bs : List ℕ) → (let r = showing qs vs bs in r.refused.number ≡ 0 → Small r.figure r.values × (length r.values ≡ points (shape_of bs)))
shown-small qs vs bs zero =
    let v = showing-answered qs vs bs zero in
    (record { figure_small = v.figure; value_small = λ p. record { size = omega (arith, (v.small p).size) } }, v.long)

-- and its sheet has a column
pub columns-some : (qs vs : List ℤ) (bs : List ℕ) → (showing qs vs bs).refused.number ≡ 0 → 0 < (shape_of bs).cols
columns-some qs vs bs zero = omega (arith, (accepted-yes (shape_of bs) (showing-answered qs vs bs zero).shape).wide)

-- ---- the call
module _ (one two : Lent) (bytes bs bs' : List ℕ) where
  abbrev a : Reading
  a = showing one.coefficients one.values bs

  abbrev b : Reading
  b = showing two.coefficients two.values bs'

  abbrev sh : Shape
  sh = shape_of bs

  abbrev behind : Details
  behind = behind_first sh two bytes bs'

  -- what it is refused for
  pub refused-is : first_of a.refused behind ≡ (comparing one two bytes bs bs').refused
  unfolding comparing behind_first
  refused-is =
      by (eqb a.refused.number 0)
      (λ y. rw y
      (by (eqb b.refused.number 0)
      (λ z. rw z (by (eqb sizes.number 0) (λ w. rw w (sized-none sh (shape_of bs') bytes (none-sized sh (shape_of bs') bytes (eqb-true _ _ w)))) (λ w. rw w)))
      (λ z. rw z)))
      (λ y. rw y)
    where
      sizes : Details
      sizes = size_refusal sh (shape_of bs') bytes

  -- a refused one is nothing but the refusal
  abbrev Bare : Comparing → Type 0
  Bare c = (c.refused.number ≡ 0 → ⊥) → not_compared one two bytes c.refused ≡ c

  unless-bare : (d : Details) (go : Comparing) → Bare go → Bare (unless one two bytes d go)
  unless-bare d go bare = choice Bare (eqb d.number 0) (λ _. bare) (λ _ _. refl)

  comparing-bare : Bare (comparing one two bytes bs bs')
  unfolding comparing
  comparing-bare =
      unless-bare a.refused _ (unless-bare b.refused _ (unless-bare (size_refusal sh (shape_of bs') bytes) _ (λ refused. absurd (refused refl))))

  pub comparing-refused : (d : Details) → d ≡ first_of a.refused behind → (d.number ≡ 0 → ⊥) → not_compared one two bytes d ≡ comparing one two bytes bs bs'
  comparing-refused d e refused =
      let is = e ∙ refused-is in
      ap (not_compared one two bytes) is ∙ comparing-bare (λ zero. refused (ap (λ (x : Details). x.number) is ∙ zero))

  -- what the first card is refused for where it is examined
  pub examined-refused : (w : Refusal) → details_of w ≡ a.refused → as_comparing (Err w) one two bytes ≡ comparing one two bytes bs bs'
  examined-refused w e = comparing-refused (details_of w) (rw (← e, ne_eqb (details_of w).number 0 (refusing w))) (refusing w)

  -- and what is found behind it
  pub behind-refused : refusal 0 0 0 ≡ a.refused → (w : Refusal) → details_of w ≡ behind → as_comparing (Err w) one two bytes ≡ comparing one two bytes bs bs'
  behind-refused fine w e = comparing-refused (details_of w) (rw (← fine) e) (refusing w)

  -- a first card that is refused leaves its slices as they were
  pub first-refused : (w : Refusal) (qs vs : List ℤ) → as_reading (Err w) qs vs ≡ a → as_comparing (Err w) (lent qs vs) two bytes ≡ comparing one two bytes bs bs'
  first-refused w qs vs shown =
      let why : details_of w ≡ a.refused = ap (λ (s : Reading). s.refused) shown in
      let is : a.refused.number ≡ 0 → ⊥ = λ zero. refusing w (ap (λ (d : Details). d.number) why ∙ zero) in
      let kept = shown ∙ sym (showing-bare one.coefficients one.values bs is) in
      (λ i. as_comparing (Err w) (lent (kept i).coefficients (kept i).values) two bytes)
      ∙ comparing-refused (details_of w) (why ∙ rw (ne_eqb a.refused.number 0 is)) (refusing w)

  -- nothing is refused
  pub record Compares : Type 0 where
    pub first : a.refused.number ≡ 0
    pub second : b.refused.number ≡ 0
    pub sized : Sized sh (shape_of bs') bytes

  pub comparing-is : Compares → comparing one two bytes bs bs' ≡ compared one two bytes sh a b
  unfolding comparing
  comparing-is c = rw (c.first, c.second, sized-none sh (shape_of bs') bytes c.sized)

  pub compares : behind.number ≡ 0 → a.refused.number ≡ 0 → Compares
  unfolding behind_first
  compares zero fine =
      by (eqb b.refused.number 0)
      (λ z. record { first = fine; second = eqb-true _ _ z; sized = none-sized sh (shape_of bs') bytes (rw z at zero) })
      (λ z. absurd (eqb-false _ 0 z (rw z at zero)))

  -- ---- both are shown, and the slices filled
  module _ (c : Compares) (r r' : Reached) (qs vs qs' vs' : List ℤ) (shown : as_reading (Ok r) qs vs ≡ a) (shown' : as_reading (Ok r') qs' vs' ≡ b) where
    abbrev n : ℕ
    n = points sh

    abbrev t : ℕ → Bool
    t = apart_at a b

    pub can-mark : Small r.figure vs × Small r'.figure vs' × (length vs ≡ length bytes) × (length vs' ≡ length bytes)
    can-mark =
        let first = shown-small one.coefficients one.values bs c.first in
        let second = shown-small two.coefficients two.values bs' c.second in (
          subst (λ (s : Reading). Small s.figure s.values) (sym shown) first.0,
          subst (λ (s : Reading). Small s.figure s.values) (sym shown') second.0,
          ap (λ (s : Reading). length s.values) shown ∙ first.1 ∙ sym c.sized.long,
          ap (λ (s : Reading). length s.values) shown' ∙ second.1 ∙ sym (equal-points sh (shape_of bs') bytes c.sized.same) ∙ sym c.sized.long,
        )

    pub all-is : {ms : List ℕ} {number place cols : ℕ} → ms ≡ marks (apart_by r.figure vs r'.figure vs') (length bytes)
        → number ≡ count (apart_by r.figure vs r'.figure vs') (length bytes) → place ≡ nth (marked ms) (length ms) 0 → cols ≡ sh.cols
        → as_comparing (Ok (record { number = number; row = place / cols; column = place % cols })) (lent qs vs) (lent qs' vs') ms ≡ comparing one two bytes bs bs'
    unfolding apart_at
    all-is {ms} {number} {place} put counted found wide =
        let ms-are : ms ≡ marks t n = put ∙ (λ i. marks (apart_by (shown i).figure (shown i).values (shown' i).figure (shown' i).values) (c.sized.long i)) in
        let number_is : number ≡ count t n = counted ∙ (λ i. count (apart_by (shown i).figure (shown i).values (shown' i).figure (shown' i).values) (c.sized.long i)) in
        let place_is : place ≡ nth t n 0 = found ∙ ap (λ (l : List ℕ). nth (marked l) (length l) 0) ms-are ∙ marks-first t n in
        (λ i.
        record {
          refused = refusal 0 0 0;
          number = number_is i;
          row = place_is i / wide i;
          column = place_is i % wide i;
          first = lent (shown i).coefficients (shown i).values;
          second = lent (shown' i).coefficients (shown' i).values;
          apart = ms-are i;
        })
        ∙ sym (comparing-is c)
