-- The list of all plans has every plan of a card and nothing else: a list of k + 1 counts is its first k counts with the last one behind them.
use mathlib.Core.List.{List, [], ◌∷◌, ◌++◌}
use mathlib.Core.Logic.{◌⊎◌, inl, inr, ⊎_elim}
use mathlib.Core.Path.{◌≡◌, refl, sym, ap, subst, ◌∙◌}
use Prim.Native.Nat.{ℕ, zero, suc, ◌≤◌}
use native.Mathlib.Nat.{le_refl}
use native.Mathlib.Decide.{dec_lt, ℕ_discrete}
use native.Mathlib.Omega.{arith}
use lib.ListN.{length, take, length-append, get_or-append, get_or-eq_default}
use lib.Seq.{take_all, take-suc, length-take-le, get_or-take, get_or_at}
use Rattle.header.specs.declared.Header.{Header}
use Rattle.header.specs.Header.{planes_of}
use Rattle.header.specs.Plan.{layers_most}
use Rattle.planner.specs.Planning.{counts, PlanOf, with_up_to, each_up_to, lists_up_to, plans_of}

-- ---- among the lists of a list
abbrev pub Among : List ℕ → List (List ℕ) → Type 0
Among ms [] = ⊥
Among ms (ns ∷ nss) = (ms ≡ ns) ⊎ Among ms nss

among-left : (ms : List ℕ) (a b : List (List ℕ)) → Among ms a → Among ms (a ++ b)
among-left ms [] b x = absurd x
among-left ms (ns ∷ a) b x = ⊎_elim (λ e. inl e) (λ y. inr (among-left ms a b y)) x

among-right : (ms : List ℕ) (a b : List (List ℕ)) → Among ms b → Among ms (a ++ b)
among-right ms [] b x = x
among-right ms (ns ∷ a) b x = inr (among-right ms a b x)

among_cases : {P : Type 0} (ms : List ℕ) (a b : List (List ℕ)) → Among ms (a ++ b) → (Among ms a → P) → (Among ms b → P) → P
among_cases ms [] b x p q = q x
among_cases ms (ns ∷ a) b x p q = ⊎_elim (λ e. p (inl e)) (λ y. among_cases ms a b y (λ z. p (inr z)) q) x

-- ---- one count more
module _ (ns : List ℕ) where
  with-has : (n i : ℕ) → i ≤ n → Among (ns ++ i ∷ []) (with_up_to ns n)
  unfolding with_up_to
  with-has zero i l = let e : i ≡ 0 = omega arith in inl (ap (λ (x : ℕ). ns ++ x ∷ []) e)
  with-has (suc n) i l =
      elim (dec_lt n i) [
        | yes m ↦ let e : i ≡ suc n = omega arith in inl (ap (λ (x : ℕ). ns ++ x ∷ []) e)
        | no m ↦ inr (with-has n i (omega arith))
      ]

  with-only : (P : List ℕ → Type 0) (n : ℕ) → ((i : ℕ) → i ≤ n → P (ns ++ i ∷ [])) → (ms : List ℕ) → Among ms (with_up_to ns n) → P ms
  unfolding with_up_to
  with-only P zero f ms x = ⊎_elim (λ e. subst P (sym e) (f 0 (le_refl 0))) (λ y. absurd y) x
  with-only P (suc n) f ms x =
      ⊎_elim (λ e. subst P (sym e) (f (suc n) (le_refl (suc n)))) (λ y. with-only P n (λ i l. f i (omega arith)) ms y) x

each-has : (nss : List (List ℕ)) (n : ℕ) (ns : List ℕ) (i : ℕ) → Among ns nss → i ≤ n → Among (ns ++ i ∷ []) (each_up_to nss n)
unfolding each_up_to
each-has [] n ns i x l = absurd x
each-has (os ∷ nss) n ns i x l =
    ⊎_elim
    (λ e. among-left (ns ++ i ∷ []) (with_up_to os n) (each_up_to nss n) (subst (λ (y : List ℕ). Among (y ++ i ∷ []) (with_up_to os n)) (sym e) (with-has os n i l)))
    (λ y. among-right (ns ++ i ∷ []) (with_up_to os n) (each_up_to nss n) (each-has nss n ns i y l))
    x

each-only : (P : List ℕ → Type 0) (nss : List (List ℕ)) (n : ℕ) → ((ns : List ℕ) (i : ℕ) → Among ns nss → i ≤ n → P (ns ++ i ∷ []))
    → (ms : List ℕ) → Among ms (each_up_to nss n) → P ms
unfolding each_up_to
each-only P [] n f ms x = absurd x
each-only P (ns ∷ nss) n f ms x =
    among_cases ms (with_up_to ns n) (each_up_to nss n) x
    (λ y. with-only ns P n (λ i l. f ns i (inl refl) l) ms y)
    (λ y. each-only P nss n (λ os i z l. f os i (inr z) l) ms y)

-- ---- lists of k counts, each within its limit
module _ (most : ℕ → ℕ) where
  record UpTo (k : ℕ) (ns : List ℕ) : Type 0 where
    long : length ns ≡ k
    within : (j : ℕ) → counts ns j ≤ most j

  past : (ns : List ℕ) (j : ℕ) → length ns ≤ j → counts ns j ≤ most j
  past ns j l = omega (arith, get_or-eq_default ns 0 l)

  up-nil : UpTo 0 []
  up-nil = record { long = refl; within = λ j. past [] j (omega arith) }

  up-snoc : (k : ℕ) (ns : List ℕ) (i : ℕ) → UpTo k ns → i ≤ most k → UpTo (suc k) (ns ++ i ∷ [])
  up-snoc k ns i u l = record { long = long; within = within }
    where
      long : length (ns ++ i ∷ []) ≡ suc k
      long = length-append ns (i ∷ []) ∙ omega (arith, u.long)

      within : (j : ℕ) → counts (ns ++ i ∷ []) j ≤ most j
      within j =
          elim (dec_lt j k) [
            | yes m ↦ omega (arith, get_or-append ns (i ∷ []) 0 j (omega (arith, u.long)), u.within j)
            | no m ↦ elim (ℕ_discrete k j) [
              | yes e ↦ omega (arith, get_or_at ns i [] 0 j (u.long ∙ e), ap most e)
              | no e ↦ past (ns ++ i ∷ []) j (omega (arith, long))
            ]
          ]

  up-front : (k : ℕ) (ns : List ℕ) → UpTo (suc k) ns → UpTo k (take k ns)
  up-front k ns u = record { long = long; within = within }
    where
      long : length (take k ns) ≡ k
      long = length-take-le k ns (omega (arith, u.long))

      within : (j : ℕ) → counts (take k ns) j ≤ most j
      within j =
          elim (dec_lt j k) [
            | yes m ↦ omega (arith, get_or-take k ns j 0 m, u.within j)
            | no m ↦ past (take k ns) j (omega (arith, long))
          ]

  up_split : (k : ℕ) (ns : List ℕ) → UpTo (suc k) ns → ns ≡ take k ns ++ counts ns k ∷ []
  up_split k ns u = sym (take_all (suc k) ns (omega (arith, u.long))) ∙ take-suc ns k 0 (omega (arith, u.long))

  lists-has : (k : ℕ) (ns : List ℕ) → UpTo k ns → Among ns (lists_up_to most k)
  unfolding lists_up_to
  lists-has zero [] u = inl refl
  lists-has zero (n ∷ ns) u = absurd (let z : ⊥ = omega (arith, u.long) in z)
  lists-has (suc k) ns u =
      subst (λ (x : List ℕ). Among x (each_up_to (lists_up_to most k) (most k))) (sym (up_split k ns u))
      (each-has (lists_up_to most k) (most k) (take k ns) (counts ns k) (lists-has k (take k ns) (up-front k ns u)) (u.within k))

  lists-only : (k : ℕ) (ns : List ℕ) → Among ns (lists_up_to most k) → UpTo k ns
  unfolding lists_up_to
  lists-only zero ns x = ⊎_elim (λ e. subst (UpTo 0) (sym e) up-nil) (λ y. absurd y) x
  lists-only (suc k) ns x =
      each-only (UpTo (suc k)) (lists_up_to most k) (most k) (λ os i y l. up-snoc k os i (lists-only k os y) l) ns x

-- ---- the plans of a card
module _ (h : Header) (ns : List ℕ) where
  pub plans-has : PlanOf h ns → Among ns (plans_of h)
  unfolding plans_of
  plans-has p = lists-has (planes_of h) layers_most ns (record { long = p.long; within = p.within })

  pub plans-only : Among ns (plans_of h) → PlanOf h ns
  unfolding plans_of
  plans-only x = let u = lists-only (planes_of h) layers_most ns x in record { long = u.long; within = u.within }
