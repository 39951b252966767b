-- Going through some plans and keeping the better one leaves the best: what is kept in the end is what was kept at any time or better, so nothing that was passed over or let go is better than it.
use mathlib.Core.Bool.{Bool, true, false, ◌&&◌, true≢false}
use mathlib.Core.List.{List, [], ◌∷◌}
use mathlib.Core.Logic.{◌⊎◌, inl, inr, ⊎_elim}
use mathlib.Core.Path.{◌≡◌, refl, sym, subst, ◌∙◌}
use Prim.Native.Nat.{ℕ}
use Rattle.header.proofs.Bools.{by, and_left, and_right, and_both, not_yes}
use Rattle.planner.specs.Planning.{best_of}
use Rattle.planner.proofs.Orders.{Strict}
use Rattle.planner.proofs.AllPlans.{Among}

module _ (allowed : List ℕ → Bool) (better : List ℕ → List ℕ → Bool) where
  abbrev kept : List ℕ → List (List ℕ) → List ℕ
  kept = best_of allowed better

  takes : (ns ms : List ℕ) (mss : List (List ℕ)) → allowed ms && better ms ns ≡ true → kept ns (ms ∷ mss) ≡ kept ms mss
  unfolding best_of
  takes ns ms mss t = rw t

  keeps : (ns ms : List ℕ) (mss : List (List ℕ)) → allowed ms && better ms ns ≡ false → kept ns (ms ∷ mss) ≡ kept ns mss
  unfolding best_of
  keeps ns ms mss t = rw t

  -- what is kept is one of them
  pub kept-has : (P : List ℕ → Type 0) (ns : List ℕ) (mss : List (List ℕ)) → P ns → ((ms : List ℕ) → Among ms mss → allowed ms ≡ true → P ms) → P (kept ns mss)
  kept-has P ns [] p f = unfold best_of in p
  kept-has P ns (ms ∷ mss) p f =
      by (allowed ms && better ms ns)
      (λ t. rw (takes ns ms mss t) (kept-has P ms mss (f ms (inl refl) (and_left (allowed ms) (better ms ns) t)) (λ os x. f os (inr x))))
      (λ t. rw (keeps ns ms mss t) (kept-has P ns mss p (λ os x. f os (inr x))))

  module _ (strict : Strict better) where
    -- no worse than the one before
    kept-up : (ns : List ℕ) (mss : List (List ℕ)) → (kept ns mss ≡ ns) ⊎ (better (kept ns mss) ns ≡ true)
    kept-up ns [] = inl (unfold best_of in refl)
    kept-up ns (ms ∷ mss) =
        by (allowed ms && better ms ns)
        (λ t.
        let b : better ms ns ≡ true = and_right (allowed ms) (better ms ns) t in
        rw (takes ns ms mss t)
        (⊎_elim
        (λ e. inr (subst (λ (x : List ℕ). better x ns ≡ true) (sym e) b))
        (λ c. inr (strict.trans (kept ms mss) ms ns c b))
        (kept-up ms mss)))
        (λ t. rw (keeps ns ms mss t) (kept-up ns mss))

    -- what is not better than the one before is not better than what is kept
    passed : (ns : List ℕ) (mss : List (List ℕ)) (ms : List ℕ) → better ms ns ≡ false → better ms (kept ns mss) ≡ false
    passed ns mss ms p =
        ⊎_elim
        (λ e. subst (λ (x : List ℕ). better ms x ≡ false) (sym e) p)
        (λ b. not_yes (better ms (kept ns mss)) (λ q. true≢false (sym (strict.trans ms (kept ns mss) ns q b) ∙ p)))
        (kept-up ns mss)

    pub kept-least : (ns : List ℕ) (mss : List (List ℕ)) (ms : List ℕ) → Among ms mss → allowed ms ≡ true → better ms (kept ns mss) ≡ false
    kept-least ns [] ms x a = absurd x
    kept-least ns (os ∷ mss) ms x a =
        by (allowed os && better os ns)
        (λ t. rw (takes ns os mss t)
        (⊎_elim
        (λ e. passed os mss ms (subst (λ (y : List ℕ). better y os ≡ false) (sym e) (strict.self os)))
        (λ y. kept-least os mss ms y a)
        x))
        (λ t. rw (keeps ns os mss t)
        (⊎_elim
        (λ e. passed ns mss ms (not_yes (better ms ns) (λ b. true≢false (sym (both e b) ∙ t))))
        (λ y. kept-least ns mss ms y a)
        x))
      where
        both : ms ≡ os → better ms ns ≡ true → allowed os && better os ns ≡ true
        both e b = rw (← e) (and_both (allowed ms) (better ms ns) a b)
