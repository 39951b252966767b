-- The first six lines as the code reads them: each that is read hands on to the next, as in the definitions, and the first that is refused is what opening answers.
use mathlib.Core.Bool.{true}
use mathlib.Core.List.{List}
use mathlib.Core.Path.{◌≡◌, refl, ◌∙◌}
use Prim.Native.Nat.{ℕ, ◌+◌, ◌*◌, ◌/◌, ◌≤◌}
use native.Mathlib.Omega.{arith}
use lib.ListN.{drop}
use Rattle.std.specs.Prelude.{Result, Ok, Err}
use Rattle.sheet.specs.declared.Curve.{Curve}
use Rattle.sheet.specs.Limits.{points_most, levels_most, step_most}
use Rattle.sheet.specs.Sheet.{accepted, sheet_of}
use Rattle.sheet.proofs.Accepting.{accepted-by}
use Rattle.text.specs.declared.Line.{Line}
use Rattle.text.specs.declared.LineError.{LineError}
use Rattle.text.specs.Line.{line_at}
use Rattle.text.proofs.Lines.{Written, written}
use Rattle.header.specs.declared.Refusal.{Refusal}
use Rattle.header.specs.Refusals.{details_of}
use Rattle.header.specs.Header.{ascii}
use Rattle.header.specs.Opening.{not_opened, curve_line, opening_planes, opening_step, opening_curve, opening_levels, opening_cols, opening_rows}
use Rattle.header.specs.Workings.{refusing}
use Rattle.header.proofs.Taking.{turn_refused, turn_read, product-most}

-- a line that was read
abbrev pub Read : {A : Type 0} → ℕ → Result (Line A) LineError → A → ℕ → Type 0
Read n line v long = Ok (record { value = v; length = long }) ≡ refusing n line

module _ (bs : List ℕ) where
  pub rows_refused : (r : Refusal) → Err r ≡ refusing 1 (line_at (ascii "rows=") 1 points_most bs) → opening_rows bs ≡ not_opened (details_of r)
  unfolding opening_rows
  rows_refused r e = turn_refused 1 (line_at (ascii "rows=") 1 points_most bs) r _ e

  module _ (rows n₁ : ℕ) (e₁ : Read 1 (line_at (ascii "rows=") 1 points_most bs) rows n₁) where
    is₁ : opening_rows bs ≡ opening_cols bs rows n₁
    unfolding opening_rows
    is₁ = rw (turn_read 1 (line_at (ascii "rows=") 1 points_most bs) _ e₁) refl

    pub told₁ : Written (ascii "rows=") 1 points_most bs rows n₁
    told₁ = written (ascii "rows=") 1 points_most bs rows n₁ (turn_read 1 _ _ e₁)

    pub cols_refused : (r : Refusal) → Err r ≡ refusing 2 (line_at (ascii "cols=") 1 (points_most / rows) (drop n₁ bs)) → opening_rows bs ≡ not_opened (details_of r)
    unfolding opening_cols
    cols_refused r e = is₁ ∙ turn_refused 2 (line_at (ascii "cols=") 1 (points_most / rows) (drop n₁ bs)) r _ e

    module _ (cols n₂ : ℕ) (e₂ : Read 2 (line_at (ascii "cols=") 1 (points_most / rows) (drop n₁ bs)) cols n₂) where
      is₂ : opening_rows bs ≡ opening_levels bs rows cols (n₁ + n₂)
      unfolding opening_cols
      is₂ = is₁ ∙ rw (turn_read 2 (line_at (ascii "cols=") 1 (points_most / rows) (drop n₁ bs)) _ e₂) refl

      pub told₂ : Written (ascii "cols=") 1 (points_most / rows) (drop n₁ bs) cols n₂
      told₂ = written (ascii "cols=") 1 (points_most / rows) (drop n₁ bs) cols n₂ (turn_read 2 _ _ e₂)

      pub levels_refused : (r : Refusal) → Err r ≡ refusing 3 (line_at (ascii "levels=") 0 levels_most (drop (n₁ + n₂) bs)) → opening_rows bs ≡ not_opened (details_of r)
      unfolding opening_levels
      levels_refused r e = is₂ ∙ turn_refused 3 (line_at (ascii "levels=") 0 levels_most (drop (n₁ + n₂) bs)) r _ e

      module _ (levels n₃ : ℕ) (e₃ : Read 3 (line_at (ascii "levels=") 0 levels_most (drop (n₁ + n₂) bs)) levels n₃) where
        is₃ : opening_rows bs ≡ opening_curve bs (sheet_of rows cols levels) (n₁ + n₂ + n₃)
        unfolding opening_levels
        is₃ = is₂ ∙ rw (turn_read 3 (line_at (ascii "levels=") 0 levels_most (drop (n₁ + n₂) bs)) _ e₃) refl

        pub shape_accepted : accepted (sheet_of rows cols levels) ≡ true
        shape_accepted =
            let w₁ : Written (ascii "rows=") 1 points_most bs rows n₁ = told₁ in
            let w₂ : Written (ascii "cols=") 1 (points_most / rows) (drop n₁ bs) cols n₂ = told₂ in
            let w₃ : Written (ascii "levels=") 0 levels_most (drop (n₁ + n₂) bs) levels n₃ = written (ascii "levels=") 0 levels_most (drop (n₁ + n₂) bs) levels n₃ (turn_read 3 _ _ e₃) in
            let small : rows * cols ≤ points_most = product-most rows cols points_most w₂.most in
            accepted-by (sheet_of rows cols levels) (record { thick = omega arith; flat = omega arith; tall = w₁.least; wide = w₂.least; small = omega (arith, small); shallow = w₃.most })

        pub curve_line_refused : (r : Refusal) → Err r ≡ refusing 4 (curve_line (drop (n₁ + n₂ + n₃) bs)) → opening_rows bs ≡ not_opened (details_of r)
        unfolding opening_curve
        curve_line_refused r e = is₃ ∙ turn_refused 4 (curve_line (drop (n₁ + n₂ + n₃) bs)) r _ e

        module _ (curve : Curve) (n₄ : ℕ) (e₄ : Read 4 (curve_line (drop (n₁ + n₂ + n₃) bs)) curve n₄) where
          is₄ : opening_rows bs ≡ opening_step bs (sheet_of rows cols levels) curve (n₁ + n₂ + n₃ + n₄)
          unfolding opening_curve
          is₄ = is₃ ∙ rw (turn_read 4 (curve_line (drop (n₁ + n₂ + n₃) bs)) _ e₄) refl

          pub step_refused : (r : Refusal) → Err r ≡ refusing 5 (line_at (ascii "step=") 0 step_most (drop (n₁ + n₂ + n₃ + n₄) bs)) → opening_rows bs ≡ not_opened (details_of r)
          unfolding opening_step
          step_refused r e = is₄ ∙ turn_refused 5 (line_at (ascii "step=") 0 step_most (drop (n₁ + n₂ + n₃ + n₄) bs)) r _ e

          module _ (step n₅ : ℕ) (e₅ : Read 5 (line_at (ascii "step=") 0 step_most (drop (n₁ + n₂ + n₃ + n₄) bs)) step n₅) where
            pub to_planes : opening_rows bs ≡ opening_planes bs (sheet_of rows cols levels) curve step (n₁ + n₂ + n₃ + n₄ + n₅)
            unfolding opening_step
            to_planes = is₄ ∙ rw (turn_read 5 (line_at (ascii "step=") 0 step_most (drop (n₁ + n₂ + n₃ + n₄) bs)) _ e₅) refl
