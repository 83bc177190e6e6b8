-- Laws of a round.
--
--   Meets p g j S   the values S solve the equations of FORMAT 6.6 for S_j of the unsettled subwords
--
-- Proved: what stands in a window and around it (window_in, window-low, window-high), and one place more (window-none,
-- window_more); only the rows of unsettled subwords go on (extend_open, extend-settled, extend-past), and no syndrome
-- below changes (extend-low). For a valid profile the new syndromes solve that system (system_solves), and nothing else
-- does (system_unique).
use Rattle.std.specs.Prelude.{ℕ, ◌+◌, ◌*◌, ◌≤◌, ◌<◌, ◌≡◌, refl, leb, ltb}
use Rattle.std.proofs.Math.Path.{sym, ap, fun_ext}
use Rattle.std.proofs.Common.{◌∙◌}
use Rattle.std.proofs.Math.Logic.{by_cases}
use Rattle.std.proofs.Math.Bool.{and-false}
use Rattle.std.proofs.Math.Option.{Option, none, some}
use native.Mathlib.Omega.{arith}
use Rattle.std.proofs.Math.Decide.{dec_lt, ℕ_discrete}
use borrow.Author.Tests.{le-leb, lt-leb, lt-ltb, le-ltb}
use Rattle.field.specs.Field.{F, α, ◌⊙◌, pow, pow_mul}
use Rattle.field.proofs.Field.{power_inj}
use Rattle.series.specs.Sum.{sum, sum_cong}
use Rattle.series.specs.Series.{Series}
use Rattle.series.specs.Interpolation.{Distinct, solution_solves, solution_unique}
use Rattle.profile.specs.declared.Profile.{Profile}
use Rattle.profile.specs.Valid.{Valid}
use Rattle.code.specs.Definition.{syndrome_of, nested}
use Rattle.staged_decoding.specs.Definition.{nth, put, Line, Progress, open?, unsettled}
use Rattle.staged_decoding.specs.Definition.{node, system, fresh, window, extend}
use Rattle.staged_decoding.specs.Count.{nth_lt, nth-rising}
use Rattle.staged_decoding.specs.Stage.{put_same, put_other}

-- ---- windows

module _ (a b : ℕ) (g f : Series) where
  pub window-low : (j : ℕ) → j < a → window a b g f j ≡ f j
  unfolding window
  window-low j h = rw (lt-leb a j h)

  pub window-high : (j : ℕ) → b ≤ j → window a b g f j ≡ f j
  unfolding window
  window-high j h = rw (le-ltb j b h, and-false (leb a j))

  pub window_in : (j : ℕ) → a ≤ j → j < b → window a b g f j ≡ g j
  unfolding window
  window_in j h l = rw (le-leb a j h, lt-ltb j b l)

pub window-none : (a : ℕ) (g f : Series) → window a a g f ≡ f
window-none a g f =
    fun_ext (λ j. by_cases (dec_lt j a) (window-low a a g f j) (λ l. window-high a a g f j (omega arith)))

pub window_more : (a b : ℕ) (g f : Series) → a ≤ b → window a (b + 1) g f ≡ put b (g b) (window a b g f)
window_more a b g f h = fun_ext (λ j. go j (ℕ_discrete j b) (dec_lt j a) (dec_lt j b))
  where
    go : (j : ℕ) → Dec (j ≡ b) → Dec (j < a) → Dec (j < b) → window a (b + 1) g f j ≡ put b (g b) (window a b g f) j
    go j (yes e) u v = rw e (window_in a (b + 1) g f b h (omega arith) ∙ sym (put_same b (g b) (window a b g f)))
    go j (no e) (yes u) v = window-low a (b + 1) g f j u
        ∙ sym (put_other b (g b) (window a b g f) j e ∙ window-low a b g f j u)
    go j (no e) (no u) (yes v) =
        window_in a (b + 1) g f j (omega arith) (omega arith)
        ∙ sym (put_other b (g b) (window a b g f) j e ∙ window_in a b g f j (omega arith) v)
    go j (no e) (no u) (no v) =
        window-high a (b + 1) g f j (omega arith)
        ∙ sym (put_other b (g b) (window a b g f) j e ∙ window-high a b g f j (omega arith))

-- ---- rows

module _ (p : Profile) (a b : ℕ) (g : Progress) (i : ℕ) where
  pub extend_open : i < p.subwords → g.line i ≡ none → (extend p a b g).row i ≡ window a b (fresh p g i) (g.row i)
  unfolding extend
  extend_open h e = rw (lt-ltb i p.subwords h, e)

  pub extend-settled : (l : Line) → g.line i ≡ some l → (extend p a b g).row i ≡ g.row i
  unfolding extend
  extend-settled l e = rw (e, and-false (ltb i p.subwords))

  pub extend-past : p.subwords ≤ i → (extend p a b g).row i ≡ g.row i
  unfolding extend
  extend-past h = rw (le-ltb i p.subwords h)

  -- whichever it is
  extend-row : (P : Series → Type 0) → P (g.row i) → P (window a b (fresh p g i) (g.row i))
      → P ((extend p a b g).row i)
  extend-row P x y = go (g.line i) refl (dec_lt i p.subwords)
    where
      go : (o : Option Line) → g.line i ≡ o → Dec (i < p.subwords) → P ((extend p a b g).row i)
      go (some l) h d = rw (extend-settled l h) x
      go none h (yes d) = rw (extend_open d h) y
      go none h (no d) = rw (extend-past (omega arith)) x

  pub extend-low : (j : ℕ) → j < a → (extend p a b g).row i j ≡ g.row i j
  extend-low j l = extend-row (λ s. s j ≡ g.row i j) refl (window-low a b (fresh p g i) (g.row i) j l)

-- ---- the system

-- FORMAT 6.6: the b equations, for l from 0 to b − 1
abbrev pub Meets : Profile → Progress → ℕ → (ℕ → F) → Type 0
Meets p g j S =
    (l : ℕ) → l < unsettled p g
    → sum (unsettled p g) (λ w. pow α (nth p.subwords (open? g) w * l) ⊙ S w)
    ≡ syndrome_of p (nested p g.block l) j

module _ (p : Profile) (ok : Valid p) (g : Progress) where
  nodes_distinct : Distinct (unsettled p g) (node p g)
  unfolding node unsettled
  nodes_distinct u w l h e =
      let rise : nth p.subwords (open? g) u < nth p.subwords (open? g) w =
      nth-rising p.subwords (open? g) u w l h in
      let most : nth p.subwords (open? g) w < p.subwords = nth_lt p.subwords (open? g) w h in
      let same : nth p.subwords (open? g) u ≡ nth p.subwords (open? g) w =
      power_inj _ _ (omega (arith, ok.subwords.1)) (omega (arith, ok.subwords.1)) e in
      omega arith

  -- the powers of FORMAT 6.6 are the system's
  powers : (S : ℕ → F) (l : ℕ)
      → sum (unsettled p g) (λ w. pow (node p g w) l ⊙ S w)
      ≡ sum (unsettled p g) (λ w. pow α (nth p.subwords (open? g) w * l) ⊙ S w)
  unfolding node
  powers S l =
      sum_cong (unsettled p g) _ _ (λ w h. ap (λ x. x ⊙ S w) (sym (pow_mul α (nth p.subwords (open? g) w) l)))

  pub system_solves : (j : ℕ) → Meets p g j (system p g j)
  unfolding system
  system_solves j l h = sym (powers _ l) ∙ solution_solves (unsettled p g) (node p g) _ nodes_distinct l h

  pub system_unique : (j : ℕ) (S : ℕ → F) → Meets p g j S → (w : ℕ) → w < unsettled p g → system p g j w ≡ S w
  unfolding system
  system_unique j S m w h =
      solution_unique (unsettled p g) (node p g) _ _ S nodes_distinct
      (solution_solves (unsettled p g) (node p g) _ nodes_distinct)
      (λ l k. powers S l ∙ m l k) w h
