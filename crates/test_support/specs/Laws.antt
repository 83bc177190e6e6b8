-- Texts that a loop appends one after the other, and the last coefficient that is not zero.
--
-- Proved: a loop that appends the texts of `each` begins by each_none and goes on by each_more; what `top` is where a
-- coefficient is zero (top_below) and where it is not (top-here), and that it is no more than it looks at (top_least).
use Rattle.std.specs.Prelude.{ℕ, zero, suc, ◌+◌, ◌-◌, ◌≤◌, ◌<◌, ◌≡◌, refl, List}
use Rattle.std.proofs.Common.{sym, ap, ◌∙◌, arith, eq-eqb, ne_eqb}
use Rattle.std.proofs.Math.Logic.{by_cases}
use Rattle.std.proofs.Math.Decide.{ℕ_discrete}
use Rattle.field.specs.declared.Gf.{Gf}
use Rattle.listing.specs.Definition.{Appended}
use Rattle.listing.specs.Laws.{appended-none, appended_then}
use Rattle.test_support.specs.Text.{each}
use Rattle.test_support.specs.State.{at, top}

-- none of the texts
pub each_none : (n : ℕ) (f : ℕ → List ℕ) (s : List ℕ) → Appended n (each f 0) s s
unfolding each
each_none n f s = appended-none n s

-- one more of the texts
pub each_more : {n : ℕ} {s t u : List ℕ} (f : ℕ → List ℕ) (i : ℕ) → Appended n (each f i) s t → Appended n (f i) t u
    → Appended n (each f (i + 1)) s u
unfolding each
each_more f i p q =
    let next : suc i ≡ i + 1 = omega arith in
    rw (ap (each f) next) at (appended_then p q)

pub top-here : (f : List Gf) (n : ℕ) → (at f n ≡ 0 → ⊥) → top f n ≡ n
unfolding top
top-here f zero h = refl
top-here f (suc n) h = rw (ne_eqb (at f (suc n)) 0 h)

pub top_below : (f : List Gf) (n : ℕ) → 0 < n → at f n ≡ 0 → top f (n - 1) ≡ top f n
unfolding top
top_below f zero l h = absurd (omega arith)
top_below f (suc n) l h =
    let before : suc n - 1 ≡ n = omega arith in
    ap (top f) before ∙ sym (rw (eq-eqb (at f (suc n)) 0 h))

pub top-none : (f : List Gf) → top f 0 ≡ 0
unfolding top
top-none f = refl

pub top_least : (f : List Gf) (n : ℕ) → top f n ≤ n
unfolding top
top_least f zero = omega arith
top_least f (suc n) =
    by_cases (ℕ_discrete (at f (suc n)) 0)
    (λ s. rw (eq-eqb (at f (suc n)) 0 s) (omega (arith, top_least f n)))
    (λ s. rw (ne_eqb (at f (suc n)) 0 s) (omega arith))
