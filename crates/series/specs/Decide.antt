-- Decisions. A choice on a decision is the library's `ite`, with `if_pos` and `if_neg`.
--
--   holds d   the decision d as a Boolean (the library's `decide`)
--   all? n d  whether P i for every i below n, given d i whether P i
--
-- Proved: `holds d` is true where d's proposition holds (holds_yes), and false where it does not (holds_no).
use Rattle.std.specs.Prelude.{ℕ, zero, suc, ◌<◌, ◌≡◌, refl, true, false}
use Rattle.std.proofs.Common.{sym, subst, arith}
use Rattle.std.proofs.Math.Logic.{by_cases}
use Rattle.std.proofs.Math.Logic.Dec
use Rattle.std.proofs.Math.Bool.{decide_iff}
use Rattle.std.proofs.Math.Decide.{ℕ_discrete}
unfoldable pub use Rattle.std.proofs.Math.Bool.{decide as holds}

pub holds_yes : {A : Type 0} (d : Dec A) → A → holds d ≡ true
holds_yes d a = (decide_iff d).1 a

pub holds_no : {A : Type 0} (d : Dec A) → ¬ A → holds d ≡ false
unfolding holds
holds_no (yes a) h = absurd (h a)
holds_no (no n) h = refl

unfoldable pub all? : (n : ℕ) {P : ℕ → Type 0} → ((i : ℕ) → Dec (P i)) → Dec ((i : ℕ) → i < n → P i)
all? zero d = yes (λ i h. absurd (omega arith))
all? (suc n) {P} d = Dec.of_iff (to, from) (Dec.and (all? n d) (d n))
  where
    to : ((i : ℕ) → i < n → P i) × P n → (i : ℕ) → i < suc n → P i
    to (f, p) i h = by_cases (ℕ_discrete i n) (λ e. subst P (sym e) p) (λ e. f i (omega arith))

    from : ((i : ℕ) → i < suc n → P i) → ((i : ℕ) → i < n → P i) × P n
    from g = (λ i h. g i (omega arith), g n (omega arith))
