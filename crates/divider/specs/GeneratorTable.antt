-- The table for a number of roots, and room for one.
--
--   Table first k t   t is the table of multiples for the k roots from α^first on
--   Made first k t    t has room for a table, and holds the one for the k roots from α^first on if k is not 0
use Rattle.std.specs.Prelude.{ℕ, ◌≤◌, ◌≡◌, List, length}
use Rattle.std.proofs.Common.{subst}
use Rattle.divider.specs.Multiples.{rows, Multiples, lower}
use Rattle.divider.specs.Generator.{aligned}

pub record Table (first k : ℕ) (t : List ℕ) : Type 0 where
  pub multiples : Multiples (rows k) t
  pub generator : lower (rows k) t ≡ aligned first k

pub record Made (first k : ℕ) (t : List ℕ) : Type 0 where
  pub size : length t ≡ 1536
  pub table : 1 ≤ k → Table first k t

pub table_for : {first k j : ℕ} {t : List ℕ} → k ≡ j → Table first k t → Table first j t
table_for {first} {t = t} e = subst (λ k. Table first k t) e
