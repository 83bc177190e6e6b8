-- What the multiples for the benchmark promise, whichever way they go.
--
--   Adds c from to exit   where the words `from` and `to` are of one length, `exit` is `to` and c times `from`; else it
--                         is `to`
--
-- Proved: it holds where nothing is done for words of different lengths (adds-kept), and where a multiple is added for
-- words of one length (adds_multiple).
use Rattle.std.specs.Prelude.{ℕ, ◌≡◌, refl, ◌≢◌, List, length}
use Rattle.field.specs.Field.{F}
use Rattle.series.specs.Series.{K, ◌⊞◌, ◌⊠◌}
use Rattle.series.specs.Array.{bytes}

pub record Adds (c : F) (from to exit : List ℕ) : Type 0 where
  pub alike : length from ≡ length to → bytes exit ≡ bytes to ⊞ K c ⊠ bytes from
  pub otherwise : length from ≢ length to → exit ≡ to

pub adds-kept : (c : F) (from to : List ℕ) → length from ≢ length to → Adds c from to to
adds-kept c from to n = record { alike = λ e. absurd (n e); otherwise = λ _. refl }

pub adds_multiple : (c : F) (from to exit : List ℕ) → length from ≡ length to
    → bytes exit ≡ bytes to ⊞ K c ⊠ bytes from → Adds c from to exit
adds_multiple c from to exit l h = record { alike = λ _. h; otherwise = λ n. absurd (n l) }
