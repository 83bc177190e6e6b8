-- Products by one value from half-byte tables, FORMAT 1.9 (in the trade: split tables, or nibble tables).
--
--   Halved c low high      the tables of c, of 16 entries: entry x of low is x times c, entry x of high 16 x times c
--   looked_up low high b   the entries at the halves of the byte b, added, whatever the tables hold
--
-- Proved: what is looked up in the tables of c is the product, for every c and every byte at once (halved-product),
-- since a byte is its low half and 16 times its high half, and the product is linear.
use Rattle.std.specs.Prelude.{ℕ, ◌/◌, ◌%◌, ◌<◌, ◌≡◌, List, get_or}
use Rattle.std.proofs.Common.{sym, ap, ap₂, ◌∙◌, arith}
use Rattle.std.specs.Int.Bits.{bit_xor}
use Rattle.field.specs.Field.{F, ◌⊕◌, ◌⊙◌, of, ⊙-ring}
use Rattle.field.proofs.Field.{of_parts}
use Rattle.series.specs.Series.{Series}
use Rattle.series.specs.Shift.{cut, cut_low}
use Rattle.series.specs.Array.{bytes, read_at}
use Rattle.kernel.specs.Store.{bytes-xor}
use Rattle.kernel.specs.ProductRow.{products}

pub record Halved (c : F) (l h : List ℕ) : Type 0 where
  pub low : bytes l ≡ cut 16 (products c)
  pub high : bytes h ≡ cut 16 (products (of 16 ⊙ c))

unfoldable pub looked_up : List ℕ → List ℕ → ℕ → F
looked_up low high b = bytes low (b % 16) ⊕ bytes high (b / 16)

pub looked_up-xor : (low high : List ℕ) (b : ℕ)
    → of (bit_xor (get_or low (b % 16) 0) (get_or high (b / 16) 0)) ≡ looked_up low high b
unfolding looked_up
looked_up-xor low high b = bytes-xor low (b % 16) _ ∙ ap (λ (s : F). bytes low (b % 16) ⊕ s) (sym (read_at of 0 high _))

-- one argument for every c and every b
pub halved-product : {c : F} {low high : List ℕ} (b : ℕ) → Halved c low high → b < 256
    → looked_up low high b ≡ c ⊙ of b
unfolding products looked_up
halved-product {c} {low} {high} b t h =
    ap₂ ◌⊕◌ (entry low c (b % 16) t.low (omega arith)) (entry high (of 16 ⊙ c) (b / 16) t.high (omega arith))
    ∙ shape (of (b % 16)) (of (b / 16)) (of 16) c
    ∙ ap (λ (s : F). c ⊙ s) (sym (of_parts 4 b (omega arith) h))
  where
    entry : (l : List ℕ) (a : F) (x : ℕ) → bytes l ≡ cut 16 (products a) → x < 16 → bytes l x ≡ of x ⊙ a
    entry l a x e s = ap (λ (f : Series). f x) e ∙ cut_low 16 (products a) x s

    shape : (x y s c : F) → x ⊙ c ⊕ y ⊙ (s ⊙ c) ≡ c ⊙ (x ⊕ s ⊙ y)
    shape x y s c = simp ⊙-ring
