-- Rows of products: a list of 256 bytes in which entry x is x times the row's factor.
--
--   products c        the row of c as a series: x times c, for each byte x
--   factor l          the factor of the row l: its entry 1
--   ProductRow l      l is a row
--   Level n c w t l   l, of n entries, has the first w of the row of c; w and n are powers of two, and t is w times c
--
-- Proved: the first 256 products of c are a row with the factor c (row-products, factor-products). A loop that doubles
-- w goes on by level-more: entry w + i is entry i and w times c.
use Rattle.std.specs.Prelude.{ℕ, ◌+◌, ◌≤◌, ◌<◌, ◌≡◌, refl, List, length}
use Rattle.std.proofs.Common.{sym, ap, ap₂, ◌∙◌, arith}
use Rattle.field.specs.Field.{F, α, ◌⊕◌, ◌⊙◌, of, of_zero, of_one, zero-⊙, one-⊙, ⊙_assoc, ⊙_comm, ⊕-⊙}
use Rattle.field.proofs.Field.{of_double}
use Rattle.series.specs.Series.{Series, O, ◌⊞◌, ◌⊠◌}
use Rattle.series.specs.Shift.{zpow, drop, cut, drop_at, cut_low, cut-none, cut-zero}
use Rattle.series.specs.Array.{bytes}
use Rattle.kernel.specs.Store.{cut_cong, cut-join}
use Rattle.kernel.specs.Power.{Power, power-one, power-some, power-fits, power-more, power-high}

unfoldable pub products : F → Series
products c x = of x ⊙ c

unfoldable pub factor : List ℕ → F
factor l = bytes l 1

pub record ProductRow (l : List ℕ) : Type 0 where
  pub long : 256 ≤ length l
  pub at : (x : ℕ) → x < 256 → bytes l x ≡ of x ⊙ factor l

-- ---- a row from its products

pub factor-products : (l : List ℕ) (c : F) → bytes l ≡ cut 256 (products c) → factor l ≡ c
unfolding factor products
factor-products l c e = ap (λ (f : Series). f 1) e ∙ cut_low 256 (products c) 1 (omega arith)
    ∙ ap (λ (s : F). s ⊙ c) of_one ∙ one-⊙ c

pub row-products : (l : List ℕ) (c : F) → length l ≡ 256 → bytes l ≡ cut 256 (products c) → ProductRow l
unfolding products
row-products l c h e =
    record {
      long = omega arith;
      at = λ x b. ap (λ (f : Series). f x) e ∙ cut_low 256 (products c) x b
          ∙ ap (λ (s : F). of x ⊙ s) (sym (factor-products l c e));
    }

-- a lookup
pub row_at : (l : List ℕ) (x : ℕ) → ProductRow l → x < 256 → bytes l x ≡ factor l ⊙ of x
row_at l x p h = p.at x h ∙ ⊙_comm _ _

-- ---- levels

pub record Level (n : ℕ) (c : F) (w t : ℕ) (l : List ℕ) : Type 0 where
  pub whole : Power n
  pub power : Power w
  pub most : w ≤ n
  pub top : w < 256 → of t ≡ of w ⊙ c
  pub long : length l ≡ n
  pub is : bytes l ≡ cut w (products c)

pub level-none : (l : List ℕ) (t : ℕ) → Power (length l) → bytes l ≡ O → Level (length l) (of t) 1 t l
unfolding products
level-none l t p e =
    record {
      whole = p;
      power = power-one;
      most = omega (arith, power-some (length l) p);
      top = λ _. sym (ap (λ (s : F). s ⊙ of t) of_one ∙ one-⊙ (of t));
      long = refl;
      is = e ∙ sym (cut-none (products (of t)))
          ∙ sym (cut-zero 0 (products (of t)) (ap (λ (s : F). s ⊙ of t) of_zero ∙ zero-⊙ (of t)));
    }

pub level-more : {n : ℕ} {c : F} {w t : ℕ} {l : List ℕ} (u : ℕ) (m : List ℕ)
    → Level n c w t l → w < n → of u ≡ α ⊙ of t → length m ≡ length l
    → bytes m ≡ bytes l ⊞ zpow w ⊠ cut w (λ i. bytes l i ⊕ of t) → Level n c (w + w) u m
unfolding products
level-more {n} {c} {w} {t} {l} u m p h e q r =
    record {
      whole = p.whole;
      power = power-more w p.power small;
      most = power-fits w n p.power p.whole h;
      top = λ b. e ∙ ap (λ (s : F). α ⊙ s) (p.top small) ∙ sym (⊙_assoc α (of w) c)
          ∙ ap (λ (s : F). s ⊙ c) (sym (of_double w (omega arith)));
      long = q ∙ p.long;
      is = r ∙ ap₂ (λ (f g : Series). f ⊞ zpow w ⊠ g) p.is (cut_cong w _ _ next) ∙ sym (cut-join w w (products c));
    }
  where
    small : w < 256
    small = omega (arith, p.whole.most)

    next : (i : ℕ) → i < w → bytes l i ⊕ of t ≡ drop w (products c) i
    next i b =
        ap₂ ◌⊕◌ (ap (λ (f : Series). f i) p.is ∙ cut_low w (products c) i b) (p.top small)
        ∙ sym (drop_at w (products c) i ∙ ap (λ (s : F). s ⊙ c) (power-high w i p.power b) ∙ ⊕-⊙ (of i) (of w) c)
