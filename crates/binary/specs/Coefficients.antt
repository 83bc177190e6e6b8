-- Short polynomials by their coefficients, and powers by products, so that a step of an iteration computes.
--
--   a ◂ f        a + z f: a polynomial of few terms is a ◂ b ◂ c ◂ O
--   computing    `simp computing` brings sums, multiples, shifts and quotients by z of such polynomials to this form
--   powers       the powers 2 to 6 as products
--
-- Proved: coefficients of a product with such a polynomial; an array as such a polynomial (values-∷, values-none);
-- exponents from one on count modulo 255, for zero too (pow_cycle).
use Rattle.std.specs.Prelude.{ℕ, zero, suc, ◌+◌, ◌<◌, ◌≡◌, List, [], ◌∷◌}
use Rattle.std.proofs.Common.{arith, sym, ap, ap₂, ◌∙◌}
use Rattle.std.proofs.Math.Path.{fun_ext}
use Rattle.field.specs.declared.Gf.{Gf}
use Rattle.field.specs.Field.{F, 𝟎, ◌⊕◌, ◌⊙◌, ◌≟◌, ⊕-zero, ⊙-one, one-⊙, zero-⊙, ⊙-ring, pow, pow-zero, pow-suc}
use Rattle.field.specs.Field.{pow-add, val, val-zero}
use Rattle.field.proofs.Field.{pow_255}
use Rattle.series.specs.Series.{Series, O, K, Z, ◌⊞◌, ◌⊠◌, tail, O-at, ⊠-ring, ⊞-at, ⊠_at0, ⊠-suc, K_at0, ⊠-zero}
use Rattle.series.specs.Series.{zero-⊠, tail_at, tail-K, tail-⊞, tail-Z-⊠, tail-O, ⊞-zero, zero-⊞, Z-⊠_at0, head_tail}
use Rattle.series.specs.Array.{values, read_at}

infixr 65 ◌◂◌
unfoldable pub ◌◂◌ : F → Series → Series
a ◂ f = K a ⊞ Z ⊠ f

pub K-◂ : (a : F) → K a ≡ a ◂ O
unfolding ◌◂◌
K-◂ a = simp ⊠-ring

pub ◂-O : 𝟎 ◂ O ≡ O
unfolding ◌◂◌
◂-O = simp ⊠-ring

pub ◂-⊞ : (a b : F) (f g : Series) → a ◂ f ⊞ b ◂ g ≡ (a ⊕ b) ◂ (f ⊞ g)
unfolding ◌◂◌
◂-⊞ a b f g = simp ⊠-ring

pub K-⊠-◂ : (c a : F) (f : Series) → K c ⊠ (a ◂ f) ≡ (c ⊙ a) ◂ (K c ⊠ f)
unfolding ◌◂◌
K-⊠-◂ c a f = simp ⊠-ring

pub Z-◂ : (f : Series) → Z ⊠ f ≡ 𝟎 ◂ f
unfolding ◌◂◌
Z-◂ f = simp ⊠-ring

pub tail-◂ : (a : F) (f : Series) → tail (a ◂ f) ≡ f
unfolding ◌◂◌
tail-◂ a f = tail-⊞ (K a) (Z ⊠ f) ∙ rw (tail-K, tail-Z-⊠) (zero-⊞ f)

pub ◂_at0 : (a : F) (f : Series) → (a ◂ f) 0 ≡ a
unfolding ◌◂◌
◂_at0 a f = ⊞-at _ _ 0 ∙ rw (K_at0, Z-⊠_at0) (⊕-zero a)

-- coefficients, and those of a product
pub ◂-suc : (a : F) (f : Series) (n : ℕ) → (a ◂ f) (suc n) ≡ f n
◂-suc a f n = sym (tail_at (a ◂ f) n) ∙ ap (λ (g : Series). g n) (tail-◂ a f)

pub ◂-⊠_at0 : (a : F) (f S : Series) → ((a ◂ f) ⊠ S) 0 ≡ a ⊙ S 0
◂-⊠_at0 a f S = ⊠_at0 _ S ∙ rw ◂_at0

pub ◂-⊠-suc : (a : F) (f S : Series) (n : ℕ) → ((a ◂ f) ⊠ S) (suc n) ≡ a ⊙ S (suc n) ⊕ (f ⊠ S) n
◂-⊠-suc a f S n = ⊠-suc _ S n ∙ rw (◂_at0, tail-◂)

pub O-⊠-at : (S : Series) (n : ℕ) → (O ⊠ S) n ≡ 𝟎
O-⊠-at S n = ap (λ (f : Series). f n) (zero-⊠ S) ∙ O-at n

pub ruleset computing = (⊙-ring, Z-◂, ◂-O, ◂-⊞, K-⊠-◂, tail-◂, ◂_at0, ⊠-zero, ⊞-zero, zero-⊞, tail-O, O-at)

-- ---- arrays

pub values-∷ : (x : Gf) (l : List Gf) → values (x ∷ l) ≡ val x ◂ values l
unfolding ◌◂◌
values-∷ x l =
    head_tail (values (x ∷ l))
    ∙ ap₂ (λ (a : F) (f : Series). K a ⊞ Z ⊠ f) (read_at val _ (x ∷ l) 0)
    (fun_ext (λ i. tail_at _ i ∙ read_at val _ (x ∷ l) _ ∙ sym (read_at val _ l i)))

pub values-none : values [] ≡ O
values-none = fun_ext (λ i. read_at val _ [] i ∙ val-zero ∙ sym (O-at i))

-- ---- powers

pub pow_2 : (x : F) → pow x 2 ≡ x ⊙ x
pow_2 x = simp (pow-suc x 1, pow-suc x 0, pow-zero, ⊙-one)

pub pow_3 : (x : F) → pow x 3 ≡ x ⊙ (x ⊙ x)
pow_3 x = pow-suc x 2 ∙ rw pow_2

pub pow_4 : (x : F) → pow x 4 ≡ x ⊙ (x ⊙ (x ⊙ x))
pow_4 x = pow-suc x 3 ∙ rw pow_3

pub pow_5 : (x : F) → pow x 5 ≡ x ⊙ (x ⊙ (x ⊙ (x ⊙ x)))
pow_5 x = pow-suc x 4 ∙ rw pow_4

pub pow_6 : (x : F) → pow x 6 ≡ x ⊙ (x ⊙ (x ⊙ (x ⊙ (x ⊙ x))))
pow_6 x = pow-suc x 5 ∙ rw pow_5

pub ruleset powers = (pow_2, pow_3, pow_4, pow_5, pow_6)

-- exponents from one on count modulo 255, for zero too
pub pow_cycle : (x : F) (n : ℕ) → pow x (suc (255 + n)) ≡ pow x (suc n)
pow_cycle x n = pow-suc x (255 + n) ∙ go (x ≟ 𝟎) ∙ sym (pow-suc x n)
  where
    go : Dec (x ≡ 𝟎) → x ⊙ pow x (255 + n) ≡ x ⊙ pow x n
    go (yes e) = rw e (zero-⊙ _ ∙ sym (zero-⊙ _))
    go (no h) = ap (λ t. x ⊙ t) (pow-add x 255 n ∙ rw (pow_255 x h) (one-⊙ _))

pub zero-pow : (n : ℕ) → 0 < n → pow 𝟎 n ≡ 𝟎
zero-pow zero h = absurd (omega arith)
zero-pow (suc n) h = pow-suc 𝟎 n ∙ zero-⊙ _
