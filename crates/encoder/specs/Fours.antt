-- Four subwords at a time.
--
--   Known f n k d r                 r holds the remainder of the word of n symbols that has k check symbols, not yet
--                                   found, and the data d, the first root being α^f
use Rattle.std.specs.Prelude.{ℕ, suc, ◌+◌, ◌*◌, ◌≤◌, ◌<◌, ◌≡◌, refl, List, length, take, replicate}
use Rattle.std.proofs.Common.{sym, ap, ap₂, subst, ◌∙◌, arith, length-take-le}
use Rattle.std.proofs.lemmas.List.{length-replicate}
use Rattle.field.specs.Field.{of, of_zero}
use Rattle.series.specs.Series.{Series, O, ◌⊞◌, ◌⊠◌, ⊞-zero, one-⊠}
use Rattle.series.specs.Shift.{zpow, zpow-zero, cut, drop, drop-none}
use Rattle.series.specs.Degree.{below, below-zpow, below-⊠, below-⊞, below_weaken, below-cut_eq}
use Rattle.series.specs.Array.{bytes, below-read}
use Rattle.series.specs.Part.{splice, read_prefix}
use Rattle.profile.specs.declared.Profile.{Profile}
use Rattle.profile.specs.Definition.{first-root, checks, data_length}
use Rattle.profile.specs.Valid.{checks-most, checks-below}
use Rattle.code.specs.Word.{systematic}
use Rattle.divider.specs.ReedSolomonResidue.{residue, Residual, below-residue, residue-systematic}
use Rattle.block.specs.Parts.{Fits, inside}
use Rattle.code.specs.Combined.{carried_none}
use Rattle.kernel.specs.Copy.{prefix-zeros}
use Rattle.encoder.specs.CarrySubword.{filled, Wrote, wrote-is}

pub record Known (f n k : ℕ) (d r : List ℕ) : Type 0 where
  pub long : length r ≡ 48
  pub is : bytes r ≡ residue f n k (zpow k ⊠ bytes d)

padded-below : (n k : ℕ) (d : List ℕ) → k + length d ≡ n → below n (zpow k ⊠ bytes d)
padded-below n k d e =
    below-⊠ (suc k) (length d) n (zpow k) (bytes d) (below-zpow k) (below-read of 0 of_zero d) (omega arith)

-- the word w holds the data, zeros before and after; its first n symbols are taken
pub known_is : (f n k : ℕ) (d w r : List ℕ)
    → k + length d ≡ n → n ≤ length w → bytes w ≡ zpow k ⊠ bytes d → Residual f k (take n w) r → Known f n k d r
known_is f n k d w r e h ew p = record {
  long = p.long;
  is =
      p.is
      ∙ ap₂ (λ l (u : Series). residue f l k u) (length-take-le n w h)
      (read_prefix of 0 of_zero n w h ∙ ap (cut n) ew ∙ below-cut_eq n _ (padded-below n k d e));
}

-- the word with its remainder added goes to subword i, to which nothing is carried
pub known_wrote : (p : Profile) (i k m : ℕ) (d s y w r : List ℕ)
    → Fits p s → p.nested ≤ i → i < p.subwords → k ≡ checks p i → length d ≡ data_length p i
    → m ≡ p.length → length y ≡ p.length → length w ≡ 255 → Known (first-root p) p.length k d r
    → bytes w ≡ zpow k ⊠ bytes d ⊞ zpow 0 ⊠ bytes r
    → drop 0 (bytes y) ≡ bytes (take p.length w) ⊞ drop 0 (bytes (take p.length (replicate 255 0)))
    → Wrote p (bytes d) i (bytes s) (bytes (splice (i * p.length) m y s))
unfolding filled
known_wrote p i k m d s y w r fits high h ek ed em ly lw kn ew ey =
    wrote-is p i k p.length m (bytes d) s y (replicate 255 0) (inside p s i fits h).0 ek refl em ly
    (omega (arith, fits.valid.length, length-replicate {A = ℕ} 255 0))
    (carried_none p (bytes s) i 255 high) (same ∙ sym none)
  where
    f : ℕ
    f = first-root p

    n : ℕ
    n = p.length

    most : n ≤ 255
    most = fits.valid.length.1

    all : k + length d ≡ n
    all = omega (arith, ek, ed, checks-below p fits.valid i)

    zero : bytes (take n (replicate 255 0)) ≡ O
    zero = prefix-zeros n 255 most

    sum : zpow k ⊠ bytes d ⊞ zpow 0 ⊠ bytes r ≡ systematic f n k (zpow k ⊠ bytes d)
    sum =
        ap (λ (u : Series). zpow k ⊠ bytes d ⊞ u) (ap (λ (u : Series). u ⊠ bytes r) zpow-zero ∙ one-⊠ _ ∙ kn.is)
        ∙ residue-systematic f n k (zpow k ⊠ bytes d)
        (omega (arith, ek, checks-most p fits.valid i)) (omega (arith, all))

    small : below n (zpow k ⊠ bytes d ⊞ residue f n k (zpow k ⊠ bytes d))
    small = below-⊞ n _ _ (padded-below n k d all) (below_weaken k n _ (below-residue f n k _) (omega (arith, all)))

    same : bytes y ≡ systematic f n k (zpow k ⊠ bytes d)
    same =
        sym (drop-none (bytes y))
        ∙ ey
        ∙ ap₂ ◌⊞◌
        (read_prefix of 0 of_zero n w (omega arith) ∙ ap (cut n) (ew ∙ sum)) (drop-none _ ∙ zero)
        ∙ ⊞-zero _
        ∙ below-cut_eq n _ (subst (below n) (residue-systematic f n k (zpow k ⊠ bytes d)
        (omega (arith, ek, checks-most p fits.valid i)) (omega (arith, all))) small)

    none : filled f n k (bytes d) (bytes (take n (replicate 255 0))) ≡ systematic f n k (zpow k ⊠ bytes d)
    none = ap (λ (e : Series). systematic f n k (zpow k ⊠ bytes d ⊞ e) ⊞ e) zero ∙ ⊞-zero _
        ∙ ap (systematic f n k) (⊞-zero _)
