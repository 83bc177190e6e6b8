-- Words that are sums of multiples of subwords, as loops over subwords make them.
--
--   combined n s c r   the sum of c k times subword k of the block s, over the first r subwords
--
-- Proved: no subword and one subword more (combined-none, combined-more); a nested word is such a sum
-- (combined-nested); from subword v on nothing is carried (carried_none); a subword as a part of the bytes of a block
-- (subword-part), and a multiple of it added to a word (add-part).
use Rattle.std.specs.Prelude.{ℕ, suc, ◌+◌, ◌-◌, ◌*◌, ◌≤◌, ◌<◌, ◌≡◌, refl, List, ◌++◌, length, take, drop as drop-list}
use Rattle.std.specs.Prelude.{replicate}
use Rattle.std.proofs.Math.Path.{sym, ap, fun_ext}
use Rattle.std.proofs.Common.{ap₂, ◌∙◌, add-one, arith}
use Rattle.std.proofs.Math.Decide.{dec_lt}
use Rattle.field.specs.Field.{F, α, ◌⊕◌, ◌⊙◌, ⊕-zero, pow, of, of_zero}
use Rattle.series.specs.Sum.{sum, sum-none, sum-suc}
use Rattle.series.specs.Series.{Series, O, O-at, K, ◌⊞◌, ◌⊠◌, ⊞-at, K-⊠-at}
use Rattle.series.specs.Shift.{cut, cut-none, cut_unique, cut-⊞, cut-K-⊠, drop, drop_at}
use Rattle.series.specs.Degree.{below-O, below-cut, below-cut_eq, below-K-⊠}
use Rattle.series.specs.Array.{bytes, read-zeros}
use Rattle.series.specs.Part.{read_take, read-drop, read_left, read_right, read-part}
use Rattle.profile.specs.declared.Profile.{Profile}
use Rattle.code.specs.Definition.{subword, nested}
use Rattle.code.specs.Triangle.{carried, carried-high}

unfoldable pub combined : ℕ → Series → (ℕ → F) → ℕ → Series
combined n s c r q = sum r (λ k. c k ⊙ subword n s k q)

module _ (n : ℕ) (s : Series) (c : ℕ → F) where
  combined-suc : (r : ℕ) → combined n s c (suc r) ≡ combined n s c r ⊞ K (c r) ⊠ subword n s r
  unfolding combined
  combined-suc r = fun_ext (λ q.
      sum-suc r _ ∙ sym (⊞-at _ _ q ∙ ap (λ t. combined n s c r q ⊕ t) (K-⊠-at (c r) (subword n s r) q)))

  -- a loop begins with zeros
  pub combined-none : (r : ℕ) → bytes (replicate r 0) ≡ cut n (combined n s c 0)
  unfolding combined
  combined-none r =
      read-zeros of 0 of_zero r O
      ∙ cut-none O
      ∙ sym (ap (cut n) (fun_ext (λ q. sum-none _ ∙ sym (O-at q))) ∙ below-cut_eq n O (below-O n))

  -- and goes on
  pub combined-more : (k : ℕ) (x : F) (w v : Series) → x ≡ c k → w ≡ cut n (combined n s c k)
      → v ≡ w ⊞ K x ⊠ cut n (subword n s k)
      → v ≡ cut n (combined n s c (k + 1))
  combined-more k x w v ex ew ev =
      ev
      ∙ ap₂ (λ (w : Series) (x : F). w ⊞ K x ⊠ cut n (subword n s k)) ew ex
      ∙ sym
      (ap (λ (r : ℕ). cut n (combined n s c r)) (add-one k)
      ∙ ap (cut n) (combined-suc k)
      ∙ cut-⊞ n _ _
      ∙ ap (λ (t : Series). cut n (combined n s c k) ⊞ t) (cut-K-⊠ n _ _))

-- with the powers of α^l as factors it is nested word l
pub combined-nested : (p : Profile) (s : Series) (l : ℕ)
    → combined p.length s (λ i. pow α (i * l)) p.subwords ≡ nested p s l
unfolding combined nested
combined-nested p s l = refl

-- from subword v on zeros are carried
pub carried_none : (p : Profile) (s : Series) (i r : ℕ) → p.nested ≤ i
    → bytes (replicate r 0) ≡ cut p.length (carried p s i)
carried_none p s i r h =
    read-zeros of 0 of_zero r O
    ∙ cut-none O
    ∙ sym (cut_unique p.length (carried p s i) O (λ q l. carried-high p s i q h ∙ sym (O-at q)) (λ q l. O-at q))

-- ---- subwords as parts of bytes

subword-drop : (n : ℕ) (s : Series) (i : ℕ) → subword n s i ≡ drop (i * n) s
unfolding subword
subword-drop n s i = fun_ext (λ q. sym (drop_at (i * n) s q))

pub subword-part : (n : ℕ) (b : List ℕ) (i : ℕ) → i * n + n ≤ length b
    → bytes (take n (drop-list (i * n) b)) ≡ cut n (subword n (bytes b) i)
subword-part n b i h = read-part of 0 of_zero (i * n) n b h ∙ ap (cut n) (sym (subword-drop n (bytes b) i))

-- a multiple of subword i, added in the first n entries of w
pub add-part : (n i k : ℕ) (b w y : List ℕ) (c : F) → k ≡ n → i * n + n ≤ length b → n ≤ length w → length y ≡ n
    → bytes y ≡ bytes (take n w) ⊞ K c ⊠ bytes (take k (drop-list (i * n) b))
    → bytes (y ++ drop-list n w) ≡ bytes w ⊞ K c ⊠ cut n (subword n (bytes b) i)
add-part n i k b w y c ek hb hw ly e = fun_ext (λ q. go q (dec_lt q n) ∙ sym (⊞-at (bytes w) (K c ⊠ g) q))
  where
    g : Series
    g = cut n (subword n (bytes b) i)

    inside : bytes y ≡ bytes (take n w) ⊞ K c ⊠ g
    inside =
        e
        ∙ ap (λ (r : Series). bytes (take n w) ⊞ K c ⊠ r)
        (ap (λ (k : ℕ). bytes (take k (drop-list (i * n) b))) ek ∙ subword-part n b i hb)

    go : (q : ℕ) → Dec (q < n) → bytes (y ++ drop-list n w) q ≡ bytes w q ⊕ (K c ⊠ g) q
    go q (yes l) =
        read_left of 0 y (drop-list n w) q (omega arith)
        ∙ ap (λ (r : Series). r q) inside
        ∙ ⊞-at _ _ q
        ∙ ap (λ t. t ⊕ (K c ⊠ g) q) (read_take of 0 n w q l)
    go q (no l) =
        let z : q ≡ length y + (q - n) = omega arith in
        let x : n + (q - n) ≡ q = omega arith in
        ap (bytes (y ++ drop-list n w)) z
        ∙ read_right of 0 y (drop-list n w) (q - n)
        ∙ read-drop of 0 n w (q - n)
        ∙ ap (bytes w) x
        ∙ sym (ap (λ t. bytes w q ⊕ t) (below-K-⊠ n c g (below-cut n _) q (omega arith)) ∙ ⊕-zero _)
