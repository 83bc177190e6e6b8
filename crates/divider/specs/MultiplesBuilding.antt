-- How a table of multiples is built.
--
--   Two i a b t u         u is t with a and b for its entries i and i + 1
--   Written row f r t u   u is t with r for row f
--   Added row w i r t u   u is t with the first i rows, r added to each, from row w on
--   Built row low w m t   the first w rows of the table of low, w a power of two, and w times low in m
--
-- Proved: pairs of stores write a row (written-narrow, written-wide). A loop that adds r to rows goes on by added_more;
-- a loop that doubles the number of rows goes on by built-more, with multiples that are zero where a row stores nothing
-- (built-spare, spare-sum), and ends with a table (built-all).
use Rattle.std.specs.Prelude.{ℕ, ◌+◌, ◌-◌, ◌*◌, ◌≤◌, ◌<◌, ◌≡◌, refl, ◌≢◌, List, length, get_or, set}
use Rattle.std.proofs.Common.{sym, ap, ap₂, ◌∙◌, arith, length-set, get_or-set_same, get_or-set_other}
use Rattle.std.proofs.Math.Decide.{dec_lt, ℕ_discrete}
use Rattle.field.specs.Field.{F, 𝟎, α, ◌⊕◌, ◌⊙◌, of, of_zero, of_one, zero-⊕, ⊙-zero}
use Rattle.field.proofs.Field.{of_double}
use Rattle.series.specs.Series.{Series, K, ◌⊞◌, ◌⊠◌, ⊠-ring, one-⊠, zero-⊠, K-zero, K-⊠-at, ⊞-at, O-at}
use Rattle.series.specs.Array.{bytes}
use Rattle.kernel.specs.Power.{Power, power-one, power-more, power-high}
use Rattle.divider.specs.declared.packed.Packed.{Packed}
use Rattle.divider.specs.Packed.{six, six-zero, packed, none}
use Rattle.divider.specs.Multiples.{Rows, wide, narrow, Spare, lower, Multiples}

-- ---- two words written

pub record Two (i a b : ℕ) (t u : List ℕ) : Type 0 where
  pub long : length u ≡ length t
  pub first : get_or u i 0 ≡ a
  pub second : get_or u (i + 1) 0 ≡ b
  pub other : (k : ℕ) → k ≢ i → k ≢ i + 1 → get_or u k 0 ≡ get_or t k 0

pub two : (t : List ℕ) (i a b : ℕ) → i + 2 ≤ length t → Two i a b t (set (set t i a) (i + 1) b)
two t i a b h =
    record {
      long = simp length-set;
      first = get_or-set_other (set t i a) (i + 1) i b 0 (omega arith) ∙ get_or-set_same t i a 0 (omega arith);
      second = get_or-set_same (set t i a) (i + 1) b 0 (simp length-set (omega arith));
      other = λ k n m. get_or-set_other (set t i a) (i + 1) k b 0 m ∙ get_or-set_other t i k a 0 n;
    }

-- ---- a row written

pub record Written (row : Rows) (f : ℕ) (r : Series) (t u : List ℕ) : Type 0 where
  pub long : length u ≡ length t
  pub here : row u f ≡ r
  pub other : (g : ℕ) → g ≢ f → row u g ≡ row t g

pub written-narrow : {t u v : List ℕ} (f a b c d : ℕ) → Two (f * 4) a b t u → Two (f * 4 + 2) c d u v
    → Written narrow f (six 0 0 a b c d) t v
written-narrow {t} {u} {v} f a b c d p q =
    record {
      long = q.long ∙ p.long;
      here = rw (at0, at1, q.first, at3);
      other =
          λ g n. rw (
            kept g (g * 4) n (omega arith) (omega arith),
            kept g (g * 4 + 1) n (omega arith) (omega arith),
            kept g (g * 4 + 2) n (omega arith) (omega arith),
            kept g (g * 4 + 3) n (omega arith) (omega arith),
          );
    }
  where
    at0 : get_or v (f * 4) 0 ≡ a
    at0 = q.other (f * 4) (omega arith) (omega arith) ∙ p.first

    at1 : get_or v (f * 4 + 1) 0 ≡ b
    at1 = q.other (f * 4 + 1) (omega arith) (omega arith) ∙ p.second

    at3 : get_or v (f * 4 + 3) 0 ≡ d
    at3 = let e : f * 4 + 3 ≡ f * 4 + 2 + 1 = omega arith in ap (λ (k : ℕ). get_or v k 0) e ∙ q.second

    kept : (g k : ℕ) → g ≢ f → g * 4 ≤ k → k < g * 4 + 4 → get_or v k 0 ≡ get_or t k 0
    kept g k n lo hi = q.other k (omega arith) (omega arith) ∙ p.other k (omega arith) (omega arith)

pub written-wide : {t u v x : List ℕ} (f a b c d e h : ℕ) → Two (f * 6) a b t u → Two (f * 6 + 2) c d u v
    → Two (f * 6 + 4) e h v x
    → Written wide f (six a b c d e h) t x
written-wide {t} {u} {v} {x} f a b c d e h p q r =
    record {
      long = r.long ∙ q.long ∙ p.long;
      here = rw (at0, at1, at2, at3, r.first, at5);
      other =
          λ g n. rw (
            kept g (g * 6) n (omega arith) (omega arith),
            kept g (g * 6 + 1) n (omega arith) (omega arith),
            kept g (g * 6 + 2) n (omega arith) (omega arith),
            kept g (g * 6 + 3) n (omega arith) (omega arith),
            kept g (g * 6 + 4) n (omega arith) (omega arith),
            kept g (g * 6 + 5) n (omega arith) (omega arith),
          );
    }
  where
    at0 : get_or x (f * 6) 0 ≡ a
    at0 = r.other (f * 6) (omega arith) (omega arith) ∙ q.other (f * 6) (omega arith) (omega arith) ∙ p.first

    at1 : get_or x (f * 6 + 1) 0 ≡ b
    at1 = r.other (f * 6 + 1) (omega arith) (omega arith)
        ∙ q.other (f * 6 + 1) (omega arith) (omega arith) ∙ p.second

    at2 : get_or x (f * 6 + 2) 0 ≡ c
    at2 = r.other (f * 6 + 2) (omega arith) (omega arith) ∙ q.first

    at3 : get_or x (f * 6 + 3) 0 ≡ d
    at3 =
        let e : f * 6 + 3 ≡ f * 6 + 2 + 1 = omega arith in
        ap (λ (k : ℕ). get_or x k 0) e ∙ r.other (f * 6 + 2 + 1) (omega arith) (omega arith) ∙ q.second

    at5 : get_or x (f * 6 + 5) 0 ≡ h
    at5 = let e : f * 6 + 5 ≡ f * 6 + 4 + 1 = omega arith in ap (λ (k : ℕ). get_or x k 0) e ∙ r.second

    kept : (g k : ℕ) → g ≢ f → g * 6 ≤ k → k < g * 6 + 6 → get_or x k 0 ≡ get_or t k 0
    kept g k n lo hi =
        r.other k (omega arith) (omega arith) ∙ q.other k (omega arith) (omega arith)
        ∙ p.other k (omega arith) (omega arith)

-- ---- rows added to

pub record Added (row : Rows) (w i : ℕ) (r : Series) (t u : List ℕ) : Type 0 where
  pub long : length u ≡ length t
  pub here : (f : ℕ) → f < i → row u (w + f) ≡ row t f ⊞ r
  pub low : (f : ℕ) → f < w → row u f ≡ row t f

pub added_none : (row : Rows) (w : ℕ) (r : Series) (t : List ℕ) → Added row w 0 r t t
added_none row w r t = record { long = refl; here = λ f h. absurd (omega arith); low = λ f h. refl }

pub added_more : {row : Rows} {w i : ℕ} {r : Series} {t u v : List ℕ} (s : Series)
    → Added row w i r t u → i < w → s ≡ row u i ⊞ r
    → Written row (w + i) s u v → Added row w (i + 1) r t v
added_more {row} {w} {i} {r} {t} {u} {v} s p h e q =
    record {
      long = q.long ∙ p.long;
      here = λ f l. go f l (ℕ_discrete f i);
      low = λ f l. q.other f (omega arith) ∙ p.low f l;
    }
  where
    go : (f : ℕ) → f < i + 1 → Dec (f ≡ i) → row v (w + f) ≡ row t f ⊞ r
    go f l (yes z) = rw z (q.here ∙ e ∙ ap (λ (g : Series). g ⊞ r) (p.low i h))
    go f l (no z) = q.other (w + f) (omega arith) ∙ p.here f (omega arith)

-- ---- the whole table

pub record Built (row : Rows) (low : Series) (w : ℕ) (m t : List ℕ) : Type 0 where
  pub power : Power w
  pub top : w < 256 → bytes m ≡ K (of w) ⊠ low
  pub long : 1536 ≤ length t
  pub at : (f : ℕ) → f < w → row t f ≡ K (of f) ⊠ low

pub built-one : (row : Rows) (m t u : List ℕ) → 1536 ≤ length t → Written row 0 (six 0 0 0 0 0 0) t u
    → Built row (bytes m) 1 m u
built-one row m t u h q =
    record {
      power = power-one;
      top = λ _. sym (ap (λ (a : F). K a ⊠ bytes m) of_one ∙ one-⊠ (bytes m));
      long = omega (arith, q.long);
      at = λ f l. let z : f ≡ 0 = omega arith in
          rw z (q.here ∙ six-zero ∙ sym (rw (of_zero, K-zero) (zero-⊠ (bytes m))));
    }

-- row w + f is row f and the product of w
pub built-more : {row : Rows} {low : Series} {w : ℕ} {m t : List ℕ} (next u : List ℕ) (r : Series)
    → Built row low w m t → w < 256 → r ≡ bytes m
    → Added row w w r t u → bytes next ≡ K α ⊠ bytes m → Built row low (w + w) next u
built-more {row} {low} {w} {m} {t} next u r p h z q e =
    record {
      power = power-more w p.power h;
      top = λ b. e ∙ rw (p.top h, of_double w (omega arith)) (simp ⊠-ring);
      long = omega (arith, q.long, p.long);
      at = λ f l. go f l (dec_lt f w);
    }
  where
    go : (f : ℕ) → f < w + w → Dec (f < w) → row u f ≡ K (of f) ⊠ low
    go f l (yes b) = q.low f b ∙ p.at f b
    go f l (no b) =
        let s : w + (f - w) ≡ f = omega arith in
        let d : f - w < w = omega arith in
        ap (row u) (sym s)
        ∙ q.here (f - w) d
        ∙ ap₂ ◌⊞◌ (p.at (f - w) d) (z ∙ p.top h)
        ∙ sym (ap (λ (x : ℕ). K (of x) ⊠ low) (sym s)
        ∙ ap (λ (a : F). K a ⊠ low) (power-high w (f - w) p.power d) ∙ simp ⊠-ring)

pub built-all : (row : Rows) (low : Series) (w : ℕ) (m t : List ℕ) → Built row low w m t → 256 ≤ w
    → Multiples row t × (lower row t ≡ low)
unfolding lower
built-all row low w m t p h =
    (record { long = p.long; at = λ f l. p.at f (omega arith) ∙ ap (λ (g : Series). K (of f) ⊠ g) (sym one) }, one)
  where
    one : row t 1 ≡ low
    one = p.at 1 (omega arith) ∙ ap (λ (a : F). K a ⊠ low) of_one ∙ one-⊠ low

-- the multiple that is added is zero where the polynomial is
pub built-spare : {row : Rows} {low : Series} {w : ℕ} {m t : List ℕ} (n : ℕ) (r : Packed)
    → Built row low w m t → w < 256 → ((i : ℕ) → i < n → low i ≡ 𝟎) → packed r ≡ bytes m → Spare n r
built-spare {row} {low} {w} {m} {t} n r p h z e i l =
    ap (λ (f : Series). f i) (e ∙ p.top h) ∙ K-⊠-at (of w) low i
    ∙ ap (λ (s : F). of w ⊙ s) (z i l) ∙ ⊙-zero (of w)

pub spare-sum : (n : ℕ) (a b c : Packed) → Spare n a → Spare n b → packed c ≡ packed a ⊞ packed b → Spare n c
spare-sum n a b c p q e i h =
    ap (λ (f : Series). f i) e ∙ ⊞-at (packed a) (packed b) i ∙ ap₂ ◌⊕◌ (p i h) (q i h) ∙ zero-⊕ 𝟎

pub spare-zero : (n : ℕ) → Spare n none
spare-zero n i h = ap (λ (f : Series). f i) six-zero ∙ O-at i
