-- Tests that antt computes, each with what it shows.
--
--   equal x y       two values are the same
--   same n f l      f is the polynomial with the bytes l, if its coefficients from n on are zero
--   sameℤ a b       two signed numbers are the same
--   accepted b      the profile with the bytes b is accepted
--   encodes p d s   the block s encodes the data d: its symbols in the data positions, and each syndrome that the
--                   codeword check walks
use Rattle.std.specs.Prelude.{ℕ, ◌+◌, ◌<◌, ◌≡◌, refl, Bool, true, false, ◌&&◌, List, T, eqb, leb, ℤ, pos, negsuc}
use Rattle.std.specs.Prelude.{length, get_or, Ok, Err}
use Rattle.std.proofs.Common.{sym, ap, ◌∙◌, arith, eqb→eq, leb→le}
use Rattle.std.proofs.Math.Path.{fun_ext}
use Rattle.std.proofs.Math.Decide.{dec_lt}
use Rattle.field.specs.Field.{F, 𝟎, of, of_zero, byte, byte_inj}
use Rattle.field.specs.Test.{all, all-at, and_both}
use Rattle.series.specs.Series.{Series}
use Rattle.series.specs.Degree.{below}
use Rattle.series.specs.Array.{bytes, below-read}
use Rattle.profile.specs.declared.Profile.{Profile}
use Rattle.profile.specs.Definition.{Parsed, checks, data_length, data_start}
use Rattle.profile.specs.declared.questions.Caller.TheVariants.{Card}
use Rattle.profile.specs.Questions.{read, profile_of}
use Rattle.profile.specs.QuestionsLaws.{admitted-read}
use Rattle.profile.specs.Valid.{Valid, admitted-valid}
use Rattle.code.specs.Definition.{syndrome_of, subword, Encodes}
use Rattle.code.specs.Check.{sums, sums-codeword}

-- ---- values, polynomials, signed numbers

unfoldable pub equal : F → F → Bool
equal x y = eqb (byte x) (byte y)

pub equal_is : (x y : F) → T (equal x y) → x ≡ y
unfolding equal
equal_is x y t = byte_inj x y (eqb→eq _ _ t)

unfoldable pub same : ℕ → Series → List ℕ → Bool
same n f l = leb (length l) n && all n (λ i. equal (f i) (bytes l i))

pub same-is : (n : ℕ) (f : Series) (l : List ℕ) → below n f → T (same n f l) → f ≡ bytes l
unfolding same
same-is n f l b t = fun_ext (λ i. go i (dec_lt i n))
  where
    tests : T (leb (length l) n) × T (all n (λ i. equal (f i) (bytes l i)))
    tests = and_both (leb (length l) n) _ t

    go : (i : ℕ) → Dec (i < n) → f i ≡ bytes l i
    go i (yes q) = equal_is _ _ (all-at n (λ i. equal (f i) (bytes l i)) tests.1 i q)
    go i (no q) = b i (omega arith) ∙ sym (below-read of 0 of_zero l i (omega (arith, leb→le (length l) n tests.0)))

unfoldable pub sameℤ : ℤ → ℤ → Bool
sameℤ (pos a) (pos b) = eqb a b
sameℤ (pos a) (negsuc b) = false
sameℤ (negsuc a) (pos b) = false
sameℤ (negsuc a) (negsuc b) = eqb a b

pub sameℤ-is : (a b : ℤ) → T (sameℤ a b) → a ≡ b
unfolding sameℤ
sameℤ-is (pos a) (pos b) t = ap pos (eqb→eq a b t)
sameℤ-is (pos a) (negsuc b) t = absurd t
sameℤ-is (negsuc a) (pos b) t = absurd t
sameℤ-is (negsuc a) (negsuc b) t = ap negsuc (eqb→eq a b t)

-- ---- profiles

unfoldable pub passes : Parsed → Bool
passes (Ok p) = true
passes (Err q) = false

-- every question says yes, and byte 2, the length, is at most 255
unfoldable pub accepted : List ℕ → Bool
accepted b = passes (profile_of b) && leb (get_or b 2 0) 255

pub accepted-is : (b : List ℕ) → T (accepted b) → (profile_of b ≡ Ok (read b)) × Valid (read b)
unfolding accepted passes
accepted-is b t =
    let (t0, t1) = and_both (passes (profile_of b)) _ t in
    let e = go (profile_of b) refl t0 in
    (e, admitted-valid Card b 0 0 0 (read b) e (leb→le (get_or b 2 0) 255 t1))
  where
    go : (a : Parsed) → profile_of b ≡ a → T (passes a) → profile_of b ≡ Ok (read b)
    go (Ok p) e t = e ∙ ap Ok (sym (admitted-read Card b 0 0 0 p e))
    go (Err q) e t = absurd t

-- ---- blocks

unfoldable pub codeword : Profile → Series → Bool
codeword p s = all p.subwords (λ w. all (checks p w) (λ j. equal (syndrome_of p (sums p s w) j) 𝟎))

unfoldable pub carries : Profile → Series → Series → Bool
carries p d s = all p.subwords
    (λ i. all (data_length p i) (λ q. equal (subword p.length s i (checks p i + q)) (d (data_start p i + q))))

unfoldable pub encodes : Profile → Series → Series → Bool
encodes p d s = codeword p s && carries p d s

pub encodes-is : (p : Profile) → Valid p → (d s : Series) → T (encodes p d s) → Encodes p d s
unfolding encodes codeword carries
encodes-is p ok d s t =
    let (t0, t1) = and_both (codeword p s) _ t in
    record {
      code = sums-codeword p s ok (λ w h j q. equal_is _ _ (all-at (checks p w) _ (all-at p.subwords _ t0 w h) j q));
      carries = λ i h q l. equal_is _ _ (all-at (data_length p i) _ (all-at p.subwords _ t1 i h) q l);
    }
