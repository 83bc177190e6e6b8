-- What an accepted profile is, as propositions, and the laws of its capabilities and sizes.
--
--   Valid p    the profile p passes questions 2 to 5, and 14
--   Rising p   t0 < t1 < .. < tv
--
-- Proved: a profile that is admitted is valid, and the sizes are right (writing-passed, reading-passed,
-- extracting-passed; writing-admitted, reading-admitted and extracting-admitted say the converse); what a writer
-- accepts rises (writing-rising), which is no question with v at most 1 (rising-few), and readers accept it too
-- (writing_reads); capabilities do not fall, and are at most 24; subwords with a smaller number have more check
-- symbols, each has at least 2 t0, at most 48 and fewer than n; the data size counts the data positions, so data
-- symbols have numbers below it.
use Rattle.std.specs.Prelude.{ℕ, zero, suc, ◌+◌, ◌-◌, ◌*◌, ◌≤◌, ◌<◌, ◌≡◌, refl, Bool, true, false, cond, List, leb}
use Rattle.std.specs.Prelude.{get_or, Ok}
use Rattle.std.proofs.Common.{◌∙◌, subst, zero-mul, suc-mul, add-zero, add-suc, arith, leb-true, ltb-true, eqb-true}
use Rattle.std.proofs.Common.{le-leb, lt-ltb, le-ltb, eq-eqb}
use Rattle.std.proofs.Math.Bool.{and-eq-true_iff}
use Rattle.std.proofs.Math.Nat.{sub-zero}
use Rattle.std.proofs.Math.Decide.{dec_lt}
use Rattle.profile.specs.declared.Profile.{Profile}
use Rattle.profile.specs.declared.questions.Caller.{Caller}
use Rattle.profile.specs.declared.questions.Caller.TheVariants.{Encoder, Decoder, Extract, Card}
use Rattle.profile.specs.declared.questions.Lent.{Lent}
use Rattle.profile.specs.Definition.{capability, first-root, last, checks, capability_sum}
use Rattle.profile.specs.Definition.{block_size, data_size, data_start}
use Rattle.profile.specs.Questions.{good_step, good_capabilities, good_rise, good_rising, asked, read, lent}
use Rattle.profile.specs.Questions.{admitted, profile_of, writing, reading_of, extracting}
use Rattle.profile.specs.QuestionsLaws.{Common, Own, asked_yes, admitted_also, admitted-profile, read_length}

pub record Valid (p : Profile) : Type 0 where
  pub subwords : (1 ≤ p.subwords) × (p.subwords ≤ 8)
  pub nested : (p.nested ≤ 3) × (p.nested < p.subwords)
  pub first : 1 ≤ p.t0
  pub second : 0 < p.nested → p.t0 < p.t1
  pub ordered : (r : ℕ) → r < p.nested → capability p r ≤ capability p (suc r)
  pub most : last p ≤ 24
  pub length : (2 * last p < p.length) × (p.length ≤ 255)
  pub root : first-root p ≤ 254

-- ---- from the questions

chosen : (b x y : Bool) → b ≡ true → cond b x y ≡ true → x ≡ true
chosen true x y e h = h
chosen false x y e h = let z : ◌≡◌ {A = ℕ} 0 1 = cc in absurd (omega arith)

-- every part of question 4
parts : (p : Profile) → good_capabilities p ≡ true
    → (good_step p 0 ≡ true) × (good_step p 1 ≡ true) × (good_step p 2 ≡ true) × (good_step p 3 ≡ true)
    × (leb (last p) 24 ≡ true)
parts p good =
    let (s0, g1) = (and-eq-true_iff (good_step p 0) _).0 good in
    let (s1, g2) = (and-eq-true_iff (good_step p 1) _).0 g1 in
    let (s2, g3) = (and-eq-true_iff (good_step p 2) _).0 g2 in
    let (s3, g4) = (and-eq-true_iff (good_step p 3) _).0 g3 in
    (s0, s1, s2, s3, g4)

module _ (p : Profile) (v : p.nested ≤ 3) (good : good_capabilities p ≡ true) where
  step : (r : ℕ) → r ≤ 3 → good_step p r ≡ true
  step zero h = (parts p good).0
  step (suc zero) h = (parts p good).1
  step (suc (suc zero)) h = (parts p good).2
  step (suc (suc (suc zero))) h = (parts p good).3
  step (suc (suc (suc (suc r)))) h = absurd (omega arith)

  second_above : 0 < p.nested → p.t0 < p.t1
  second_above h =
      ltb-true p.t0 p.t1 (chosen (leb 1 p.nested) _ _ (le-leb 1 p.nested h) (step 1 (omega arith)))

  in_order : (r : ℕ) → r < p.nested → capability p r ≤ capability p (suc r)
  in_order zero h = omega (arith, second_above h)
  in_order (suc r) h =
      leb-true (capability p (suc r)) (capability p (suc (suc r)))
      (chosen (leb (suc (suc r)) p.nested) _ _ (le-leb (suc (suc r)) p.nested h)
      (step (suc (suc r)) (omega arith)))

-- n is a byte
pub common-valid : (s : ℕ) (p : Profile) → Common s p → p.length ≤ 255 → Valid p
common-valid s p common small =
    let good = common.capabilities in
    let (m1, m2) = (and-eq-true_iff (leb 1 p.subwords) _).0 common.subwords in
    let (v1, v2) = (and-eq-true_iff (leb p.nested 3) _).0 common.nested in
    let v : p.nested ≤ 3 = leb-true p.nested 3 v1 in
    record {
      subwords = (leb-true _ _ m1, leb-true _ _ m2);
      nested = (v, ltb-true _ _ v2);
      first = leb-true 1 p.t0 (step p v good 0 (omega arith));
      second = second_above p v good;
      ordered = in_order p v good;
      most = leb-true (last p) 24 (parts p good).4;
      length = (ltb-true _ _ common.length_above, small);
      root = leb-true _ _ common.root_below;
    }

pub asked-valid : (c : Caller) (l : Lent) (p q : Profile) → asked c l p ≡ Ok q → p.length ≤ 255 → Valid q
asked-valid c l p q e small =
    let (same, common, _) = asked_yes c l p q e in
    common-valid l.profile q common (subst (λ q. q.length ≤ 255) same small)

-- ---- capabilities that rise

abbrev pub Rising : Profile → Type 0
Rising p = (r : ℕ) → r < p.nested → capability p r < capability p (suc r)

-- a part of question 15
rise_strictly : (p : Profile) (r : ℕ) → good_rise p r ≡ true → r < p.nested → capability p r < capability p (suc r)
rise_strictly p r good h = ltb-true _ _ (rw (le-ltb p.nested (suc r) h) at good)

strictly_rise : (p : Profile) (r : ℕ) → (r < p.nested → capability p r < capability p (suc r)) → good_rise p r ≡ true
strictly_rise p r rises = go (dec_lt r p.nested)
  where
    go : Dec (r < p.nested) → good_rise p r ≡ true
    go (yes h) = rw (le-ltb p.nested (suc r) h, lt-ltb _ _ (rises h))
    go (no h) = rw (lt-ltb p.nested (suc r) (omega arith))

module _ (p : Profile) where
  rising-is : p.nested ≤ 3 → (0 < p.nested → p.t0 < p.t1) → good_rising p ≡ true → Rising p
  rising-is v second good zero h = second h
  rising-is v second good (suc zero) h = rise_strictly p 1 ((and-eq-true_iff (good_rise p 1) _).0 good).0 h
  rising-is v second good (suc (suc zero)) h = rise_strictly p 2 ((and-eq-true_iff (good_rise p 1) _).0 good).1 h
  rising-is v second good (suc (suc (suc r))) h = absurd (omega arith)

  is-rising : Rising p → good_rising p ≡ true
  is-rising rises =
      (and-eq-true_iff (good_rise p 1) _).1 (strictly_rise p 1 (rises 1), strictly_rise p 2 (rises 2))

  pub rising-few : p.nested ≤ 1 → good_rising p ≡ true
  rising-few v =
      (and-eq-true_iff (good_rise p 1) _).1
      (strictly_rise p 1 (λ h. absurd (omega arith)), strictly_rise p 2 (λ h. absurd (omega arith)))

-- ---- sizes

-- what the sizes are for whoever writes or reads a block; n is a byte
module _ (b : List ℕ) (d o : ℕ) (p : Profile) where
  passed : (c : Caller) → admitted c b d o 0 ≡ Ok p → p.length ≤ 255 → Valid p × Own c (lent b d o 0) p
  passed c e small =
      let (_, common, own) = asked_yes c (lent b d o 0) (read b) p e in
      (common-valid _ p common small, own)

  pub writing-passed : writing b d o ≡ Ok p → p.length ≤ 255 → Valid p × (d ≡ data_size p) × (o ≡ block_size p)
  writing-passed e small =
      let (valid, own) = passed Encoder e small in
      (valid, eqb-true d _ own.input_data, eqb-true o _ own.output_block)

  pub reading-passed : reading_of b d o ≡ Ok p → p.length ≤ 255
      → Valid p × (d ≡ block_size p) × (o ≡ block_size p)
  reading-passed e small =
      let (valid, own) = passed Decoder e small in
      (valid, eqb-true d _ own.input_block, eqb-true o _ own.output_block)

  pub extracting-passed : extracting b d o ≡ Ok p → p.length ≤ 255
      → Valid p × (d ≡ block_size p) × (o ≡ data_size p)
  extracting-passed e small =
      let (valid, own) = passed Extract e small in
      (valid, eqb-true d _ own.input_block, eqb-true o _ own.output_data)

  -- the sizes are right
  module _ (accepted : profile_of b ≡ Ok p) where
    pub writing-admitted : Rising p → d ≡ data_size p → o ≡ block_size p → writing b d o ≡ Ok p
    writing-admitted rises input output = admitted_also Card b 0 0 0 p accepted Encoder d o 0 (record {
      rising = is-rising p rises;
      input_data = eq-eqb _ _ input;
      input_block = refl;
      output_block = eq-eqb _ _ output;
      output_data = refl;
      subword_below = refl;
    })

    pub reading-admitted : d ≡ block_size p → o ≡ block_size p → reading_of b d o ≡ Ok p
    reading-admitted input output = admitted_also Card b 0 0 0 p accepted Decoder d o 0 (record {
      rising = refl;
      input_data = refl;
      input_block = eq-eqb _ _ input;
      output_block = eq-eqb _ _ output;
      output_data = refl;
      subword_below = refl;
    })

    pub extracting-admitted : d ≡ block_size p → o ≡ data_size p → extracting b d o ≡ Ok p
    extracting-admitted input output = admitted_also Card b 0 0 0 p accepted Extract d o 0 (record {
      rising = refl;
      input_data = refl;
      input_block = eq-eqb _ _ input;
      output_block = refl;
      output_data = eq-eqb _ _ output;
      subword_below = refl;
    })

-- what a writer accepts: d bytes of data, and a block of o bytes
module _ (b : List ℕ) (d o : ℕ) (p : Profile) (e : writing b d o ≡ Ok p) where
  pub writing-rising : Rising p
  writing-rising =
      let (_, common, own) = asked_yes Encoder (lent b d o 0) (read b) p e in
      let v : p.nested ≤ 3 = leb-true _ _ ((and-eq-true_iff (leb p.nested 3) _).0 common.nested).0 in
      rising-is p v (second_above p v common.capabilities) own.rising

  -- is accepted by a reader, and by one who reads the data
  pub writing_reads : (reading_of b o o ≡ Ok p) × (extracting b o d ≡ Ok p)
  writing_reads =
      let (_, _, own) = asked_yes Encoder (lent b d o 0) (read b) p e in
      let profile = admitted-profile Encoder b d o 0 p e in
      let input = eqb-true d _ own.input_data in
      let output = eqb-true o _ own.output_block in
      (reading-admitted b o o p profile output output, extracting-admitted b o d p profile output input)

-- byte 2 of a profile is the length, if there is one
pub admitted-valid : (c : Caller) (b : List ℕ) (d o i : ℕ) (q : Profile)
    → admitted c b d o i ≡ Ok q → get_or b 2 0 ≤ 255
    → Valid q
admitted-valid c b d o i q e small = asked-valid c (lent b d o i) (read b) q e (read_length b small)

-- ---- check symbols

pub checks-high : (p : Profile) (i : ℕ) → p.nested ≤ i → checks p i ≡ 2 * p.t0
checks-high p i h = rw (le-ltb i p.nested h)

-- v - i is 0 from subword v on
pub checks-is : (p : Profile) (i : ℕ) → checks p i ≡ 2 * capability p (p.nested - i)
checks-is p i = go (dec_lt i p.nested)
  where
    go : Dec (i < p.nested) → checks p i ≡ 2 * capability p (p.nested - i)
    go (yes h) = rw (lt-ltb i p.nested h)
    go (no h) = let e : p.nested - i ≡ 0 = omega arith in checks-high p i (omega arith) ∙ rw e

module _ (p : Profile) (ok : Valid p) where
  climb : (s r : ℕ) → r + s ≤ p.nested → capability p r ≤ capability p (r + s)
  climb zero r h = rw add-zero (omega arith)
  climb (suc s) r h = rw add-suc (omega (arith, climb s r (omega arith), ok.ordered (r + s) (omega arith)))

  pub capability_mono : (r s : ℕ) → r ≤ s → s ≤ p.nested → capability p r ≤ capability p s
  capability_mono r s h k = let e : s ≡ r + (s - r) = omega arith in rw e (climb (s - r) r (omega arith))

  pub capability-most : (r : ℕ) → r ≤ p.nested → capability p r ≤ 24
  capability-most r h = omega (arith, ok.most, capability_mono r p.nested h (omega arith))

  pub checks_mono : (l i : ℕ) → l ≤ i → checks p i ≤ checks p l
  checks_mono l i h = rw (checks-is p i, checks-is p l)
      (omega (arith, capability_mono (p.nested - i) (p.nested - l) (omega arith) (omega arith)))

  pub checks-least : (i : ℕ) → 2 * p.t0 ≤ checks p i
  checks-least i = rw (checks-is p i) (omega (arith, capability_mono 0 (p.nested - i) (omega arith) (omega arith)))

  pub checks-some : (i : ℕ) → 1 ≤ checks p i
  checks-some i = omega (arith, checks-least i, ok.first)

  checks-last : (i : ℕ) → checks p i ≤ 2 * last p
  checks-last i =
      rw (checks-is p i) (omega (arith, capability_mono (p.nested - i) p.nested (omega arith) (omega arith)))

  pub checks-most : (i : ℕ) → checks p i ≤ 48
  checks-most i = omega (arith, checks-last i, ok.most)

  pub checks-below : (i : ℕ) → checks p i < p.length
  checks-below i = omega (arith, checks-last i, ok.length.0)

  -- ---- the data size

  -- the data of the first i subwords, i at most v
  start-low : (i : ℕ) → i ≤ p.nested
      → data_start p i + 2 * capability_sum p p.nested ≡ i * p.length + 2 * capability_sum p (p.nested - i)
  start-low zero h = rw (zero-mul, sub-zero)
  start-low (suc i) h =
      let e : p.nested - i ≡ suc (p.nested - suc i) = omega arith in
      let ih : data_start p i + 2 * capability_sum p p.nested
      ≡ i * p.length + 2 * capability_sum p (suc (p.nested - suc i)) =
      start-low i (omega arith) ∙ rw e in
      let c : checks p i ≡ 2 * capability p (suc (p.nested - suc i)) = checks-is p i ∙ rw e in
      omega (arith, ih, c, checks-below i, suc-mul i p.length)

  -- and k subwords more
  start-high : (k : ℕ)
      → data_start p (p.nested + k) + 2 * capability_sum p p.nested + 2 * (k * p.t0) ≡ (p.nested + k) * p.length
  start-high zero =
      let e : p.nested - p.nested ≡ 0 = omega arith in
      rw add-zero (omega (arith, rw e at (start-low p.nested (omega arith)), zero-mul p.t0))
  start-high (suc k) =
      let c : checks p (p.nested + k) ≡ 2 * p.t0 = checks-high p (p.nested + k) (omega arith) in
      rw add-suc (omega (
        arith,
        start-high k,
        c,
        checks-below (p.nested + k),
        suc-mul (p.nested + k) p.length,
        suc-mul k p.t0,
      ))

  -- the data size counts the data positions
  pub data_size-is : data_start p p.subwords ≡ data_size p
  data_size-is =
      let e : p.nested + (p.subwords - p.nested) ≡ p.subwords = omega arith in
      omega (arith, rw e at (start-high (p.subwords - p.nested)))

  start_climbs : (k i : ℕ) → data_start p i ≤ data_start p (i + k)
  start_climbs zero i = rw add-zero (omega arith)
  start_climbs (suc k) i = rw add-suc (omega (arith, start_climbs k i))

  pub data_start-most : (i : ℕ) → i ≤ p.subwords → data_start p i ≤ data_size p
  data_start-most i h =
      let e : i + (p.subwords - i) ≡ p.subwords = omega arith in
      omega (arith, rw e at (start_climbs (p.subwords - i) i), data_size-is)
