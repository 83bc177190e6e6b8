-- Laws of the numbers that are handed out.
--
-- Proved: a size is 0 exactly if the profile is refused (size-refuses; data-some, block-some); the part of a fetch
-- stands where its start says (part-stands), and only the empty one has size 0 (size-empty); an accepted fetch has an
-- accepted profile (fetched-small, start-accepted, start-refused); data are read by reading the block (gives-zero,
-- keeps-other, data-read, lent_front, extracted-fits, extracted-small, read-refused, read_given); any other number
-- names the plain form (form-other); a buffer is filled with what a reading tells, if that is no refusal
-- (numbers-filled).
use Rattle.std.specs.Prelude.{ℕ, zero, suc, ◌+◌, ◌-◌, ◌*◌, ◌≤◌, ◌<◌, ◌≡◌, refl, List, [], ◌∷◌, ◌++◌, eqb, length}
use Rattle.std.specs.Prelude.{get_or, take, drop, Ok, Err}
use Rattle.std.proofs.Common.{sym, ap, ap₂, ◌∙◌, mul-le-mul_right, one-mul, arith, ne_eqb, length-take-le, take_at}
use Rattle.std.proofs.Math.Path.{fun_ext}
use Rattle.std.proofs.Math.Seq.{length_front}
use Rattle.profile.specs.declared.Profile.{Profile}
use Rattle.profile.specs.declared.Refusal.{Refusal}
use Rattle.profile.specs.declared.questions.Caller.TheVariants.{Fetch, Extract, Card}
use Rattle.profile.specs.Definition.{Parsed, Answer, answer_of, block_size, data_size, unless_refused}
use Rattle.profile.specs.Questions.{profile_of, fetching, extracting}
use Rattle.profile.specs.QuestionsLaws.{admitted-profile}
use Rattle.profile.specs.Valid.{Valid, admitted-valid, extracting-passed, reading-admitted, checks-below}
use Rattle.profile.specs.Valid.{data_start-most}
use Rattle.profile.specs.LayoutDefinition.{if_accepted, start}
use Rattle.profile.specs.FetchDefinition.{part, empty, refuses}
use Rattle.profile.specs.FetchLaws.{fetching-below}
use Rattle.solver.specs.declared.Form.{Form}
use Rattle.solver.specs.declared.Form.TheVariants.{Plain}
use Rattle.stages.specs.Report.{says, Tells}
use Rattle.stages.specs.declared.report.Report.{Report}
use Rattle.series.specs.Array.{bytes}
use Rattle.block.specs.Parts.{Fits, inside}
use Rattle.block.specs.Gather.{data_of}
use Rattle.staged_decoding.specs.Definition.{Outcome, accepted, failed, foreign, decode}
use Rattle.decoder.specs.Definition.{Result, concluded, result_of, reading, extraction}
use Rattle.decoder.specs.Definition.{answer_to, block_of, data_in, report_of}
use Rattle.profile.specs.Laws.{gives-accepted}
use Rattle.gii.specs.NumbersDefinition.{result_number, listed, filled}
use Rattle.gii.specs.Definition.{Stands, form_of, numbers, reported}

-- ---- sizes

module _ (p : Profile) (ok : Valid p) where
  pub data-some : 0 < data_size p
  data-some = omega (arith, checks-below p ok 0, data_start-most p ok 1 ok.subwords.0)

  pub block-some : 0 < block_size p
  block-some = omega (arith, checks-below p ok 0, mul-le-mul_right p.length ok.subwords.0, one-mul p.length)

-- n is a byte
pub size-refuses : (f : Profile → ℕ) → ((p : Profile) → Valid p → 0 < f p) → (b : List ℕ) → get_or b 2 0 < 256
    → eqb (if_accepted f (profile_of b)) 0 ≡ refuses (answer_of (profile_of b))
size-refuses f some b small = go (profile_of b) refl
  where
    go : (a : Parsed) → profile_of b ≡ a → eqb (if_accepted f a) 0 ≡ refuses (answer_of a)
    go (Ok p) e = ne_eqb (f p) 0 (λ z. omega (arith, some p (admitted-valid Card b 0 0 0 p e (omega arith))))
    go (Err q) e = refl

-- ---- parts

pub size-empty : (l : List ℕ) → eqb (length l) 0 ≡ empty l
size-empty [] = refl
size-empty (x ∷ l) = ne_eqb (length (x ∷ l)) 0 (λ z. omega arith)

take_taken : (n : ℕ) (l : List ℕ) → take (length (take n l)) l ≡ take n l
take_taken zero l = refl
take_taken (suc n) [] = refl
take_taken (suc n) (x ∷ l) = ap (◌∷◌ x) (take_taken n l)

pub part-stands : (a : Parsed) (i n : ℕ) (block : List ℕ) → n ≡ if_accepted (λ p. start p i) a → Stands a i block n
part-stands a i n block e =
    let m : ℕ = length (part a i block) in
    let s : n + m - n ≡ m = omega arith in
    ap (λ (k : ℕ). take k (drop n block)) s ∙ ap (λ (k : ℕ). take m (drop k block)) e ∙ go a
  where
    go : (a : Parsed) → take (length (part a i block)) (drop (if_accepted (λ p. start p i) a) block) ≡ part a i block
    go (Ok p) = take_taken ((i + 1) * p.length - start p i) (drop (start p i) block)
    go (Err q) = refl

-- what an answer says of the questions
accepted-of : (a : Parsed) → answer_of a ≡ Ok tt → (p : Profile) × (a ≡ Ok p)
accepted-of (Ok p) e = (p, refl)
accepted-of (Err q) e = let z : ◌≡◌ {A = ℕ} 0 1 = cc in absurd (omega arith)

refused-of : (a : Parsed) (q : Refusal) → answer_of a ≡ Err q → a ≡ Err q
refused-of (Ok p) q e = let z : ◌≡◌ {A = ℕ} 0 1 = cc in absurd (omega arith)
refused-of (Err r) q e = cc

module _ (b : List ℕ) (s i : ℕ) where
  -- an accepted fetch is one of an accepted profile
  fetched : answer_of (fetching b s i) ≡ Ok tt
      → (p : Profile) × (fetching b s i ≡ Ok p) × (profile_of b ≡ Ok p) × (i < p.subwords)
  fetched e =
      let (p, is) = accepted-of (fetching b s i) e in
      (p, is, admitted-profile Fetch b s 0 i p is, fetching-below b s i p is)

  pub fetched-small : answer_of (fetching b s i) ≡ Ok tt → ((k : ℕ) → get_or b k 0 < 256) → i < 256
  fetched-small e small =
      let (p, _, is, below) = fetched e in
      omega (arith, (admitted-valid Card b 0 0 0 p is (omega (arith, small 2))).subwords)

  pub start-accepted : (n : ℕ) → answer_of (fetching b s i) ≡ Ok tt
      → n ≡ if_accepted (λ p. start p i) (profile_of b)
      → n ≡ if_accepted (λ p. start p i) (fetching b s i)
  start-accepted n e is = let (p, f, g, _) = fetched e in is ∙ ap (if_accepted (λ p. start p i)) (g ∙ sym f)

  pub start-refused : (q : Refusal) → answer_of (fetching b s i) ≡ Err q
      → 0 ≡ if_accepted (λ p. start p i) (fetching b s i)
  start-refused q e = sym (ap (if_accepted (λ p. start p i)) (refused-of (fetching b s i) q e))

-- ---- data that are read

-- the number of a result says whether it is a refusal
module _ (x o : List ℕ) where
  pub gives-zero : (a : Answer) → result_number a ≡ 0 → x ≡ unless_refused a x o
  gives-zero a e = gives-accepted x o a (omega (arith, e))

  pub keeps-other : (a : Answer) → (result_number a ≡ 0 → ⊥) → o ≡ unless_refused a x o
  keeps-other (Ok tt) e = absurd (e refl)
  keeps-other (Err q) e = refl

-- the data of a block that was read, by its answer; s is what the output for the block held
pub data-read : (p : Profile) (z : Outcome) (s o : List ℕ)
    → unless_refused (answer_to (concluded p z)) (data_of p (block_of (concluded p z) s)) o ≡ data_in (concluded p z) o
data-read p (accepted d x) s o = refl
data-read p (failed r) s o = refl
data-read p foreign s o = refl

-- the first n entries of an array were lent, and are e now
pub lent_front : (n : ℕ) (l e : List ℕ) → n ≤ length l → length e ≡ length (take n l)
    → (n ≤ length (e ++ drop n l)) × (take n (e ++ drop n l) ≡ e) × (length e ≡ n)
lent_front n l e h k =
    let size = k ∙ length-take-le n l h in
    (omega (arith, length_front l e n k), take_at e (drop n l) n size, size)

module _ (b y : List ℕ) (o : ℕ) (p : Profile) (e : extracting b (length y) o ≡ Ok p)
    (small : get_or b 2 0 ≤ 255) where
  pub extracted-fits : Fits p y × (o ≡ data_size p)
  extracted-fits =
      let valid = admitted-valid Extract b (length y) o 0 p e small in
      let (ok, size, room) = extracting-passed b (length y) o p e valid.length.1 in
      (record { valid = ok; size = size }, room)

  pub extracted-small : length y ≤ 2040
  extracted-small = (inside p y 0 extracted-fits.0 extracted-fits.0.valid.subwords.0).1

  abbrev outcome : Outcome
  outcome = decode p (bytes y)

  extraction-read : extraction b y o ≡ concluded p outcome
  extraction-read = ap (λ a. result_of a y) e

  -- n is the number of the result of reading the block to an output of k bytes, which held s
  module _ (n k : ℕ) (s q : List ℕ) (room : k ≡ length y) (is : n ≡ result_number (answer_to (reading b y k))) where
    -- it is what reading the block comes to
    reading-read : reading b y k ≡ concluded p outcome
    reading-read =
        let size = extracted-fits.0.size in
        ap (λ a. result_of a y)
        (reading-admitted b (length y) k p (admitted-profile Extract b (length y) o 0 p e) size (room ∙ size))

    number : n ≡ result_number (answer_to (concluded p outcome))
    number = is ∙ ap (λ r. result_number (answer_to r)) reading-read

    result : n ≡ result_number (answer_to (extraction b y o))
    result = number ∙ ap (λ r. result_number (answer_to r)) (sym extraction-read)

    given : unless_refused (answer_to (concluded p outcome)) (data_of p (block_of (concluded p outcome) s)) q
        ≡ data_in (extraction b y o) q
    given = data-read p outcome s q ∙ ap (λ r. data_in r q) (sym extraction-read)

    pub read-refused : (n ≡ 0 → ⊥)
        → (n ≡ result_number (answer_to (extraction b y o))) × (q ≡ data_in (extraction b y o) q)
    read-refused no_zero =
        (result, keeps-other _ q (answer_to (concluded p outcome)) (λ z. no_zero (number ∙ z)) ∙ given)

    pub read_given : (whole d : List ℕ) → n ≡ 0 → whole ≡ block_of (reading b y k) s → d ≡ data_of p whole
        → (n ≡ result_number (answer_to (extraction b y o))) × (d ≡ data_in (extraction b y o) q)
    read_given whole d zero-n block gathered =
        let same : data_of p whole ≡ data_of p (block_of (concluded p outcome) s) =
        ap (data_of p) (block ∙ ap (λ r. block_of r s) reading-read) in
        (result, gathered ∙ same ∙ gives-zero _ q (answer_to (concluded p outcome)) (sym number ∙ zero-n) ∙ given)

-- ---- forms

pub form-other : (n : ℕ) → (n ≡ 1 → ⊥) → (n ≡ 2 → ⊥) → Plain ≡ form_of n
form-other zero h k = refl
form-other (suc zero) h k = absurd (h refl)
form-other (suc (suc zero)) h k = absurd (k refl)
form-other (suc (suc (suc n))) h k = refl

-- ---- reports

-- in whatever form
pub numbers-filled : (f : Form) (r : Result) (x : Report) (a : Answer) (l b e : List ℕ) → a ≡ answer_to r
    → Tells f (report_of r) x
    → l ≡ listed x.last x.changed x.bits (says x.lines) → e ≡ unless_refused a (filled l b) b
    → e ≡ reported r b
numbers-filled f r x a l b e is tells list end = end ∙ ap₂ (λ a l. unless_refused a (filled l b) b) is (list ∙ told)
  where
    told : listed x.last x.changed x.bits (says x.lines) ≡ numbers r
    told = rw (tells.last, tells.changed, tells.bits, fun_ext tells.lines)
