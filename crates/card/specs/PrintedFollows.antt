-- A step prints what is to be printed.
--
--   Follows x a d    the step x leads to a section that a card can lead to; and a, what was to be printed, is the text
--                    of x, and what is printed for the rest d
--
-- Proved: every step of a section that a card can lead to does so (follows), whether it is cut or whole (cut-good,
-- whole-good). A section that is whole (section-whole); one of no bytes, after which the count comes (none-profiled).
use Rattle.std.specs.Prelude.{ℕ, zero, suc, ◌+◌, ◌-◌, ◌≤◌, ◌<◌, ◌≡◌, refl, Bool, true, false, cond, List, [], ◌∷◌, ◌++◌}
use Rattle.std.specs.Prelude.{eqb, ltb, length, get_or, take, drop, Ok, Err}
use Rattle.std.proofs.Common.{sym, ap, ap₂, ◌∙◌, true≢false, append-nil, arith, ltb-true, ltb-false, lt-ltb, le-ltb}
use Rattle.std.proofs.Common.{eqb-true, length-take-le, take_all}
use Rattle.std.proofs.Math.Path.{subst⁻¹}
use Rattle.std.proofs.Math.Logic.{by_cases}
use Rattle.std.proofs.Math.Bool.{and-eq-true_iff}
use Rattle.std.proofs.Math.Nat.{sub-zero}
use Rattle.std.proofs.Math.Decide.{dec_lt}
use Rattle.std.proofs.lemmas.Bool.{eqb-false}
use Rattle.profile.specs.declared.Profile.{Profile}
use Rattle.profile.specs.Definition.{Parsed, number_of, block_size}
use Rattle.profile.specs.Questions.{good_size, factory, profile_of}
use Rattle.profile.specs.QuestionsLaws.{none-accepted}
use Rattle.listing.specs.Definition.{blocks_line, card_line}
use Rattle.card.specs.declared.section.Section.{Section}
use Rattle.card.specs.declared.section.Section.TheVariants.{Size, Bytes, Count, Block, End, Over}
use Rattle.card.specs.SectionDefinition.{accepts, good, size, ends, from, Step, silent, refusal}
use Rattle.card.specs.SectionLaws.{profile-accepts}
use Rattle.card.specs.HeadingDefinition.{size_step, profile_step, count_step}
use Rattle.card.specs.BlockLineDefinition.{block_line}
use Rattle.card.specs.PrintedDefinition.{section, blocks, count_of, counted, profile_judged, profiled, sized}
use Rattle.card.specs.PrintedStep.{whole, cut, step, after}

pub record Follows (x : Step) (a d : List ℕ) : Type 0 where
  pub good : good x.next ≡ true
  pub says : a ≡ x.text ++ after x.next d

refused : (q : ℕ) (d : List ℕ) → Follows (refusal q) (card_line q) d
refused q d = record { good = refl; says = sym (append-nil (card_line q)) }

pick : (b : Bool) {x z : Step} {u v d : List ℕ} → (b ≡ true → Follows x u d) → (b ≡ false → Follows z v d)
    → Follows (cond b x z) (cond b u v) d
pick true h g = h refl
pick false h g = g refl

-- ---- what comes next

pub section-whole : (n : ℕ) (c : List ℕ) (f : List ℕ → List ℕ → List ℕ) → n ≤ length c
    → section n c f ≡ f (take n c) (drop n c)
section-whole n c f h = ap (λ b. cond b (card_line 11) (f (take n c) (drop n c))) (le-ltb (length c) n h)

-- a profile of no bytes is there at once
pub none-profiled : (d : List ℕ) → profiled 0 d ≡ counted factory d
none-profiled d =
    section-whole 0 d (λ b. profile_judged (profile_of b)) (omega arith) ∙ ap (λ a. profile_judged a d) none-accepted

size_follows : (n : ℕ) (d : List ℕ) → Follows (size_step n) (sized n d) d
size_follows n d = go (eqb n 0) (good_size n) refl refl
  where
    go : (b g : Bool) → eqb n 0 ≡ b → good_size n ≡ g
        → Follows (cond b (silent (Count factory)) (cond g (silent (Bytes n)) (refusal 1)))
        (cond g (profiled n d) (card_line 1)) d
    go true true e h = record {
      good = profile-accepts [] factory none-accepted;
      says = ap (λ (k : ℕ). profiled k d) (eqb-true n 0 e) ∙ none-profiled d;
    }
    go true false e h = absurd (true≢false (sym (ap good_size (eqb-true n 0 e)) ∙ h))
    go false true e h = record { good = rw (lt-ltb 0 n (omega (arith, eqb-false n 0 e)), h); says = refl }
    go false false e h = refused 1 d

profile_follows : (y d : List ℕ) → Follows (profile_step (profile_of y)) (profile_judged (profile_of y) d) d
profile_follows y d = go (profile_of y) refl
  where
    go : (a : Parsed) → profile_of y ≡ a → Follows (profile_step a) (profile_judged a d) d
    go (Ok p) h = record { good = profile-accepts y p h; says = refl }
    go (Err q) h = refused (number_of q) d

-- block i out of k, or the end
from-good : (p : Profile) (i k : ℕ) → accepts p ≡ true → good (from p i k) ≡ true
from-good p i k a = go (ltb i k) refl
  where
    go : (b : Bool) → ltb i k ≡ b → good (cond b (Block p i k) End) ≡ true
    go true h = rw (h, a)
    go false h = refl

from-after : (p : Profile) (i k : ℕ) (d : List ℕ) → blocks p (k - i) i d ≡ after (from p i k) d
from-after p i k d = go (ltb i k) refl
  where
    none : k ≤ i → k - i ≡ 0
    none h = omega arith

    go : (b : Bool) → ltb i k ≡ b → blocks p (k - i) i d ≡ after (cond b (Block p i k) End) d
    go true h = refl
    go false h = ap (λ (r : ℕ). blocks p r i d) (none (ltb-false i k h))

count_follows : (p : Profile) (k : ℕ) (d : List ℕ) → accepts p ≡ true
    → Follows (count_step p k) (blocks_line k ++ blocks p k 0 d) d
count_follows p k d a = record {
  good = from-good p 0 k a;
  says =
      ap (λ (u : List ℕ). blocks_line k ++ u) (ap (λ (r : ℕ). blocks p r 0 d) (sym (sub-zero k)) ∙ from-after p 0 k d);
}

block_follows : (p : Profile) (i k : ℕ) (y d : List ℕ) → accepts p ≡ true
    → Follows (whole (Block p i k) y) (block_line p i y ++ blocks p (k - suc i) (suc i) d) d
block_follows p i k y d a =
    let next : suc i ≡ i + 1 = omega arith in
    record {
      good = from-good p (i + 1) k a;
      says = ap (◌++◌ (block_line p i y)) (ap (λ (j : ℕ). blocks p (k - j) j d) next ∙ from-after p (i + 1) k d);
    }

-- ---- the bytes of a section, at the front of a card

front_length : (n : ℕ) (c : List ℕ) → ltb (length (take n c)) n ≡ ltb (length c) n
front_length n c =
    by_cases (dec_lt (length c) n)
    (λ h. ap (λ (l : List ℕ). ltb (length l) n) (take_all n c (omega arith)))
    (λ h. le-ltb (length (take n c)) n (omega (arith, length-take-le n c (omega arith)))
    ∙ sym (le-ltb (length c) n (omega arith)))

front_front : (n : ℕ) (c : List ℕ) → take n (take n c) ≡ take n c
front_front zero c = refl
front_front (suc n) [] = refl
front_front (suc n) (a ∷ c) = ap (λ (l : List ℕ). a ∷ l) (front_front n c)

step_front : (s : Section) (c : List ℕ)
    → step s (take (size s) c) ≡ cond (ltb (length c) (size s)) (cut s) (whole s (take (size s) c))
step_front s c = ap₂ (λ b y. cond b (cut s) (whole s y)) (front_length (size s) c) (front_front (size s) c)

one_less : (i k : ℕ) → i < k → k - i ≡ suc (k - suc i)
one_less i k h = omega arith

front : (s : Section) (c : List ℕ) → good s ≡ true
    → Follows (cond (ltb (length c) (size s)) (cut s) (whole s (take (size s) c))) (after s c) (drop (size s) c)
front Size c g =
    pick (ltb (length c) 1) (λ _. refused 11 (drop 1 c)) (λ _. size_follows (get_or (take 1 c) 0 0) (drop 1 c))
front (Bytes n) c g =
    pick (ltb (length c) n) (λ _. refused 11 (drop n c)) (λ _. profile_follows (take n c) (drop n c))
front (Count p) c g =
    pick (ltb (length c) 2) (λ _. refused 11 (drop 2 c)) (λ _. count_follows p (count_of (take 2 c)) (drop 2 c) g)
front (Block p i k) c g =
    let (l, a) = (and-eq-true_iff (ltb i k) _).0 g in
    let n = block_size p in
    subst⁻¹ (λ (r : ℕ).
    Follows (cond (ltb (length c) n) (refusal 11) (whole (Block p i k) (take n c))) (blocks p r i c) (drop n c))
    (one_less i k (ltb-true i k l))
    (pick (ltb (length c) n) (λ _. refused 11 (drop n c)) (λ _. block_follows p i k (take n c) (drop n c) a))
front End c g = pick (ltb (length c) 1) (λ _. record { good = refl; says = refl }) (λ _. refused 12 (drop 1 c))
front Over c g = go (ltb (length c) 0)
  where
    go : (b : Bool) → Follows (cond b (silent Over) (silent Over)) [] (drop 0 c)
    go true = record { good = refl; says = refl }
    go false = record { good = refl; says = refl }

pub follows : (s : Section) (y c : List ℕ) → good s ≡ true → y ≡ take (size s) c
    → Follows (step s y) (after s c) (drop (size s) c)
follows s y c g e =
    subst⁻¹ (λ x. Follows x (after s c) (drop (size s) c)) (ap (step s) e ∙ step_front s c) (front s c g)

-- ---- what comes next is good

pub cut-good : (s : Section) → good (cut s).next ≡ true
cut-good s = go (ends s)
  where
    go : (b : Bool) → good (cond b (silent Over) (refusal 11)).next ≡ true
    go true = refl
    go false = refl

pub whole-good : (s : Section) (y : List ℕ) → good s ≡ true → good (whole s y).next ≡ true
whole-good Size y g = (size_follows (get_or y 0 0) []).good
whole-good (Bytes n) y g = (profile_follows y []).good
whole-good (Count p) y g = (count_follows p (count_of y) [] g).good
whole-good (Block p i k) y g = (block_follows p i k y [] ((and-eq-true_iff (ltb i k) _).0 g).1).good
whole-good End y g = refl
whole-good Over y g = refl
