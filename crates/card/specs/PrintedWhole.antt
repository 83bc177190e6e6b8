-- Section after section, the list of the card is printed.
--
--   Run s c o    judging that begins where the section s comes next, with the rest c of a card, print the text o: each
--                is given as many bytes as are wanted, or what is left of the card
--
-- Proved: judging that takes the step of its section prints what it has to (judges), and leads to a section that a card
-- leads to (step-good); runs print what is to be printed (run-says), so from the start of a card they print its list
-- (list-printed). How short the reads were that brought the bytes of a section does not enter. A card without a profile
-- has the list of the card with the seven bytes that no bytes stand for (none-printed), and one with seven bytes that
-- of the card with an eighth byte of 1 (seven-printed).
use Rattle.std.specs.Prelude.{ℕ, ◌≤◌, ◌<◌, ◌≡◌, refl, Bool, true, false, cond, List, [], ◌∷◌, ◌++◌, ltb, length, get_or}
use Rattle.std.specs.Prelude.{take, drop}
use Rattle.std.proofs.Common.{sym, ap, ap₂, ◌∙◌, subst, arith, lt-ltb, le-ltb, length-append, take_at}
use Rattle.std.proofs.Math.Path.{subst⁻¹}
use Rattle.profile.specs.declared.questions.Caller.TheVariants.{Card}
use Rattle.profile.specs.Questions.{profile_of}
use Rattle.profile.specs.QuestionsLaws.{none_means, none-accepted, seven_means}
use Rattle.card.specs.declared.section.Section.{Section}
use Rattle.card.specs.declared.section.Section.TheVariants.{Size, Over}
use Rattle.card.specs.declared.section.Judged.{Judged}
use Rattle.card.specs.SectionDefinition.{good, known, size, wanted, Takes}
use Rattle.card.specs.SectionLaws.{known-good, good-known}
use Rattle.card.specs.PrintedDefinition.{profile_judged, sized, printed}
use Rattle.card.specs.PrintedStep.{whole, cut, step, after, rest, Judges}
use Rattle.card.specs.PrintedFollows.{follows, cut-good, whole-good, section-whole, none-profiled}
use Rattle.card.specs.PrintedFalls.{step_falls}

-- the two ways of a step
pub step_cut : (s : Section) (y : List ℕ) → length y < size s → cut s ≡ step s y
step_cut s y h = sym (ap (λ b. cond b (cut s) (whole s (take (size s) y))) (lt-ltb (length y) (size s) h))

pub step-whole : (s : Section) (y : List ℕ) → size s ≤ length y → whole s (take (size s) y) ≡ step s y
step-whole s y h = sym (ap (λ b. cond b (cut s) (whole s (take (size s) y))) (le-ltb (length y) (size s) h))

module _ (s : Section) (y l m : List ℕ) (t : Judged) (h : Takes (step (known s) y) l t m) where
  taken : take t.size m ≡ (step (known s) y).text
  taken = ap (take t.size) h.line.says
      ∙ take_at (step (known s) y).text (drop t.size l) t.size (sym h.line.size)

  inside : t.size ≤ length m
  inside =
      omega (arith, h.line.size, ap length h.line.says, length-append (step (known s) y).text (drop t.size l))

  pub judges : ((j : ℕ) → get_or y j 0 ≤ 255) → Judges s y l t m
  judges small = record {
    takes = h;
    size = inside;
    falls = λ o. rw h.next (step_falls s y small o);
    says = λ c e.
        let x = follows (known s) y c (known-good s) e in
        let next : known t.next ≡ (step (known s) y).next = ap known h.next
        ∙ good-known (step (known s) y).next x.good in
        x.says ∙ ap₂ ◌++◌ (sym taken) (ap (λ n. after n (drop (wanted s) c)) (sym next));
  }

-- of a section that a card leads to
pub judges-good : (s : Section) (y l m : List ℕ) (t : Judged) → good s ≡ true → Takes (step s y) l t m
    → ((j : ℕ) → get_or y j 0 ≤ 255)
    → Judges s y l t m
judges-good s y l m t g h = judges s y l m t (subst⁻¹ (λ r. Takes (step r y) l t m) (good-known s g) h)

pub step-good : (s : Section) (y l m : List ℕ) (t : Judged)
    → good s ≡ true → Takes (step s y) l t m → good t.next ≡ true
step-good s y l m t g h = ap good h.next ∙ go (ltb (length y) (size s))
  where
    go : (b : Bool) → good (cond b (cut s) (whole s (take (size s) y))).next ≡ true
    go true = cut-good s
    go false = whole-good s (take (size s) y) g

-- what holds of the section that is known in place of another holds of that
pub judges-known : (s r : Section) (y l m : List ℕ) (t : Judged) → r ≡ known s → Judges r y l t m
    → ((j : ℕ) → get_or y j 0 ≤ 255) → Judges s y l t m
judges-known s r y l m t e h = judges s y l m t (subst (λ r. Takes (step r y) l t m) is h.takes)
  where
    is : known r ≡ known s
    is = ap known e ∙ good-known (known s) (known-good s)

pub data Run : Section → List ℕ → List ℕ → Type 0 where
  over : (c : List ℕ) → Run Over c []
  next : (s : Section) (c o l : List ℕ) (t : Judged) (m : List ℕ) → Judges s (take (wanted s) c) l t m
      → Run t.next (drop (wanted s) c) o
      → Run s c (take t.size m ++ o)

pub run-says : (s : Section) (c o : List ℕ) → Run s c o → o ≡ rest s c
run-says _ _ _ (over c) = refl
run-says _ _ _ (next s c p l t m h r) =
    ap (λ (u : List ℕ). take t.size m ++ u) (run-says t.next (drop (wanted s) c) p r) ∙ sym (h.says c refl)

pub list-printed : (c o : List ℕ) → Run Size c o → o ≡ printed c
list-printed c o r = run-says Size c o r

-- ---- what the bytes of a profile may be written as

first_byte : (n : ℕ) (d : List ℕ) → printed (n ∷ d) ≡ sized n d
first_byte n d = section-whole 1 (n ∷ d) (λ b. sized (get_or b 0 0)) (omega arith)

-- left out
pub none-printed : (c : List ℕ) → printed (0 ∷ c) ≡ printed (7 ∷ 8 ∷ 3 ∷ 255 ∷ 14 ∷ 16 ∷ 18 ∷ 24 ∷ c)
none-printed c =
    first_byte 0 c ∙ none-profiled c
    ∙ sym (first_byte 7 (8 ∷ 3 ∷ 255 ∷ 14 ∷ 16 ∷ 18 ∷ 24 ∷ c)
    ∙ section-whole 7 (8 ∷ 3 ∷ 255 ∷ 14 ∷ 16 ∷ 18 ∷ 24 ∷ c) (λ b. profile_judged (profile_of b)) (omega arith)
    ∙ ap (λ a. profile_judged a c) (sym (none_means Card 0 0 0) ∙ none-accepted))

-- without a first root
pub seven-printed : (m v n t0 t1 t2 t3 : ℕ) (c : List ℕ)
    → printed (7 ∷ m ∷ v ∷ n ∷ t0 ∷ t1 ∷ t2 ∷ t3 ∷ c) ≡ printed (8 ∷ m ∷ v ∷ n ∷ t0 ∷ t1 ∷ t2 ∷ t3 ∷ 1 ∷ c)
seven-printed m v n t0 t1 t2 t3 c =
    first_byte 7 (m ∷ v ∷ n ∷ t0 ∷ t1 ∷ t2 ∷ t3 ∷ c)
    ∙ section-whole 7 (m ∷ v ∷ n ∷ t0 ∷ t1 ∷ t2 ∷ t3 ∷ c) (λ b. profile_judged (profile_of b)) (omega arith)
    ∙ ap (λ a. profile_judged a c) (seven_means Card m v n t0 t1 t2 t3 0 0 0)
    ∙ sym (first_byte 8 (m ∷ v ∷ n ∷ t0 ∷ t1 ∷ t2 ∷ t3 ∷ 1 ∷ c)
    ∙ section-whole 8 (m ∷ v ∷ n ∷ t0 ∷ t1 ∷ t2 ∷ t3 ∷ 1 ∷ c) (λ b. profile_judged (profile_of b)) (omega arith))
