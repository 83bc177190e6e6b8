-- Sections come to an end.
--
-- Proved: some sections are left, unless all is printed (some_left); a step brings the end nearer (step_falls), for
-- bytes that are below 256.
use Rattle.std.specs.Prelude.{ℕ, suc, ◌+◌, ◌-◌, ◌≤◌, ◌<◌, ◌≡◌, refl, Bool, true, false, cond, List, eqb, ltb, length}
use Rattle.std.specs.Prelude.{get_or, take, Ok, Err}
use Rattle.std.proofs.Common.{true≢false, arith, ltb-true, get_or-take}
use Rattle.profile.specs.declared.Profile.{Profile}
use Rattle.profile.specs.Definition.{Parsed}
use Rattle.profile.specs.Questions.{good_size, factory, profile_of}
use Rattle.card.specs.declared.section.Section.{Section}
use Rattle.card.specs.declared.section.Section.TheVariants.{Size, Bytes, Count, Block, End, Over}
use Rattle.card.specs.SectionDefinition.{good, known, size, ends, over, left, from, Step, silent, refusal}
use Rattle.card.specs.HeadingDefinition.{size_step, profile_step}
use Rattle.card.specs.PrintedDefinition.{count_of}
use Rattle.card.specs.PrintedStep.{whole, cut, step}

pub some_left : (s : Section) → over s ≡ false → 0 < left s
some_left Size h = omega arith
some_left (Bytes n) h = omega arith
some_left (Count p) h = omega arith
some_left (Block p i k) h = omega arith
some_left End h = omega arith
some_left Over h = absurd (true≢false h)

either : (b : Bool) (x z : Step) (n : ℕ) → left x.next < n → left z.next < n → left (cond b x z).next < n
either true x z n h g = h
either false x z n h g = g

from-left : (p : Profile) (i k : ℕ) → left (from p i k) ≤ suc (suc (k - i))
from-left p i k = go (ltb i k)
  where
    go : (b : Bool) → left (cond b (Block p i k) End) ≤ suc (suc (k - i))
    go true = omega arith
    go false = omega arith

whole-falls : (s : Section) (y : List ℕ) → ((j : ℕ) → get_or y j 0 ≤ 255) → over s ≡ false
    → left (whole s (take (size s) y)).next < left s
whole-falls Size y h o = go (get_or (take 1 y) 0 0)
  where
    go : (n : ℕ) → left (size_step n).next < left Size
    go n =
        either (eqb n 0) (silent (Count factory)) (cond (good_size n) (silent (Bytes n)) (refusal 1)) (left Size)
        (omega arith)
        (either (good_size n) (silent (Bytes n)) (refusal 1) (left Size) (omega arith) (omega arith))
whole-falls (Bytes n) y h o = go (profile_of (take n y))
  where
    go : (a : Parsed) → left (profile_step a).next < left (Bytes n)
    go (Ok p) = omega arith
    go (Err q) = omega arith
whole-falls (Count p) y h o =
    let high : get_or (take 2 y) 0 0 ≡ get_or y 0 0 = get_or-take 2 y 0 0 (omega arith) in
    let low : get_or (take 2 y) 1 0 ≡ get_or y 1 0 = get_or-take 2 y 1 0 (omega arith) in
    omega (arith, from-left p 0 (count_of (take 2 y)), high, low, h 0, h 1)
whole-falls (Block p i k) y h o = next (ltb (i + 1) k) refl
  where
    next : (b : Bool) → ltb (i + 1) k ≡ b → left (cond b (Block p (i + 1) k) End) < suc (suc (k - i))
    next true e = omega (arith, ltb-true (i + 1) k e)
    next false e = omega arith
whole-falls End y h o = omega arith
whole-falls Over y h o = absurd (true≢false o)

cut-falls : (s : Section) → over s ≡ false → left (cut s).next < left s
cut-falls s o = either (ends s) (silent Over) (refusal 11) (left s) (some_left s o) (some_left s o)

pub step_falls : (s : Section) (y : List ℕ) → ((j : ℕ) → get_or y j 0 ≤ 255) → over s ≡ false
    → left (step (known s) y).next < left s
step_falls s y h o = go (good s)
  where
    go : (g : Bool) → left (step (cond g s Over) y).next < left s
    go true = either (ltb (length y) (size s)) (cut s) (whole s (take (size s) y)) (left s)
        (cut-falls s o) (whole-falls s y h o)
    go false = either (ltb (length y) 0) (silent Over) (silent Over) (left s) (some_left s o) (some_left s o)
