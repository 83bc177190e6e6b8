-- The tables that are kept from section to section.
--
-- Proved: the tables for a section serve what comes next (made-next); none are asked for where a section was cut
-- (cut-kept).
use Rattle.std.specs.Prelude.{ℕ, ◌+◌, ◌≡◌, Bool, true, false, cond, List, eqb, ltb, get_or, Ok, Err}
use Rattle.std.proofs.Math.Path.{subst⁻¹}
use Rattle.std.proofs.Common.{arith}
use Rattle.profile.specs.Definition.{Parsed}
use Rattle.profile.specs.Questions.{good_size, factory, profile_of}
use Rattle.card.specs.declared.section.Section.{Section}
use Rattle.card.specs.declared.section.Section.TheVariants.{Size, Bytes, Count, Block, End, Over}
use Rattle.card.specs.SectionDefinition.{ends, silent, refusal}
use Rattle.card.specs.HeadingDefinition.{profile_step}
use Rattle.card.specs.PrintedDefinition.{count_of}
use Rattle.card.specs.PrintedStep.{whole, cut}
use Rattle.card.specs.Definition.{Made, Kept}

module _ (t u : List ℕ) where
  pub made_as : {s r : Section} → s ≡ r → Made r t u → Made s t u
  made_as e h = subst⁻¹ (λ s. Made s t u) e h

  pub kept_as : {s r : Section} → s ≡ r → Kept r t u → Kept s t u
  kept_as e h = subst⁻¹ (λ s. Kept s t u) e h

  pub made-next : (s : Section) (y : List ℕ) → Made s t u → Kept (whole s y).next t u
  made-next Size y h = go (get_or y 0 0) (eqb (get_or y 0 0) 0) (good_size (get_or y 0 0))
    where
      go : (n : ℕ) (a b : Bool)
          → Kept (cond a (silent (Count factory)) (cond b (silent (Bytes n)) (refusal 1))).next t u
      go n true b = tt
      go n false true = tt
      go n false false = tt
  made-next (Bytes n) y h = go (profile_of y)
    where
      go : (a : Parsed) → Kept (profile_step a).next t u
      go (Ok p) = tt
      go (Err q) = tt
  made-next (Count p) y h = go (ltb 0 (count_of y))
    where
      go : (b : Bool) → Kept (cond b (Block p 0 (count_of y)) End) t u
      go true = λ l. absurd (omega arith)
      go false = tt
  made-next (Block p i k) y h = go (ltb (i + 1) k)
    where
      go : (b : Bool) → Kept (cond b (Block p (i + 1) k) End) t u
      go true = λ _. h
      go false = tt
  made-next End y h = tt
  made-next Over y h = tt

  pub cut-kept : (s : Section) → Kept (cut s).next t u
  cut-kept s = go (ends s)
    where
      go : (b : Bool) → Kept (cond b (silent Over) (refusal 11)).next t u
      go true = tt
      go false = tt
