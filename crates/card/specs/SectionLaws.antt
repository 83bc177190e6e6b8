-- What the tests of profiles and sections come to.
--
-- Proved: a profile that is accepted, n being a byte, is valid (accepts-valid), and its blocks have at most 2040 bytes
-- (accepts-size, block-most); the profile of bytes that are accepted is (profile-accepts); the section that is known in
-- place of another is one that a card leads to (known-good), and in place of such a one it is itself (good-known);
-- judging that prints nothing (takes-silent).
use Rattle.std.specs.Prelude.{ℕ, ◌≤◌, ◌≡◌, Bool, false, cond, List, ltb, Ok, Err}
use Rattle.std.proofs.Math.Path.{refl, ap, subst⁻¹}
use Rattle.std.proofs.Common.{sym, ◌∙◌, subst, true≢false, le_trans, mul-le-mul_right, arith}
use Rattle.std.proofs.Math.Bool.{true, and-eq-true_iff}
use Rattle.profile.specs.declared.Profile.{Profile}
use Rattle.profile.specs.declared.questions.Caller.TheVariants.{Card}
use Rattle.profile.specs.Definition.{Parsed, block_size}
use Rattle.profile.specs.Questions.{asked, read, lent, profile_of}
use Rattle.profile.specs.QuestionsLaws.{asked_yes, asked-all, card_own}
use Rattle.profile.specs.Valid.{Valid, asked-valid}
use Rattle.card.specs.declared.section.Section.{Section}
use Rattle.card.specs.declared.section.Section.TheVariants.{Block, Over}
use Rattle.card.specs.declared.section.Judged.{Judged}
use Rattle.card.specs.SectionDefinition.{passes, alone, accepts, good, known, size, Step, silent, Takes}

module _ (p : Profile) where
  pub accepts-valid : accepts p ≡ true → p.length ≤ 255 → Valid p
  unfolding accepts
  accepts-valid e small = go (asked Card alone p) refl e
    where
      go : (a : Parsed) → asked Card alone p ≡ a → passes a ≡ true → Valid p
      go (Ok q) h e = subst⁻¹ Valid (asked_yes Card alone p q h).0 (asked-valid Card alone p q h small)
      go (Err q) h e = absurd (true≢false (sym e))

  pub accepts-size : accepts p ≡ true → p.length ≤ 255 → block_size p ≤ 2040
  accepts-size e small =
      let valid = accepts-valid e small in
      le_trans (mul-le-mul_right p.length valid.subwords.1) (omega (arith, valid.length.1))

  pub accepts-is : (a : Parsed) → a ≡ asked Card alone p → passes a ≡ accepts p
  unfolding accepts
  accepts-is a e = ap passes e

-- the profile of bytes that are accepted
pub profile-accepts : (b : List ℕ) (q : Profile) → profile_of b ≡ Ok q → accepts q ≡ true
unfolding accepts
profile-accepts b q e =
    let (_, common, _) = asked_yes Card (lent b 0 0 0) (read b) q e in
    ap passes (asked-all Card alone q (record {
      profile_size = refl;
      subwords = common.subwords;
      nested = common.nested;
      capabilities = common.capabilities;
      length_above = common.length_above;
      root_below = common.root_below;
    }) (card_own alone q))

-- a block section has the bytes of a block, few enough
pub block-most : (s : Section) (p : Profile) (i k n : ℕ) → s ≡ Block p i k → n ≡ block_size p → p.length ≤ 255
    → (n ≡ size s) × (good s ≡ true → n ≤ 2040)
block-most s p i k n is count small = (
  count ∙ sym (ap size is),
  λ e. rw count (accepts-size p ((and-eq-true_iff (ltb i k) _).0 (sym (ap good is) ∙ e)).1 small),
)

pub known-good : (s : Section) → good (known s) ≡ true
known-good s = go (good s) refl
  where
    go : (b : Bool) → good s ≡ b → good (cond b s Over) ≡ true
    go true h = h
    go false h = refl

pub good-known : (s : Section) → good s ≡ true → known s ≡ s
good-known s h = ap (λ b. cond b s Over) h

pub known_is : (s : Section) (b c : Bool) → b ≡ good s → b ≡ c → cond c s Over ≡ known s
known_is s b c h e = ap (λ g. cond g s Over) (sym e ∙ h)

-- ---- steps

-- nothing is printed
pub takes-silent : (s : Section) (l : List ℕ) → Takes (silent s) l (record { next = s; size = 0 }) l
takes-silent s l = record { next = refl; line = record { size = refl; says = refl } }

pub takes_as : {x y : Step} {l m : List ℕ} {t : Judged} → x ≡ y → Takes x l t m → Takes y l t m
takes_as {l = l} {m = m} {t = t} e h = subst (λ x. Takes x l t m) e h
