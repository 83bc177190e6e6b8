-- Lines from what is answered and reported (told_line), and bytes that are a block of an accepted profile (fit).
use Rattle.std.specs.Prelude.{ℕ, ◌≤◌, ◌≡◌, true, List, length}
use Rattle.std.proofs.Common.{ap, subst}
use Rattle.profile.specs.declared.Profile.{Profile}
use Rattle.profile.specs.Definition.{Answer, block_size}
use Rattle.block.specs.Parts.{Fits}
use Rattle.decoder.specs.Definition.{Result, read, refused, answer_to, report_of}
use Rattle.listing.specs.Definition.{Printed}
use Rattle.card.specs.SectionDefinition.{accepts}
use Rattle.card.specs.SectionLaws.{accepts-valid}
use Rattle.card.specs.BlockLineDefinition.{line, told}

pub told_line : (i : ℕ) (r : Result) (a : Answer) (n m w : ℕ) → a ≡ answer_to r → n ≡ (report_of r).last
    → m ≡ (report_of r).changed → w ≡ (report_of r).bits → told i a n m w ≡ line i r
told_line i (read p s x) a n m w e f g h = rw (e, f, g, h)
told_line i (refused q) a n m w e f g h = ap (λ a. told i a n m w) e

pub printed_as : {x y l m : List ℕ} {n : ℕ} → x ≡ y → Printed x l n m → Printed y l n m
printed_as {l = l} {m = m} {n = n} e h = subst (λ (x : List ℕ). Printed x l n m) e h

-- as many bytes as a block of an accepted profile has are one; n is a byte
pub fit : (p : Profile) (y : List ℕ) → accepts p ≡ true → length y ≡ block_size p → p.length ≤ 255 → Fits p y
fit p y e size small = record { valid = accepts-valid p e small; size = size }
