-- A stage of one subword, and what it leaves.
--
--   Offered p f r S a         what an attempt has brought
--   Took p f r i S w b c q    what stage r makes of subword i that was pending, w being the pattern that settles
--                             it, if any
--   Goes p r i S s b c q      what stage r makes of subword i in the state s: one that is settled stays as it is
use Rattle.std.specs.Prelude.{ℕ, ◌≡◌, ◌≢◌, List, IfSome}
use Rattle.std.proofs.Math.Option.{Option, none, some}
use Rattle.field.specs.Field.{F}
use Rattle.series.specs.Series.{Series}
use Rattle.series.specs.Array.{bytes, values}
use Rattle.series.specs.Word.{entry, weight}
use Rattle.profile.specs.declared.Profile.{Profile}
use Rattle.solver.specs.declared.Form.{Form}
use Rattle.solver.specs.ContinuationDefinition.{Ended}
use Rattle.staged_decoding.specs.Definition.{line_by, add, line_rounds, rounds_of, settle_at}
use Rattle.stages.specs.declared.attempt.Attempted.{Attempted}
use Rattle.stages.specs.AttemptDefinition.{Ready}
use Rattle.stages.specs.declared.subword.State.{State}
use Rattle.stages.specs.declared.subword.State.TheVariants.{Pending, Settled}
use Rattle.stages.specs.Report.{said}

-- what an attempt has brought: with no change at stage 0 there would have been no attempt
pub record Offered (p : Profile) (f : Form) (r : ℕ) (S : Series) (a : Attempted) : Type 0 where
  pub solver : Ended f (rounds_of p S r) a.solver
  pub settled : IfSome a.settled (λ w. (w.count ≡ weight p.length (values w.pattern)) × (r ≡ 0 → w.count ≢ 0))

-- b and c are the block before and after
abbrev pub Took : Profile → Form → (r i : ℕ) → Series → Option (List F) → (b c : Series) → State → Type 0
Took p f r i S none b c (Pending s) = (c ≡ b) × Ended f (rounds_of p S r) s
Took p f r i S none b c (Settled l) = ⊥
Took p f r i S (some w) b c (Pending s) = ⊥
Took p f r i S (some w) b c (Settled l) =
    (c ≡ add p.length i (entry w) b)
    × (said l ≡ line_by p.length r (entry w))
    × Ended f (line_rounds p S (line_by p.length r (entry w)).verdict) l.solver

abbrev pub Goes : Profile → (r i : ℕ) → Series → State → (b c : List ℕ) → State → Type 0
Goes p r i S (Settled l) b c q = (q ≡ Settled l) × (c ≡ b)
Goes p r i S (Pending s) b c q = (f : Form) → Ready p f r S s → Took p f r i S (settle_at p r S) (bytes b) (bytes c) q
