-- The solver of a subword from stage to stage.
--
-- Proved, for a valid profile: a solver that is ready for a stage, taken through the syndromes that the stage adds, is
-- at the end of the stage (ready_advance), and what it has found there is what settles the subword (kept).
use Rattle.std.specs.Prelude.{ℕ, zero, suc, ◌-◌, ◌*◌, ◌≤◌, ◌≡◌, refl, ◌≢◌, Option, IfSome}
use Rattle.std.proofs.Common.{ap, subst, arith}
use Rattle.series.specs.Series.{Series}
use Rattle.profile.specs.declared.Profile.{Profile}
use Rattle.profile.specs.Definition.{capability, first-root}
use Rattle.profile.specs.Valid.{Valid}
use Rattle.solver.specs.declared.Form.{Form}
use Rattle.solver.specs.declared.Solver.{Solver}
use Rattle.settle.specs.declared.Settled.{Settled}
use Rattle.settle.specs.Answer.{answer, Sound}
use Rattle.staged_decoding.specs.Definition.{settle_at, rounds_of}
use Rattle.staged_decoding.specs.Rounds.{rounds-joined}
use Rattle.solver.specs.ContinuationDefinition.{Ended, Advanced}
use Rattle.solver.specs.ContinuationStages.{stage-first, stage-next}
use Rattle.stages.specs.AttemptDefinition.{seen_before, Ready, Tried}

module _ (p : Profile) (ok : Valid p) (f : Form) (S : Series) (s : Solver) where
  pub ready_advance : (r : ℕ) (q : Solver)
      → r ≤ p.nested → Advanced (seen_before p r) (2 * capability p r) S s q → Ready p f r S s
      → Ended f (rounds_of p S r) q
  ready_advance zero q h advanced ready = stage-first p ok f S s q ready.past ready.ended advanced
  ready_advance (suc r) q h advanced ready =
      stage-next p ok f S s q r S h ready.past (λ j l. refl) ready.ended advanced

-- ---- what `attempt` promises, from what its parts promise

module _ (p : Profile) (r : ℕ) where
  pub seen_before-first : r ≡ 0 → seen_before p r ≡ 0
  seen_before-first e = rw e refl

  pub seen_before-next : r ≢ 0 → seen_before p r ≡ 2 * capability p (r - 1)
  seen_before-next h = let e : r ≡ suc (r - 1) = omega (arith, h) in ap (seen_before p) e

module _ (p : Profile) (ok : Valid p) (r : ℕ) (h : r ≤ p.nested) (S : Series) (s q : Solver) (a : Option Settled)
  where
    pub kept : (u v t : ℕ) → u ≡ seen_before p r → v ≡ 2 * capability p r → t ≡ capability p r → Advanced u v S s q
        → Tried (first-root p) t p.length S q a
        → record {
          sound : IfSome a (Sound (first-root p) (capability p r) p.length S);
          settled : (f : Form) → Ready p f r S s → answer p.length a ≡ settle_at p r S;
          solver : (f : Form) → Ready p f r S s → Ended f (rounds_of p S r) q;
        }
    kept u v t eu ev et advanced tried =
        let at : Tried (first-root p) (capability p r) p.length S q a =
        subst (λ t. Tried (first-root p) t p.length S q a) et tried in
        record {
          sound = at.0;
          settled = λ f ready. at.1 f _ (end f ready) (rounds-joined p ok S r h);
          solver = end;
        }
      where
        end : (f : Form) → Ready p f r S s → Ended f (rounds_of p S r) q
        end f = ready_advance p ok f S s r q h
            (subst (λ u. Advanced u (2 * capability p r) S s q) eu (subst (λ v. Advanced u v S s q) ev advanced))
