-- The stages of a subword, taken as rounds of its row: a solver that is taken through round after round.
--
-- Proved, for a valid profile: a solver at its start, taken through the first round, is at the end of stage 0
-- (stage-first); one at the end of stage r, taken through the next round, is at the end of stage r + 1 (stage-next).
-- What it has found there, ContinuationEnd has, n being 2 t_r: the rounds are the row below that (rounds-joined of
-- staged_decoding).
use Rattle.std.specs.Prelude.{ℕ, suc, ◌*◌, ◌<◌, refl}
use Rattle.std.proofs.Common.{subst, arith}
use mathlib.Core.List.{[]}
use Rattle.series.specs.Series.{Series}
use Rattle.series.specs.Degree.{below}
use Rattle.series.specs.Word.{word}
use Rattle.key_equation.specs.Run.{joined}
use Rattle.key_equation.specs.Ahead.{Agree}
use Rattle.profile.specs.declared.Profile.{Profile}
use Rattle.profile.specs.Definition.{capability}
use Rattle.profile.specs.Valid.{Valid, capability-most}
use Rattle.staged_decoding.specs.Definition.{round_of, rounds_of}
use Rattle.staged_decoding.specs.Rounds.{rounds-joined, rounds_cong}
use Rattle.solver.specs.declared.Form.{Form}
use Rattle.solver.specs.declared.Solver.{Solver}
use Rattle.solver.specs.ContinuationDefinition.{Ended, Next, Advanced}
use Rattle.solver.specs.ContinuationState.{advanced-ended}

module _ (p : Profile) (ok : Valid p) (f : Form) (S : Series) (s q : Solver) where
  pub stage-first : below (2 * capability p 0) S → Ended f [] s → Advanced 0 (2 * capability p 0) S s q
      → Ended f (rounds_of p S 0) q
  unfolding rounds_of joined word
  stage-first past ended advanced = advanced-ended [] (round_of p S 0) _ _ S next f s q advanced ended
    where
      next : Next [] (round_of p S 0) 0 (2 * capability p 0) S
      next = record {
        from = refl;
        to = rounds-joined p ok S 0 (omega arith);
        past = past;
        few = omega (arith, capability-most p ok 0 (omega arith));
      }

  -- T is the row as it was
  pub stage-next : (r : ℕ) (T : Series) → r < p.nested → below (2 * capability p (suc r)) S
      → Agree (2 * capability p r) T S
      → Ended f (rounds_of p T r) s → Advanced (2 * capability p r) (2 * capability p (suc r)) S s q
      → Ended f (rounds_of p S (suc r)) q
  unfolding rounds_of
  stage-next r T h past agree ended advanced =
      advanced-ended (rounds_of p S r) (round_of p S (suc r)) _ _ S next f s q advanced
      (subst (λ rounds. Ended f rounds s) (rounds_cong p ok T S r (omega arith) agree) ended)
    where
      next : Next (rounds_of p S r) (round_of p S (suc r)) (2 * capability p r) (2 * capability p (suc r)) S
      next = record {
        from = rounds-joined p ok S r (omega arith);
        to = rounds-joined p ok S (suc r) h;
        past = past;
        few = omega (arith, capability-most p ok (suc r) h);
      }
