-- When a decoder answers 8. That it does so exactly if too many subwords are left unsettled, whatever was written, is
-- `failed_course` of Course.
--
-- Proved, where no mistake is made: the outcome is failed after stage s exactly if s is the first stage after which
-- more than v − s subwords have more than t_s changes (failing_exactly).
use Rattle.std.specs.Prelude.{ℕ, ◌≤◌, ◌≡◌, ◌↔◌}
use Rattle.std.proofs.Common.{arith, lt-ltb, ltb-true}
use Rattle.series.specs.Series.{Series}
use Rattle.profile.specs.declared.Profile.{Profile}
use Rattle.profile.specs.Definition.{capability}
use Rattle.profile.specs.Valid.{Valid, capability_mono}
use Rattle.staged_decoding.specs.Definition.{failed, decode, differences}
use Rattle.staged_decoding.specs.Count.{count_imp}
use Rattle.staged_decoding.specs.Course.{Fails, failed_course}
use Rattle.staged_decoding.specs.Restorable.{beyond, Reached, Unmistaken, TooMany}
use Rattle.staged_decoding.specs.Fate.{unsettled-beyond, entered_reached, reached-entered}

-- later stages allow more
pub beyond-falls : (p : Profile) → Valid p → (c y : Series) (a b : ℕ) → a ≤ b → b ≤ p.nested
    → beyond p c y b ≤ beyond p c y a
unfolding beyond
beyond-falls p ok c y a b l h =
    let rise : capability p a ≤ capability p b = capability_mono p ok a b l h in
    count_imp p.subwords _ _ (λ i k t.
    lt-ltb (capability p a) (differences p y c i) (omega (arith, ltb-true (capability p b) (differences p y c i) t)))

pub failing_exactly : (p : Profile) → Valid p → (c y : Series) → Unmistaken p c y → (s : ℕ)
    → decode p y ≡ failed s ↔ TooMany p c y s
failing_exactly p ok c y u s = (λ e. to ((failed_course p y s).0 e), λ t. (failed_course p y s).1 (from t))
  where
    to : Fails p y s → TooMany p c y s
    to f =
        let reached : Reached p c y s = entered_reached p ok c y u s f.low f.entered in
        record {
          low = f.low;
          many = omega (arith, f.many, unsettled-beyond p ok c y u s f.low reached);
          first = λ q l. (reached q l).1;
        }

    from : TooMany p c y s → Fails p y s
    from t =
        let reached : Reached p c y s =
        λ q l. (omega (arith, t.many, beyond-falls p ok c y q s (omega arith) t.low), t.first q l) in
        record {
          low = t.low;
          entered = reached-entered p ok c y u s t.low reached;
          many = omega (arith, t.many, unsettled-beyond p ok c y u s t.low reached);
        }
