-- From the capability of the stage to that of the next.
use Rattle.std.proofs.Common.{add-one, ap, ap₂, arith, suc, ◌*◌, ◌-◌, ◌∙◌}
use Rattle.profile.specs.Definition.{capability}
use Rattle.profile.specs.Valid.{capability_mono, checks-is}
use Rattle.staged_decoding.specs.Definition.{extend}
use Rattle.stages.specs.Walk.{extended}
use Rattle.stages.proofs.round.Goals as goal

pub extend-requires : goal.extend-requires
extend-requires c =
    let p = c.args.p in
    let ok = c.requires.0.valid in
    let from = c.capability.ensures in
    let to = c.capability-2.ensures ∙ ap (capability p) (add-one c.args.r) in (
      c.requires.0,
      c.requires.1,
      omega (arith, c.requires.2),
      omega (arith, from, capability_mono p ok 0 c.args.r (omega arith) (omega (arith, c.requires.2))),
      omega (
        arith,
        to,
        checks-is p 0,
        capability_mono p ok (suc c.args.r) (p.nested - 0) (omega (arith, c.requires.2)) (omega arith),
      ),
    )

pub returns : goal.returns
returns c =
    let from = ap (λ t. 2 * t) c.capability.ensures in
    let to =
    ap (λ t. 2 * t) (c.capability-2.ensures ∙ ap (capability c.args.p) (add-one c.args.r)) in
    extended c.args.p c.args.states.now (omega (arith, c.requires.0.valid.subwords)) _ c.args.r _ _
    (λ g seen. c.extend.ensures g (rw c.pending.ensures seen) ∙ ap₂ (λ a b. (extend c.args.p a b g).row) from to)
