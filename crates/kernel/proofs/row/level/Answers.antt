use Rattle.std.proofs.Common.{ap, arith, ◌∙◌, ◌≡◌}
use Rattle.field.specs.Field.{F, ◌⊕◌, of}
use Rattle.kernel.specs.Store.{bytes-xor, append-none, append-more, append-low}
use Rattle.kernel.proofs.row.level.Goals as goal

pub loop-x-init : goal.loop-x-init
loop-x-init c = append-none _ _ _

pub loop-x-preserved : goal.loop-x-preserved
loop-x-preserved c =
    let now = c.loop-x in
    let kept = append-low now.row c.args.w now.x _ _ (omega arith) now.invariant in
    let sum = bytes-xor now.row now.x c.args.top ∙ ap (λ (s : F). s ⊕ of c.args.top) kept in
    append-more now.row c.args.w now.x _ _ _ (omega arith) c.requires.1 now.invariant sum

pub returns : goal.returns
returns c =
    let end = c.loop-x in
    let e : end.x ≡ c.args.w = omega arith in
    rw e at end.invariant
