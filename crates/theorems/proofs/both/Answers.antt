-- Two readings of the same bytes.
use Rattle.theorems.specs.Theorems as theorems
use Rattle.theorems.proofs.both.Goals as goal

pub returns : goal.returns
returns c =
    let a = c.decode-a.ensures in
    let b = c.decode-c.ensures in
    theorems.both _ _ c.args.profile.now c.args.input.now _ _ _ _ _ _ c.requires
    (record { answer = a.answer; block = a.block; report = a.report })
    (record { answer = b.answer; block = b.block; report = b.report })
