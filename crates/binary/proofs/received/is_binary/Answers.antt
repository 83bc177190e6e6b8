-- The greatest symbol tells whether all are bits.
use Rattle.std.proofs.Common.{ap, fold, ltb, max, rules, ◌∙◌, ◌≡◌}
use Rattle.binary.specs.ReceivedLaws.{bits?-greatest}
use Rattle.binary.proofs.received.is_binary.Goals as goal

pub returns : goal.returns
returns c =
    let greatest : c.fold.result ≡ fold max 0 c.args.word.now = search rules in
    ap (λ m. ltb m 2) greatest ∙ bits?-greatest c.args.word.now
