-- The sum of two entries.
use Rattle.std.proofs.Common.{ap, rules, ◌∙◌, ◌≡◌}
use Rattle.kernel.specs.Halves.{looked_up, looked_up-xor, halved-product}
use Rattle.kernel.proofs.halves.HalvesMultiplier.times.Goals as goal

pub returns : goal.returns
returns c =
    let h = c.args.self.now in
    let e : c.from-b.result ≡ c.args.x = search rules in
    let sum = looked_up-xor h.low h.high c.from-b.result ∙ ap (looked_up h.low h.high) e in
    record {
      entries = sum;
      product = λ a t. sum ∙ halved-product c.args.x t (search rules);
    }
