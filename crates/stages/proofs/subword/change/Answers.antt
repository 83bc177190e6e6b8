-- A symbol and what it is corrected to differ by the change.
use Rattle.std.proofs.Common.{ap, arith, get_or, rules, sym, ◌<◌, ◌∙◌}
use lib.Count.{ones}
use Rattle.field.specs.Field.{◌⊕◌, byte, val, byte_of, val_of}
use Rattle.series.specs.Array.{bytes}
use Rattle.kernel.specs.Store.{bytes-add, bytes-xor}
use Rattle.stages.specs.SubwordStage.{differ_by}
use Rattle.stages.proofs.subword.change.Goals as goal

pub returns : goal.returns
returns c =
    let block = c.args.block.now in
    let e = c.args.e in
    let received = get_or block c.args.k 0 in
    let small : received < 256 = omega (arith, c.slice_known-1.given c.args.k) in record {
      block = bytes-add block c.args.k _ (val e) c.requires
          (bytes-xor block c.args.k e.0 ∙ ap (λ s. bytes block c.args.k ⊕ s) (sym (val_of e)));
      bits = c.wrong_bits.ensures
          ∙ ap ones (differ_by received e.0 small (search rules)
          ∙ sym (ap byte (val_of e) ∙ byte_of e.0 (search rules)));
    }
