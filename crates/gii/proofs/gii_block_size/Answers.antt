-- 0 is no size of an accepted profile.
use Rattle.std.proofs.Common.{ap, arith, eqb, ℕ, ◌∙◌}
use Rattle.profile.specs.Definition.{block_size}
use Rattle.gii.specs.Laws.{block-some, size-refuses}
use Rattle.gii.proofs.gii_block_size.Goals as goal

pub returns : goal.returns
returns c =
    let profile = c.args.profile.now in
    let is = c.sizes_of.ensures.block in record {
      value = is;
      refused = ap (λ (n : ℕ). eqb n 0) is
          ∙ size-refuses block_size block-some profile (omega (arith, c.type_inv.profile 2));
    }
