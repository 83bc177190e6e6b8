-- Some subword is not in the code, or the nested words tell.
use Rattle.std.proofs.Common.{sym, ◌∙◌}
use Rattle.block.specs.CodewordLaws.{zeros-subwords, not_zeros}
use Rattle.block.proofs.codeword.is_clean.Goals as goal

pub returns-then-not-is_zero : goal.returns-then-not-is_zero
returns-then-not-is_zero c =
    not_zeros _ _ c.args.rows c.requires.2
    (sym c.is_zero.ensures ∙ c.if-not-is_zero.true)

pub is_codeword-requires : goal.is_codeword-requires
is_codeword-requires c = (
  c.requires.0,
  zeros-subwords _ _ c.args.rows c.requires.0.valid c.requires.2
      (sym c.is_zero.ensures ∙ c.if-not-is_zero.false),
  c.requires.1,
)
