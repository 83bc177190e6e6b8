-- The digits, and the text.
use Rattle.listing.specs.Laws.{appended_then}
use Rattle.listing.proofs.field.Goals as goal

pub returns : goal.returns
returns c = appended_then c.digits.ensures c.put.ensures
