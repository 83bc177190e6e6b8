-- One store, where there is room for it.
use Rattle.listing.specs.Laws.{stored-byte, stored_full}
use Rattle.listing.proofs.text.byte.Goals as goal

pub returns-then-at-to : goal.returns-then-at-to
returns-then-at-to c = stored-byte _ _ _ c.if-at-to.true

pub returns : goal.returns
returns c = stored_full _ _ _ c.if-at-to.false
