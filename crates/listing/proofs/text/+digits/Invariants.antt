-- What is left of a number falls.
use Rattle.listing.proofs.text.+digits.Given as goal

abbrev pub decreases-digits : goal.decreases-digits
decreases-digits l = l.n
