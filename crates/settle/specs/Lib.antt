-- Answer names what `settle` promises; Effect holds what the test's parts promise.
pub mod Effect
pub mod Answer
-- numerator: NumeratorProduct holds what `numerator` goes by.
pub mod NumeratorProduct
-- positions: Laws of the loops; what the promise speaks of stands in `settling` and `series`.
pub mod PositionsTerm
pub mod PositionsExponent
pub mod PositionsThird
-- candidate: CandidateLocated names what `locate` promises; CandidateOne holds what it goes by.
pub mod CandidateLocated
pub mod CandidateOne
