pub mod Solver
pub mod SolverLength
pub mod SwapStep
pub mod SwapSigned
pub mod SwapIterations
-- plain: The view is what the promises speak of; the other proves them.
pub mod PlainView
pub mod PlainStep
-- lookahead: The view is what the promises speak of; the other proves them.
pub mod LookaheadView
pub mod LookaheadStep
-- scaled: The view is what the promises speak of; the other proves them.
pub mod ScaledView
pub mod ScaledStep
-- rounds: RoundsRun has the definitions that the promises speak of, with Rounds; RoundsEvent proves them.
pub mod Rounds
pub mod RoundsRun
pub mod RoundsEvent
-- continuation: ContinuationDefinition is what the promises speak of, with Solver. A caller cites ContinuationState for
-- the end of a round, ContinuationEnd for the locator and the length there, and ContinuationStages for the stages of a
-- subword.
pub mod ContinuationDefinition
pub mod ContinuationState
pub mod ContinuationEnd
pub mod ContinuationStages
