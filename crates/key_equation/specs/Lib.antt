-- Shared to Claim are the definitions, in the order of FORMAT 8; the others prove: Length to Ends that the forms agree,
-- Shortest what they find. Recurrence defines and proves what the length tells.
pub mod Shared
pub mod Plain
pub mod Lookahead
pub mod Scaled
pub mod Run
pub mod Claim
pub mod Length
pub mod Ahead
pub mod LookaheadStep
pub mod ScaledStep
pub mod Measure
pub mod Walk
pub mod Agreement
pub mod Ends
pub mod Shortest
pub mod Recurrence
