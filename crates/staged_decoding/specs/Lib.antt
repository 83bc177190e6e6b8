-- Definition is what the promises speak of, and Restorable the condition of restoring. Accepted, Restoring, Failing,
-- Foreign and Clean hold the theorems; Count, Stage, Round, Rounds and Course are what code cites.
pub mod Definition
pub mod Count
pub mod Stage
pub mod Round
pub mod Rounds
pub mod Course
pub mod Differences
pub mod Sound
pub mod Accepted
pub mod Restorable
pub mod Fate
pub mod Restoring
pub mod Failing
pub mod Foreign
pub mod Clean
