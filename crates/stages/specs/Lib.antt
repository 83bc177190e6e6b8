-- Report and View are what the promises speak of; the others prove them: lines in an array, a stage, from
-- stage to stage.
pub mod Report
pub mod View
pub mod Lines
pub mod Stage
pub mod Walk
-- attempt: AttemptDefinition is what `attempt` promises of. A caller cites AttemptReady for the way from
-- stage to stage.
pub mod AttemptDefinition
pub mod AttemptReady
-- subword: SubwordDefinition is what the promises speak of; SubwordStage proves them.
pub mod SubwordDefinition
pub mod SubwordStage
