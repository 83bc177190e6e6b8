-- Definition is what the promises speak of; Laws proves them.
pub mod Definition
pub mod Laws
-- section: SectionDefinition is what the promises speak of.
pub mod SectionDefinition
pub mod SectionLaws
-- heading: HeadingDefinition is what the promises speak of.
pub mod HeadingDefinition
-- block_line: BlockLineDefinition is what the promises speak of.
pub mod BlockLineDefinition
pub mod BlockLineLaws
-- printed: PrintedDefinition is what is printed for a card, PrintedStep what is promised of one section after the
-- other, PrintedWhole that together they print the list; PrintedFollows and PrintedFalls are its two halves: every step
-- prints what it has to, and brings the end nearer.
pub mod PrintedDefinition
pub mod PrintedStep
pub mod PrintedFollows
pub mod PrintedFalls
pub mod PrintedWhole
-- list: ListDefinition is what the promises speak of.
pub mod ListDefinition
pub mod ListLaws
