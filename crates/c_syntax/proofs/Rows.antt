-- One tree for each row of declarations, statements and the unit.
pub mod Fronts
pub mod SpecsAndStars
pub mod Given
pub mod Initialisers
pub mod Parameters
pub mod Declarations
pub mod Heads
pub mod Statements
pub mod Blocks
pub mod Externals
pub mod OneTree
pub mod UnitOne
