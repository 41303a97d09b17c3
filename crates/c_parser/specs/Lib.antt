pub mod ParseFaults
pub mod UnitFronts
