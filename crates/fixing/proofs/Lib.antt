mod PriceLaws
mod RoundLaws
mod GreatestLaws
pub mod LimitLaws
mod PassLaws
mod LoopLaws
mod AnswerLaws
pub mod AverageLaws
pub mod PowerLaws
pub mod SectorLaws
pub mod InputLaws
pub mod FixingLaws
pub mod VerdictLaws
pub mod IndependenceLaws
mod RenumberedLimitLaws
pub mod RenumberedLaws
pub mod Computed
mod PowerExample
