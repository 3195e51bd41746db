pub mod RangeLaws
pub mod MonthLaws
pub mod PriceLaws
pub mod ListedLaws
pub mod LinePriceLaws
pub mod EnergyLaws
pub mod RenumberedLaws
pub mod Computed
