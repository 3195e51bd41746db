pub mod AmountLaws
pub mod RankLaws
pub mod ShareLaws
pub mod SettlementLaws
pub mod MonthLaws
pub mod Computed
