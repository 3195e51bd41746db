pub mod CallLaws
pub mod WrittenLaws
pub mod HistoryLaws
mod RenumberedLedgerLaws
mod RenumberedLaws
mod RenumberedExample
