pub mod SeriesLaws
pub mod MeanLaws
pub mod Computed
