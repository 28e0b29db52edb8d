pub mod FamilyTexts
pub mod NumberLines
pub mod PmeTexts
pub mod ResultTexts
pub mod SummaryTexts
pub mod TraceTexts
pub mod VerdictTexts
