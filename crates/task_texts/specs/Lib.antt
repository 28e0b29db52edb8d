pub mod DimTexts
pub mod TaskTexts
