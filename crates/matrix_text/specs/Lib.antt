pub mod MatrixFaults
pub mod MatrixLines
pub mod MatrixTexts
