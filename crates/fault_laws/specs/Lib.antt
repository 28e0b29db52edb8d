pub mod CutTexts
