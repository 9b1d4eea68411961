pub mod LongerTexts
