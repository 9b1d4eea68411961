pub mod JoinedParts
pub mod OneLine
pub mod PlainTexts
pub mod RawLines
pub mod ReadCauses
pub mod ReadLines
pub mod ReadWords
pub mod RefusedLines
