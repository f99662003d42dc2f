mod AtomTexts
mod BlockLines
mod BlockTexts
mod GroundReports
mod GroundRuns
mod SmallRuns
mod TextPieces
mod WholeReports
