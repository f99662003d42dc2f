pub mod Thinner
pub mod Canonical
pub mod Words
pub mod Shown
pub mod Lines
pub mod Along
pub mod Numbered
pub mod RoundTrip
