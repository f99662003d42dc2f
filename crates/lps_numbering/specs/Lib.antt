pub mod Fixed
pub mod Laws
pub mod Numbers
pub mod Plain
