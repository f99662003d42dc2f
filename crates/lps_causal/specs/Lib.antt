pub mod Names
pub mod Effects
pub mod Laws
pub mod Given
pub mod Next
