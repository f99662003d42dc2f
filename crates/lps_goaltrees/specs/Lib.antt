pub mod Pursued
pub mod Slots
pub mod Followed
pub mod Found
pub mod Offers
pub mod Laws
pub mod OfferOrder
