-- Writing the card's network.
pub mod Records
pub mod Reaching
pub mod Joining
pub mod Listing
pub mod CardTabling
pub mod CardFilling
pub mod Guarding
