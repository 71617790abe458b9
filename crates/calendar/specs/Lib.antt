pub mod Listing
pub mod Choosing
pub mod ChoosingLaws
pub mod ListingLaws
pub mod CodeLaws
pub mod Examples
