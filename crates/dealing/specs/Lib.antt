pub mod Dealing
pub mod Sides
pub mod Parties
pub mod PartiesLaws
pub mod Written
