pub mod Alive
pub mod ExampleLaws
pub mod AliveLaws
pub mod Mornings
pub mod MorningLaws
pub mod Tickets
pub mod TicketLaws
pub mod BusyLaws
