pub mod Cases
pub mod Promises
pub mod TicketLaws
