pub mod Tickets
pub mod TicketLaws
