pub mod View
pub mod ViewLaws
pub mod Rules
pub mod Sound
pub mod Examples
pub mod LiveTickets
