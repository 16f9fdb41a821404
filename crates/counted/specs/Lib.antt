pub mod CountLaws
pub mod Numbers
