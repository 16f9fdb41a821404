pub mod Tables
pub mod HeadLaws
