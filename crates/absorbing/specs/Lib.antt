pub mod Absorbable
