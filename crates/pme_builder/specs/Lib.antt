pub mod Pmes
