pub mod Conditions
pub mod LineSystems
pub mod SylvesterSystems
