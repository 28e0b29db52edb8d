pub mod PassViews
pub mod Queues
pub mod Rule
