pub mod Numbers
pub mod Totals
pub mod PushesAndPops
pub mod NewPasses
pub mod Balances
