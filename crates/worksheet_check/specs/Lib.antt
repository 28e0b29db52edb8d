pub mod Findings
pub mod InvariantFindings
pub mod Places
pub mod RoundFindings
pub mod Verdicts
