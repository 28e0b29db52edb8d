pub mod StatementRuns
