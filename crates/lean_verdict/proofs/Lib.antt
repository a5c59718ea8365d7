pub mod LeanTables
