pub mod NeededTables
