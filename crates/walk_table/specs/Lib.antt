pub mod VisitTables
