pub mod InitialiserView
