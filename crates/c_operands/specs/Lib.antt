pub mod PairView
