pub mod Bodies
pub mod BodyView
pub mod View
