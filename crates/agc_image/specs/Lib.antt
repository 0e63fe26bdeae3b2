pub mod Images
pub mod Rules
