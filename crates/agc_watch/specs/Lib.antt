pub mod Data
pub mod Pages
