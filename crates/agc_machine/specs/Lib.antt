pub mod Said
pub mod Told
pub mod Stands
pub mod Machines
pub mod Image
pub mod Migration
pub mod Moments
pub mod Laws
