pub mod Texts
pub mod Keys
pub mod KeyTable
pub mod Scenarios
pub mod Faults
pub mod Numbers
