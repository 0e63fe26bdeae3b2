mod Fronts
mod Runners
mod Still
mod Quieted
