mod Calls
mod Lanes
mod Opening
mod Quiet
mod Reaching
