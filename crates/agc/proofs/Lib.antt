mod Commands
mod Ends
mod Through
