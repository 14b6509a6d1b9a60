pub mod Covering
pub mod Forwarding
pub mod Levelling
