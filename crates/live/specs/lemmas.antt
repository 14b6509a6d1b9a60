pub mod AsReplan
