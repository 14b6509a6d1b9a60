pub mod Laws
pub mod Passing
pub mod Asking
pub mod Putting
pub mod Rule
