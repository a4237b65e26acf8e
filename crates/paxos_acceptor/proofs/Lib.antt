pub mod Greatest
pub mod Noted
pub mod Passing
pub mod Reporting
