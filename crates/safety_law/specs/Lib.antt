pub mod Events
pub mod Fit
pub mod Letters
pub mod Lists
pub mod Numbers
pub mod Statements
