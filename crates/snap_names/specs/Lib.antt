pub mod Lists
pub mod Said
pub mod Shown
pub mod Walks
