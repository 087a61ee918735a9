pub mod NumberBytes
pub mod WrittenNumber
