pub mod Tokens
pub mod TypeText
pub mod Steps
