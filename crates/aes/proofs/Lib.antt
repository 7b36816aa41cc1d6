pub mod Answers
mod Joined
