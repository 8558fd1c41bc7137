-- Laws of reasons, and of each call's.
pub mod FirstReason
pub mod Decisions
pub mod Ahead
pub mod Allowed
pub mod Strengths
pub mod Numbers
