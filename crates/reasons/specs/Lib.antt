-- Document 01, 'What the station hears back': reasons, their numbers, and each call's in its order.
pub mod Numbers
pub mod Reasons
pub mod Checks
