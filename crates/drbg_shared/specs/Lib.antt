-- What the contracts of both mechanisms cite, over the definitions of `standard`.
pub mod Costs
pub mod Generator
