pub mod Told
pub mod Promise
pub mod PlanBackPromise
