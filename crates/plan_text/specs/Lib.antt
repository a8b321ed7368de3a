pub mod HopsInLists
pub mod LastLine
pub mod PlanLines
pub mod Told
