pub mod Accepted
pub mod AssignmentLaws
pub mod Firsts
pub mod LeadingLaws
pub mod PreparedLaws
pub mod Standing
