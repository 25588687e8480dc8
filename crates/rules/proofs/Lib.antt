pub mod FormFaultLaws
pub mod FaultLaws
pub mod Firsts
pub mod Images
pub mod RangeLaws
pub mod Standing
pub mod RowFaultLaws
