pub mod LeftOver
pub mod SingleCuts
pub mod Swept
pub mod ReleaseRanges
pub mod OutsideRanges
