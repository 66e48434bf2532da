pub mod Measures
pub mod Examples
pub mod Joints
