pub mod Apart
pub mod Expressions
pub mod Judged
pub mod Lines
pub mod Numbers
pub mod Turning
pub mod Weights
pub mod Widths
