pub mod Usage
pub mod Texts
pub mod Files
pub mod Rows
pub mod Normal
mod OtherNames
mod EachTable
mod SameAnswer
mod Asked
pub mod Replayed
mod Printed
mod Told
mod ProvePrinted
mod Witnessed
mod ProvedOnce
mod Has
