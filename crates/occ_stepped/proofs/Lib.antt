mod Named
mod Zeros
mod Arrived
mod Around
