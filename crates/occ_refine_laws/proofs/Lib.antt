mod Outside
mod EachWithin
mod Refining
