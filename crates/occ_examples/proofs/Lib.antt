mod Beginnings
mod Silence
mod NearMisses
