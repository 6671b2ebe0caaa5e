-- What becomes of each text that is to be a script, by what the reader and the replay answer.
mod Told
