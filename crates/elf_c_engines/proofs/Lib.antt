-- What an engine says whose text is kept only up to the length of the buffer.
mod Kept
