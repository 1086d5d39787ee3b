mod Finding
mod Spelling
