pub mod Text
pub mod Cut
pub mod LitText
mod LineText
mod Tokens
mod Unique
mod SevenBits
mod BinaryUnique
mod Spellings
pub mod Fronts
mod Triples
mod Words
mod Gathering
mod Reading
mod BadLines
pub mod Progress
pub mod JournalLines
