mod Below
mod Drawing
mod Numbered
mod RingEntries
