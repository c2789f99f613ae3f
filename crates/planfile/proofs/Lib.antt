mod Bits
mod Turns
mod Lines
mod HeadBytes
mod Whole
mod ByWriting
mod Skips
mod Complement
mod RowsWritten
mod WindowsWritten
mod HeadWritten
mod FilesWritten
mod FilesLaw
pub mod Spares
