-- The definitions of AES by word tables, and the definitions of AES that the public contracts cite.
pub mod Columns
pub use Rattle.fips197.specs.Field
pub use Rattle.fips197.specs.SBox
pub use Rattle.fips197.specs.KeyExpansion
pub use Rattle.fips197.specs.Cipher
