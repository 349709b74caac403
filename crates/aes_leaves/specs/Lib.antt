-- The modules of `aes_leaves`.
pub mod Owned
