pub mod State
pub mod Steps
pub mod KeyExpansion
pub mod Cipher
pub mod StateLaws
pub mod Layers
pub mod CipherLaws
pub mod RoundKeys
