-- The root of what the contracts cite.
pub mod Fields
pub mod Laws
pub mod Cf
pub mod CfAlu
pub mod Export
pub mod Alu
pub mod Tex
pub mod Vtx
