mod BadPivots
pub mod InPlace
pub mod Inverse
pub mod Ldl
pub mod LdlFactors
pub mod LdlInPlace
pub mod Lu
pub mod LuFactors
pub mod LuInPlace
pub mod Packed
pub mod Places
pub mod Products
pub mod Solutions
pub mod Substitution
pub mod Systems
pub mod Triangles
