pub mod Packing
pub mod Buckets
