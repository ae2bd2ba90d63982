pub mod Calls
pub mod Failures
pub mod Found
pub mod Files
pub mod DiskFound
pub mod Disk
pub mod Bytes
