pub mod SiteLogs
pub mod Lives
