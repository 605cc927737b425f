-- What MODEL holds.
pub mod Model
