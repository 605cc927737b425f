-- The words that the contracts of `write_record` and `write_as_read` cite.
pub mod Writer
