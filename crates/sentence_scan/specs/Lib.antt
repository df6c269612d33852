-- What reading a body promises.
pub mod Working
