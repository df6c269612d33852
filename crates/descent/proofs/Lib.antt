-- Laws of the descent.
pub mod Laws
