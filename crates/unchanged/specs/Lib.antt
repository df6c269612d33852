-- What T-02 left as it was: the meaning before it, and the theorem that no value, no verdict and no answer is lost.
pub mod Base
pub mod Unchanged
