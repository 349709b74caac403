-- The results of the calls, and the definitions that they rest on.
pub mod Results
pub use Rattle.key_wrap_core.specs.BlockCalls
pub use Rattle.key_wrap_core.specs.BufferCalls
pub use Rattle.key_wrap_core.specs.EitherForm
pub use Rattle.key_wrap_core.specs.Forms
pub use Rattle.key_wrap_core.specs.InPlace
pub use Rattle.key_wrap_core.specs.Kind
pub use Rattle.key_wrap_core.specs.Lengths
pub use Rattle.key_wrap_core.specs.NoKey
pub use Rattle.key_wrap_core.specs.Padded
pub use Rattle.key_wrap_core.specs.Plain
pub use Rattle.key_wrap_core.specs.Rewrap
pub use Rattle.key_wrap_core.specs.StepCalls
pub use Rattle.key_wrap_core.specs.Steps
pub use Rattle.key_wrap_core.specs.Tape
pub use Rattle.key_wrap_core.specs.Unwrapping
pub use Rattle.key_wrap_core.specs.Words
