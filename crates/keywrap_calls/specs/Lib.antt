-- What the contracts of the calls cite.
pub mod Status
pub mod CallAnswers
pub mod Keks
pub mod AgreedValue
pub mod Calls
pub mod Rewraps
pub mod KindCalls
pub mod Any
pub mod StatusTexts
pub mod SelfTest
pub mod Version
pub mod Tried
pub mod Many
pub mod StepPromises
pub mod RewrapSteps
pub mod RewrapCalls
