-- The lemmas: the lines of a text, what a line denotes, what a call took of one, the block of answers, and a run's answers.
mod Common
mod Blocks
mod Denoting
mod Ends
mod Laws
mod Runs
mod Showing
mod Splitting
mod Summaries
mod Takings
