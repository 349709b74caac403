use Rattle.std.proofs.Common.{◌∙◌}
use Rattle.fips197.specs.ExpandingLaw.{words_key}
use Rattle.aes_vector.proofs.keys.key_block.Goals as goal

pub returns : goal.returns
returns c = c.vector_of.ensures ∙ c.block_of.ensures ∙ words_key c.args.words.now c.args.k
