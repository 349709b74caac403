use Rattle.std.proofs.Common.{ap}
use Rattle.fips197.specs.Cipher.{cipher_by, inv_cipher_by}
use Rattle.aes_leaves.proofs.aes.LeafAesKeyInit.new_in.Goals as goal

pub returns-clause-cipher : goal.returns-clause-cipher
returns-clause-cipher c = ap cipher_by c.expand.ensures.words

pub returns-clause-inv_cipher : goal.returns-clause-inv_cipher
returns-clause-inv_cipher c = ap inv_cipher_by c.expand.ensures.words
