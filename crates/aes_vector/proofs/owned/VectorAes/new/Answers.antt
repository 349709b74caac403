-- The schedule is of the key, or the length of the key is not legal.
use Rattle.std.proofs.Common.{refl}
use Rattle.fips197.specs.KeyedLaw.{made, refused}
use Rattle.aes_vector.proofs.owned.VectorAes.new.Goals as goal

pub returns : goal.returns
returns c = made c.args.kek.now _ (c.in-Ok.ensures.accepted.0 refl) c.in-Ok.ensures.words

pub returns-in_default : goal.returns-in_default
returns-in_default c = refused c.args.kek.now _ (c.in_default.ensures.refused.0 refl)
