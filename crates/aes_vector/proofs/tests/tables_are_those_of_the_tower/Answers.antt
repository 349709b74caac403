use Rattle.std.proofs.Common.{refl}
use Rattle.fips197.specs.Field.{product, remainder, polynomial_product}
use Rattle.aes_vector.proofs.Computed.{inv_inverts, inva_inverts, tower_enters, masked_enters, inv_enters, eleven_enters, thirteen_enters, nine_enters}
use Rattle.aes_vector.proofs.Computed.{masked_inv_enters, fourteen_enters, one_finds, two_finds, s_box_finds, fourteen_finds, eleven_finds, thirteen_finds}
use Rattle.aes_vector.proofs.Computed.{nine_finds, inverse_finds}
use Rattle.aes_vector.proofs.tests.tables_are_those_of_the_tower.Goals as goal

pub returns-clause-basis : goal.returns-clause-basis
unfolding product remainder polynomial_product
returns-clause-basis c = (refl, refl)

pub returns-clause-conjugate : goal.returns-clause-conjugate
unfolding product remainder polynomial_product
returns-clause-conjugate c = refl

pub returns-clause-ratio : goal.returns-clause-ratio
unfolding product remainder polynomial_product
returns-clause-ratio c = refl

pub returns-clause-inversion : goal.returns-clause-inversion
returns-clause-inversion c = (inv_inverts, inva_inverts)

pub returns-clause-into_the_tower : goal.returns-clause-into_the_tower
returns-clause-into_the_tower c = (tower_enters, masked_enters)

pub returns-clause-into_the_inverse : goal.returns-clause-into_the_inverse
returns-clause-into_the_inverse c = (inv_enters, eleven_enters, thirteen_enters, nine_enters)

pub returns-clause-into_the_masked_inverse : goal.returns-clause-into_the_masked_inverse
returns-clause-into_the_masked_inverse c = (masked_inv_enters, fourteen_enters)

pub returns-clause-multiples : goal.returns-clause-multiples
returns-clause-multiples c = (one_finds, two_finds)

pub returns-clause-s_box : goal.returns-clause-s_box
returns-clause-s_box c = s_box_finds

pub returns-clause-inverse_multiples : goal.returns-clause-inverse_multiples
returns-clause-inverse_multiples c = (fourteen_finds, eleven_finds, thirteen_finds, nine_finds)

pub returns-clause-inverse : goal.returns-clause-inverse
returns-clause-inverse c = inverse_finds
