use Rattle.std.proofs.Common.{refl}
use Rattle.aes_vector.proofs.ZeroSchedules.{all_zeros}
use Rattle.aes_vector.proofs.key_schedule.KeySchedule.new.Goals as goal

pub returns : goal.returns
returns c = record { zeros = all_zeros _ _ c.no_keys.ensures refl }
