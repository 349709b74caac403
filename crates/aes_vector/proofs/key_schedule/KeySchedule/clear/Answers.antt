use Rattle.aes_vector.proofs.ZeroSchedules.{all_zeros}
use Rattle.aes_vector.proofs.key_schedule.KeySchedule.clear.Goals as goal

pub returns : goal.returns
returns c = record { zeros = all_zeros _ _ c.clear_both.ensures.keys c.clear_both.ensures.words }
