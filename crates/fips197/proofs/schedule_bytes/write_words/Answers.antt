use Rattle.fips197.specs.ScheduleBytesLaw.{words_in_bytes}
use Rattle.std.proofs.Common.{ap, ◌∙◌}
use Rattle.fips197.specs.ScheduleBytes.{words_in}
use Rattle.fips197.proofs.schedule_bytes.write_words.Goals as goal

pub returns-clause-words : goal.returns-clause-words
returns-clause-words c = ap words_in c.write_u32_into.ensures ∙ words_in_bytes c.args.words.now (λ i. (c.type_inv.words i).fits)
