-- The words that were read, for the rounds of the length.
use Rattle.std.proofs.Common.{◌≡◌, inl, inr, ◌+◌, ◌*◌, ◌∙◌, length, refl, arith}
use Rattle.std.proofs.lemmas.List.{take-append-le, take_all}
use Rattle.fips197.specs.Keyed.{IsRoundCount}
use Rattle.fips197.specs.ScheduleBytes.{IsScheduleLength}
use Rattle.fips197.specs.ScheduleBytesLaw.{words_read}
use Rattle.fips197.proofs.schedule_bytes.read_schedule.Goals as goal
use Rattle.fips197.proofs.schedule_bytes.read_schedule.Goals.{in-176, in-208, in-240}

long : (c : goal.After-read_u32_into) → length c.args.schedule.now ≡ 16 * (c.match-schedule.rounds + 1)
long c = elim c.match-schedule.branch [ in-176 w ↦ omega arith | in-208 w ↦ omega arith | in-240 w ↦ omega arith ]

legal : (c : goal.After-read_u32_into) → IsScheduleLength (length c.args.schedule.now)
legal c = elim c.match-schedule.branch [ in-176 w ↦ inl (omega arith) | in-208 w ↦ inr (inl (omega arith)) | in-240 w ↦ inr (inr (omega arith)) ]

count : (c : goal.After-read_u32_into) → IsRoundCount c.match-schedule.rounds
count c = elim c.match-schedule.branch [ in-176 w ↦ inl (omega arith) | in-208 w ↦ inr (inl (omega arith)) | in-240 w ↦ inr (inr (omega arith)) ]

pub returns : goal.returns
returns c =
    let dst = c.read_u32_into.new.dst in
    let four : length dst ≡ 4 * (c.match-schedule.rounds + 1) = omega (arith, c.read_u32_into.auto.dst) in record {
      accepted = (λ some. legal c, λ h. refl);
      legal = count c;
      words = take-append-le _ dst _ (omega (arith, four)) ∙ take_all _ dst (omega (arith, four)) ∙ words_read c.args.schedule.now dst (omega (arith, long c, four)) c.read_u32_into.ensures;
    }
