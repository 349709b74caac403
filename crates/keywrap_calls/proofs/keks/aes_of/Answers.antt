-- Each AES is the one of the KEK's length.
use Rattle.std.proofs.Common.{◌≡◌, refl, sym, ap, ◌∙◌, subst, IfSome}
use Rattle.fips197.specs.Cipher.{cipher_by}
use Rattle.fips197.specs.ScheduleBytes.{words_in}
use Rattle.keywrap_calls.proofs.KekForms.{of_kek, of_kept, rest}
use Rattle.keywrap_calls.proofs.keks.aes_of.Goals as goal

pub returns-then-is_kept-clause-cipher : goal.returns-then-is_kept-clause-cipher
returns-then-is_kept-clause-cipher g c =
    let kept = c.is_kept.ensures.0 c.if-is_kept.true in
    subst (λ E. IfSome c.from_schedule.result (λ aes. g.A.BlockPair.encrypted aes ≡ E))
    (ap (λ s. cipher_by (words_in s)) (rest c.args.kek.now) ∙ sym (of_kept c.args.kek.now kept.1)) c.from_schedule.ensures.cipher

pub returns-in-Ok-clause-cipher : goal.returns-in-Ok-clause-cipher
returns-in-Ok-clause-cipher g c =
    c.in-Ok.ensures.cipher ∙ sym (of_kek c.args.kek.now (c.in-Ok.ensures.accepted.0 refl))
