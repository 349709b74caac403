-- The registers hold the key as they are. Only a padded key may have a length that is not legal in the new form.
use Rattle.std.proofs.Common.{rules, refl}
use Rattle.key_wrap_core.specs.declared.agreed_form.AgreedForm.TheVariants.{Plain, Padded}
use Rattle.key_wrap_core.proofs.Rewraps.{fits_plain, plain_misfit}
use Rattle.key_wrap_core.proofs.rewrapping.fit.Goals as goal

pub returns-in-Padded-Plain : goal.returns-in-Padded-Plain
returns-in-Padded-Plain c =
    rw (c.in-Changed.is, c.in-Padded-Plain.is-0, c.in-Padded-Plain.is-1, c.given_length.ensures, ← c.word-in-Padded-Plain.ensures.value) (λ form from key holds.
    let held = rw from at holds in
    fits_plain Padded c.word-in-Padded-Plain.result c.args.iv _ c.args.registers.now key (search rules) (search rules) held
    (plain_misfit c.is_zero-one_word.result c.args.iv c.args.registers.now key (search rules) c.requires
    c.is_zero-one_word.ensures.zero c.is_zero-one_word.ensures.some held))

pub returns-in-Plain-Plain : goal.returns-in-Plain-Plain
returns-in-Plain-Plain c =
    rw (c.in-Changed.is, c.in-Plain-Plain.is-0, c.in-Plain-Plain.is-1, ← c.word.ensures.value) (λ form from key holds.
    let held = rw from at holds in
    fits_plain (Plain _) c.word.result c.args.iv 0 c.args.registers.now key (search rules) (search rules) held (λ _. held.0, λ _. refl))
