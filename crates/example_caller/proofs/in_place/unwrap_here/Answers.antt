-- What `unwrap_in_place` ensures of the meter's pair, said of `aes`: a refusal of a wrapping would contradict it.
use Rattle.std.proofs.Common.{◌≡◌, ℕ, List, ap, subst, sym, true, false}
use Rattle.aes_block.specs.Cipher.{cipher_by}
use Rattle.key_wrap.specs.Plain.{Plain, default_iv}
use Rattle.example_caller.proofs.in_place.unwrap_here.Goals as goal

pub returns-in_err-unwrap_in_place-clause-accepts : goal.returns-in_err-unwrap_in_place-clause-accepts
returns-in_err-unwrap_in_place-clause-accepts c = λ key wrapping.
    let of_aes : c.new-meter.result.pair ≡ c.args.aes.now = ap (λ m. m.pair) c.new-meter.ensures in
    let of_meter = subst (λ (w : List ℕ). Plain (cipher_by w) default_iv key c.args.buffer.now) (sym of_aes) wrapping in
    let accepted : false ≡ true = c.in_err-unwrap_in_place.ensures.accepts key of_meter in
    cc
