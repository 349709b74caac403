-- What `unwrap` ensures of its `pair`, said of the KEK.
use Rattle.std.proofs.Common.{ℕ, List, subst}
use Rattle.aes_block.specs.Cipher.{cipher_by}
use Rattle.key_wrap.specs.NoKey.{NoKey}
use Rattle.key_wrap.specs.Plain.{Plain, default_iv}
use Rattle.example_caller.proofs.under_kek.unwrap_under.Goals as goal

pub returns-in-Err-Integrity-clause-answer : goal.returns-in-Err-Integrity-clause-answer
returns-in-Err-Integrity-clause-answer c =
    let told = rw c.in-Err-Integrity.field-0-is at c.in-Err-Integrity.ensures.answer in
    subst (λ (w : List ℕ). NoKey (Plain (cipher_by w) default_iv) c.args.text.now) c.aes_256.ensures told.1
