-- The steps led back to an initial value and registers, which hold a key or none.
use Rattle.std.proofs.Common.{rules, ◌≡◌, ℕ, List, length, take, arith, refl}
use Rattle.std.proofs.lemmas.Bool.{false≢true}
use Rattle.key_wrap_core.specs.Words.{word_bytes}
use Rattle.key_wrap_core.proofs.Spelling.{each_byte, read_word}
use Rattle.key_wrap_core.proofs.FoundForms.{behind_first}
use Rattle.key_wrap_steps.proofs.RewrapPhaseEnds.{new_found, none_found, ended_new, ended_refused}
use Rattle.key_wrap_steps.proofs.rewrap_steps.end_unwrap_new.Goals as goal

pub returns-in-Ok-clause-ends_phase : goal.returns-in-Ok-clause-ends_phase
returns-in-Ok-clause-ends_phase c = λ pass_new.
    let block : List ℕ = c.args.block.now in
    let sixteen : length block ≡ 16 = search rules in
    let value : word_bytes c.read_u64-found.result ≡ take 8 block =
    read_word block c.read_u64-found.result (omega arith) (each_byte block (search rules)) c.read_u64-found.ensures in
    let tells = rw (behind_first c.args.text.now, c.to_itself.ensures) at c.old_difference-difference.ensures in
    let first = rw (behind_first c.args.text.now) at c.first_block.ensures in
    ended_new pass_new c.args.forms.now c.args.fault c.read_u64-found.result _ c.args.text.now block _ value tells
    (c.in-Ok.ensures.passes.0 refl) first

pub returns-in-Ok-clause-ends : goal.returns-in-Ok-clause-ends
returns-in-Ok-clause-ends c = λ pass_new was t after.
    let block : List ℕ = c.args.block.now in
    let sixteen : length block ≡ 16 = search rules in
    let value : word_bytes c.read_u64-found.result ≡ take 8 block =
    read_word block c.read_u64-found.result (omega arith) (each_byte block (search rules)) c.read_u64-found.ensures in
    let tells = rw (behind_first c.args.text.now, c.to_itself.ensures) at c.old_difference-difference.ensures in
    new_found pass_new c.args.forms.now c.args.fault c.read_u64-found.result _ t c.args.text.now block after was value tells
    (c.in-Ok.ensures.passes.0 refl)

pub returns-in-Err-clause-ends_phase : goal.returns-in-Err-clause-ends_phase
returns-in-Err-clause-ends_phase c = λ pass_new.
    let block : List ℕ = c.args.block.now in
    let sixteen : length block ≡ 16 = search rules in
    let value : word_bytes c.read_u64-found.result ≡ take 8 block =
    read_word block c.read_u64-found.result (omega arith) (each_byte block (search rules)) c.read_u64-found.ensures in
    let tells = rw (behind_first c.args.text.now, c.to_itself.ensures) at c.old_difference-difference.ensures in
    let first = rw (behind_first c.args.text.now) at c.first_block.ensures in
    ended_refused pass_new c.args.forms.now c.args.fault c.read_u64-found.result _ c.args.text.now block _ value tells
    (λ zero. false≢true (c.in-Err.ensures.passes.1 zero)) first

pub returns-in-Err-clause-ends : goal.returns-in-Err-clause-ends
returns-in-Err-clause-ends c = λ pass_new was t after.
    let block : List ℕ = c.args.block.now in
    let sixteen : length block ≡ 16 = search rules in
    let value : word_bytes c.read_u64-found.result ≡ take 8 block =
    read_word block c.read_u64-found.result (omega arith) (each_byte block (search rules)) c.read_u64-found.ensures in
    let tells = rw (behind_first c.args.text.now, c.to_itself.ensures) at c.old_difference-difference.ensures in
    none_found pass_new c.args.forms.now c.args.fault c.read_u64-found.result _ t c.args.text.now block after was value tells
    (λ zero. false≢true (c.in-Err.ensures.passes.1 zero))
