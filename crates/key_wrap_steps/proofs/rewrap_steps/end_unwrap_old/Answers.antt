-- The steps led back to an initial value and registers, which hold a key that fits, one that does not, or none.
use Rattle.std.proofs.Common.{rules, ◌≡◌, ℕ, List, length, take, arith, refl}
use Rattle.std.proofs.lemmas.Bool.{false≢true}
use Rattle.key_wrap_core.specs.Words.{word_bytes}
use Rattle.key_wrap_core.proofs.Spelling.{each_byte, read_word}
use Rattle.key_wrap_core.proofs.FoundForms.{behind_first}
use Rattle.key_wrap_steps.proofs.RewrapPhaseEnds.{ended_none, ended_unfit, ended_fresh}
use Rattle.key_wrap_steps.proofs.rewrap_steps.end_unwrap_old.Goals as goal

pub returns-in_default-clause-ends_phase : goal.returns-in_default-clause-ends_phase
returns-in_default-clause-ends_phase c = λ pass_new.
    let block : List ℕ = c.args.block.now in
    let sixteen : length block ≡ 16 = search rules in
    let value : word_bytes c.read_u64-found.result ≡ take 8 block =
    read_word block c.read_u64-found.result (omega arith) (each_byte block (search rules)) c.read_u64-found.ensures in
    let tells = rw (behind_first c.args.text.now) at c.old_difference-difference.ensures in
    let first = rw (behind_first c.args.text.now) at c.first_block.ensures in
    ended_none pass_new c.args.forms.now c.read_u64-found.result _ c.args.text.now block _ value tells
    (λ zero. false≢true (c.in_default.ensures.passes.1 zero)) first

pub returns-in_default-decide-clause-ends_phase : goal.returns-in_default-decide-clause-ends_phase
returns-in_default-decide-clause-ends_phase c = λ pass_new.
    let block : List ℕ = c.args.block.now in
    let sixteen : length block ≡ 16 = search rules in
    let value : word_bytes c.read_u64-found.result ≡ take 8 block =
    read_word block c.read_u64-found.result (omega arith) (each_byte block (search rules)) c.read_u64-found.ensures in
    let tells = rw (behind_first c.args.text.now) at c.old_difference-difference.ensures in
    let fit = rw (behind_first c.args.text.now) at c.fit-misfit.ensures in
    let first = rw (behind_first c.args.text.now) at c.first_block-in_default-decide.ensures in
    ended_unfit pass_new c.args.forms.now c.read_u64-found.result _ _ _ c.args.text.now block _ value tells (c.in-Ok.ensures.passes.0 refl) fit
    (λ zero. false≢true (c.in_default-decide.ensures.passes.1 zero)) first

pub returns-clause-ends_phase : goal.returns-clause-ends_phase
returns-clause-ends_phase c = λ pass_new.
    let block : List ℕ = c.args.block.now in
    let sixteen : length block ≡ 16 = search rules in
    let value : word_bytes c.read_u64-found.result ≡ take 8 block =
    read_word block c.read_u64-found.result (omega arith) (each_byte block (search rules)) c.read_u64-found.ensures in
    let tells = rw (behind_first c.args.text.now) at c.old_difference-difference.ensures in
    let fit = rw (behind_first c.args.text.now) at c.fit-misfit.ensures in
    let first = rw (behind_first c.args.text.now) at c.first_block-2.ensures in
    ended_fresh pass_new c.args.forms.now c.read_u64-found.result _ _ _ c.args.text.now block _ value tells (c.in-Ok.ensures.passes.0 refl) fit
    (c.in-Ok-decide.ensures.passes.0 refl) first
