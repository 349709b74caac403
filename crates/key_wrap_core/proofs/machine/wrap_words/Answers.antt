-- Each block that is encrypted is the block of the next step.
use Rattle.std.proofs.Common.{rules, ◌≡◌, ◌+◌, ℕ, List, length, take, arith, refl}
use Rattle.block_pair.specs.Words.{IsBlock}
use Rattle.key_wrap_core.specs.Words.{word_bytes}
use Rattle.key_wrap_core.specs.BlockCalls.{block_calls}
use Rattle.key_wrap_core.proofs.Spelling.{read_word}
use Rattle.key_wrap_core.proofs.Stepping.{more_calls}
use Rattle.key_wrap_core.proofs.Counting.{called_none, called_next, called_pair}
use Rattle.key_wrap_core.proofs.WrapStepping.{ended_state, state_block, more_stepped}
use Rattle.key_wrap_core.proofs.machine.wrap_words.Goals as goal

pub loop-done-init : goal.loop-done-init
loop-done-init g c =
    record {
      state = c.first_block-block.ensures (g.B.BlockPair.encrypted c.args.meter.now.pair);
      calls = called_none 0 c.args.meter.now refl;
    }

pub loop-done-preserved : goal.loop-done-preserved
loop-done-preserved g c =
    let E = g.B.BlockPair.encrypted c.args.meter.now.pair in
    let so_far = c.loop-done.invariant in
    let kept = called_pair c.loop-done.done c.args.meter.now c.loop-done.meter so_far.calls in
    let same : length c.loop-done.registers ≡ length c.args.registers.now = c.loop-done.auto.registers in
    let encrypted : c.enc.result ≡ E c.loop-done.block = rw kept at c.enc.ensures.answer in
    record {
      state = more_stepped (λ e. absurd (omega (arith, e, same, c.requires.1)))
          (λ h. c.step_words-block.ensures E c.args.iv c.args.registers.now c.loop-done.block h encrypted) (search rules) so_far.state;
      calls = called_next c.loop-done.done (c.loop-done.done + 1) c.args.meter.now c.loop-done.meter c.enc.new.self so_far.calls (search rules) refl;
    }

pub returns-clause-wrapped : goal.returns-clause-wrapped
returns-clause-wrapped g c =
    let block : List ℕ = c.loop-done.block in
    let registers : List ℕ = c.loop-done.registers in
    let same : length registers ≡ length c.args.registers.now = c.loop-done.auto.registers in
    let all : c.loop-done.done ≡ block_calls (8 + length registers) = rw same (omega (arith, more_calls (length c.args.registers.now) (omega (arith, c.requires.1)))) in
    let state = c.loop-done.invariant.state in
    let whole : IsBlock block = state_block (g.met.B.BlockPair.lawful c.args.meter.now.pair) all state in
    let front : word_bytes c.read_u64.result ≡ take 8 block =
    read_word block c.read_u64.result (omega (arith, whole.sixteen)) whole.bytes c.read_u64.ensures in
    rw front (ended_state all state)
