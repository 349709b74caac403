-- One word is the one block.
use Rattle.std.proofs.Common.{rules, ◌≡◌, ◌+◌, ℕ, List, length, take, arith}
use Rattle.block_pair.specs.Words.{IsBlock}
use Rattle.key_wrap_core.specs.Words.{word_bytes}
use Rattle.key_wrap_core.specs.BlockCalls.{block_calls}
use Rattle.key_wrap_core.specs.Steps.{WrapState}
use Rattle.key_wrap_core.proofs.Spelling.{read_word}
use Rattle.key_wrap_core.proofs.Stepping.{one_call}
use Rattle.key_wrap_core.proofs.WrapStepping.{ended_state, state_block}
use Rattle.key_wrap_core.proofs.machine.machine_wrap.Goals as goal

pub returns-clause-wrapped : goal.returns-clause-wrapped
returns-clause-wrapped g c =
    let E = g.B.BlockPair.encrypted c.args.meter.now.pair in
    let given : List ℕ = c.args.registers.now in
    let block : List ℕ = c.step_registers-block.result in
    let registers : List ℕ = c.step_registers-block.new.registers in
    let eight : length given ≡ 8 = omega arith in
    let same : length registers ≡ length given = search rules in
    let state : WrapState E c.args.iv given 1 registers block =
    c.step_registers-block.ensures E c.args.iv given c.first_block.result (c.first_block.ensures E) c.enc.ensures.answer in
    let all : 1 ≡ block_calls (8 + length registers) = rw same (omega (arith, one_call (length given) eight)) in
    let whole : IsBlock block = state_block (g.met.B.BlockPair.lawful c.args.meter.now.pair) all state in
    let front : word_bytes c.read_u64.result ≡ take 8 block =
    read_word block c.read_u64.result (omega (arith, whole.sixteen)) whole.bytes c.read_u64.ensures in
    rw front (ended_state all state)
