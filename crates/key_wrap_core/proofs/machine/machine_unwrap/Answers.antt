-- Each block that is decrypted is the block of the next step to undo.
use Rattle.std.proofs.Common.{rules, ◌≡◌, ◌+◌, ◌-◌, ◌≤◌, ◌<◌, ℕ, List, length, ◌++◌, take, arith, ap, ◌∙◌, subst, sym}
use Rattle.block_pair.specs.Pair.{AreInverse}
use Rattle.block_pair.specs.Words.{IsBlock}
use Rattle.key_wrap_core.specs.Words.{word_bytes}
use Rattle.key_wrap_core.specs.BlockCalls.{block_calls}
use Rattle.key_wrap_core.specs.Steps.{UnwrapState}
use Rattle.key_wrap_core.proofs.Spelling.{each_byte, read_word}
use Rattle.key_wrap_core.proofs.Registering.{word_register}
use Rattle.key_wrap_core.proofs.Stepping.{one_call}
use Rattle.key_wrap_core.proofs.Counting.{called_none, called_next, called_pair}
use Rattle.key_wrap_core.proofs.UnwrapStepping.{undo_block, undone_block, unended_padded}
use Rattle.key_wrap_core.proofs.machine.machine_unwrap.Goals as goal

pub loop-left-init : goal.loop-left-init
loop-left-init g c =
    let all : c.step_count-left.result ≡ block_calls (8 + length c.args.registers.now) = c.step_count-left.ensures in
    record {
      state = rw all (c.last_block-block.ensures (g.B.BlockPair.encrypted c.args.meter.now.pair));
      calls = called_none _ c.args.meter.now (omega arith);
    }

pub loop-left-preserved : goal.loop-left-preserved
loop-left-preserved g c =
    let pair = c.args.meter.now.pair in
    let E = g.B.BlockPair.encrypted pair in
    let D = g.B.BlockPair.decrypted pair in
    let inv : AreInverse E D = g.met.B.BlockPair.lawful pair in
    let given : List ℕ = c.args.registers.now in
    let left : ℕ = c.loop-left.left in
    let all : ℕ = block_calls (8 + length given) in
    let block : List ℕ = c.loop-left.block in
    let so_far = c.loop-left.invariant in
    let kept = called_pair (all - left) c.args.meter.now c.loop-left.meter so_far.calls in
    let same : length c.loop-left.registers ≡ length given = c.loop-left.auto.registers in
    let most : left ≤ all = let count = c.step_count-left.ensures in omega arith in
    let more : 0 < left = c.loop-left-test.true in
    let whole : IsBlock block = undo_block
    (λ eight.
    let short : length given ≡ 8 = omega (arith, eight, same) in
    (word_register c.args.c0 given short (each_byte given (search rules)), omega (arith, one_call (length given) short)))
    so_far.state in
    let decrypted : c.dec.result ≡ D block = rw kept at c.dec.ensures.answer in
    let again : left - 1 + 1 ≡ left = omega arith in
    record {
      state = c.unstep_registers-block.ensures E (word_bytes c.args.c0 ++ given) block (rw again so_far.state) (ap E decrypted ∙ inv.redone block whole);
      calls = called_next (all - left) (all - (left - 1)) c.args.meter.now c.loop-left.meter c.dec.new.self so_far.calls (search rules) (omega arith);
    }

pub unstep_registers-block-requires-clause-block : goal.unstep_registers-block-requires-clause-block
unstep_registers-block-requires-clause-block g c =
    let pair = c.args.meter.now.pair in
    let inv = g.met.B.BlockPair.lawful pair in
    let given : List ℕ = c.args.registers.now in
    let left : ℕ = c.loop-left.left in
    let all : ℕ = block_calls (8 + length given) in
    let block : List ℕ = c.loop-left.block in
    let so_far = c.loop-left.invariant in
    let kept = called_pair (all - left) c.args.meter.now c.loop-left.meter so_far.calls in
    let same : length c.loop-left.registers ≡ length given = c.loop-left.auto.registers in
    let most : left ≤ all = let count = c.step_count-left.ensures in omega arith in
    let more : 0 < left = c.loop-left-test.true in
    let whole : IsBlock block = undo_block
    (λ eight.
    let short : length given ≡ 8 = omega (arith, eight, same) in
    (word_register c.args.c0 given short (each_byte given (search rules)), omega (arith, one_call (length given) short)))
    so_far.state in
    let decrypted : c.dec.result ≡ g.B.BlockPair.decrypted pair block = rw kept at c.dec.ensures.answer in
    subst (λ (b : List ℕ). IsBlock b) (sym decrypted) (inv.decrypts block whole)

pub returns-clause-wrapped : goal.returns-clause-wrapped
returns-clause-wrapped g c =
    let block : List ℕ = c.loop-left.block in
    let none : c.loop-left.left ≡ 0 = omega arith in
    let state : UnwrapState (g.B.BlockPair.encrypted c.args.meter.now.pair) (word_bytes c.args.c0 ++ c.args.registers.now) 0 c.loop-left.registers block =
    rw none at c.loop-left.invariant.state in
    let whole : IsBlock block = undone_block state in
    let front : word_bytes c.read_u64.result ≡ take 8 block =
    read_word block c.read_u64.result (omega (arith, whole.sixteen)) whole.bytes c.read_u64.ensures in
    unended_padded c.read_u64.result front state
