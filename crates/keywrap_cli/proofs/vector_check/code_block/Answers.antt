-- The pair is lawful.
use Rattle.std.proofs.Common.{◌∙◌, ap, sym, subst}
use Rattle.block_pair.specs.Words.{IsBlock}
use Rattle.keywrap_cli.proofs.vector_check.code_block.Goals as goal

pub returns-in-Wrap : goal.returns-in-Wrap
returns-in-Wrap g c =
    let law = g.met.B.BlockPair.lawful c.args.pair.now in
    let block = subst IsBlock (sym c.enc.ensures) (law.encrypts c.args.block c.requires) in
    rw c.in-Wrap.is (record { plain = c.requires; encrypted = block; value = sym c.enc.ensures })

pub returns-in-Unwrap : goal.returns-in-Unwrap
returns-in-Unwrap g c =
    let E = g.B.BlockPair.encrypted c.args.pair.now in
    let D = g.B.BlockPair.decrypted c.args.pair.now in
    let law = g.met.B.BlockPair.lawful c.args.pair.now in
    let block = subst IsBlock (sym c.dec.ensures) (law.decrypts c.args.block c.requires) in
    rw c.in-Unwrap.is (
      record { plain = block; encrypted = c.requires; value = ap E c.dec.ensures ∙ law.redone c.args.block c.requires },
      λ other is same. sym (law.undone other is) ∙ ap D same ∙ sym c.dec.ensures,
    )
