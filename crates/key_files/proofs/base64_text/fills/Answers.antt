-- The encoding is the output, if it is as long.
use Rattle.key_files.proofs.Common.{◌∙◌, output_encoding}
use Rattle.base64.specs.declared.encode.EncodeSliceError.TheVariants.{OutputSliceTooSmall}
use Rattle.key_files.proofs.Base64.{encode_of-same, filled}
use Rattle.key_files.proofs.base64_text.fills.Goals as goal

pub returns-in-Ok-clause-whole : goal.returns-in-Ok-clause-whole
returns-in-Ok-clause-whole c = λ whole.
    let wrote = c.in-Ok.ensures in
    let e = c.output_encoding.result in
    filled e c.args.bytes.now c.args.output.now c.encode_slice.new.output c.in-Ok.len c.encode_slice.result OutputSliceTooSmall c.in-Ok.is
    c.encode_slice.ensures.fits c.encode_slice.ensures.too_small wrote.written c.encode_slice.auto.output whole
    ∙ encode_of-same e (output_encoding c.args.alphabet) c.args.bytes.now c.output_encoding.ensures
