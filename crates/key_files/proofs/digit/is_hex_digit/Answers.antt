-- Both tests agree at each byte.
use Rattle.key_files.proofs.Common.{◌<◌, ◌&&◌, ◌||◌, leb, bit_or, arith, refl, agree_below_at, is_hex_digit}
use Rattle.key_files.proofs.digit.is_hex_digit.Goals as goal

pub returns : goal.returns
returns c =
    let fits : c.args.c < 256 = omega (arith, c.ranges.c.fits) in
    agree_below_at (λ c. (leb 48 c && leb c 57) || (leb 97 (bit_or c 32) && leb (bit_or c 32) 102)) is_hex_digit 256 c.args.c refl fits
