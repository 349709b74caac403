-- The text of a status, and the part of it in a buffer. Numbers and texts are repeated here, so that a change of status.rt
-- or texts.rt is refused.
use Rattle.std.specs.Prelude.{ℕ, ℤ, pos, List, ◌∷◌, ◌++◌, ◌+◌, ◌-◌, length, take, drop, codes, if◌then◌else◌}
use Rattle.std.specs.Ordering.{int_eq}

-- the text of a status, without the zero at its end
abbrev pub status_text_of : ℤ → List ℕ
status_text_of status =
    if int_eq status (pos 0) then codes "done"
    else (if int_eq status (pos 2) then codes "initial value is not 8 bytes, or is reserved for the padded form"
    else (if int_eq status (pos 3) then codes "key length is not 16, 24 or 32 bytes"
    else (if int_eq status (pos 4) then codes "bad length"
    else (if int_eq status (pos 5) then codes "integrity check failed"
    else (if int_eq status (pos 7) then codes "out of memory"
    else (if int_eq status (pos 8) then codes "no plain key has the length of the key"
    else codes "unknown status"))))))

-- as much of a text as a buffer has room for, with a zero after it
abbrev pub fitting : List ℕ → List ℕ → List ℕ
fitting text buffer = take (length buffer - 1) text

-- the buffer with a text at its start, a zero after that, and the old bytes after the zero
abbrev pub begun_with : List ℕ → List ℕ → List ℕ
begun_with text buffer = text ++ 0 ∷ drop (length text + 1) buffer
