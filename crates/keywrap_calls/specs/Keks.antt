-- What a call takes as its KEK: the bytes of a KEK, or a kept KEK. A kept KEK has a mark of 8 bytes, and behind it the key
-- schedule (FIPS 197, section 5.2), each word in four bytes, the first of them the most significant.
use Rattle.std.specs.Prelude.{◌≡◌, ◌↔◌, ◌⊎◌, ℕ, ℤ, ◌+◌, ◌-◌, ◌*◌, nat_lt, if◌then◌else◌, List, length, drop}
use Rattle.byteorder.specs.Endian.{big_number}
use Rattle.fips197.specs.KeyExpansion.{IsKekLength, key_expansion}
use Rattle.fips197.specs.Cipher.{cipher, cipher_by}
use Rattle.fips197.specs.ScheduleBytes.{IsScheduleLength, words_in}
use Rattle.keywrap_calls.specs.Status.{IsDone, IsBadKek, IsBadLength, IsWrapStatus}

-- "kept KEK" in the eight bytes of a word
abbrev pub mark : ℕ
mark = 0x6b657074204b454b

-- the mark, and a schedule of 176, 208 or 240 bytes
abbrev pub IsKept : List ℕ → Type 0
IsKept bytes = (big_number 8 bytes ≡ mark) × IsScheduleLength (length bytes - 8)

-- what a call accepts: 16, 24 or 32 bytes, or a kept KEK
unfoldable pub IsKek : List ℕ → Type 0
IsKek bytes = IsKekLength (length bytes) ⊎ IsKept bytes

-- a kept KEK whose schedule is the one of `kek`
pub record Keeps (kek kept : List ℕ) : Type 0 where
  pub legal : IsKept kept
  pub words : words_in (drop 8 kept) ≡ key_expansion kek

-- the cipher of a call: AES under its KEK, or by the schedule of its kept KEK
unfoldable pub aes_of : List ℕ → List ℕ → List ℕ
aes_of kek = if nat_lt (length kek) 33 then cipher kek else cipher_by (words_in (drop 8 kek))

-- the call that keeps a KEK, over the whole of a buffer of 184, 216 or 248 bytes
pub record KeepsKek (kek old new : List ℕ) (status : ℤ) : Type 0 where
  pub statuses : IsWrapStatus status
  pub bad_kek : IsBadKek status ↔ ¬ IsKekLength (length kek)
  pub bad_length : IsBadLength status ↔ (IsKekLength (length kek) × ¬ (length old ≡ 4 * length kek + 120))
  pub done : IsDone status ↔ (IsKekLength (length kek) × (length old ≡ 4 * length kek + 120))
  pub keeps : IsDone status → Keeps kek new
  pub kept : ¬ IsDone status → new ≡ old
