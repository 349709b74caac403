-- The promises of the calls for many keys. The wrapped keys have one length. Each is in a slot of one buffer, behind the
-- slot before it, and has a status in one byte: slot and status are what the call for one key gives.
use Rattle.std.specs.Prelude.{◌≡◌, ◌↔◌, ℕ, ℤ, pos, ◌+◌, ◌*◌, ◌/◌, ◌%◌, ◌<◌, List, length, take, drop, slice_index, replicate}
use Rattle.key_wrap_core.specs.declared.forms.Form.{Form}
use Rattle.key_wrap_core.specs.declared.forms.Form.TheVariants.{Plain, Padded}
use Rattle.key_wrap_core.specs.Lengths.{IsPaddedTextLength}
use Rattle.key_wrap_core.specs.Forms.{IsTextLengthAs, by_default}
use Rattle.key_wrap_core.specs.InPlace.{ArePlainLengths, IsPaddedRoom, key_in}
use Rattle.key_wrap_core.specs.Rewrap.{IsOldLength}
use Rattle.keywrap_calls.specs.Keks.{IsKek}
use Rattle.keywrap_calls.specs.Status.{IsDone, IsBadKek, IsBadLength, IsWrapStatus}
use Rattle.keywrap_calls.specs.Calls.{WrapsInPlace, WrapsPaddedInPlace, UnwrapsInPlace, UnwrapsPaddedInPlace, IsPaddedKey}
use Rattle.keywrap_calls.specs.KindCalls.{FindsKind}
use Rattle.keywrap_calls.specs.Rewraps.{Rewraps, AreKeks, AreFlags, forms_of, form_of_bit}

-- the slot at a place, counted from 0, of slots of n bytes
abbrev pub slot_at : (n i : ℕ) → List ℕ → List ℕ
slot_at n i bytes = take n (drop (n * i) bytes)

-- there is a slot, and each has as many bytes
abbrev pub AreSlots : (len count : ℕ) → Type 0
AreSlots len count = (0 < count) × (len % count ≡ 0)

-- the call is refused as a whole, and changes nothing, or each slot has its result
pub record IsManyCall (Keks Legal Kept : Type 0) (IsSlot : ℕ → Type 0) (count : ℕ) (status : ℤ) : Type 0 where
  pub statuses : IsWrapStatus status
  pub bad_kek : IsBadKek status ↔ ¬ Keks
  pub bad_length : IsBadLength status ↔ (Keks × ¬ Legal)
  pub done : IsDone status ↔ (Keks × Legal)
  pub kept : ¬ IsDone status → Kept
  pub slots : IsDone status → (i : ℕ) → i < count → IsSlot i

-- a rewrapped slot; its byte is the status, or 1 for a wrapped key that was new already
pub record RewrapsSlot (E F : List ℕ → List ℕ) (old_kek new_kek : List ℕ) (flags : ℕ) (old new : List ℕ) (byte : ℕ) : Type 0 where
  pub already : ℕ
  pub code : ℕ
  pub call : Rewraps E F old_kek new_kek flags old new already (pos code)
  pub byte_is : byte ≡ code + already

abbrev pub AreRewrapSlots : (flags len count : ℕ) → Type 0
AreRewrapSlots flags len count = AreFlags flags × AreSlots len count × IsOldLength (forms_of flags) (len / count)

-- `before` and `after` are the statuses
abbrev pub RewrapsMany : (E F : List ℕ → List ℕ) (old_kek new_kek : List ℕ) (flags : ℕ) (old new before after : List ℕ) (status : ℤ) → Type 0
RewrapsMany E F old_kek new_kek flags old new before after status =
    IsManyCall (AreKeks old_kek new_kek) (AreRewrapSlots flags (length old) (length before)) ((new ≡ old) × (after ≡ before))
    (λ i. RewrapsSlot E F old_kek new_kek flags (slot_at (length old / length before) i old) (slot_at (length old / length before) i new)
    (slice_index after i)) (length before) status

-- a wrap has no flag, or bit 1 for the padded form
abbrev pub AreWrapFlags : ℕ → Type 0
AreWrapFlags flags = (flags < 3) × (flags % 2 ≡ 0)

abbrev pub wrap_form : ℕ → Form
wrap_form flags = form_of_bit (flags / 2)

-- the lengths of a key and of its slot, which is as long as the wrapped key
abbrev pub IsKeySlot : Form → (key_len len : ℕ) → Type 0
IsKeySlot Plain key_len len = ArePlainLengths key_len len
IsKeySlot Padded key_len len = IsPaddedRoom key_len len

abbrev pub WrapsSlot : Form → (E : List ℕ → List ℕ) (kek : List ℕ) (key_len : ℕ) (old new : List ℕ) (status : ℤ) → Type 0
WrapsSlot Plain E kek key_len old new status = WrapsInPlace E kek old new status
WrapsSlot Padded E kek key_len old new status = WrapsPaddedInPlace E kek key_len old new status

abbrev pub AreWrapSlots : (flags key_len len count : ℕ) → Type 0
AreWrapSlots flags key_len len count = AreWrapFlags flags × AreSlots len count × IsKeySlot (wrap_form flags) key_len (len / count)

abbrev pub WrapsMany : (E : List ℕ → List ℕ) (kek : List ℕ) (key_len flags : ℕ) (old new before after : List ℕ) (status : ℤ) → Type 0
WrapsMany E kek key_len flags old new before after status =
    IsManyCall (IsKek kek) (AreWrapSlots flags key_len (length old) (length before)) ((new ≡ old) × (after ≡ before))
    (λ i. WrapsSlot (wrap_form flags) E kek key_len (slot_at (length old / length before) i old) (slot_at (length old / length before) i new)
    (pos (slice_index after i))) (length before) status

-- an unwrap has no flag, or bit 0 for the padded form
abbrev pub AreUnwrapFlags : ℕ → Type 0
AreUnwrapFlags flags = flags < 2

-- 8 zero bytes and the key, whose length is in the list beside it, or 0 there
pub record UnwrapsPlainSlot (E : List ℕ → List ℕ) (kek old new : List ℕ) (key_len : ℕ) (status : ℤ) : Type 0 where
  pub call : UnwrapsInPlace E kek old new status
  pub first_word : IsDone status → take 8 new ≡ replicate 8 0
  pub key_len_is : IsDone status → key_len ≡ length (drop 8 new)
  pub no_key : ¬ IsDone status → key_len ≡ 0

pub record UnwrapsPaddedSlot (E : List ℕ → List ℕ) (kek old new : List ℕ) (key_len : ℕ) (status : ℤ) : Type 0 where
  pub call : UnwrapsPaddedInPlace E kek old new key_len status
  pub key : IsPaddedKey E old (key_in key_len new) (replicate 8 0) new key_len status

abbrev pub UnwrapsSlot : Form → (E : List ℕ → List ℕ) (kek old new : List ℕ) (key_len : ℕ) (status : ℤ) → Type 0
UnwrapsSlot Plain E kek old new key_len status = UnwrapsPlainSlot E kek old new key_len status
UnwrapsSlot Padded E kek old new key_len status = UnwrapsPaddedSlot E kek old new key_len status

abbrev pub AreUnwrapSlots : (flags len count key_lens : ℕ) → Type 0
AreUnwrapSlots flags len count key_lens =
    AreUnwrapFlags flags × AreSlots len count × IsTextLengthAs (by_default (form_of_bit flags)) (len / count) × (key_lens ≡ count)

-- `lens` and `key_lens` are the lengths before and after
abbrev pub UnwrapsMany : (E : List ℕ → List ℕ) (kek : List ℕ) (flags : ℕ) (old new lens key_lens before after : List ℕ) (status : ℤ) → Type 0
UnwrapsMany E kek flags old new lens key_lens before after status =
    IsManyCall (IsKek kek) (AreUnwrapSlots flags (length old) (length before) (length lens))
    ((new ≡ old) × (key_lens ≡ lens) × (after ≡ before))
    (λ i. UnwrapsSlot (form_of_bit flags) E kek (slot_at (length old / length before) i old) (slot_at (length old / length before) i new)
    (slice_index key_lens i) (pos (slice_index after i))) (length before) status

-- what is found of the text in a slot, by way of some scratch buffer that is 8 bytes shorter
pub record FindsSlot (E : List ℕ → List ℕ) (kek text : List ℕ) (is_padded key_len : ℕ) (status : ℤ) : Type 0 where
  pub before : List ℕ
  pub after : List ℕ
  pub room : length text ≡ length before + 8
  pub call : FindsKind E kek text before after is_padded key_len status

-- as many forms and lengths as statuses, and a scratch buffer for one slot
abbrev pub AreKindSlots : (len room forms key_lens count : ℕ) → Type 0
AreKindSlots len room forms key_lens count =
    AreSlots len count × IsPaddedTextLength (len / count) × (len / count ≡ room + 8) × (forms ≡ count) × (key_lens ≡ count)

abbrev pub FindsMany : (E : List ℕ → List ℕ) (kek texts : List ℕ) (scratch scratch' forms forms' lens lens' before after : List ℕ) (status : ℤ) → Type 0
FindsMany E kek texts scratch scratch' forms forms' lens lens' before after status =
    IsManyCall (IsKek kek) (AreKindSlots (length texts) (length scratch) (length forms) (length lens) (length before))
    ((scratch' ≡ scratch) × (forms' ≡ forms) × (lens' ≡ lens) × (after ≡ before))
    (λ i. FindsSlot E kek (slot_at (length texts / length before) i texts) (slice_index forms' i) (slice_index lens' i)
    (pos (slice_index after i))) (length before) status
