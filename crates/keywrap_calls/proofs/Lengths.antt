-- The lengths of buffers, from what a call that is done says of them: that it did not refuse them.
use Rattle.std.proofs.Common.{ℕ, List, length, drop, arith, length-drop, ◌+◌, ◌≤◌, ◌%◌, ◌≡◌}
use Rattle.std.proofs.Math.Decide.{dec_le}
use Rattle.std.proofs.Math.Logic.{by_cases}
use Rattle.key_wrap_core.specs.declared.lengths.TheConstants.{MAX_KEY}
use Rattle.key_wrap_core.specs.Lengths.{IsPlainKeyLength, IsPlainTextLength, IsPaddedTextLength}
use Rattle.key_wrap_core.specs.InPlace.{IsPaddedRoom, ArePlainLengths}
use Rattle.keywrap_calls.specs.KindCalls.{HasScratch}

-- a buffer whose key has a legal length after the first word
pub plain_text_length : (buffer : List ℕ) → IsPlainKeyLength (length (drop 8 buffer)) → IsPlainTextLength (length buffer)
plain_text_length buffer (whole, least, most) =
    let behind = length-drop 8 buffer in
    (omega (arith, behind, whole), omega (arith, behind, least), omega (arith, behind, most))

-- an order that is not refused holds
≤-not_refused : (a b : ℕ) → ¬ (¬ (a ≤ b)) → a ≤ b
≤-not_refused a b kept = by_cases (dec_le a b) (λ below. below) (λ above. absurd (kept above))

-- an equation that is not refused holds
≡-not_refused : (a b : ℕ) → ¬ (¬ (a ≡ b)) → a ≡ b
≡-not_refused a b kept =
    let below : a ≤ b = ≤-not_refused a b (λ no. kept (λ same. no (omega (arith, same)))) in
    let above : b ≤ a = ≤-not_refused b a (λ no. kept (λ same. no (omega (arith, same)))) in
    omega (arith, below, above)

-- a key and a text whose lengths are not refused
pub plain_lengths-not_refused : (key text : ℕ) → ¬ (¬ ArePlainLengths key text) → ArePlainLengths key text
plain_lengths-not_refused key text kept =
    let whole : key % 8 ≡ 0 = ≡-not_refused _ _ (λ no. kept (λ they. no they.0.0)) in
    let least : 16 ≤ key = ≤-not_refused _ _ (λ no. kept (λ they. no they.0.1)) in
    let most : key ≤ MAX_KEY = ≤-not_refused _ _ (λ no. kept (λ they. no they.0.2)) in
    ((whole, least, most), ≡-not_refused _ _ (λ no. kept (λ they. no they.1)))

-- a scratch buffer that is not refused
pub scratch-not_refused : (text scratch : ℕ) → ¬ (IsPaddedTextLength text × ¬ (text ≡ scratch + 8)) → HasScratch text scratch
scratch-not_refused text scratch kept = λ legal. ≡-not_refused _ _ (λ no. kept (legal, no))

-- a room that is not refused
pub room-not_refused : (m len : ℕ) → ¬ (¬ IsPaddedRoom m len) → IsPaddedRoom m len
room-not_refused m len kept =
    let least : 1 ≤ m = ≤-not_refused _ _ (λ no. kept (λ it. no it.0.0)) in
    let most : m ≤ MAX_KEY = ≤-not_refused _ _ (λ no. kept (λ it. no it.0.1)) in
    ((least, most), ≡-not_refused _ _ (λ no. kept (λ it. no it.1)))

-- a length of a plain text that is not refused
pub plain_text-not_refused : (len : ℕ) → ¬ (¬ IsPlainTextLength len) → IsPlainTextLength len
plain_text-not_refused len kept =
    let whole : len % 8 ≡ 0 = ≡-not_refused _ _ (λ no. kept (λ they. no they.0)) in
    let least : 24 ≤ len = ≤-not_refused _ _ (λ no. kept (λ they. no they.1)) in
    let most : len ≤ MAX_KEY + 8 = ≤-not_refused _ _ (λ no. kept (λ they. no they.2)) in
    (whole, least, most)
