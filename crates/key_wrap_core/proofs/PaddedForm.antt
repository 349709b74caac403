-- The padded form over the registers: what a wrapping says of the buffer, and what fixes what.
use Rattle.std.proofs.Common.{◌≡◌, ℕ, ◌-◌, ◌*◌, ◌≤◌, List, [], ◌∷◌, ◌++◌, length, take, drop, replicate, refl, sym, ap, subst, ◌∙◌, arith}
use Rattle.std.proofs.lemmas.List.{append-nil, take_at}
use Rattle.block_pair.specs.Pair.{AreInverse}
use Rattle.block_pair.specs.Words.{IsWord, IsBlock}
use Rattle.key_wrap_core.specs.declared.lengths.TheConstants.{MAX_KEY}
use Rattle.key_wrap_core.specs.Words.{word_bytes, spelled, joined}
use Rattle.key_wrap_core.specs.Tape.{Wraps}
use Rattle.key_wrap_core.specs.Lengths.{IsPaddedKeyLength}
use Rattle.key_wrap_core.specs.Registers.{Registers}
use Rattle.key_wrap_core.specs.Padded.{Padded, PaddedText, aiv, padded, word_count}
use Rattle.key_wrap_core.specs.PaddedRegisters.{PaddedRegisters, IsAivAndKey, HasKeyLength}
use Rattle.key_wrap_core.specs.NoKey.{NoKey}
use Rattle.key_wrap_core.proofs.Spelling.{length-spelled, joined_block, block_words, spelled_same, word_front}
use Rattle.key_wrap_core.proofs.Tapes.{wraps_iv, wraps_key, wraps_forward, registers_of, registers_backward}
use Rattle.key_wrap_core.proofs.FormLengths.{padded_words_length}

pub aiv_word : (m : ℕ) → m ≤ MAX_KEY → IsWord (aiv m)
aiv_word m h = omega arith

spelled_two : (a x : ℕ) → spelled (a ∷ x ∷ []) ≡ joined a x
spelled_two a x = ap (λ (b : List ℕ). word_bytes a ++ b) (append-nil (word_bytes x))

-- one block is the registers of one word
pub one_block : {E : List ℕ → List ℕ} (before after : List ℕ) → IsBlock before → E before ≡ after → PaddedRegisters E before after
one_block {E = E} before after block e =
    let w = block_words before block in
    record {
      iv = w.a;
      P = w.x ∷ [];
      word = w.word_a;
      words = (w.word_x, tt);
      key_words = spelled_two w.a w.x ∙ w.bytes;
      text_words = ap E w.bytes ∙ e;
    }

-- a text is as long as the registers that are wrapped to it
pub padded_registers_length : {E D : List ℕ → List ℕ} {before after : List ℕ} → AreInverse E D → PaddedRegisters E before after
    → length after ≡ length before
padded_registers_length {after = after} inv r =
    omega (arith, padded_words_length r.iv r.P after inv r.text_words, ap length r.key_words, length-spelled (r.iv ∷ r.P))

-- for more words the text is the wrapping of RFC 3394
many_text : {E : List ℕ → List ℕ} (iv : ℕ) (P C : List ℕ) (text : List ℕ) → 2 ≤ length P → spelled C ≡ text → Wraps E iv P C → PaddedText E iv P text
many_text iv [] C text more e w = (C, e, w)
many_text iv (p ∷ []) C text more e w = absurd (omega arith)
many_text iv (p ∷ q ∷ P) C text more e w = (C, e, w)

pub many_registers : {E : List ℕ → List ℕ} {before after : List ℕ} → 24 ≤ length before → Registers E before after → PaddedRegisters E before after
many_registers {after = after} size r =
    let words : 2 ≤ length r.P = omega (arith, ap length r.key_words, length-spelled (r.iv ∷ r.P)) in
    record {
      iv = r.iv;
      P = r.P;
      word = wraps_iv r.wraps;
      words = wraps_key r.wraps;
      key_words = r.key_words;
      text_words = many_text r.iv r.P r.C after words r.text_words r.wraps;
    }

many_words : {E : List ℕ → List ℕ} (iv : ℕ) (P : List ℕ) (text : List ℕ) → 2 ≤ length P → PaddedText E iv P text
    → (C : List ℕ) × (spelled C ≡ text) × Wraps E iv P C
many_words iv [] text more t = t
many_words iv (p ∷ []) text more t = absurd (omega arith)
many_words iv (p ∷ q ∷ P) text more t = t

-- and the registers of the wrapping are the registers of RFC 3394
pub registers_many : {E : List ℕ → List ℕ} {before after : List ℕ} → 24 ≤ length before → PaddedRegisters E before after → Registers E before after
registers_many {after = after} size r =
    let words : 2 ≤ length r.P = omega (arith, ap length r.key_words, length-spelled (r.iv ∷ r.P)) in
    let t = many_words r.iv r.P after words r.text_words in
    record { iv = r.iv; P = r.P; C = t.0; key_words = r.key_words; text_words = t.1; wraps = t.2 }

-- words have one text
text_same : (E : List ℕ → List ℕ) (iv : ℕ) (P text other : List ℕ) → PaddedText E iv P text → PaddedText E iv P other → text ≡ other
text_same E iv [] text other h k = sym h.1 ∙ ap spelled (wraps_forward h.2 k.2) ∙ k.1
text_same E iv (p ∷ []) text other h k = sym h ∙ k
text_same E iv (p ∷ q ∷ P) text other h k = sym h.1 ∙ ap spelled (wraps_forward h.2 k.2) ∙ k.1

pub padded_registers_forward : {E : List ℕ → List ℕ} {before after other : List ℕ} → PaddedRegisters E before after → PaddedRegisters E before other
    → after ≡ other
padded_registers_forward {E = E} {after = after} {other = other} h k =
    let same : h.iv ∷ h.P ≡ k.iv ∷ k.P = spelled_same (h.iv ∷ h.P) (k.iv ∷ k.P) (h.word, h.words) (k.word, k.words) (h.key_words ∙ sym k.key_words) in
    let iv : k.iv ≡ h.iv = cc in
    let P : k.P ≡ h.P = cc in
    text_same E h.iv h.P after other h.text_words (subst (λ (v : ℕ). PaddedText E v h.P other) iv
    (subst (λ (Q : List ℕ). PaddedText E k.iv Q other) P k.text_words))

-- the registers of a wrapping by RFC 3394 are fixed by their text
wraps_words : {E D : List ℕ → List ℕ} (iv iv' : ℕ) (P P' C C' text : List ℕ) → AreInverse E D → spelled C ≡ text → Wraps E iv P C → spelled C' ≡ text
    → Wraps E iv' P' C' → spelled (iv ∷ P) ≡ spelled (iv' ∷ P')
wraps_words {E = E} iv iv' P P' C C' text inv e w e' w' =
    registers_backward inv (registers_of w) (subst (λ (t : List ℕ). Registers E (spelled (iv' ∷ P')) t) (e' ∙ sym e) (registers_of w'))

-- a text has one run of words
words_same : {E D : List ℕ → List ℕ} (iv iv' : ℕ) (P P' text : List ℕ) → AreInverse E D → length P ≡ length P' → PaddedText E iv P text
    → PaddedText E iv' P' text → spelled (iv ∷ P) ≡ spelled (iv' ∷ P')
words_same iv iv' [] [] text inv size h k = wraps_words iv iv' [] [] h.0 k.0 text inv h.1 h.2 k.1 k.2
words_same {D = D} iv iv' (p ∷ []) (p' ∷ []) text inv size h k =
    let block : joined iv p ≡ joined iv' p' = sym (inv.undone (joined iv p) (joined_block iv p)) ∙ ap D (h ∙ sym k)
    ∙ inv.undone (joined iv' p') (joined_block iv' p') in
    spelled_two iv p ∙ block ∙ sym (spelled_two iv' p')
words_same iv iv' (p ∷ q ∷ P) (p' ∷ q' ∷ P') text inv size h k =
    wraps_words iv iv' (p ∷ q ∷ P) (p' ∷ q' ∷ P') h.0 k.0 text inv h.1 h.2 k.1 k.2
words_same iv iv' [] (p' ∷ P') text inv size h k = absurd (omega arith)
words_same iv iv' (p ∷ P) [] text inv size h k = absurd (omega arith)
words_same iv iv' (p ∷ []) (p' ∷ q' ∷ P') text inv size h k = absurd (omega arith)
words_same iv iv' (p ∷ q ∷ P) (p' ∷ []) text inv size h k = absurd (omega arith)

pub padded_registers_backward : {E D : List ℕ → List ℕ} {before other after : List ℕ} → AreInverse E D → PaddedRegisters E before after
    → PaddedRegisters E other after → before ≡ other
padded_registers_backward {after = after} inv h k =
    let size : length h.P ≡ length k.P = omega (
      arith,
      padded_words_length h.iv h.P after inv h.text_words,
      padded_words_length k.iv k.P after inv k.text_words,
    ) in
    sym h.key_words ∙ words_same h.iv k.iv h.P k.P after inv size h.text_words k.text_words ∙ k.key_words

-- a padded wrapping is a run of the registers from the key's initial value and the padded key
pub padded_registers : {E : List ℕ → List ℕ} {key text : List ℕ} → Padded E key text → PaddedRegisters E (word_bytes (aiv (length key)) ++ padded key) text
padded_registers {key = key} h = record {
  iv = aiv (length key);
  P = h.P;
  word = aiv_word (length key) h.legal.1;
  words = h.words;
  key_words = ap (λ (b : List ℕ). word_bytes (aiv (length key)) ++ b) h.key_words;
  text_words = h.text_words;
}

pub registers_padded : {E : List ℕ → List ℕ} (key before text : List ℕ) → IsPaddedKeyLength (length key) → IsAivAndKey before key → PaddedRegisters E before text
    → Padded E key text
registers_padded {E = E} key before text legal holds r =
    let front = word_front r.iv (aiv (length key)) (spelled r.P) (padded key) r.word (aiv_word (length key) legal.1) (r.key_words ∙ holds) in
    record {
      legal = legal;
      P = r.P;
      words = r.words;
      key_words = front.1;
      text_words = subst (λ (v : ℕ). PaddedText E v r.P text) front.0 r.text_words;
    }

pub padded_only_text : {E : List ℕ → List ℕ} {key text other : List ℕ} → Padded E key text → Padded E key other → other ≡ text
padded_only_text h k = padded_registers_forward (padded_registers k) (padded_registers h)

-- the registers hold one key
pub held_key : (buffer key other : List ℕ) → IsPaddedKeyLength (length key) → IsPaddedKeyLength (length other) → IsAivAndKey buffer key → IsAivAndKey buffer other
    → other ≡ key
held_key buffer key other legal legal' h k =
    let front = word_front (aiv (length other)) (aiv (length key)) (padded other) (padded key) (aiv_word (length other) legal'.1)
    (aiv_word (length key) legal.1) (sym k ∙ h) in
    let size : length other ≡ length key = omega (arith, front.0) in
    let zeros : List ℕ → List ℕ = λ xs. replicate (8 * word_count (length xs) - length xs) 0 in
    sym (take_at other (zeros other) (length other) refl) ∙ ap (take (length other)) front.1 ∙ take_at key (zeros key) (length other) (sym size)

pub padded_only_key : {E D : List ℕ → List ℕ} {key other text : List ℕ} → AreInverse E D → Padded E key text → Padded E other text → other ≡ key
padded_only_key {key = key} {other = other} inv h k =
    held_key (word_bytes (aiv (length key)) ++ padded key) key other h.legal k.legal refl
    (padded_registers_backward inv (padded_registers h) (padded_registers k))

-- the buffer to which the registers run back holds the key, and no other key belongs to the text
pub padded_unwrapped : {E D : List ℕ → List ℕ} {buffer after : List ℕ} (read text key : List ℕ) (len : ℕ) → AreInverse E D → PaddedRegisters E buffer after
    → after ≡ text → read ≡ buffer → HasKeyLength read len → key ≡ take len (drop 8 read)
    → Padded E key text × ((other : List ℕ) → Padded E other text → other ≡ key) × ((other : List ℕ) → Padded E key other → other ≡ text)
padded_unwrapped {E = E} read text key len inv back ends same held cut =
    let run : PaddedRegisters E read text = rw (same, ← ends) back in
    let legal : IsPaddedKeyLength (length (take len (drop 8 read))) = rw held.size held.legal in
    let h : Padded E key text = rw cut (registers_padded (take len (drop 8 read)) read text legal held.holds run) in
    (h, λ other k. padded_only_key inv h k, λ other k. padded_only_text h k)

-- and if it holds no key, none belongs to the text
pub padded_refused : {E D : List ℕ → List ℕ} {buffer after : List ℕ} (read text : List ℕ) → AreInverse E D → PaddedRegisters E buffer after → after ≡ text
    → read ≡ buffer → ((key : List ℕ) → IsPaddedKeyLength (length key) → ¬ IsAivAndKey read key) → NoKey (Padded E) text
padded_refused {E = E} read text inv back ends same none key h =
    let run : PaddedRegisters E read text = rw (same, ← ends) back in
    none key h.legal (padded_registers_backward inv run (padded_registers h))
