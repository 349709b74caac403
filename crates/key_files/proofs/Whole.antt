-- What a call took from a reader, and what it answers for that: one lemma for each way in which a read ends, and those that
-- carry the answer for a raw file over to a file of text.
use Rattle.std.proofs.Common.{◌≡◌, ◌≢◌, ◌≤◌, ◌+◌, ℕ, List, [], length, Option, Result, Ok, Err, Vec}
use Rattle.key_files.proofs.Common.{arith, refl, sym, ap, subst, ◌∙◌, append-nil, inl, inr, IsErrAnd, Consumes, IsAtEnd, Consumes-trans, cases_lt, FileFault, file_meaning, raw_meaning, IsMeaning, ReadsAs, ReadsToEnd, answer_of}
use Rattle.key_files.specs.declared.fault.FileFault.TheVariants.{Read, TooLong, BadDigit, OddDigits, BadCharacter, BehindPadding, BadBase64Length, TrailingBits, Memory}
use Rattle.key_files.proofs.Denoting.{file_meaning-past, file_meaning-within}

-- a read that took no byte
pub Consumes-none : (a b c : Option (List ℕ)) (bytes : List ℕ) → Consumes a b bytes → Consumes b c [] → Consumes a c bytes
Consumes-none a b c bytes p q = subst (Consumes a c) (append-nil bytes) (Consumes-trans a b c bytes [] p q)

-- the whole file, within the limit
pub ReadsAs-raw : {limit : ℕ} {old new : Option (List ℕ)} {bytes : List ℕ} → Consumes old new bytes → length bytes ≤ limit → IsAtEnd new
    → ReadsAs raw_meaning limit old new (Ok bytes)
ReadsAs-raw {limit = limit} {bytes = bytes} p within end = record {
  taken = bytes;
  stands_after = p;
  at_most = omega arith;
  means = file_meaning-within raw_meaning limit bytes within;
  too_long = (λ e. cc e, λ past. absurd (omega arith));
  to_end = end;
}

-- one byte past the limit
pub ReadsAs-long : {meaning : List ℕ → Result (List ℕ) FileFault} {limit : ℕ} {old new : Option (List ℕ)} (bytes : List ℕ)
    → Consumes old new bytes → length bytes ≡ limit + 1 → ReadsAs meaning limit old new (Err TooLong)
ReadsAs-long {meaning = meaning} {limit = limit} bytes p past = record {
  taken = bytes;
  stands_after = p;
  at_most = omega arith;
  means = file_meaning-past meaning limit bytes (omega arith);
  too_long = (λ e. omega arith, λ l. refl);
  to_end = tt;
}

-- an allocation that failed within the limit
pub ReadsAs-memory : {Z : Type 0} {meaning : List ℕ → Result (List ℕ) FileFault} {limit : ℕ} {old new : Option (List ℕ)} (bytes : List ℕ)
    (answer : Result (Vec ℕ Z) FileFault) → IsErrAnd answer (λ fault. fault ≡ Memory) → Consumes old new bytes → length bytes ≤ limit
    → ReadsAs meaning limit old new (answer_of answer)
ReadsAs-memory bytes (Ok v) is p within = absurd is
ReadsAs-memory {meaning = meaning} {limit = limit} {old = old} {new = new} bytes (Err fault) is p within =
    let stopped : ReadsAs meaning limit old new (Err Memory) = record {
      taken = bytes;
      stands_after = p;
      at_most = omega arith;
      means = tt;
      too_long = (λ e. cc e, λ past. absurd (omega arith));
      to_end = tt;
    } in
    subst (λ f. ReadsAs meaning limit old new (Err f)) (sym is) stopped

-- a raw file is refused for its length only
raw_refused : {limit : ℕ} {old new : Option (List ℕ)} {fault : FileFault} (r : ReadsAs raw_meaning limit old new (Err fault)) → fault ≢ TooLong
    → file_meaning raw_meaning limit r.taken ≡ Err fault → ⊥
raw_refused {limit = limit} r other means =
    elim (cases_lt limit (length r.taken)) [
      | inl past ↦ other (cc (r.too_long.1 past))
      | inr within ↦ cc (sym (file_meaning-within raw_meaning limit r.taken (omega arith)) ∙ means)
    ]

-- a refused read of a raw file is one of the same file in each notation
pub ReadsAs-refused : {meaning : List ℕ → Result (List ℕ) FileFault} {limit : ℕ} {old new : Option (List ℕ)} (fault : FileFault)
    → ReadsAs raw_meaning limit old new (Err fault) → ReadsAs meaning limit old new (Err fault)
ReadsAs-refused Read r =
    record { taken = r.taken; stands_after = r.stands_after; at_most = r.at_most; means = tt; too_long = r.too_long; to_end = tt }
ReadsAs-refused Memory r =
    record { taken = r.taken; stands_after = r.stands_after; at_most = r.at_most; means = tt; too_long = r.too_long; to_end = tt }
ReadsAs-refused {meaning = meaning} {limit = limit} TooLong r =
    let past = file_meaning-past meaning limit r.taken (r.too_long.0 refl) in
    record { taken = r.taken; stands_after = r.stands_after; at_most = r.at_most; means = past; too_long = r.too_long; to_end = tt }
ReadsAs-refused (BadDigit at) r = absurd (raw_refused r (λ e. cc e) r.means)
ReadsAs-refused OddDigits r = absurd (raw_refused r (λ e. cc e) r.means)
ReadsAs-refused (BadCharacter at) r = absurd (raw_refused r (λ e. cc e) r.means)
ReadsAs-refused (BehindPadding at) r = absurd (raw_refused r (λ e. cc e) r.means)
ReadsAs-refused BadBase64Length r = absurd (raw_refused r (λ e. cc e) r.means)
ReadsAs-refused TrailingBits r = absurd (raw_refused r (λ e. cc e) r.means)

-- a raw file that was read whole is what was taken
taken-raw : {limit : ℕ} {old new : Option (List ℕ)} {text : List ℕ} (r : ReadsAs raw_meaning limit old new (Ok text))
    → (length r.taken ≤ limit) × (r.taken ≡ text)
taken-raw {limit = limit} {text = text} r =
    elim (cases_lt limit (length r.taken)) [
      | inl past ↦ cc (r.too_long.1 past)
      | inr within ↦
          let fits : length r.taken ≤ limit = omega arith in
          let same : Ok r.taken ≡ Ok text = sym (file_meaning-within raw_meaning limit r.taken fits) ∙ r.means in
          (fits, cc)
    ]

-- an answer for the text of a file that was read whole is one for the file
ReadsAs-text : {meaning : List ℕ → Result (List ℕ) FileFault} {limit : ℕ} {old new : Option (List ℕ)} {text : List ℕ}
    (answer : Result (List ℕ) FileFault) (r : ReadsAs raw_meaning limit old new (Ok text)) → IsMeaning answer (meaning text)
    → answer ≢ Err TooLong → ReadsToEnd answer new → ReadsAs meaning limit old new answer
ReadsAs-text {meaning = meaning} {limit = limit} answer r means short end =
    let (fits, same) = taken-raw r in
    let file = file_meaning-within meaning limit r.taken fits ∙ ap meaning same in
    record {
      taken = r.taken;
      stands_after = r.stands_after;
      at_most = r.at_most;
      means = subst (IsMeaning answer) (sym file) means;
      too_long = (λ e. absurd (short e), λ past. absurd (omega arith));
      to_end = end;
    }

-- a file of text that was read whole, and then decoded
pub ReadsAs-decoded : {meaning : List ℕ → Result (List ℕ) FileFault} {limit : ℕ} {old new : Option (List ℕ)} {text : List ℕ}
    (answer : Result (List ℕ) FileFault) → meaning text ≢ Err TooLong → ReadsAs raw_meaning limit old new (Ok text)
    → IsMeaning answer (meaning text) → ReadsAs meaning limit old new answer
ReadsAs-decoded (Ok bytes) short r means = ReadsAs-text (Ok bytes) r means (λ e. cc e) r.to_end
ReadsAs-decoded (Err (BadDigit at)) short r means = ReadsAs-text (Err (BadDigit at)) r means (λ e. cc e) r.to_end
ReadsAs-decoded (Err OddDigits) short r means = ReadsAs-text (Err OddDigits) r means (λ e. cc e) r.to_end
ReadsAs-decoded (Err (BadCharacter at)) short r means = ReadsAs-text (Err (BadCharacter at)) r means (λ e. cc e) r.to_end
ReadsAs-decoded (Err (BehindPadding at)) short r means = ReadsAs-text (Err (BehindPadding at)) r means (λ e. cc e) r.to_end
ReadsAs-decoded (Err BadBase64Length) short r means = ReadsAs-text (Err BadBase64Length) r means (λ e. cc e) r.to_end
ReadsAs-decoded (Err TrailingBits) short r means = ReadsAs-text (Err TrailingBits) r means (λ e. cc e) r.to_end
ReadsAs-decoded (Err TooLong) short r means = absurd (short means)
ReadsAs-decoded (Err Read) short r means = ReadsAs-text (Err Read) r tt (λ e. cc e) tt
ReadsAs-decoded (Err Memory) short r means = ReadsAs-text (Err Memory) r tt (λ e. cc e) tt

-- a fault of the raw file that is answered as it is
pub ReadsAs-failed : {Z : Type 0} {meaning : List ℕ → Result (List ℕ) FileFault} {limit : ℕ} {old new : Option (List ℕ)}
    (answer : Result (Vec ℕ Z) FileFault) (fault : FileFault) → IsErrAnd answer (λ f. f ≡ fault)
    → ReadsAs raw_meaning limit old new (Err fault) → ReadsAs meaning limit old new (answer_of answer)
ReadsAs-failed (Ok v) fault is r = absurd is
ReadsAs-failed {meaning = meaning} {limit = limit} {old = old} {new = new} (Err f) fault is r =
    subst (λ e. ReadsAs meaning limit old new (Err e)) (sym is) (ReadsAs-refused fault r)
