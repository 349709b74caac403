-- What is done to a lane is one step of its wrapping, or one step of its unwrapping undone.
use Rattle.std.proofs.Common.{◌≡◌, ℕ, ◌+◌, ◌-◌, ◌*◌, ◌/◌, ◌%◌, ◌<◌, List, ◌++◌, length, take, drop, refl, ap, ◌∙◌, arith}
use Rattle.std.proofs.Common.{length-drop, length-take, length-append}
use Rattle.std.proofs.Common.{Result, Ok, Err, OnOk, All, [], ◌∷◌, inl, inr}
use Rattle.std.proofs.lemmas.Nat.{xor_lt}
use Rattle.std.specs.List.{AllByRecursion}
use borrow.Rule.Slice.PartMut.{put_mid}
use Rattle.block_pair.specs.Words.{IsByte}
use Rattle.block_pair.specs.Each.{each_take, each_drop}
use Rattle.byteorder.specs.Endian.{big_from}
use Rattle.key_wrap_core.specs.declared.agreed_form.AgreedForm.TheVariants.{Plain}
use Rattle.key_wrap_core.specs.declared.faults.InPlaceFault.{InPlaceFault}
use Rattle.key_wrap_core.specs.declared.faults.InPlaceFault.TheVariants.{BadLength, Integrity}
use Rattle.key_wrap_core.specs.Lengths.{IsPlainTextLength}
use Rattle.key_wrap_core.specs.BlockCalls.{block_calls}
use Rattle.key_wrap_core.specs.Steps.{WrapState, UnwrapState}
use Rattle.key_wrap_core.specs.StepCalls.{EndsUnwrapping}
use Rattle.key_wrap_core.proofs.Stepping.{after_turn, before_turn}
use Rattle.key_wrap_core.proofs.WrapStepping.{stepped, more_stepped}
use Rattle.key_wrap_core.proofs.UnwrapStepping.{unstepped, more_unstepped}
use Rattle.key_wrap_lanes.specs.Lanes.{AreLanes, IsEnded, part_at, block_at}
use Rattle.key_wrap_lanes.specs.LaneStep.{SteppedLane}
use Rattle.key_wrap_core.proofs.Parts.{part_room, part_length}

-- a lane of a legal length, and the two registers of its step
pub record Lane (n own next : ℕ) (text block : List ℕ) : Type 0 where
  pub legal : IsPlainTextLength (length text)
  pub count : n ≡ length text / 8 - 1
  pub sixteen : length block ≡ 16
  pub bytes : AllByRecursion IsByte block
  pub own_in : own < n
  pub next_in : next < n

pub lane_of : {len own next i : ℕ} (texts blocks : List ℕ) → AreLanes len texts blocks → AllByRecursion IsByte blocks → i < length blocks / 16
    → own < len / 8 - 1 → next < len / 8 - 1 → Lane (len / 8 - 1) own next (part_at len i texts) (block_at i blocks)
lane_of {len = len} {i = i} texts blocks lanes bytes below own_in next_in =
    let size : length (part_at len i texts) ≡ len =
    part_length len (len * i) len texts refl (part_room len i (length blocks / 16) (length texts) below lanes.2) in
    record {
      legal = rw size lanes.0;
      count = rw size refl;
      sixteen = part_length 16 (16 * i) 16 blocks refl (omega arith);
      bytes = each_take IsByte 16 (drop (16 * i) blocks) (each_drop IsByte (16 * i) blocks bytes);
      own_in = own_in;
      next_in = next_in;
    }

-- the registers keep their number
stepped_size : {n own next : ℕ} {text block registers : List ℕ} → Lane n own next text block
    → registers ≡ put_mid (8 * own) 8 (drop 8 text) (take 8 (drop 8 block)) → length registers ≡ length (drop 8 text)
stepped_size {n = n} {own = own} {text = text} {block = block} {registers = registers} lane put =
    let legal = lane.legal in
    let count = lane.count in
    let sixteen = lane.sixteen in
    let inside = lane.own_in in
    let rest : List ℕ = drop 8 (drop (8 * own) (drop 8 text)) in
    let half : List ℕ = take 8 (drop 8 block) in
    omega (
      arith,
      ap length put,
      length-append (take (8 * own) (drop 8 text)) (half ++ rest),
      length-append half rest,
      length-take (8 * own) (drop 8 text),
      length-take 8 (drop 8 block),
      length-drop 8 block,
      length-drop 8 (drop (8 * own) (drop 8 text)),
      length-drop (8 * own) (drop 8 text),
      length-drop 8 text,
    )

pub wrap_stepped : {E : List ℕ → List ℕ} {iv n t own next : ℕ} {key text block text' block' before : List ℕ} → Lane n own next text block
    → t < 6 * n → own ≡ t % n → next ≡ (own + 1) % n → SteppedLane (t + 1) own next text block text' block'
    → WrapState E iv key t (drop 8 text) before → block ≡ E before → WrapState E iv key (t + 1) (drop 8 text') block'
wrap_stepped {n = n} {t = t} {own = own} {next = next} {text = text} {block = block} {text' = text'} lane inside place place' stepped_lane state encrypted =
    let legal = lane.legal in
    let count : length (drop 8 text) / 8 ≡ n = let own_count = lane.count in omega (arith, length-drop 8 text) in
    let after : next ≡ (t + 1) % n = place' ∙ ap (λ (k : ℕ). (k + 1) % n) place ∙ after_turn n t (omega arith) in
    let registers : List ℕ = put_mid (8 * own) 8 (drop 8 text) (take 8 (drop 8 block)) in
    let size : length registers ≡ length (drop 8 text) = stepped_size lane refl in
    let more : ¬ (length (drop 8 text) ≡ 8) = λ e. absurd (omega (arith, e, length-drop 8 text)) in
    rw (stepped_lane.next_block, stepped_lane.register)
    (more_stepped more
    (λ h. stepped (big_from 0 8 block) block (take 8 (drop 8 block)) (take 8 (drop (8 * next) registers)) h encrypted (omega (arith, length-drop 8 text))
    (rw count inside) lane.sixteen lane.bytes (xor_lt 64 (big_from 0 8 block) (t + 1) stepped_lane.word (omega arith)) refl refl
    own next 8 8 (rw count place) (rw count after) refl refl refl) size state)

pub unwrap_stepped : {E : List ℕ → List ℕ} {n t own next : ℕ} {origin text block text' block' before : List ℕ} → Lane n own next text block
    → t < 6 * n → own ≡ t % n → next ≡ (n + own - 1) % n → SteppedLane t own next text block text' block'
    → UnwrapState E origin (t + 1) (drop 8 text) before → E block ≡ before → UnwrapState E origin t (drop 8 text') block'
unwrap_stepped {n = n} {t = t} {own = own} {next = next} {text = text} {block = block} {text' = text'} lane inside place place' stepped_lane state decrypted =
    let legal = lane.legal in
    let count : length (drop 8 text) / 8 ≡ n = let own_count = lane.count in omega (arith, length-drop 8 text) in
    let after : next ≡ (n + t - 1) % n = place' ∙ ap (λ (k : ℕ). (n + k - 1) % n) place ∙ before_turn n t (omega arith) in
    let registers : List ℕ = put_mid (8 * own) 8 (drop 8 text) (take 8 (drop 8 block)) in
    let size : length registers ≡ length (drop 8 text) = stepped_size lane refl in
    let more : ¬ (length (drop 8 text) ≡ 8) = λ e. absurd (omega (arith, e, length-drop 8 text)) in
    rw (stepped_lane.next_block, stepped_lane.register)
    (more_unstepped more
    (λ h. unstepped (big_from 0 8 block) block (take 8 (drop 8 block)) (take 8 (drop (8 * next) registers)) h decrypted (omega (arith, length-drop 8 text))
    (rw count inside) lane.sixteen lane.bytes stepped_lane.word refl refl
    own next 8 8 (rw count place) (rw count after) refl refl refl) size state)

-- as many steps as the registers of a lane have
pub all_steps : {len i t : ℕ} (texts blocks : List ℕ) → AreLanes len texts blocks → i < length blocks / 16 → t ≡ block_calls len
    → t ≡ block_calls (8 + length (drop 8 (part_at len i texts)))
all_steps {len = len} {i = i} texts blocks lanes below all =
    let size : length (part_at len i texts) ≡ len =
    part_length len (len * i) len texts refl (part_room len i (length blocks / 16) (length texts) below lanes.2) in
    let legal = lanes.0 in
    let whole : len ≡ 8 + length (drop 8 (part_at len i texts)) = omega (arith, size, legal, length-drop 8 (part_at len i texts)) in
    all ∙ ap (λ (k : ℕ). block_calls k) whole

-- one lane is ended: its first bytes stay
pub record EndedLane (iv : ℕ) (block text status text' status' : List ℕ) : Type 0 where
  pub first : take 8 text' ≡ take 8 text
  pub ends : IsEnded iv (drop 8 text) block (drop 8 text') status'

-- a call that cannot have refused the lengths, its status and its registers
pub ended : {iv : ℕ} {registers block registers' status : List ℕ} (result : Result (Unit {0}) InPlaceFault) (byte : ℕ) → status ≡ byte ∷ []
    → ¬ (result ≡ Err BadLength) → OnOk result (byte ≡ 0) → (result ≡ Err Integrity → byte ≡ 5)
    → (result ≡ Err Integrity → All (λ b. b ≡ 0) registers')
    → (¬ (result ≡ Err BadLength) → EndsUnwrapping (Plain iv) 0 registers block (λ (done : Unit {0}). registers') result)
    → IsEnded iv registers block registers' status
ended (Ok done) byte is good zero five cleared answer = inl (is ∙ ap (λ (b : ℕ). b ∷ []) zero, answer good)
ended (Err BadLength) byte is good zero five cleared answer = absurd (good refl)
ended (Err Integrity) byte is good zero five cleared answer = inr (is ∙ ap (λ (b : ℕ). b ∷ []) (five refl), cleared refl, answer good)
