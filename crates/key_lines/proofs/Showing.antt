-- The front of what a reader shows that is moved to the line.
use Rattle.key_lines.proofs.Common.{◌≡◌, ℕ, ◌+◌, ◌-◌, ◌<◌, ◌≤◌, ◌==◌, true, min, List, [], ◌∷◌, ◌++◌, length, take, drop, Option, None, Some, IfSome, Result, Ok, Err, slice_index, sym, ap, ◌∙◌, arith, subst, take-append-drop, length-append, Consumes-kept, Consumes-nil, Consumes, Keeps, nat_tests, length-take, take-take, FileFault, IsAllOf, MovesPart}
use Rattle.std.specs.Prelude.{◌≢◌, IsErrAnd}
use Rattle.std.specs.Io.{StartsWith}
use Rattle.std.specs.Io.BufRead.{DropsConsumable}
use Rattle.std.proofs.Math.Numerals.{add-one}
use Rattle.std.proofs.Math.Seq.{take-suc}
use Rattle.key_files.specs.declared.fault.FileFault.TheVariants.{Memory}
use Rattle.key_lines.specs.declared.line.Part.{Part}
use Rattle.key_lines.proofs.Takings.{length-nil}

-- of what a reader showed `amount` bytes were taken
Consumes-shown : (old mid new : Option (List ℕ)) (most : Option ℕ) (shown : List ℕ) (amount : ℕ) → IfSome old (λ xs. StartsWith xs shown) → Keeps old mid
    → IfSome old (λ _. IfSome most (λ n. length shown ≤ n)) → DropsConsumable mid new most amount → amount ≤ length shown
    → Consumes old new (take amount shown)
Consumes-shown None mid new most shown amount front kept within drops h = tt
Consumes-shown (Some xs) None new most shown amount front kept within drops h = absurd kept
Consumes-shown (Some xs) (Some ys) new most shown amount front kept within drops h =
    let dropped : new ≡ Some (drop amount xs) = drops (allowed most within) ∙ ap (λ l. Some (drop amount l)) kept in
    let same : take amount xs ≡ take amount shown = sym (take-take amount (length shown) xs h) ∙ ap (take amount) front in
    subst (λ o. Consumes (Some xs) o (take amount shown)) (sym dropped) (sym (take-append-drop amount xs) ∙ ap (λ l. l ++ drop amount xs) same)
  where
    allowed : (m : Option ℕ) → IfSome m (λ n. length shown ≤ n) → IfSome m (λ n. amount ≤ n)
    allowed None w = tt
    allowed (Some n) w = omega (arith, w)

-- a part of those that there is room for
pub Consumes-part : (old mid new : Option (List ℕ)) (most : Option ℕ) (shown : List ℕ) (room len : ℕ) → IfSome old (λ xs. StartsWith xs shown)
    → Keeps old mid → IfSome old (λ _. IfSome most (λ n. length shown ≤ n)) → DropsConsumable mid new most len → len ≤ length (take room shown)
    → Consumes old new (take len (take room shown))
Consumes-part old mid new most shown room len front kept within drops h =
    let size = length-take room shown in
    subst (Consumes old new) (sym (take-take len room shown (omega arith)))
    (Consumes-shown old mid new most shown len front kept within drops (omega arith))

-- and the LF after it
pub Consumes-line : (old mid new : Option (List ℕ)) (most : Option ℕ) (shown : List ℕ) (room len : ℕ) → IfSome old (λ xs. StartsWith xs shown)
    → Keeps old mid → IfSome old (λ _. IfSome most (λ n. length shown ≤ n)) → DropsConsumable mid new most (len + 1)
    → len < length (take room shown) → slice_index (take room shown) len ≡ 10 → Consumes old new (take len (take room shown) ++ 10 ∷ [])
Consumes-line old mid new most shown room len front kept within drops h lf =
    let all = take room shown in
    let more : take (len + 1) all ≡ take len all ++ 10 ∷ [] = rw add-one (take-suc all len 0 h) ∙ ap (λ b. take len all ++ b ∷ []) lf in
    subst (Consumes old new) more (Consumes-part old mid new most shown room (len + 1) front kept within drops (omega arith))

-- all that is shown within the room for one byte past the limit
pub front_fits : (room limit used n : ℕ) (shown : List ℕ) → room ≡ min (limit + 1 - used) (length shown) → used ≡ n
    → length (take room shown) ≤ limit + 1 - n
front_fits room limit used n shown is same = simp length-take (omega arith)

pub room_is : (room a : ℕ) (shown : List ℕ) → room ≡ min a (length shown) → room ≡ length (take room shown)
room_is room a shown is = simp length-take (omega arith)

-- a line that ends is within the limit
pub ended_fits : (limit len : ℕ) (before front after : List ℕ) → after ≡ before ++ take len front → len < length front
    → length front ≤ limit + 1 - length before → length after ≤ limit
ended_fits limit len before front after is h fits =
    let size : length after ≡ length before + length (take len front) = ap length is ∙ length-append before (take len front) in
    omega (arith, size, length-take len front)

-- one that is past it has one byte more
pub past_by_one : (limit len : ℕ) (before front after : List ℕ) → after ≡ before ++ take len front → length before ≤ limit
    → length front ≤ limit + 1 - length before → limit < length after → length after ≡ limit + 1
past_by_one limit len before front after is room fits past =
    let size : length after ≡ length before + length (take len front) = ap length is ∙ length-append before (take len front) in
    omega (arith, size, length-take len front)

-- where nothing is shown nothing is left
pub ends-empty : (old : Option (List ℕ)) (shown : List ℕ) (room limit used n : ℕ) → IfSome old (λ xs. length shown ≡ 0 → xs ≡ [])
    → room ≡ min (limit + 1 - used) (length shown) → used ≡ n → n ≤ limit → length (take room shown) ≡ 0 → IsAllOf [] old
ends-empty None shown room limit used n end is same fits none = tt
ends-empty (Some xs) shown room limit used n end is same fits none = end (omega (arith, length-take room shown))

-- and nothing is taken
pub none_taken : (front : List ℕ) (len : ℕ) → length front ≡ 0 → len ≤ length front → take len front ≡ []
none_taken front len none h = length-nil (take len front) (omega (arith, length-take len front))

pub nothing_shown : (n : ℕ) → (n == 0) ≡ true → n ≡ 0
nothing_shown n h = grind (arith, nat_tests)

-- an allocation that failed
pub MovesPart-memory : (limit : ℕ) (old mid : Option (List ℕ)) (before after : List ℕ) (answer : Result Part FileFault)
    → IsErrAnd answer (λ fault. fault ≡ Memory) → Keeps old mid → after ≡ before → MovesPart limit old mid before after answer
MovesPart-memory limit old mid before after (Ok part) is kept same = absurd is
MovesPart-memory limit old mid before after (Err fault) is kept same =
    subst (λ f. MovesPart limit old mid before after (Err f)) (sym is) (Consumes-kept old old mid [] (Consumes-nil old) kept, same)

-- of a front that ends no line something is taken
pub some_moved : (front : List ℕ) (len : ℕ) → len ≤ length front → length front ≤ len → length front ≢ 0 → 0 < length (take len front)
some_moved front len bound all some = omega (arith, bound, all, some, length-take len front)
