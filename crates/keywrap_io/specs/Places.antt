-- Where the bytes of a run are: a file by its name, or a standard stream, which has none. What files keep is said of what they hold
-- before a call, and after it.
use Rattle.std.specs.Prelude.{◌≢◌, ◌⊎◌, ◌≡◌, ◌↔◌, ℕ, List, [], Option, Some, None, IfSome, ⊤}
use Rattle.std.specs.Borrow.{Bor}

-- the place of the file of this name, or of a standard stream
abbrev pub place : Option (Bor (List ℕ)) → Option (List ℕ)
place (Some name) = Some name.now
place None = None

-- each file holds what it held, and no name is taken or freed
abbrev pub KeepsFiles : (Holds Holds' : Option (List ℕ) → Option (List ℕ) → Type 0) → Type 0
KeepsFiles Holds Holds' = (name : List ℕ) (bytes : Option (List ℕ)) → Holds (Some name) bytes ↔ Holds' (Some name) bytes

-- the same for each file but the one at this place
abbrev pub KeepsOthers : (Holds Holds' : Option (List ℕ) → Option (List ℕ) → Type 0) → Option (List ℕ) → Type 0
KeepsOthers Holds Holds' at =
    (name : List ℕ) (bytes : Option (List ℕ)) → Some name ≢ at → Holds (Some name) bytes ↔ Holds' (Some name) bytes

-- The file at this place holds what it held, or all of the new bytes. Nothing is said of a standard stream, which may have a part.
abbrev pub IsOldOrNew : (Holds Holds' : Option (List ℕ) → Option (List ℕ) → Type 0) → Option (List ℕ) → Option (List ℕ) → Type 0
IsOldOrNew Holds Holds' None new = ⊤
IsOldOrNew Holds Holds' (Some name) new = ((old : Option (List ℕ)) → Holds (Some name) old → Holds' (Some name) old ⊎ Holds' (Some name) new)
    × ((bytes : Option (List ℕ)) → Holds' (Some name) bytes → Holds (Some name) bytes ⊎ (bytes ≡ new))

-- nothing was written yet, where the bytes are known
abbrev pub IsEmpty : Option (List ℕ) → Type 0
IsEmpty bytes = IfSome bytes (λ known. known ≡ [])
