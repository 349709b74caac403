-- Tests that the checker computes at every byte, as rules of each.
use Rattle.std.proofs.Common.{◌≡◌, ℕ, Bool, true, ◌==◌, nat_lt, List, [], ◌∷◌, map, w8, Fits, refl, ap₂, eqb-true, ltb-true}
use lib.Lanes.{Each1}
use Rattle.block_pair.specs.Words.{IsByte}
use Rattle.fips197.specs.EveryByte.{passes_below, passes_at}

-- two maps agree
unfoldable pub same_test : (ℕ → ℕ) → (ℕ → ℕ) → ℕ → Bool
same_test f g x = f x == g x

abbrev pub agree : (ℕ → ℕ) → (ℕ → ℕ) → Bool
agree f g = passes_below 256 (same_test f g)

pub at_byte : (f g : ℕ → ℕ) (x : ℕ) → agree f g ≡ true → IsByte x → f x ≡ g x
unfolding same_test
at_byte f g x e h = eqb-true _ _ (passes_at 256 (same_test f g) x h e)

-- a map gives bytes
unfoldable pub below_test : (ℕ → ℕ) → ℕ → Bool
below_test f x = nat_lt (f x) 256

abbrev pub gives_bytes : (ℕ → ℕ) → Bool
gives_bytes f = passes_below 256 (below_test f)

pub byte_of : (f : ℕ → ℕ) (x : ℕ) → gives_bytes f ≡ true → IsByte x → IsByte (f x)
unfolding below_test
byte_of f x e h = ltb-true _ _ (passes_at 256 (below_test f) x h e)

-- two maps that agree at every byte agree on a vector
pub same_map : (f g : ℕ → ℕ) (v : List ℕ) → Each1 (Fits w8) v → ((x : ℕ) → IsByte x → f x ≡ g x) → map f v ≡ map g v
same_map f g [] h same = refl
same_map f g (x ∷ v) h same = ap₂ (λ (y : ℕ) (l : List ℕ). y ∷ l) (same x h.0.fits) (same_map f g v h.1 same)

pub map_same : (f : ℕ → ℕ) (v : List ℕ) → Each1 (Fits w8) v → ((x : ℕ) → IsByte x → f x ≡ x) → map f v ≡ v
map_same f [] h same = refl
map_same f (x ∷ v) h same = ap₂ (λ (y : ℕ) (l : List ℕ). y ∷ l) (same x h.0.fits) (map_same f v h.1 same)
