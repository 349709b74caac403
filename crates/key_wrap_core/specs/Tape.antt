-- The key wrap in its shifting form (RFC 3394, section 2.2.1) as a relation.
use Rattle.std.specs.Prelude.{◌≡◌, ℕ, ◌+◌, ◌-◌, ◌*◌, ◌≤◌, List, ◌∷◌, length, take, drop, bit_xor}
use Rattle.key_wrap_core.specs.Words.{AreWords, at, joined}

-- A tape for E and n: the words X1 .. X7n and A0 .. A6n, tied by one equation for each step t from 1 to 6n,
--   E(A(t-1) | Xt) = (At xor t) | X(n+t).
-- The register Rt[i] of the RFC is X(t+i). Place t - 1 of x holds Xt, and place t of a holds At.
pub record Tape (E : List ℕ → List ℕ) (n : ℕ) (x a : List ℕ) : Type 0 where
  pub length_x : length x ≡ 7 * n
  pub length_a : length a ≡ 6 * n + 1
  pub words_x : AreWords x
  pub words_a : AreWords a
  pub step : (t : ℕ) → 1 ≤ t → t ≤ 6 * n
      → E (joined (at a (t - 1)) (at x (t - 1))) ≡ joined (bit_xor (at a t) t) (at x (n + t - 1))

-- A wrapping with this initial value relates the n words P of key data to the n + 1 words C: some tape has A0 = iv,
-- X1 .. Xn = P, C0 = A6n and C1 .. Cn = X(6n+1) .. X7n.
pub record Wraps (E : List ℕ → List ℕ) (iv : ℕ) (P C : List ℕ) : Type 0 where
  pub x : List ℕ
  pub a : List ℕ
  pub tape : Tape E (length P) x a
  pub initial : at a 0 ≡ iv
  pub key : take (length P) x ≡ P
  pub text : at a (6 * length P) ∷ drop (6 * length P) x ≡ C
