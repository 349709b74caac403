-- What holds of each element of a list holds of each element of its parts, and the other way round.
use Rattle.std.proofs.Common.{ℕ, zero, suc, List, [], ◌∷◌, ◌++◌, take, drop}
use Rattle.std.specs.List.{AllByRecursion}

pub each_append : (P : ℕ → Type 0) (xs ys : List ℕ) → AllByRecursion P xs → AllByRecursion P ys → AllByRecursion P (xs ++ ys)
each_append P [] ys hs ks = ks
each_append P (x ∷ xs) ys hs ks = (hs.0, each_append P xs ys hs.1 ks)

pub each_take : (P : ℕ → Type 0) (n : ℕ) (xs : List ℕ) → AllByRecursion P xs → AllByRecursion P (take n xs)
each_take P zero [] hs = hs
each_take P zero (x ∷ xs) hs = tt
each_take P (suc n) [] hs = hs
each_take P (suc n) (x ∷ xs) hs = (hs.0, each_take P n xs hs.1)

pub each_drop : (P : ℕ → Type 0) (n : ℕ) (xs : List ℕ) → AllByRecursion P xs → AllByRecursion P (drop n xs)
each_drop P zero [] hs = hs
each_drop P zero (x ∷ xs) hs = hs
each_drop P (suc n) [] hs = hs
each_drop P (suc n) (x ∷ xs) hs = each_drop P n xs hs.1
