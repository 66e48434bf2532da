-- Bytes that fit.
use Rattle.std.proofs.Common.{◌≡◌, ℕ, List, ◌++◌, Ok, Err, Result, is_ok, if◌then◌else◌}
use Rattle.std.specs.Result.{IsOk}

-- what a buffer has after an append that does not fail
pub appended : {E : Type 0} (xs ys : List ℕ) (r : Result (Unit {0}) E) → IsOk r → (zs : List ℕ) → zs ≡ (if is_ok r then xs ++ ys else xs) → zs ≡ xs ++ ys
appended xs ys (Ok v) ok zs e = e
appended xs ys (Err x) ok zs e = cc
