-- The numbers that C reads (docs/SCOPE.md): of a refusal, of what a call answers, and of a direction.
use Rattle.std.specs.Prelude.{ℕ, zero, suc, Result, Ok, Err}
use Rattle.aes.specs.declared.refusal.Refusal.{Refusal}
use Rattle.aes.specs.declared.refusal.Refusal.TheVariants.{Key, Schedule, Input, Output, Direction as WrongDirection, ZeroKey}
use Rattle.aes.specs.declared.refusal.Direction.{Direction}
use Rattle.aes.specs.declared.refusal.Direction.TheVariants.{Encrypt, Decrypt}

-- the number of a refusal
abbrev pub refusal_number : Refusal → ℕ
refusal_number Key = 1
refusal_number Schedule = 2
refusal_number Input = 3
refusal_number Output = 4
refusal_number WrongDirection = 5
refusal_number ZeroKey = 6

-- the number of an answer: 0, or its refusal's
abbrev pub number : Result (Unit {0}) Refusal → ℕ
number (Ok x) = 0
number (Err e) = refusal_number e

-- 0 encrypts and 1 decrypts; every other number is refused
abbrev pub direction_of : ℕ → Result Direction Refusal
direction_of zero = Ok Encrypt
direction_of (suc zero) = Ok Decrypt
direction_of (suc (suc n)) = Err WrongDirection

-- and back
abbrev pub direction_number : Direction → ℕ
direction_number Encrypt = 0
direction_number Decrypt = 1
