-- What `key_size` and `rounds_of` find, off the table of sizes.
use Rattle.std.specs.Prelude.{cond, ℕ, eqb, Result, Ok, Err}
use Rattle.lanes.specs.Sizes.{Size as Row, key_size, schedule_size}
use Rattle.aes.specs.declared.Size.{Size}
use Rattle.aes.specs.declared.refusal.Refusal.{Refusal}
use Rattle.aes.specs.declared.refusal.Refusal.TheVariants.{Key, Schedule}

-- a row of the table, or no key
abbrev pub found : Row → Result Size Refusal
found z = cond (eqb z.nk 0) (Err Key) (Ok (record { rounds = z.rounds; words = z.words }))

unfoldable pub size_for : ℕ → Result Size Refusal
size_for bytes = found (key_size bytes)

-- the rounds of a row, or no schedule
abbrev pub scheduled : Row → Result ℕ Refusal
scheduled z = cond (eqb z.rounds 0) (Err Schedule) (Ok z.rounds)

unfoldable pub rounds_for : ℕ → Result ℕ Refusal
rounds_for words = scheduled (schedule_size words)
