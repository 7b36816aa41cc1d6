-- What the check knows of an array of words: each fits its width. Assumes nothing.
use mathlib.Core.List.{List}
use Prim.Native.Nat.{ℕ}
use mir.Syntax as M
use mir.Val.{Val, Fits}
use denote.Plain.{UInt}
use denote.Array.{each}
use denote.Shadow.{shadow}
use borrow.Author.Rules.{elem_Fits}
use lib.ListN.{get_or}
use Rattle.fips197.specs.Bytes.{Fit}
use Rattle.lanes.specs.Layout.{Width, w32, w64, bits}

abbrev pub machine : Width → M.Width
machine w32 = M.w32
machine w64 = M.w64

-- of an array parameter: `array_fit w c.args.state _ c.well_formed.0.1.1`
pub array_fit : (w : Width) (xs : List ℕ) (us : List Val) → shadow (each ℕ (UInt (machine w)).own_val xs us) → Fit (bits w) xs
array_fit w32 xs us h = record { at = λ p. (elem_Fits M.w32 M.w32 xs us p h tt).fits }
array_fit w64 xs us h = record { at = λ p. (elem_Fits M.w64 M.w64 xs us p h tt).fits }

-- of a slice: `slice_fit w _ c.shared-slice-known.given`
pub slice_fit : (w : Width) (xs : List ℕ) → ((i : ℕ) → Fits (machine w) (get_or xs i 0)) → Fit (bits w) xs
slice_fit w32 xs h = record { at = λ p. (h p).fits }
slice_fit w64 xs h = record { at = λ p. (h p).fits }

-- of a slice of bytes
pub byte_fit : (xs : List ℕ) → ((i : ℕ) → Fits M.w8 (get_or xs i 0)) → Fit 8 xs
byte_fit xs h = record { at = λ p. (h p).fits }
