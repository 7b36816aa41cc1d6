-- What machine words are stored as, which are their own values. Assumes nothing.
use mathlib.Core.Path.{◌≡◌, sym, ap, ◌∙◌}
use mathlib.Core.List.{List, map}
use Prim.Native.Nat.{ℕ, ◌%◌, ◌^◌}
use lib.ListN.{get_or}
use Rattle.fips197.specs.Bytes.{Fit}
use Rattle.lanes.specs.Layout.{Width, bits, each_slot, join}
use Rattle.lanes.specs.Programs.{words, store_program}
use Rattle.lanes.proofs.Values.{values_are}

abbrev pub stored_of : Width → List ℕ → List ℕ
stored_of w t = join (each_slot w (store_program (words w) w (λ p. get_or t p 0)))

pub stored_values : (w : Width) {t o : List ℕ} → Fit (bits w) t → o ≡ stored_of w t → o ≡ stored_of w (map (λ x. x % 2 ^ bits w) t)
stored_values w {t} fit e = e ∙ ap (stored_of w) (sym (values_are (bits w) t fit))
