-- As a number the block is doubled, and 87 is a product with its first bit.
use borrow.Author.Rules.{rules}
use mathlib.Core.Path.{◌∙◌}
use Rattle.fips197.specs.Bytes.{Block}
use Rattle.lanes.proofs.Machine.{byte_fit}
use Rattle.cmac.proofs.Shifting.{shifted_is, doubled}
use Rattle.cmac.proofs.double.Goals as goal

pub returns : goal.returns
returns c =
    let b : Block c.args.block = record { long = search rules; bytes = byte_fit _ (λ i. search rules) } in
    doubled b (search rules) (c.to_be_bytes-shifted.ensures ∙ shifted_is b c.from_be_bytes.ensures)
