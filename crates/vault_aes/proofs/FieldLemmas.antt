-- The field and the S-box, computed.
use Rattle.std.specs.Prelude.{⊤}
use Rattle.vault_aes.specs.Field.{polynomial_product, remainder, mul, repeated_square}
use Rattle.vault_aes.specs.Field.{product_of_squares, inverse}
use Rattle.vault_aes.specs.SubstitutionBox.{number_of_bits, s_box}

-- what is computed at literals
unfoldable pub on_literals : ⊤
unfolding polynomial_product remainder mul repeated_square product_of_squares inverse number_of_bits
    s_box
on_literals = tt
