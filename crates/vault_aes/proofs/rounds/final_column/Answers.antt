use Rattle.std.proofs.Common.{◌∙◌, ◌∷◌, [], refl, rules}
use Rattle.std.proofs.lemmas.Nat.{be_bytes_4}
use Rattle.vault_aes.proofs.WordLemmas.{to_be_bytes-bit_xor}
use Rattle.vault_aes.proofs.rounds.final_column.Goals as goal

pub returns : goal.returns
returns c =
    let bytes = be_bytes_4 (c.sub_byte.result ∷ c.sub_byte-2.result ∷ c.sub_byte-3.result
    ∷ c.sub_byte-4.result ∷ [])
    c.from_be_bytes.result refl (search rules) c.from_be_bytes.ensures in
    to_be_bytes-bit_xor c.from_be_bytes.result c.args.key
    (bytes ∙ (λ i. c.sub_byte.ensures i ∷ c.sub_byte-2.ensures i ∷ c.sub_byte-3.ensures i
    ∷ c.sub_byte-4.ensures i ∷ [])) refl
