use Rattle.std.proofs.Common.{refl}
use Rattle.vault_aes.proofs.WordLemmas.{to_be_bytes-bit_xor}
use Rattle.vault_aes.proofs.rounds.round_column.Goals as goal

pub returns : goal.returns
returns c =
    let two = to_be_bytes-bit_xor c.te0.result c.te1.result c.te0.ensures c.te1.ensures in
    let three = to_be_bytes-bit_xor _ c.te2.result two c.te2.ensures in
    let four = to_be_bytes-bit_xor _ c.te3.result three c.te3.ensures in
    to_be_bytes-bit_xor _ c.args.key four refl
