use Rattle.std.proofs.Common.{◌==◌, get_or, not, arith}
use Rattle.std.proofs.lemmas.List.{take_rest}
use Rattle.std.proofs.lemmas.Bool.{not-true}
use Rattle.std.proofs.lemmas.List.Splits.{slice_split_none}
use Rattle.std.proofs.lemmas.List.Sums.{prefix_len_passes}
use Rattle.vault_text.proofs.ListLemmas.{byte_found, slice_split-cut}
use Rattle.vault_text.proofs.header.split_at_byte.Goals as goal

pub returns-then-place-bytes-clause-found : goal.returns-then-place-bytes-clause-found
returns-then-place-bytes-clause-found c =
    rw take_rest (byte_found c.args.byte c.args.bytes.now c.position_of-place.result
    c.position_of-place.ensures.place c.if-place-bytes.true)

pub returns-then-place-bytes-clause-parts : goal.returns-then-place-bytes-clause-parts
returns-then-place-bytes-clause-parts c =
    slice_split-cut (λ b. b == c.args.byte) c.args.bytes.now c.position_of-place.result
    c.position_of-place.ensures.place c.if-place-bytes.true

pub returns-else-place-bytes-clause-one_part : goal.returns-else-place-bytes-clause-one_part
returns-else-place-bytes-clause-one_part c =
    slice_split_none (λ b. b == c.args.byte) c.args.bytes.now
    (λ k d inside. not-true (get_or c.args.bytes.now k d == c.args.byte)
    (prefix_len_passes (λ b. not (b == c.args.byte)) c.args.bytes.now k d (omega arith)))
