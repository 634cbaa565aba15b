use Rattle.std.proofs.Common.{◌+◌, arith}
use Rattle.vault_aes.proofs.ColumnsLemmas.{rounds-more}
use Rattle.vault_aes.proofs.rounds.four_rounds.Goals as goal

pub returns : goal.returns
returns c = λ block held.
    let words = c.args.words.now in
    let n = c.args.n in
    let one = rounds-more words block n (n + 1) (omega arith) held c.round-state.ensures in
    let two = rounds-more words block (n + 1) (n + 2) (omega arith) one c.round-state-2.ensures in
    let three =
    rounds-more words block (n + 2) (n + 3) (omega arith) two c.round-state-3.ensures in
    rounds-more words block (n + 3) (n + 4) (omega arith) three c.round.ensures
