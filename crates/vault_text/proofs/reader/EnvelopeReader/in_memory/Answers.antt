use Rattle.std.proofs.Common.{◌≡◌, ap, arith, length, refl}
use Rattle.vault_text.specs.Limits.{ciphertext_limit, limit_of}
use Rattle.vault_text.proofs.reader.EnvelopeReader.in_memory.Goals as goal

pub returns-clause-nothing : goal.returns-clause-nothing
returns-clause-nothing c =
    let limit = limit_of c.room.result in
    let room : ciphertext_limit limit ≡ c.args.memory.limit =
    omega (arith, c.requires.room, c.room.ensures, ap length c.requires.empty) in
    record {
      no_more = omega arith;
      exact = λ within. refl;
      line = c.new.ensures;
      body = rw room c.new-2.ensures;
    }
