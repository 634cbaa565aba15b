use Rattle.std.proofs.Common.{arith, rules}
use Rattle.vault_cli.proofs.runs.task.salt_of.Goals as goal
use Rattle.vault_cli.proofs.runs.task.salt_of.Goals.{in-Some, in-None-2}

pub unwrap-requires : goal.unwrap-requires
unwrap-requires c = elim c.match-salt_text.branch [
  | in-Some w ↦
      let text = rw w.in-Some.is at c.salt_text.ensures.length in
      c.new.ensures.fits.1
      (rw (w.bytes-is, w.as_bytes-bytes.ensures.value) (omega (arith, text.limit)))
  | in-None-2 w ↦ c.new.ensures.fits.1 (rw w.bytes-is (search rules))
]
