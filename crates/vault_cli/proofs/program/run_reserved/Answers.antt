use Rattle.vault_cli.proofs.program.run_reserved.Goals as goal

pub returns : goal.returns
returns g c =
    rw (
      c.reserved-text.ensures,
      c.as_slice-secret_files.ensures.value,
      c.as_slice-salt.ensures.value,
    ) at c.run_in.ensures
