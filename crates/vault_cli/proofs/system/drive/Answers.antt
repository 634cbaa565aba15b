use Rattle.vault_cli.proofs.system.drive.Goals as goal

pub returns : goal.returns
returns g c = (
  c.drive_host.new.host,
  c.drive_host.new.src,
  c.drive_host.new.out,
  c.drive_host.new.err,
  rw (c.new-host.ensures, c.new-src.ensures, c.new-out.ensures, c.new-err.ensures)
      at c.drive_host.ensures,
)
