use Rattle.std.proofs.Common.{map}
use Rattle.std.specs.String.{string_bytes}
use Rattle.clap.specs.Words.{fault_of}
use Rattle.vault_request.specs.CommandLine.{vault_app}
use Rattle.vault_request.specs.Settled.{requested_by}
use Rattle.vault_files.specs.declared.memory.store.MemWriter.{MemWriter}
use Rattle.vault_cli.proofs.InMemoryLemmas.{runs-in_memory}
use Rattle.vault_cli.proofs.in_memory.drive_in_memory.Goals as goal

pub returns : goal.returns
returns c =
    let texts = map string_bytes c.args.words.now in
    record {
      ends = c.drive_over.ensures;
      runs = λ request parses is fits.
          runs-in_memory MemWriter c.args.files.now c.drive_over.new.sys c.args.src.now
          c.drive_over.new.src _ _ _ c.requires.none_created c.requires.src_not_ended
          (fault_of vault_app texts) (requested_by texts) request parses is fits
          c.drive_over.ensures;
    }
