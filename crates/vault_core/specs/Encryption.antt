-- What `encrypt` and `encrypt_string` return.
use Rattle.std.specs.Prelude.{ℕ, ◌==◌, ◌&&◌, nat_lt, nat_eq, Bool, if◌then◌else◌, List, length}
use Rattle.std.specs.Prelude.{Result, Ok, Err}
use Rattle.std.specs.List.{starts_with}
use Rattle.vault_text.specs.Header.{marker}
use Rattle.vault_core.specs.Form.{Form, is_block}
use Rattle.vault_core.specs.Ready.{Ready}
use Rattle.vault_core.specs.Sealing.{sealed, text_in}
use Rattle.vault_core.specs.Secrets.{Secret, secret_at}
use Rattle.vault_fault.specs.declared.fault.Fault.{Fault}
use Rattle.vault_fault.specs.declared.fault.Fault.TheVariants.{TooLong, EmptyString, AlreadyVault}

-- the plaintext begins like every vault
abbrev pub is_vault : List ℕ → Bool
is_vault plain = starts_with nat_eq plain marker

-- the input as it is written under the secret at the index, or the first fault
unfoldable pub encryption : ℕ → List Secret → ℕ → Form → List ℕ → List ℕ → Result Ready Fault
encryption limit secrets index form salt input =
    if nat_lt limit (length input) then Err TooLong
    else if is_block form && length input == 0 then Err EmptyString
    else if is_vault input then Err AlreadyVault
    else Ok (record {
      output = text_in form (sealed (secret_at index secrets) salt input);
      tried = 0;
    })
