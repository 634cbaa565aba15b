-- The lines on standard error, for a fault and for arguments that are wrong, and how much of a line
-- a sink took.
use Rattle.std.specs.Prelude.{◌⊎◌, ℕ, List, [], ◌∷◌, ◌++◌, codes}
use Rattle.vault_fault.specs.Fault.{text_of}
use Rattle.vault_fault.specs.declared.fault.Fault.{Fault}
use Rattle.vault_cli.specs.Call.{SinkCall}
use Rattle.vault_cli.specs.runs.OutputEnd.{to_sink}

-- `ERROR! `, the text, LF
abbrev pub line_of : Fault → List ℕ
line_of fault = codes "ERROR! " ++ text_of fault ++ 10 ∷ []

-- the line about arguments that are not UTF-8
abbrev pub not_text_line : List ℕ
not_text_line = codes "error: an argument is not UTF-8" ++ 10 ∷ []

-- the last line about arguments that do not parse, which names the companions with what is missing
abbrev pub companions_line : List ℕ
companions_line =
    codes "ansible-vault-edit creates and edits vaults; ansible-vault-with has Ansible's other "
    ++ codes "options." ++ 10 ∷ []

-- the sink received the line, or took only its first bytes and failed
abbrev pub Reports : {E : Type 0} → SinkCall E → List ℕ → Type 0
Reports err line = (to_sink err).received line ⊎ (to_sink err).cut line
