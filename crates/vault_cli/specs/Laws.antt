-- Laws of the answers, which hold under every limit, for all requests, password files, salts and
-- inputs.
use Rattle.std.specs.Prelude.{◌≡◌, ◌⊎◌, ℕ, ◌≤◌, List, [], ◌∷◌, length, IfSome}
use Rattle.std.specs.Prelude.{IfErr, Ok}
use Rattle.vault_core.specs.Form.{Envelope}
use Rattle.vault_core.specs.Laws.{IsBytes, IsTriedFirst}
use Rattle.vault_core.specs.Secrets.{Secret, SecretList, secret_at}
use Rattle.vault_fault.specs.declared.label_rule.LabelRule.{LabelRule}
use Rattle.vault_cli.specs.runs.Answer.{run_answer_within, room_limit, text_of_request}
use Rattle.vault_request.specs.Laws.{IsRequest}
use Rattle.vault_request.specs.Request.{Request}
use Rattle.vault_cli.specs.runs.Task as task
use Rattle.vault_cli.specs.runs.Task.{task_of}
use Rattle.vault_request.specs.declared.command_name.CommandName.TheVariants.{Encrypt, Decrypt}
use Rattle.vault_request.specs.declared.command_name.CommandName.TheVariants.{View, Rekey}
use Rattle.vault_cli.specs.runs.Status.{status_of}
use Rattle.vault_cli.specs.declared.runs.status.Status.TheVariants.{Refused}

-- an answer that is a fault is a refusal, not a failed device or a lack of memory
abbrev pub AnswersAreDecided : Type 0
AnswersAreDecided =
    (limit : ℕ) (request : Request) (contents : List (List ℕ)) (salt input : List ℕ)
    → IfErr (run_answer_within limit request contents salt input)
    (λ fault. status_of fault ≡ Refused)

-- a request of `decrypt` or `view` whose password files give these secrets
pub record UnsealsWith (request : Request) (contents : List (List ℕ)) (salt : List ℕ)
    (secrets : SecretList) : Type 0 where
  pub settled : IsRequest request
  pub command : (request.command ≡ Decrypt) ⊎ (request.command ≡ View)
  pub found : task_of request contents salt ≡ Ok (task.Decrypt secrets)

-- `decrypt` and `view` give back what `encrypt` encrypted with a secret, if the first secret that
-- they try has its password
abbrev pub EncryptThenDecrypt : Type 0
EncryptThenDecrypt =
    (limit : ℕ) (encrypting decrypting : Request) (contents other_contents : List (List ℕ))
    (salt other_salt input envelope : List ℕ)
    (list : List Secret) (index : ℕ) (used : List ℕ) (secrets : SecretList)
    → IsRequest encrypting → encrypting.command ≡ Encrypt
    → IfSome encrypting.salt_text IsBytes → IsBytes salt → IsBytes input
    → task_of encrypting contents salt ≡ Ok (task.Encrypt list index Envelope used)
    → run_answer_within limit encrypting contents salt input ≡ Ok envelope
    → UnsealsWith decrypting other_contents other_salt secrets
    → IsTriedFirst secrets (secret_at index list)
    → run_answer_within limit decrypting other_contents other_salt envelope
    ≡ Ok input

-- with only the new secret, under either rule, `decrypt` and `view` decrypt what `rekey` wrote to
-- what they gave before with the old secrets under the rule of `rekey`
abbrev pub RekeyKeepsThePlaintext : Type 0
RekeyKeepsThePlaintext =
    (limit : ℕ) (rekeying before after : Request)
    (contents old_contents new_contents : List (List ℕ))
    (salt old_salt new_salt input envelope : List ℕ)
    (secrets : SecretList) (new : Secret) (used : List ℕ) (rule : LabelRule)
    → IsRequest rekeying → rekeying.command ≡ Rekey
    → IfSome rekeying.salt_text IsBytes → IsBytes salt
    → task_of rekeying contents salt ≡ Ok (task.Rekey secrets new used)
    → run_answer_within limit rekeying contents salt input ≡ Ok envelope
    → UnsealsWith before old_contents old_salt secrets
    → UnsealsWith after new_contents new_salt (record { secrets = new ∷ []; rule = rule })
    → run_answer_within limit after new_contents new_salt envelope
    ≡ run_answer_within limit before old_contents old_salt input

-- a text that fits wherever a plaintext up to a limit does gets the same answer under that limit
-- and under every larger one
abbrev pub ShortTexts : Type 0
ShortTexts =
    (smaller larger : ℕ) (request : Request) (contents : List (List ℕ)) (salt input : List ℕ)
    → length (text_of_request request input) ≤ room_limit smaller request.command → smaller ≤ larger
    → run_answer_within larger request contents salt input
    ≡ run_answer_within smaller request contents salt input
