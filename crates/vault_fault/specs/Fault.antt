-- The table of faults: the number and the text of each, and the fault for each text fault.
use Rattle.std.specs.Prelude.{ℕ, List, codes}
use Rattle.vault_fault.specs.declared.fault.Fault.{Fault}
use Rattle.vault_fault.specs.declared.fault.Fault.TheVariants.{TooLong, NotVault, HeaderTooLong}
use Rattle.vault_fault.specs.declared.fault.Fault.TheVariants.{BadHeader, BadVersion, BadCipher}
use Rattle.vault_fault.specs.declared.fault.Fault.TheVariants.{BadHex, BadPayload, CipherTooLong}
use Rattle.vault_fault.specs.declared.fault.Fault.TheVariants.{SecretTooLong, SecretIsScript}
use Rattle.vault_fault.specs.declared.fault.Fault.TheVariants.{SecretIsVault, SecretEmpty}
use Rattle.vault_fault.specs.declared.fault.Fault.TheVariants.{TooManySecrets, NoEncryptSecret}
use Rattle.vault_fault.specs.declared.fault.Fault.TheVariants.{ManyEncryptSecrets}
use Rattle.vault_fault.specs.declared.fault.Fault.TheVariants.{UnknownEncryptId, EmptyString}
use Rattle.vault_fault.specs.declared.fault.Fault.TheVariants.{AlreadyVault, NoSecretFits}
use Rattle.vault_fault.specs.declared.fault.Fault.TheVariants.{BadPadding, BadLabel, BadName}
use Rattle.vault_fault.specs.declared.fault.Fault.TheVariants.{NameMismatch, PromptSource}
use Rattle.vault_fault.specs.declared.fault.Fault.TheVariants.{NeedNewSecret, OutputNeeded, Read}
use Rattle.vault_fault.specs.declared.fault.Fault.TheVariants.{Write, SaltShort, CannotOpen}
use Rattle.vault_fault.specs.declared.fault.Fault.TheVariants.{Memory, SaltChoice, BadSalt}
use Rattle.vault_fault.specs.declared.fault.Role.TheVariants.{Input, Secret, Salt}
use Rattle.vault_text.specs.declared.fault.TextFault.{TextFault}
use Rattle.vault_text.specs.declared.fault.TextFault.TheVariants as text

-- the fault's place in the table
abbrev pub number_of : Fault → ℕ
number_of TooLong = 1
number_of NotVault = 2
number_of HeaderTooLong = 3
number_of BadHeader = 4
number_of BadVersion = 5
number_of BadCipher = 6
number_of BadHex = 7
number_of BadPayload = 8
number_of CipherTooLong = 9
number_of SecretTooLong = 10
number_of SecretIsScript = 11
number_of SecretIsVault = 12
number_of SecretEmpty = 13
number_of TooManySecrets = 14
number_of NoEncryptSecret = 15
number_of ManyEncryptSecrets = 16
number_of UnknownEncryptId = 17
number_of EmptyString = 18
number_of AlreadyVault = 19
number_of NoSecretFits = 20
number_of BadPadding = 21
number_of BadLabel = 22
number_of BadName = 23
number_of NameMismatch = 24
number_of PromptSource = 25
number_of NeedNewSecret = 26
number_of OutputNeeded = 27
number_of (Read role) = 28
number_of Write = 29
number_of SaltShort = 30
number_of (CannotOpen role) = 31
number_of Memory = 32
number_of SaltChoice = 33
number_of BadSalt = 34

-- the text that follows `ERROR! ` on the fault's line
abbrev pub text_of : Fault → List ℕ
text_of TooLong = codes "input is longer than the limit"
text_of NotVault = codes "input is not vault encrypted data"
text_of HeaderTooLong = codes "vault header line is longer than 256 bytes"
text_of BadHeader = codes "vault header line is malformed"
text_of BadVersion = codes "vault format version is not supported"
text_of BadCipher = codes "vault cipher is not supported"
text_of BadHex = codes "vault body is not hexadecimal"
text_of BadPayload = codes "vault payload is malformed"
text_of CipherTooLong = codes "vault ciphertext is longer than the limit"
text_of SecretTooLong = codes "a password file is longer than 4096 bytes"
text_of SecretIsScript = codes "a password file is a script"
text_of SecretIsVault = codes "a password file is itself a vault"
text_of SecretEmpty = codes "a password is empty"
text_of TooManySecrets = codes "more than 16 secrets were given"
text_of NoEncryptSecret = codes "no secret was given to encrypt with"
text_of ManyEncryptSecrets = codes "several secrets were given; choose one with --encrypt-vault-id"
text_of UnknownEncryptId = codes "no secret has the label of --encrypt-vault-id"
text_of EmptyString = codes "the string to encrypt is empty"
text_of AlreadyVault = codes "the plaintext is already vault encrypted data"
text_of NoSecretFits = codes "no secret decrypts this vault"
text_of BadPadding = codes "the padding of the decrypted data is wrong"
text_of BadLabel = codes "a vault id label is not allowed"
text_of BadName = codes "a variable name holds a control byte"
text_of NameMismatch = codes "the name option does not fit where the string comes from"
text_of PromptSource = codes "asking for a password is not supported"
text_of NeedNewSecret = codes "exactly one new secret is needed"
text_of OutputNeeded = codes "--output is needed with an input file"
text_of (Read Input) = codes "the input cannot be read"
text_of (Read Secret) = codes "a password file cannot be read"
text_of (Read Salt) = codes "the salt file cannot be read"
text_of Write = codes "the output cannot be written"
text_of SaltShort = codes "the salt has fewer than 32 bytes"
text_of (CannotOpen Input) = codes "the input file cannot be opened"
text_of (CannotOpen Secret) = codes "a password file cannot be opened"
text_of (CannotOpen Salt) = codes "the salt file cannot be opened"
text_of Memory = codes "out of memory"
text_of SaltChoice = codes "--salt and --salt-file exclude each other"
text_of BadSalt = codes "a salt text must have 1 to 64 bytes"

-- the fault with the same name as a text fault
abbrev pub of_text : TextFault → Fault
of_text text.TooLong = TooLong
of_text text.NotVault = NotVault
of_text text.HeaderTooLong = HeaderTooLong
of_text text.BadHeader = BadHeader
of_text text.BadVersion = BadVersion
of_text text.BadCipher = BadCipher
of_text text.BadHex = BadHex
of_text text.BadPayload = BadPayload
of_text text.CipherTooLong = CipherTooLong
