-- Tasks: inputs of which a prefix is enough, and the secrets of their password files.
use Rattle.std.proofs.Common.{◌≡◌, ℕ, ◌+◌, ◌<◌, Bool, List, [], ◌∷◌, ◌++◌, length}
use Rattle.std.proofs.Common.{length-append, inl, inr, sym, ◌∙◌, Some, Result, Ok, Err, refl, arith}
use Rattle.std.proofs.Common.{map, get_or, drop, Vec, Global, ap, append_assoc}
use Rattle.std.specs.Prelude.{IsTrue, option_to_list, slice_get, zip}
use Rattle.std.specs.Option.{option_map}
use Rattle.std.proofs.lemmas.Bool.{lt-ltb}
use Rattle.std.proofs.lemmas.List.{append-nil, get_or_append_left, drop_more, get_or-map}
use Rattle.std.proofs.lemmas.List.{length-map}
use Rattle.std.proofs.lemmas.Option.{slice_get-get_or}
use Rattle.vault_text.specs.Envelope.{read_within}
use Rattle.vault_text.specs.Limits.{envelope_limit}
use Rattle.vault_text.specs.Steps.{◌>>=◌}
use Rattle.vault_fault.specs.declared.fault.Fault.{Fault}
use Rattle.vault_fault.specs.declared.fault.Fault.TheVariants.{TooLong}
use Rattle.vault_core.specs.Decryption.{decryption}
use Rattle.vault_core.specs.Input.{IsReadToEndOrPastLimit}
use Rattle.vault_core.specs.Rekeying.{rekeying}
use Rattle.vault_core.specs.Secrets.{Secret}
use Rattle.vault_request.specs.Request.{Request, SecretFile, files_of}
use Rattle.vault_cli.specs.runs.Answer.{prepared, task_limit}
use Rattle.vault_cli.specs.runs.Task.{Task, Encrypt, Decrypt, Rekey, password_or_fault, secrets_of}
use Rattle.vault_core.proofs.EncryptionLemmas.{encryption-too_long}

-- an input that is too long is refused as such
pub prepared-too_long : (limit : ℕ) (task : Task) (input : List ℕ)
    → task_limit limit task < length input → prepared limit task input ≡ Err TooLong
unfolding decryption rekeying read_within
prepared-too_long limit (Encrypt secrets index form salt) input long =
    encryption-too_long limit secrets index form salt input long
prepared-too_long limit (Decrypt secrets) input long =
    rw (lt-ltb (envelope_limit limit) (length input) long)
prepared-too_long limit (Rekey secrets new salt) input long =
    rw (lt-ltb (envelope_limit limit) (length input) long)

-- a text that was read to its end, or to one byte past the limit
module _ (limit : ℕ) (task : Task) (ended : Bool) (text prefix left : List ℕ)
    (parts : text ≡ prefix ++ left) (last : IsTrue ended → left ≡ []) where
  pub prepared-prefix : IsReadToEndOrPastLimit (task_limit limit task) ended prefix
      → prepared limit task prefix ≡ prepared limit task text
  prepared-prefix (inl end) = rw (parts, last end, append-nil)
  prepared-prefix (inr long) =
      let more : length text ≡ length prefix + length left =
      rw parts (length-append prefix left) in
      rw (
        prepared-too_long limit task text (omega (arith, long, more)),
        prepared-too_long limit task prefix (omega (arith, long)),
      )

-- ---- the secrets of password files, one file after the other

-- what was found before what is still found
abbrev pub with_prefix : {A : Type 0} → List A → Result (List A) Fault → Result (List A) Fault
with_prefix prefix (Ok rest) = Ok (prefix ++ rest)
with_prefix prefix (Err fault) = Err fault

-- one more before it
pub with_prefix-more : {A : Type 0} (prefix : List A) (one : A) (rest : Result (List A) Fault)
    → with_prefix prefix (rest >>= λ others. Ok (one ∷ others))
    ≡ with_prefix (prefix ++ one ∷ []) rest
with_prefix-more prefix one (Ok rest) = ap Ok (sym (append_assoc prefix (one ∷ []) rest))
with_prefix-more prefix one (Err fault) = refl

-- what is read past the end
abbrev pub no_file : SecretFile
no_file = record { label = []; path = [] }

-- the file at the index, and what it holds
module _ (i : ℕ) (files : List SecretFile) (contents : List (List ℕ)) (file : SecretFile)
    (bytes : List ℕ) (at_file : drop i files ≡ file ∷ drop (i + 1) files)
    (at_bytes : drop i contents ≡ bytes ∷ drop (i + 1) contents) (prefix : List Secret)
    (before : with_prefix prefix (secrets_of (zip (drop i files) (drop i contents)))
    ≡ secrets_of (zip files contents)) where
  -- a password file that is refused refuses all
  pub secrets_of-refused : (fault : Fault) → password_or_fault bytes ≡ Err fault
      → Err fault ≡ secrets_of (zip files contents)
  unfolding secrets_of
  secrets_of-refused fault refused = rw (at_file, at_bytes, refused) at before

  -- a password file that gives a password adds a secret
  pub secrets_of-added : (password : List ℕ) → password_or_fault bytes ≡ Ok password
      → with_prefix (prefix ++ record { label = file.label; password = password } ∷ [])
      (secrets_of (zip (drop (i + 1) files) (drop (i + 1) contents)))
      ≡ secrets_of (zip files contents)
  unfolding secrets_of
  secrets_of-added password found =
      sym (with_prefix-more prefix (record { label = file.label; password = password }) _)
      ∙ rw (at_file, at_bytes, found) at before

-- what the file at the index holds is the next of the contents
pub content_at : (vectors : List (Vec ℕ Global)) (i : ℕ) (vector : Vec ℕ Global)
    → i < length vectors → vector ≡ get_or vectors i vector
    → drop i (map (λ v. v.items) vectors)
    ≡ vector.items ∷ drop (i + 1) (map (λ v. v.items) vectors)
content_at vectors i vector inside read =
    let items = λ (v : Vec ℕ Global). v.items in
    drop_more (map items vectors) i vector.items (rw length-map inside)
    ∙ rw (get_or-map items vectors i vector vector.items inside, ← read)

-- the label of the file at the index, of files after which others stand
pub label_at : (files more : List SecretFile) (i : ℕ) (label : List ℕ) → i < length files
    → option_map (λ file. file.label) (slice_get (files ++ more) i) ≡ Some label
    → label ≡ (get_or files i no_file).label
label_at files more i label inside e =
    let within : i < length (files ++ more) = omega (arith, length-append files more) in
    let some = rw (
      slice_get-get_or (files ++ more) i no_file within,
      get_or_append_left files more no_file i inside,
    ) at e in
    cc

-- each secret of a list has a content of its own
pub within_all : (request : Request) (contents i : ℕ) → contents ≡ length (files_of request)
    → i < length request.secrets → i < contents
within_all request contents i all inside =
    omega (arith, length-append request.secrets (option_to_list request.new_secret))
