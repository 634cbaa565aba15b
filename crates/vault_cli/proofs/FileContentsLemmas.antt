-- Files that are found one after the other, and the contents that they give.
use Rattle.std.proofs.Common.{◌≡◌, ℕ, ◌+◌, ◌<◌, ◌≤◌, List, [], ◌∷◌, ◌++◌, length, take, drop}
use Rattle.std.proofs.Common.{get_or, Some, Result, Ok, Err, ap, ◌∙◌, append_assoc, arith}
use Rattle.std.proofs.Common.{Global, Vec, set, vec_len}
use Rattle.std.specs.Option.{option_map}
use Rattle.std.specs.Prelude.{All, slice_get}
use Rattle.std.proofs.lemmas.List.{append-nil, drop_all, drop_more, get_or-map, length-map}
use Rattle.std.proofs.lemmas.List.{drop-set-lt, take_more}
use Rattle.std.proofs.lemmas.List.Elements.{All-head, All-tail}
use Rattle.std.proofs.lemmas.Option.{slice_get-get_or}
use Rattle.vault_files.specs.File.{FileState, Found}
use Rattle.vault_fault.specs.declared.fault.Fault.{Fault}
use Rattle.vault_fault.specs.declared.fault.Role.{Role}
use Rattle.vault_fault.specs.declared.fault.Role.TheVariants.{Secret}
use Rattle.vault_core.specs.declared.limits.TheConstants.{PASSWORD_FILE_LIMIT}
use Rattle.vault_request.specs.Request.{Request, SecretFile, files_of}
use Rattle.vault_cli.specs.runs.FileContents.{contents_of, secret_paths}
use Rattle.vault_cli.specs.Loaded.{ContentsFound, PrefixFound, SecretsRefuse}
use Rattle.vault_cli.specs.OpenedPaths.{opened_secrets}
use Rattle.vault_cli.proofs.TaskLemmas.{no_file, with_prefix, with_prefix-more}

pub Found-some : (finds : List ℕ → FileState → Type 0)
    → ((path : List ℕ) → (file : FileState) × finds path file) → (paths : List (List ℕ))
    → (files : List FileState) × Found finds paths files
Found-some finds some [] = ([], tt)
Found-some finds some (path ∷ paths) =
    let (files, found) = Found-some finds some paths in
    ((some path).0 ∷ files, ((some path).1, found))

module _ (finds : List ℕ → FileState → Type 0) (paths : List (List ℕ)) where
  -- files that are found from the index on come after files that gave these contents: all of them
  -- are found, and the paths before the index are opened
  abbrev pub GivesPrefix : ℕ → List (List ℕ) → Type 0
  GivesPrefix i contents =
      (rest : List FileState) → Found finds (drop i paths) rest
      → (files : List FileState) × Found finds paths files
      × (contents_of files ≡ with_prefix contents (contents_of rest))
      × (opened_secrets paths files ≡ take i paths ++ opened_secrets (drop i paths) rest)

  -- all files gave their bytes
  pub ContentsFound-all : (i : ℕ) (contents : List (List ℕ)) → length paths ≤ i
      → GivesPrefix i contents → ContentsFound finds paths (Ok contents)
  unfolding contents_of
  ContentsFound-all i contents past before =
      let (files, found, gave, opened) = before [] (rw (drop_all i paths past) tt) in
      (files, found, gave ∙ ap Ok (append-nil contents))

  -- the path at the index
  module _ (i : ℕ) (contents : List (List ℕ)) (path : List ℕ)
      (next : drop i paths ≡ path ∷ drop (i + 1) paths) (before : GivesPrefix i contents) where
    -- a file there that gives its bytes
    pub GivesPrefix-more : (bytes : List ℕ) → take (i + 1) paths ≡ take i paths ++ path ∷ []
        → PrefixFound (finds path) Secret (PASSWORD_FILE_LIMIT + 1) (Ok bytes)
        → GivesPrefix (i + 1) (contents ++ bytes ∷ [])
    unfolding contents_of opened_secrets
    GivesPrefix-more bytes taken (file, seen, same) = λ rest rest_found.
        let (files, found, gave, opened) = before (file ∷ rest) (rw next (seen, rest_found)) in (
          files,
          found,
          gave ∙ rw same (with_prefix-more contents bytes (contents_of rest)),
          opened ∙ rw (next, taken, same, append_assoc),
        )

    -- one that gives none, whatever comes after it
    pub secrets-refuse : (opens : List (List ℕ) → Type 0)
        → ((path : List ℕ) → (file : FileState) × finds path file) → (fault : Fault)
        → PrefixFound (finds path) Secret (PASSWORD_FILE_LIMIT + 1) (Err fault)
        → opens (take i paths ++ path ∷ []) → SecretsRefuse finds opens paths fault
    unfolding contents_of opened_secrets
    secrets-refuse opens some fault (file, seen, same) went =
        let (rest, rest_found) = Found-some finds some (drop (i + 1) paths) in
        let (files, found, gave, opened) = before (file ∷ rest) (rw next (seen, rest_found)) in
        (files, found, gave ∙ rw same, rw (opened, next, same) went)

-- the path of the file at the index is the next of the paths
pub next_path : (request : Request) (i : ℕ) (path : List ℕ) → i < length (files_of request)
    → option_map (λ file. file.path) (slice_get (files_of request) i) ≡ Some path
    → (drop i (secret_paths request) ≡ path ∷ drop (i + 1) (secret_paths request))
    × (take (i + 1) (secret_paths request) ≡ take i (secret_paths request) ++ path ∷ [])
next_path request i path inside e =
    let files = files_of request in
    let paths = secret_paths request in
    let some = rw (slice_get-get_or files i no_file inside) at e in
    let same : get_or paths i [] ≡ path =
    get_or-map (λ (file : SecretFile). file.path) files i no_file [] inside ∙ (cc) in
    let within : i < length paths = rw length-map inside in
    (rw (← same) (drop_more paths i [] within), rw (← same) (take_more paths i [] within))

-- what a buffer took whose room is the limit, of a file that could be found before
pub PrefixFound-before : (finds later : FileState → Type 0)
    → ((file : FileState) → later file → finds file) → (role : Role) (room limit : ℕ)
    (answer : Result (List ℕ) Fault) → room ≡ limit → PrefixFound later role room answer
    → PrefixFound finds role limit answer
PrefixFound-before finds later back role room limit answer e (file, found, same) =
    (file, back file found, rw e at same)

-- a buffer for a password file, one byte longer than is taken
abbrev pub IsLong : Vec ℕ Global → Type 0
IsLong buf = vec_len buf ≡ PASSWORD_FILE_LIMIT + 1

-- the buffer at the index is long, and so are those after it when it is filled
pub next-long : (bufs : List (Vec ℕ Global)) (i : ℕ) (buf new : Vec ℕ Global) → i < length bufs
    → All IsLong (drop i bufs)
    → IsLong (get_or bufs i buf) × All IsLong (drop (i + 1) (set bufs i new))
next-long bufs i buf new inside long =
    let rest = rw (drop_more bufs i buf inside) at long in (
      All-head IsLong (get_or bufs i buf) (drop (i + 1) bufs) rest,
      rw (drop-set-lt (i + 1) bufs i new (omega arith))
          (All-tail IsLong (get_or bufs i buf) (drop (i + 1) bufs) rest),
    )
