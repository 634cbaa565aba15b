-- A log of paths, in texts that have room for them.
use Rattle.std.proofs.Common.{◌≡◌, ℕ, ◌-◌, ◌≤◌, List, [], ◌∷◌, ◌++◌, length, map, Some, true}
use Rattle.std.proofs.Common.{nat_lt, nat_le, String, Global, arith, ap, length-append, refl}
use Rattle.std.proofs.lemmas.Bool.{le-leb, lt-ltb}
use Rattle.std.proofs.lemmas.List.{map-append}
use Rattle.std.specs.String.{string_bytes, string_capacity}
use Rattle.vault_files.specs.PathLog.{with_path}

-- an empty text with room for a path
abbrev pub HasRoom : ℕ → String Global → Type 0
HasRoom longest text = (string_bytes text ≡ []) × (longest ≤ string_capacity text)

-- a path is put into the last of the texts with room, which goes behind the paths
pub with-pushed : (longest : ℕ) (spare left paths after : List (String Global))
    (text pushed : String Global) (path : List ℕ) → length path ≤ longest
    → spare ≡ left ++ text ∷ [] → after ≡ paths ++ pushed ∷ [] → string_bytes pushed ≡ path
    → Some (record { longest = longest; room = length left; paths = map string_bytes after })
    ≡ with_path
    (record { longest = longest; room = length spare; paths = map string_bytes paths }) path
with-pushed longest spare left paths after text pushed path fits popped appended holds =
    let count : length spare - 1 ≡ length left =
    omega (arith, ap length popped, length-append left (text ∷ [])) in
    let room : nat_lt 0 (length spare) ≡ true = lt-ltb 0 (length spare)
    (omega (arith, ap length popped, length-append left (text ∷ []))) in
    let short : nat_le (length path) longest ≡ true = le-leb (length path) longest fits in
    rw (short, room, count, appended, map-append string_bytes paths (pushed ∷ []), holds) refl
