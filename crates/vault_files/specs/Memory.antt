-- Files in memory.
use Rattle.std.specs.Prelude.{◌≡◌, ℕ, ◌+◌, ◌<◌, ◌≤◌, Bool, if◌then◌else◌}
use Rattle.std.specs.Prelude.{true, false, IsTrue, List, [], ◌∷◌, ◌++◌, length}
use Rattle.std.specs.Prelude.{Option, Some, None}
use Rattle.std.specs.Option.{option_map}
use Rattle.std.specs.Str.{bytes_eq}
use Rattle.vault_files.specs.System.{SystemCall}
use Rattle.vault_files.specs.System.SystemCall.{Open, Create, ChmodOwnerOnly, Truncate}
use Rattle.vault_files.specs.System.SystemCall.{Write, Sync, Failed}
use Rattle.vault_files.specs.File.{FileState}
use Rattle.vault_files.specs.File.FileState.{Missing, Whole, Broken}
use Rattle.vault_files.specs.PathLog.{LogState, logged}
use Rattle.vault_files.specs.declared.limits.TheConstants.{PATH_LIMIT}

-- a file in memory, under its path
pub record Entry : Type 0 where
  pub path : List ℕ
  pub file : FileState

-- the first file under a path
abbrev pub file_at : List Entry → List ℕ → FileState
file_at [] path = Missing
file_at (entry ∷ entries) path =
    if bytes_eq entry.path path then entry.file else file_at entries path

-- a reader of a file: the bytes left, whether the file breaks after them, whether its end was
-- reported, and how many reads failed
pub record ReaderState : Type 0 where
  pub left : List ℕ
  pub breaks : Bool
  pub ended : Bool
  pub failures : ℕ

-- a reader that has not been read yet
abbrev pub new_reader : List ℕ → Bool → ReaderState
new_reader bytes breaks = record { left = bytes; breaks = breaks; ended = false; failures = 0 }

-- a reader at the start of a file
abbrev pub IsReaderOf : FileState → ReaderState → Type 0
IsReaderOf Missing reader = ⊥
IsReaderOf (Whole bytes) reader = reader ≡ new_reader bytes false
IsReaderOf (Broken bytes) reader = reader ≡ new_reader bytes true

-- no byte is left, and the file ends there
abbrev pub IsAtEnd : ReaderState → Type 0
IsAtEnd reader = (reader.left ≡ []) × (reader.breaks ≡ false)

-- no byte is left, and the file breaks there
abbrev pub IsAtBreak : ReaderState → Type 0
IsAtBreak reader = (reader.left ≡ []) × (reader.breaks ≡ true)

-- between two states a reader gave these bytes
pub record Reads (old : ReaderState) (given : List ℕ) (new : ReaderState) : Type 0 where
  pub consumed : old.left ≡ given ++ new.left
  pub breaks : new.breaks ≡ old.breaks
  pub nothing_after_end : IsTrue old.ended → (given ≡ []) × IsTrue new.ended
  pub end_is_real : (IsTrue old.ended → IsAtEnd old) → IsTrue new.ended → IsAtEnd new
  pub break_is_real : old.failures < new.failures → IsAtBreak new
  pub failures_monotone : old.failures ≤ new.failures

-- a file that was created, how many bytes its memory can hold, whether it was synced since it was
-- last written, and whether a write to it failed
pub record Created : Type 0 where
  pub path : List ℕ
  pub bytes : List ℕ
  pub room : ℕ
  pub synced : Bool
  pub cut : Bool

-- files in memory, the one that was created last, and the log of the paths that were opened, if a
-- log is kept and has room for all of them
pub record StoreState : Type 0 where
  pub entries : List Entry
  pub created : Option Created
  pub log : Option LogState

-- files without a log, none of them created
abbrev pub new_store : List Entry → StoreState
new_store entries = record { entries = entries; created = None; log = None }

-- the files after a path was opened
abbrev pub with_opened : List ℕ → StoreState → StoreState
with_opened path s = record s { log = logged s.log (path ∷ []) }

-- the files after an empty file was created
abbrev pub with_created : List ℕ → StoreState → StoreState
with_created path s = record s {
  created = Some (record {
    path = path;
    bytes = [];
    room = 0;
    synced = false;
    cut = false;
  });
}

-- the files after a call on the file that was created
abbrev pub with_file : (Created → Created) → StoreState → StoreState
with_file change s = record s { created = option_map change s.created }

-- that file after it was truncated to zero bytes, took bytes, could not take bytes, or was synced.
-- It has this room after a write.
abbrev pub emptied : Created → Created
emptied file = record file { bytes = []; synced = false }

abbrev pub with_bytes : List ℕ → ℕ → Created → Created
with_bytes bytes room file =
    record file { bytes = file.bytes ++ bytes; room = room; synced = false }

abbrev pub with_cut : ℕ → Created → Created
with_cut room file = record file { room = room; cut = true }

abbrev pub with_sync : Created → Created
with_sync file = record file { synced = true }

-- the memory of the file that was created has no room for these bytes; if there is none, neither
abbrev pub LacksRoom : Option Created → List ℕ → Type 0
LacksRoom None bytes = Unit {0}
LacksRoom (Some file) bytes = file.room < length file.bytes + length bytes

-- Between two states these calls were made on the files, in this order. Only three kinds of calls
-- fail: an open, the creation of a file whose path is too long, and a write for which the file's
-- memory would have to grow. Each write may change its room.
abbrev pub StoreExecutes : StoreState → List SystemCall → StoreState → Type 0
StoreExecutes s [] t = t ≡ s
StoreExecutes s (Open path ∷ calls) t = StoreExecutes (with_opened path s) calls t
StoreExecutes s (Create path ∷ calls) t =
    (length path ≤ PATH_LIMIT) × StoreExecutes (with_created path s) calls t
StoreExecutes s (ChmodOwnerOnly ∷ calls) t = StoreExecutes s calls t
StoreExecutes s (Truncate ∷ calls) t = StoreExecutes (with_file emptied s) calls t
StoreExecutes s (Write bytes ∷ calls) t =
    (room : ℕ) × StoreExecutes (with_file (with_bytes bytes room) s) calls t
StoreExecutes s (Sync ∷ calls) t = StoreExecutes (with_file with_sync s) calls t
StoreExecutes s (Failed (Open path) ∷ calls) t = StoreExecutes (with_opened path s) calls t
StoreExecutes s (Failed (Create path) ∷ calls) t =
    (PATH_LIMIT < length path) × StoreExecutes s calls t
StoreExecutes s (Failed (Write bytes) ∷ calls) t =
    LacksRoom s.created bytes
    × ((room : ℕ) × StoreExecutes (with_file (with_cut room) s) calls t)
StoreExecutes s (Failed call ∷ calls) t = ⊥

-- what is at a path: the file that was created there, or else the one that was there before
abbrev pub stands_over : Option Created → FileState → List ℕ → FileState
stands_over None before path = before
stands_over (Some file) before path = if bytes_eq file.path path then Whole file.bytes else before

abbrev pub stands_at : StoreState → List ℕ → FileState
stands_at store path = stands_over store.created (file_at store.entries path) path

-- the bytes of a file, up to where it breaks
abbrev pub bytes_of : FileState → Option (List ℕ)
bytes_of Missing = None
bytes_of (Whole bytes) = Some bytes
bytes_of (Broken bytes) = Some bytes
