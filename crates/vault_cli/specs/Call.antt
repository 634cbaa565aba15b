-- Calls on the files of a system, besides calls on a source or a sink.
pub use Rattle.vault_text.specs.Call.{SinkCall, SourceCall, sink, source}
use Rattle.vault_files.specs.declared.system.System.{Ghosts as SystemTerms}

-- the terms of the trait, and the files before and after
pub record FilesCall (D R W : Type 0) : Type 1 where
  pub terms : SystemTerms D R W
  pub open terms use *
  pub old : D
  pub new : D

-- a call, from its terms and the states before and after
abbrev pub system : {D R W : Type 0} → SystemTerms D R W → D → D → FilesCall D R W
system terms old new = record { terms = terms; old = old; new = new }

-- the call from a later state of the files on
abbrev pub files_from : {D R W : Type 0} → D → FilesCall D R W → FilesCall D R W
files_from opened files = record files { old = opened }
