-- Calls on a device: the terms of its trait, and the device before and after.
use Rattle.vault_text.specs.declared.sink.Sink.{Ghosts as SinkTerms}
use Rattle.vault_text.specs.declared.source.Source.{Ghosts as SourceTerms}

-- a call on a source
pub record SourceCall (S : Type 0) : Type 1 where
  pub terms : SourceTerms S
  pub open terms use *
  pub old : S
  pub new : S

-- a call on a sink
pub record SinkCall (K : Type 0) : Type 1 where
  pub terms : SinkTerms K
  pub open terms use *
  pub old : K
  pub new : K

-- a call on a source, from its terms and the states before and after
abbrev pub source : {S : Type 0} → SourceTerms S → S → S → SourceCall S
source terms old new = record { terms = terms; old = old; new = new }

-- the same on a sink
abbrev pub sink : {K : Type 0} → SinkTerms K → K → K → SinkCall K
sink terms old new = record { terms = terms; old = old; new = new }
